-- Maps from keys to values.
use Rattle.std.proofs.Common.{◌≡◌, ℕ, List}
use Rattle.std.specs.FinMap as fin
use Rattle.std.proofs.lemmas.Cmp.{nat_list_cmp_total}
use Rattle.exh_page.specs.KeyMap.{KeyMap}

-- maps that have the same at each key are one
pub same_maps : (m n : KeyMap) → ((key : List ℕ) → fin.get m key ≡ fin.get n key) → m ≡ n
same_maps m n same = fin.same_map nat_list_cmp_total (fin.slice_cmp-IsAntisymmetric fin.nat_cmp-IsAntisymmetric) m n same
