-- Finite maps from keys to values.
use Rattle.std.specs.Prelude.{ℕ, List}
use Rattle.std.specs.Coded.{Coded, coded_list, coded_ℕ}
use Rattle.std.specs.Ordering.{nat_cmp}
use Rattle.std.specs.Cmp.Lexicographic.{slice_cmp}
use Rattle.std.specs.FinMap.{FinMap, code}
use Rattle.exh_page.specs.declared.record.Record.{Record}

abbrev pub KeyMap : Type 0
KeyMap = FinMap (slice_cmp nat_cmp) (List ℕ)

-- what a map has of a record
abbrev pub pair_of : Record → List ℕ × List ℕ
pair_of r = (r.key, r.value)

-- by which a proof tells maps apart
abbrev pub coded_key_map : Coded KeyMap
coded_key_map = code (coded_list coded_ℕ) (coded_list coded_ℕ)
