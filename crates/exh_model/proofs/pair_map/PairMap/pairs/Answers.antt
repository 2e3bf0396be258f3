use Rattle.std.proofs.Common.{List, sym, subst}
use Rattle.std.specs.FinMap as map
use Rattle.std.specs.List.Sorted.{IsPermutation}
use Rattle.std.proofs.lemmas.List.Sorted.{IsPermutation-sym}
use Rattle.exh_page.specs.KeyMap.{KeyMap}
use Rattle.exh_model.proofs.PairLemmas.{Pair, by_bytes, entries_permuted}
use Rattle.exh_model.proofs.pair_map.PairMap.pairs.Goals as goal

pub returns : goal.returns
returns c =
    let P : KeyMap → Type 0 = λ m. IsPermutation (map.entries m) c.deref.result.now in
    let Q : List Pair → Type 0 = λ ps. IsPermutation (map.entries (map.from_entries {R = by_bytes} c.self.inside.pairs.items)) ps in
    subst P c.self.view_is (subst Q (sym c.deref.ensures.value) (IsPermutation-sym _ _ (entries_permuted _ c.self.invariant)))
