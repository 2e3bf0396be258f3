use Rattle.std.proofs.Common.{◌≡◌, not, List, sym, ap, subst, ◌∙◌, rules, nat_eq}
use Rattle.std.specs.FinMap as map
use Rattle.std.specs.Cmp.Lexicographic.{pointwise}
use Rattle.std.proofs.lemmas.Fn.{filter_same}
use Rattle.exh_page.specs.KeyMap.{KeyMap}
use Rattle.exh_model.specs.MachinePairs.{AreApart}
use Rattle.exh_model.proofs.PairLemmas.{Pair, by_bytes, has_key, has_key-code, AreApart-without, from_entries-without}
use Rattle.exh_model.proofs.pair_map.PairMap.remove.Goals as goal

pub invariant_of-self : goal.invariant_of-self
invariant_of-self c =
    let key = c.args.key.now in
    let kept = filter_same _ (λ pair. not (has_key key pair)) _ (λ x b f' k. let e : b ≡ not (pointwise nat_eq x.0 key) = search rules in (e ∙ ap not (has_key-code key x), search rules)) _ _ c.retain.ensures.filtered in
    subst AreApart (sym kept) (AreApart-without key _ c.self.invariant)

pub returns-clause-others : goal.returns-clause-others
returns-clause-others c =
    let key = c.args.key.now in
    let kept = filter_same _ (λ pair. not (has_key key pair)) _ (λ x b f' k. let e : b ≡ not (pointwise nat_eq x.0 key) = search rules in (e ∙ ap not (has_key-code key x), search rules)) _ _ c.retain.ensures.filtered in
    ap (λ (pairs : List Pair). map.from_entries {R = by_bytes} pairs) kept ∙ from_entries-without key _ ∙ ap (λ (m : KeyMap). map.remove m key) c.self.view_is
