use Rattle.std.proofs.Common.{◌≡◌, not, List, [], ◌∷◌, ◌++◌, sym, ap, subst, ◌∙◌, rules, nat_eq}
use Rattle.std.specs.FinMap as map
use Rattle.std.specs.Cmp.Lexicographic.{pointwise}
use Rattle.std.proofs.lemmas.Fn.{filter_same}
use Rattle.exh_page.specs.KeyMap.{KeyMap}
use Rattle.exh_model.specs.MachinePairs.{AreApart}
use Rattle.exh_model.proofs.PairLemmas.{Pair, by_bytes, has_key, has_key-code, without, AreApart-without, AreApart-push, find-without_itself, from_entries-with}
use Rattle.exh_model.proofs.pair_map.PairMap.insert.Goals as goal

pub invariant_of-self-3 : goal.invariant_of-self-3
invariant_of-self-3 c =
    let key = c.args.key in
    let kept = filter_same _ (λ pair. not (has_key key pair)) _ (λ x b f' k. let e : b ≡ not (pointwise nat_eq x.0 key) = search rules in (e ∙ ap not (has_key-code key x), search rules)) _ _ c.retain.ensures.filtered in
    let items = c.push_reserved.ensures.items ∙ ap (λ (pairs : List Pair). pairs ++ (key, c.args.value) ∷ []) (kept ∙ ap (without key) c.in_ok-reserve.ensures.items) in
    subst AreApart (sym items) (AreApart-push key c.args.value _ (AreApart-without key _ c.self.invariant) (find-without_itself key _))

pub returns-clause-ok : goal.returns-clause-ok
returns-clause-ok c =
    let key = c.args.key in
    let kept = filter_same _ (λ pair. not (has_key key pair)) _ (λ x b f' k. let e : b ≡ not (pointwise nat_eq x.0 key) = search rules in (e ∙ ap not (has_key-code key x), search rules)) _ _ c.retain.ensures.filtered in
    let items = c.push_reserved.ensures.items ∙ ap (λ (pairs : List Pair). pairs ++ (key, c.args.value) ∷ []) (kept ∙ ap (without key) c.in_ok-reserve.ensures.items) in
    ap (λ (pairs : List Pair). map.from_entries {R = by_bytes} pairs) items ∙ from_entries-with key c.args.value _ ∙ ap (λ (m : KeyMap). map.insert m key c.args.value) c.self.view_is
