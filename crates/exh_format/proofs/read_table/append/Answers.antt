use Rattle.std.proofs.Common.{◌≡◌, ℕ, ◌+◌, ◌<◌, List, [], ◌∷◌, ◌++◌, length, take, get_or, sym, ap, ◌∙◌, append_assoc}
use Rattle.std.proofs.lemmas.List.{take_all, take_more}
use Rattle.exh_format.proofs.read_table.append.Goals as goal

next_item : {X : Type 0} (old more : List X) (at : ℕ) (item : X) {so_far next : List X} → at < length more → item ≡ get_or more at item → so_far ≡ old ++ take at more → next ≡ so_far ++ item ∷ []
    → next ≡ old ++ take (at + 1) more
next_item old more at item within is was pushed =
    pushed ∙ ap (λ front. front ++ item ∷ []) was ∙ append_assoc old (take at more) (item ∷ [])
    ∙ ap (λ rest. old ++ rest) (ap (λ last. take at more ++ last ∷ []) is ∙ sym (take_more more at item within))

pub loop-item-preserved : goal.loop-item-preserved
loop-item-preserved c = next_item c.args.entries.now.items c.args.more.now c.loop-item.item-index c.item-item.result c.loop-item-test.true c.item-item.is c.loop-item.invariant c.in_ok-push.ensures.items

pub returns : goal.returns
returns c = c.loop-item.invariant ∙ ap (λ rest. c.args.entries.now.items ++ rest) (take_all c.loop-item.item-index c.args.more.now c.loop-item-test.false)
