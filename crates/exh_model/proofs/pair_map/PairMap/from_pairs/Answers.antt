use Rattle.std.proofs.Common.{◌∷◌, ◌++◌, [], append_assoc, not, sym, ap, ◌∙◌}
use Rattle.std.specs.FinMap as map
use Rattle.exh_page.specs.KeyMap.{KeyMap}
use Rattle.exh_model.proofs.PairLemmas.{from_entries_again, from_entries_new, none_there, some_there}
use Rattle.exh_model.proofs.pair_map.PairMap.from_pairs.Goals as goal

-- the key is new
pub loop-key-preserved-in_ok-insert : goal.loop-key-preserved-in_ok-insert
loop-key-preserved-in_ok-insert c =
    let front = c.loop-key.yielded in
    let key = c.in-Some.key in
    let value = c.in-Some.value in
    let none = none_there c.get.result (c.is_none.ensures ∙ ap not c.if-is_none.true) in
    let there = c.get.ensures ∙ ap (λ (m : KeyMap). map.get m key) c.loop-key.invariant.map in
    record {
      all = c.loop-key.invariant.all ∙ ap (λ rest. front ++ rest) c.in-Some.ensures.steps ∙ sym (append_assoc front ((key, value) ∷ []) c.next.new.self);
      map = c.in_ok-insert.ensures.ok ∙ ap (λ (m : KeyMap). map.insert m key value) c.loop-key.invariant.map ∙ from_entries_new front (key, value) (sym there ∙ none);
    }

-- the key stands there
pub loop-key-preserved : goal.loop-key-preserved
loop-key-preserved c =
    let front = c.loop-key.yielded in
    let key = c.in-Some.key in
    let value = c.in-Some.value in
    let some = some_there c.get.result (c.is_none.ensures ∙ ap not c.if-is_none.false) in
    let there = c.get.ensures ∙ ap (λ (m : KeyMap). map.get m key) c.loop-key.invariant.map in
    record {
      all = c.loop-key.invariant.all ∙ ap (λ rest. front ++ rest) c.in-Some.ensures.steps ∙ sym (append_assoc front ((key, value) ∷ []) c.next.new.self);
      map = c.loop-key.invariant.map ∙ from_entries_again front (key, value) some.0 (sym there ∙ some.1);
    }
