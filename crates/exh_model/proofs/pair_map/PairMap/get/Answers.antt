use Rattle.std.proofs.Common.{List, sym, ap, ◌∙◌, arith}
use Rattle.std.specs.FinMap as map
use Rattle.exh_page.specs.KeyMap.{KeyMap}
use Rattle.exh_model.proofs.PairLemmas.{Pair, by_bytes, has_key-code, find_here, find_more, find_all, get_found}
use Rattle.exh_model.proofs.pair_map.PairMap.get.Goals as goal

pub returns-then-eq : goal.returns-then-eq
returns-then-eq c =
    let key = c.args.key.now in
    let found = find_here key c.deref-other-items.result.now c.loop-other.other-index c.loop-other-item.result (omega arith) c.loop-other-item.is c.loop-other.invariant
    (sym (has_key-code key c.loop-other-item.result) ∙ sym c.eq.ensures ∙ c.if-eq.true) in
    sym found ∙ sym (get_found key _) ∙ ap (λ (pairs : List Pair). map.get (map.from_entries {R = by_bytes} pairs) key) c.deref-other-items.ensures.value ∙ ap (λ (m : KeyMap). map.get m key) c.self.view_is

pub loop-other-preserved : goal.loop-other-preserved
loop-other-preserved c =
    let key = c.args.key.now in
    find_more key c.deref-other-items.result.now c.loop-other.other-index c.loop-other-item.result (omega arith) c.loop-other-item.is c.loop-other.invariant
    (sym (has_key-code key c.loop-other-item.result) ∙ sym c.eq.ensures ∙ c.if-eq.false)

pub returns : goal.returns
returns c =
    let key = c.args.key.now in
    sym (find_all key c.deref-other-items.result.now c.loop-other.other-index (omega arith) c.loop-other.invariant)
    ∙ sym (get_found key _) ∙ ap (λ (pairs : List Pair). map.get (map.from_entries {R = by_bytes} pairs) key) c.deref-other-items.ensures.value ∙ ap (λ (m : KeyMap). map.get m key) c.self.view_is
