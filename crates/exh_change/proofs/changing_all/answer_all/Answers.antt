use Rattle.std.proofs.Common.{◌≡◌, ◌+◌, ◌++◌, ◌∷◌, [], List, take, take_all, sym, subst, ◌∙◌, ap, arith}
use Rattle.exh_calls.specs.declared.call.Call.{Call}
use Rattle.exh_change.specs.Batch.{map_then_all, replies_in}
use Rattle.exh_change.specs.Overlay.{shown}
use Rattle.exh_change.specs.Steps.{IsReached}
use Rattle.exh_change.proofs.Machine.{one_taken, reached_first, reached_more, replies_more}
use Rattle.exh_change.proofs.Steps.{other_fault}
use Rattle.exh_change.proofs.changing_all.answer_all.Goals as goal

pub loop-call-init : goal.loop-call-init
loop-call-init g c file tables bytes knows small legal = (reached_first file tables bytes (shown g.K.Under.known c.args.overlay.now.edits.items.items) knows small legal, c.new-replies.ensures.items)

pub returns-in_err-reply : goal.returns-in_err-reply
returns-in_err-reply g c = record {
  legal = λ file tables bytes knows small legal.
      let begun = (c.loop-call.invariant file tables bytes knows small legal).0 in
      other_fault c.from_residual.result c.in_err-reply.field-0.0 _ c.from_residual.ensures.1 (c.in_err-reply.ensures.legal begun.new begun.tables begun.bytes begun.is begun.are_bytes begun.legal);
}

pub loop-call-preserved : goal.loop-call-preserved
loop-call-preserved g c file tables bytes knows small legal =
    let l = c.loop-call in
    let calls = c.args.calls.now in
    let call = c.call-item.result in
    let both = l.invariant file tables bytes knows small legal in
    let begun = both.0 in
    let next = c.in_ok-reply.ensures.legal begun.new begun.tables begun.bytes begun.is begun.are_bytes begun.legal in
    let old = shown g.K.Under.known l.overlay.edits.items.items in
    let new = shown g.K.Under.known c.answer.new.overlay.edits.items.items in
    let first = take l.call-index calls in
    let here : take (l.call-index + 1) calls ≡ first ++ call ∷ [] = one_taken calls l.call-index call (omega arith) c.call-item.is in (
      subst (λ (calls : List Call). IsReached file (map_then_all file calls) new) (sym here) (reached_more file first call old begun new next.0),
      c.in_ok-push_item.ensures.ok ∙ replies_more file first call old begun l.replies.items c.in_ok-reply.reply both.1 next.1 ∙ ap (replies_in file) (sym here),
    )

pub returns : goal.returns
returns g c = record {
  legal = λ file tables bytes knows small legal.
      let l = c.loop-call in
      let all : take l.call-index c.args.calls.now ≡ c.args.calls.now = take_all l.call-index c.args.calls.now (omega (arith, c.loop-call-test.false)) in
      subst (λ (calls : List Call). IsReached file (map_then_all file calls) (shown g.K.Under.known l.overlay.edits.items.items) × (l.replies.items ≡ replies_in file calls)) all (l.invariant file tables bytes knows small legal);
}
