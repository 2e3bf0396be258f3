use Rattle.std.proofs.Common.{◌∙◌}
use Rattle.exh_change.proofs.Left.{is_change}
use Rattle.exh_change.proofs.changing.change.Goals as goal

pub returns-clause-legal : goal.returns-clause-legal
returns-clause-legal g c file tables bytes knows small legal =
    let is = c.in_ok-draft.ensures.legal bytes file knows legal.is in
    let answered = c.in_ok-reply.ensures.legal bytes file (c.in_ok-draft.ensures.same_bytes ∙ knows) is tables c.in_ok-draft.ensures.none small legal.legal in
    is_change file tables bytes c.args.call.now c.args.stamp c.change_in.new.draft c.in_ok-reply.reply c.in_ok-reply.changes c.changed_by.result legal answered c.changed_by.ensures.reply c.changed_by.ensures.edits c.changed_by.ensures.none
