use Rattle.exh_map.proofs.CallLemmas.{answered_by, refused_by}
use Rattle.exh_map.proofs.answering.answer_by.Goals as goal

pub returns-clause-answered : goal.returns-clause-answered
returns-clause-answered g c =
    answered_by c.args.ward.now c.change_ward-reply.new.ward c.renew.new.ward c.args.call.now c.change_ward-reply.result c.change_ward-reply.ensures.changed c.change_ward-reply.ensures.err c.renew.ensures

pub returns-clause-err : goal.returns-clause-err
returns-clause-err g c =
    refused_by c.args.ward.now c.change_ward-reply.new.ward c.renew.new.ward c.args.call.now c.change_ward-reply.result c.change_ward-reply.ensures.changed c.change_ward-reply.ensures.err c.renew.ensures
