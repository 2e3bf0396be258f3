use Rattle.std.proofs.lemmas.Result.{IfOk-weaker}
use Rattle.exh_command.proofs.TheProgram.{one_rule, own_still}
use Rattle.exh_command.proofs.parser.manual.Goals as goal

pub returns-clause-own : goal.returns-clause-own
returns-clause-own c = IfOk-weaker c.arg.result _ _ (λ command added. own_still c.bare_command.ensures.own c.word_perhaps.ensures.own added.globals) c.arg.ensures

pub returns-clause-is : goal.returns-clause-is
returns-clause-is c = IfOk-weaker c.arg.result _ _ (λ command added. one_rule _ _ c.bare_command.ensures.is c.word_perhaps.ensures.rule (added.shape c.word_perhaps.ensures.own)) c.arg.ensures
