use Rattle.std.proofs.lemmas.Result.{IfOk-weaker}
use Rattle.exh_command.specs.Parser.{HasOwnArgs}
use Rattle.exh_command.proofs.TheProgram.{own_still, two_rules}
use Rattle.exh_command.proofs.parser.convert.Goals as goal

pub returns-clause-own : goal.returns-clause-own
returns-clause-own c =
    let first : HasOwnArgs c.in_ok-arg.field-0 = own_still c.in_ok-path_command.ensures.own c.word.ensures.own c.in_ok-arg.ensures.globals in
    IfOk-weaker c.arg-2.result _ _ (λ command added. own_still first c.option.ensures.own added.globals) c.arg-2.ensures

pub returns-clause-is : goal.returns-clause-is
returns-clause-is c =
    IfOk-weaker c.arg-2.result _ _ (λ command added. two_rules _ _ _ c.in_ok-path_command.ensures.is c.word.ensures.rule (c.in_ok-arg.ensures.shape c.word.ensures.own)
    c.option.ensures.rule (added.shape c.option.ensures.own)) c.arg-2.ensures
