use Rattle.std.proofs.Common.{IfOk, subst, sym}
use Rattle.std.specs.Prelude.{IfSome}
use Rattle.std.proofs.lemmas.Result.{IfOk-from_err}
use Rattle.exh_load.specs.Load.{IsBegun, beginning}
use Rattle.exh_load.specs.LoadFault.{BeginsFrom}
use Rattle.exh_load.specs.Loader.{file_in}
use Rattle.exh_load.proofs.Counted.{new_none}
use Rattle.exh_load.proofs.begin.begin.Goals as goal

pub returns-in_err-new-in-None-clause-begun : goal.returns-in_err-new-in-None-clause-begun
returns-in_err-new-in-None-clause-begun g c = IfOk-from_err c.from_residual.result _ c.from_residual.ensures.0

pub returns-in_err-new-in-None-clause-from : goal.returns-in_err-new-in-None-clause-from
returns-in_err-new-in-None-clause-from g c = IfOk-from_err c.from_residual.result _ c.from_residual.ensures.0

pub returns-in-Some-clause-begun : goal.returns-in-Some-clause-begun
returns-in-Some-clause-begun g c = subst (λ from. IfOk c.begin_over.result (IsBegun (beginning from c.args.file.now))) (sym c.in-Some.is) c.begin_over.ensures.begun

pub returns-in-Some-clause-from : goal.returns-in-Some-clause-from
returns-in-Some-clause-from g c = subst (λ from. IfOk c.begin_over.result (λ begun. IfSome begun (λ loader. BeginsFrom from (file_in loader)))) (sym c.in-Some.is) c.begin_over.ensures.from

pub returns-in_ok-new-in-None-clause-from : goal.returns-in_ok-new-in-None-clause-from
returns-in_ok-new-in-None-clause-from g c =
    let file = file_in c.in_ok-new-in-None.field-0 in
    subst (λ from. BeginsFrom from file) (sym c.in-None.is) (new_none c.file_settings.result file c.in_ok-new-in-None.ensures.empty)
