use Rattle.std.proofs.Common.{refl}
use Rattle.std.proofs.lemmas.Result.{IfOk-from_err}
use Rattle.exh_import.proofs.line_reader.LineReader.refill.Goals as goal

pub returns-in_err-count-clause-ends : goal.returns-in_err-count-clause-ends
returns-in_err-count-clause-ends g c = IfOk-from_err c.from_residual.result _ c.from_residual.ensures.0

pub returns-in_err-count-clause-text : goal.returns-in_err-count-clause-text
returns-in_err-count-clause-text g c = IfOk-from_err c.from_residual.result _ c.from_residual.ensures.0

pub returns-in_err-count-clause-some : goal.returns-in_err-count-clause-some
returns-in_err-count-clause-some g c = IfOk-from_err c.from_residual.result _ c.from_residual.ensures.0

pub returns-in_err-count-clause-line : goal.returns-in_err-count-clause-line
returns-in_err-count-clause-line g c = refl

pub returns-in_err-count-clause-same_reader : goal.returns-in_err-count-clause-same_reader
returns-in_err-count-clause-same_reader g c = c.fill.ensures.same_reader

pub returns-in_err-extend_from_slice-clause-ends : goal.returns-in_err-extend_from_slice-clause-ends
returns-in_err-extend_from_slice-clause-ends g c = IfOk-from_err c.from_residual-in_err-extend_from_slice.result _ c.from_residual-in_err-extend_from_slice.ensures.0

pub returns-in_err-extend_from_slice-clause-text : goal.returns-in_err-extend_from_slice-clause-text
returns-in_err-extend_from_slice-clause-text g c = IfOk-from_err c.from_residual-in_err-extend_from_slice.result _ c.from_residual-in_err-extend_from_slice.ensures.0

pub returns-in_err-extend_from_slice-clause-some : goal.returns-in_err-extend_from_slice-clause-some
returns-in_err-extend_from_slice-clause-some g c = IfOk-from_err c.from_residual-in_err-extend_from_slice.result _ c.from_residual-in_err-extend_from_slice.ensures.0

pub returns-in_err-extend_from_slice-clause-line : goal.returns-in_err-extend_from_slice-clause-line
returns-in_err-extend_from_slice-clause-line g c = refl

pub returns-in_err-extend_from_slice-clause-same_reader : goal.returns-in_err-extend_from_slice-clause-same_reader
returns-in_err-extend_from_slice-clause-same_reader g c = c.fill.ensures.same_reader

pub returns-clause-line : goal.returns-clause-line
returns-clause-line g c = refl

pub returns-clause-same_reader : goal.returns-clause-same_reader
returns-clause-same_reader g c = c.fill.ensures.same_reader

pub returns-in_err-count-clause-start : goal.returns-in_err-count-clause-start
returns-in_err-count-clause-start g c = IfOk-from_err c.from_residual.result _ c.from_residual.ensures.0

pub returns-in_err-count-clause-full : goal.returns-in_err-count-clause-full
returns-in_err-count-clause-full g c = IfOk-from_err c.from_residual.result _ c.from_residual.ensures.0

pub returns-in_err-extend_from_slice-clause-start : goal.returns-in_err-extend_from_slice-clause-start
returns-in_err-extend_from_slice-clause-start g c = IfOk-from_err c.from_residual-in_err-extend_from_slice.result _ c.from_residual-in_err-extend_from_slice.ensures.0

pub returns-in_err-extend_from_slice-clause-full : goal.returns-in_err-extend_from_slice-clause-full
returns-in_err-extend_from_slice-clause-full g c = IfOk-from_err c.from_residual-in_err-extend_from_slice.result _ c.from_residual-in_err-extend_from_slice.ensures.0

pub returns-in_err-count-clause-whole : goal.returns-in_err-count-clause-whole
returns-in_err-count-clause-whole g c = refl

pub returns-in_err-extend_from_slice-clause-whole : goal.returns-in_err-extend_from_slice-clause-whole
returns-in_err-extend_from_slice-clause-whole g c = refl

pub returns-clause-whole : goal.returns-clause-whole
returns-clause-whole g c = refl
