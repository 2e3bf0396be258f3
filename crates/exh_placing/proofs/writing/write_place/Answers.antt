use Rattle.std.proofs.Common.{Result, Ok, Err, OnErr, OnOk}
use Rattle.exh_stream.specs.OutputLemmas.{OnErr-from, Takes-then, TakesBeginning-of_more, TakesBeginning-then}
use Rattle.exh_placing.proofs.writing.write_place.Goals as goal

on_ok : {A E P Q : Type 0} (r : Result A E) → (P → Q) → OnOk r P → OnOk r Q
on_ok (Ok x) step p = step p
on_ok (Err e) step p = p

on_err : {A E P Q : Type 0} (r : Result A E) → (P → Q) → OnErr r P → OnErr r Q
on_err (Ok x) step p = p
on_err (Err e) step p = step p

pub returns-in_err-write_opening-clause-err : goal.returns-in_err-write_opening-clause-err
returns-in_err-write_opening-clause-err g c = OnErr-from c.from_residual.result (TakesBeginning-of_more c.args.block.now c.in_err-write_opening.ensures.err)

pub returns-clause-ok : goal.returns-clause-ok
returns-clause-ok g c = on_ok c.push.result (λ taken. Takes-then c.in_ok-write_opening.ensures.ok taken) c.push.ensures.ok

pub returns-clause-err : goal.returns-clause-err
returns-clause-err g c = on_err c.push.result (λ begun. TakesBeginning-then c.in_ok-write_opening.ensures.ok begun) c.push.ensures.err
