use Rattle.std.proofs.Common.{sym, ap, ◌∙◌, arith}
use Rattle.exh_pair_text.specs.declared.spelled.Spelled.TheVariants.{Few, Many}
use Rattle.exh_pair_text.proofs.Cases.{spelled_few, spelled_many}
use Rattle.exh_pair_text.proofs.spelled.spelled_as.Goals as goal

pub returns-then-count-gt-VALUE_LIMIT : goal.returns-then-count-gt-VALUE_LIMIT
returns-then-count-gt-VALUE_LIMIT c all count kept = sym (spelled_many all (omega (arith, count)) ∙ ap Many count)

pub returns-in-Ok : goal.returns-in-Ok
returns-in-Ok c all count kept =
    let same = c.in-Ok.ensures.1 ∙ c.as_slice.ensures.value ∙ kept (omega arith) in
    sym (spelled_few all (omega (arith, count)) ∙ ap Few (sym same))

pub returns-in-Err : goal.returns-in-Err
returns-in-Err c all count kept = absurd (c.in-Err.ensures (omega (arith, c.as_slice.ensures.fits)))
