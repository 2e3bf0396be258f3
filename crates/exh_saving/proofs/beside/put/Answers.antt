use Rattle.std.proofs.Common.{inl, inr}
use Rattle.exh_saving.proofs.Handed.{handed_on}
use Rattle.exh_saving.proofs.beside.put.Goals as goal

-- the old file is no longer there
pub returns-in_err-see_held-in-Some-clause-why : goal.returns-in_err-see_held-in-Some-clause-why
returns-in_err-see_held-in-Some-clause-why g c =
    let handed = c.from_residual-in_err-see_held-in-Some in
    handed_on handed.result _ c.in_err-see_held-in-Some.field-0.0 handed.ensures.1 (inr (inr (inr (inl c.in_err-see_held-in-Some.ensures.err))))
