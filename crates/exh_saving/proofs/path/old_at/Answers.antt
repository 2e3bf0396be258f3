use Rattle.std.proofs.Common.{inl, inr}
use Rattle.std.specs.Prelude.{IsSomeAnd}
use Rattle.std.proofs.lemmas.Bool.{false≢true}
use Rattle.exh_saving.specs.Refused.{IsKeptAt}
use Rattle.exh_saving.proofs.Handed.{handed_on}
use Rattle.exh_saving.proofs.path.old_at.Goals as goal

-- where nothing may be replaced the fault is that
pub returns-in_err-there-clause-err : goal.returns-in_err-there-clause-err
returns-in_err-there-clause-err g c = handed_on c.from_residual.result _ c.in_err-there.field-0.0 c.from_residual.ensures.1 (inl c.in_err-there.ensures.err)

-- or that the opened file keeps it from being replaced
pub returns-in_err-check-clause-err : goal.returns-in_err-check-clause-err
returns-in_err-check-clause-err g c =
    let fault = c.in_err-check.field-0.0 in
    let there = c.in_ok-there.there in
    let named = c.args.target.now.path.now in
    let may = rw c.as_ref.ensures.value at c.in_err-check.ensures.may in
    let unasked = rw c.as_ref.ensures.value at c.in_err-check.ensures.unasked in
    let kept : IsKeptAt g.D.Disk.answers g.D.Disk.finds c.in-Some.seen.now named c.args.path.now there fault =
    (c.in_err-check.ensures.err, (λ known free. false≢true (may known free)), unasked) in
    let by_seen : IsSomeAnd c.args.target.now.seen (λ seen. IsKeptAt g.D.Disk.answers g.D.Disk.finds seen.now named c.args.path.now there fault) = rw c.in-Some.is kept in
    handed_on c.from_residual-in_err-check.result _ fault c.from_residual-in_err-check.ensures.1 (inr (there, c.in_ok-there.ensures.there, by_seen))
