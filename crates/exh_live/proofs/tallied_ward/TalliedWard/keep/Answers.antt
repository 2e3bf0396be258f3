use Rattle.std.proofs.Common.{ap, subst, arith}
use Rattle.exh_ward.specs.BuddySum.{IsBuddySum}
use Rattle.exh_ward.specs.WardState.{WardState}
use Rattle.exh_live.proofs.Rounds.{kept_alone, kept_full, kept_merged, kept_refused, refused_sparse}
use Rattle.exh_live.proofs.tallied_ward.TalliedWard.keep.Goals as goal

pub returns-in_default-clause-kept : goal.returns-in_default-clause-kept
returns-in_default-clause-kept g c = kept_alone c.in_ok-sum.ensures.ok (subst (IsBuddySum c.args.self.now.ward c.args.page) c.in_default.is c.in_ok-sum.ensures.sum)

pub returns-then-sum-cap-clause-kept : goal.returns-then-sum-cap-clause-kept
returns-then-sum-cap-clause-kept g c =
    let is = subst (IsBuddySum c.args.self.now.ward c.args.page) c.in-Some.is c.in_ok-sum.ensures.sum in
    kept_full is c.in_ok-sum.ensures.ok (omega (arith, c.if-sum-cap.true, c.cap.ensures, ap (λ (w : WardState g.row.K.Denot). w.cap) c.in_ok-sum.ensures.ok))

pub returns-in-Ok-clause-kept : goal.returns-in-Ok-clause-kept
returns-in-Ok-clause-kept g c =
    let is = subst (IsBuddySum c.args.self.now.ward c.args.page) c.in-Some.is c.in_ok-sum.ensures.sum in
    kept_merged is _ _ c.in_ok-sum.ensures.ok (omega (arith, c.if-sum-cap.false, c.cap.ensures, ap (λ (w : WardState g.row.K.Denot). w.cap) c.in_ok-sum.ensures.ok)) c.in-Ok.ensures.ok

pub passed_over-requires : goal.passed_over-requires
passed_over-requires g c =
    let is = subst (IsBuddySum c.args.self.now.ward c.args.page) c.in-Some.is c.in_ok-sum.ensures.sum in
    refused_sparse is c.in-Err.fault c.in_ok-sum.ensures.ok (omega (arith, c.if-sum-cap.false, c.cap.ensures, ap (λ (w : WardState g.row.K.Denot). w.cap) c.in_ok-sum.ensures.ok)) c.in-Err.ensures.refused

pub returns-in-Err-clause-kept : goal.returns-in-Err-clause-kept
returns-in-Err-clause-kept g c =
    let is = subst (IsBuddySum c.args.self.now.ward c.args.page) c.in-Some.is c.in_ok-sum.ensures.sum in
    kept_refused is c.in-Err.fault _ c.in_ok-sum.ensures.ok c.in-Err.ensures.err c.in-Err.ensures.failures c.in-Err.ensures.refused c.passed_over.result c.passed_over.ensures.worn
