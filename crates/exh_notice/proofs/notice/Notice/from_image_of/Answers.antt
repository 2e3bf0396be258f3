use Rattle.std.proofs.Common.{Result, Ok, Err, ap, sym, subst}
use Rattle.std.specs.Prelude.{◌≡◌, IfErr, IsErrAnd}
use Rattle.exh_prefix.specs.Layout.{layout}
use Rattle.exh_prefix.specs.LayoutLemmas.{layout_fits}
use Rattle.exh_notice.specs.NoticeImages.{FailsFirst}
use Rattle.exh_notice.specs.ImageLemmas.{notice_from_parts, entry_image_of, one_notice, image_passes, fails_whole}
use Rattle.exh_notice.proofs.notice.Notice.from_image_of.Goals as goal

err_given : {V E : Type 0} (result : Result V E) (fault : E) (P : E → Type 0) → IsErrAnd result (λ e. e ≡ fault) → P fault → IfErr result P
err_given (Ok value) fault P is holds = tt
err_given (Err e) fault P is holds = subst P (sym is) holds

pub returns-in_err-ward-clause-err : goal.returns-in_err-ward-clause-err
returns-in_err-ward-clause-err c =
    let parts = rw c.unwrap.ensures at c.split_first_chunk.ensures.cases in
    let fault = c.in_err-ward.field-0.0 in
    err_given c.from_residual.result fault (λ fault. FailsFirst (layout c.args.version) fault c.args.image.now) c.from_residual.ensures.1
    (fails_whole (layout c.args.version) (layout_fits c.args.version) fault c.args.image.now _ parts.0 c.in_err-ward.ensures.err)

pub returns-in_err-ward-clause-every : goal.returns-in_err-ward-clause-every
returns-in_err-ward-clause-every c =
    let parts = rw c.unwrap.ensures at c.split_first_chunk.ensures.cases in
    let fault = c.in_err-ward.field-0.0 in
    λ notice is. absurd (image_passes (layout c.args.version) (layout_fits c.args.version) fault (entry_image_of (layout c.args.version) (layout_fits c.args.version) is) (subst (FailsFirst (layout c.args.version) fault) parts.0 c.in_err-ward.ensures.err))

pub returns-clause-ok : goal.returns-clause-ok
returns-clause-ok c =
    let parts = rw c.unwrap.ensures at c.split_first_chunk.ensures.cases in
    notice_from_parts (layout c.args.version) (layout_fits c.args.version) c.args.image.now _ _ _ _ _ c.in_ok-ward.entry c.told-image c.fits-image parts.0 parts.1 c.in_ok-ward.ensures.ok c.read_u64.ensures

pub returns-clause-every : goal.returns-clause-every
returns-clause-every c = λ notice is. ap Ok (one_notice (layout c.args.version) (layout_fits c.args.version) (returns-clause-ok c) is)
