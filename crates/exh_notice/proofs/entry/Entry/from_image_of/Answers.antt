use Rattle.std.proofs.Common.{◌≡◌, arith}
use Rattle.std.proofs.lemmas.Grind.{common_steps}
use Rattle.byteorder.specs.Endian.{big_from}
use Rattle.exh_prefix.specs.Layout.{layout}
use Rattle.exh_prefix.specs.LayoutLemmas.{layout_fits}
use Rattle.exh_notice.specs.ImageLemmas.{image_from_fields, image_passes, image_has_prefix, reads_every}
use Rattle.exh_notice.proofs.entry.Entry.from_image_of.Goals as goal

pub returns-in_err-kind-clause-every : goal.returns-in_err-kind-clause-every
returns-in_err-kind-clause-every c = λ ward prefix entry is. absurd (image_passes (layout c.args.version) (layout_fits c.args.version) c.in_err-kind.field-0.0 is c.in_err-kind.ensures.err)

pub returns-in_err-prefix-clause-every : goal.returns-in_err-prefix-clause-every
returns-in_err-prefix-clause-every c = λ ward prefix entry is. absurd (c.in_err-prefix.ensures.err (image_has_prefix (layout c.args.version) (layout_fits c.args.version) is))

pub returns-clause-ok : goal.returns-clause-ok
returns-clause-ok c =
    let kind = c.in_ok-kind.ensures in
    let prefix = c.in_ok-prefix.ensures in
    let change_number : big_from 8 4 c.args.image.now ≡ c.read_u32.result = grind (arith, common_steps) in
    image_from_fields (layout c.args.version) (layout_fits c.args.version) c.args.image.now _ _ c.told-image c.fits-image kind.byte prefix.shorter prefix.len kind.padded prefix.field change_number kind.right

pub returns-clause-every : goal.returns-clause-every
returns-clause-every c = reads_every (layout c.args.version) (layout_fits c.args.version) c.args.image.now _ (returns-clause-ok c) tt
