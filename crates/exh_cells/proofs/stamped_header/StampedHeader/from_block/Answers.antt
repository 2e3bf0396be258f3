use Rattle.std.proofs.Common.{Ok, sym, ap, ◌∙◌, subst}
use Rattle.std.proofs.lemmas.Bool.{false≢true}
use Rattle.exh_format.specs.FirstFailing.{IsFirstFailing}
use Rattle.exh_format.specs.HeaderTests.{header_tests}
use Rattle.exh_cells.specs.StampedHeader.{PassesStamped}
use Rattle.exh_cells.proofs.StampedPassed.{says, image_from, one_header, first_magic, first_version, first_digest, first_length, first_padding}
use Rattle.exh_cells.proofs.stamped_header.StampedHeader.from_block.Goals as goal

pub returns-then-not-has_magic-clause-every : goal.returns-then-not-has_magic-clause-every
returns-then-not-has_magic-clause-every c header image =
    absurd (false≢true (sym c.if-not-has_magic.true ∙ c.has_magic.ensures.1 (says header c.args.block.now image).magic))

pub returns-then-not-has_magic-clause-fault : goal.returns-then-not-has_magic-clause-fault
returns-then-not-has_magic-clause-fault c = first_magic c.args.block.now (λ magic. absurd (false≢true (sym c.if-not-has_magic.true ∙ c.has_magic.ensures.1 magic)))

pub returns-then-not-is_placed-clause-every : goal.returns-then-not-is_placed-clause-every
returns-then-not-is_placed-clause-every c header image =
    absurd (false≢true (sym c.if-not-is_placed.true ∙ c.is_placed.ensures.1 (says header c.args.block.now image).of_version))

pub returns-then-not-is_placed-clause-fault : goal.returns-then-not-is_placed-clause-fault
returns-then-not-is_placed-clause-fault c =
    first_version c.args.block.now (c.has_magic.ensures.0 c.if-not-has_magic.false) (λ is. absurd (false≢true (sym c.if-not-is_placed.true ∙ c.is_placed.ensures.1 is)))

pub returns-then-not-is_sealed-clause-every : goal.returns-then-not-is_sealed-clause-every
returns-then-not-is_sealed-clause-every c header image =
    absurd (false≢true (sym c.if-not-is_sealed.true ∙ c.is_sealed.ensures.1 (says header c.args.block.now image).is_sealed))

pub returns-then-not-is_sealed-clause-fault : goal.returns-then-not-is_sealed-clause-fault
returns-then-not-is_sealed-clause-fault c =
    subst (IsFirstFailing (PassesStamped c.args.block.now) header_tests) (sym c.at_header.ensures)
    (first_digest c.args.block.now (c.has_magic.ensures.0 c.if-not-has_magic.false) (c.is_placed.ensures.0 c.if-not-is_placed.false)
    (λ is_sealed. absurd (false≢true (sym c.if-not-is_sealed.true ∙ c.is_sealed.ensures.1 is_sealed))))

pub returns-in_default-clause-every : goal.returns-in_default-clause-every
returns-in_default-clause-every c header image = absurd (c.in_default.ensures.none header (says header c.args.block.now image).read image.valid)

pub returns-in_default-clause-fault : goal.returns-in_default-clause-fault
returns-in_default-clause-fault c =
    subst (IsFirstFailing (PassesStamped c.args.block.now) header_tests) (sym c.at_header-in_default.ensures)
    (first_length c.args.block.now (c.has_magic.ensures.0 c.if-not-has_magic.false) (c.is_placed.ensures.0 c.if-not-is_placed.false) (c.is_sealed.ensures.0 c.if-not-is_sealed.false)
    (λ ranges. c.in_default.ensures.none ranges.0 ranges.1 ranges.2))

pub returns-then-not-is_padded-clause-every : goal.returns-then-not-is_padded-clause-every
returns-then-not-is_padded-clause-every c header image =
    absurd (false≢true (sym c.if-not-is_padded.true ∙ c.is_padded.ensures.1 (says header c.args.block.now image).padding))

pub returns-then-not-is_padded-clause-fault : goal.returns-then-not-is_padded-clause-fault
returns-then-not-is_padded-clause-fault c =
    subst (IsFirstFailing (PassesStamped c.args.block.now) header_tests) (sym c.at_header-then-not-is_padded.ensures)
    (first_padding c.args.block.now (c.has_magic.ensures.0 c.if-not-has_magic.false) (c.is_placed.ensures.0 c.if-not-is_placed.false) (c.is_sealed.ensures.0 c.if-not-is_sealed.false)
    (c.in-Some.header, c.in-Some.ensures.some, c.in-Some.ensures.in_range) (λ padded. absurd (false≢true (sym c.if-not-is_padded.true ∙ c.is_padded.ensures.1 padded))))

pub returns-clause-header : goal.returns-clause-header
returns-clause-header c =
    image_from c.in-Some.header c.args.block.now c.told-block c.fits-block (c.has_magic.ensures.0 c.if-not-has_magic.false) (c.is_placed.ensures.0 c.if-not-is_placed.false)
    (c.is_sealed.ensures.0 c.if-not-is_sealed.false) c.in-Some.ensures.some c.in-Some.ensures.in_range (c.is_padded.ensures.0 c.if-not-is_padded.false)

pub returns-clause-every : goal.returns-clause-every
returns-clause-every c header image = ap Ok (one_header c.in-Some.header header c.args.block.now (returns-clause-header c) image)
