use Rattle.std.proofs.Common.{Ok, sym, ap, ◌∙◌, subst, arith}
use Rattle.std.proofs.lemmas.Bool.{false≢true}
use Rattle.exh_format.specs.FileVersion.{file_version}
use Rattle.exh_format.specs.FileVersionLemmas.{known_file_fits}
use Rattle.exh_format.specs.FirstFailing.{IsFirstFailing}
use Rattle.exh_format.specs.HeaderTests.{IsHeaderPadded, IsOfVersion, PassesHeader, header_tests}
use Rattle.exh_format.proofs.HeaderBytes.{number_in}
use Rattle.exh_format.proofs.HeaderPassed.{says, image_from, one_header, first_magic, first_version, first_digest, first_length, first_padding}
use Rattle.exh_format.proofs.header.Header.from_block.Goals as goal
use Rattle.exh_format.proofs.header.Header.from_block.Goals.{then-block-ne0-via-then-block-ne0, then-block-ne0-via-else-block-ne0+then-block-ne0-2, then-block-ne0-via-else-block-ne0+else-block-ne0-2+then-block-ne0-3, then-block-ne0-via-else-block-ne0+else-block-ne0-2+else-block-ne0-3+then-not-are_zero}

pub returns-then-not-has_magic-clause-every : goal.returns-then-not-has_magic-clause-every
returns-then-not-has_magic-clause-every c header image =
    absurd (false≢true (sym c.if-not-has_magic.true ∙ c.has_magic.ensures.1 (says (file_version c.args.version) (known_file_fits c.args.version) header c.args.block.now image).magic))

pub returns-then-not-has_magic-clause-fault : goal.returns-then-not-has_magic-clause-fault
returns-then-not-has_magic-clause-fault c =
    first_magic (file_version c.args.version) c.args.block.now (λ magic. absurd (false≢true (sym c.if-not-has_magic.true ∙ c.has_magic.ensures.1 magic)))

pub returns-then-read_u16-number_of-clause-every : goal.returns-then-read_u16-number_of-clause-every
returns-then-read_u16-number_of-clause-every c header image =
    absurd (c.if-read_u16-number_of.true (c.read_u16.ensures ∙ number_in 8 4088 2 c.args.block.now (omega arith) ∙ (says (file_version c.args.version) (known_file_fits c.args.version) header c.args.block.now image).of_version ∙ sym c.number_of.ensures))

pub returns-then-read_u16-number_of-clause-fault : goal.returns-then-read_u16-number_of-clause-fault
returns-then-read_u16-number_of-clause-fault c =
    first_version (file_version c.args.version) c.args.block.now (c.has_magic.ensures.0 c.if-not-has_magic.false)
    (λ is. c.if-read_u16-number_of.true (c.read_u16.ensures ∙ number_in 8 4088 2 c.args.block.now (omega arith) ∙ is ∙ sym c.number_of.ensures))

pub returns-then-not-is_sealed-clause-every : goal.returns-then-not-is_sealed-clause-every
returns-then-not-is_sealed-clause-every c header image =
    absurd (false≢true (sym c.if-not-is_sealed.true ∙ c.is_sealed.ensures.1 (says (file_version c.args.version) (known_file_fits c.args.version) header c.args.block.now image).is_sealed))

pub returns-then-not-is_sealed-clause-fault : goal.returns-then-not-is_sealed-clause-fault
returns-then-not-is_sealed-clause-fault c =
    let of_version : IsOfVersion (file_version c.args.version) c.args.block.now = sym (c.read_u16.ensures ∙ number_in 8 4088 2 c.args.block.now (omega arith)) ∙ c.if-read_u16-number_of.false ∙ c.number_of.ensures in
    subst (IsFirstFailing (PassesHeader (file_version c.args.version) c.args.block.now) header_tests) (sym c.at_header.ensures)
    (first_digest (file_version c.args.version) c.args.block.now (c.has_magic.ensures.0 c.if-not-has_magic.false) of_version
    (λ is_sealed. absurd (false≢true (sym c.if-not-is_sealed.true ∙ c.is_sealed.ensures.1 is_sealed))))

pub returns-in_default-clause-every : goal.returns-in_default-clause-every
returns-in_default-clause-every c header image =
    absurd (c.in_default.ensures.none header (says (file_version c.args.version) (known_file_fits c.args.version) header c.args.block.now image).read image.valid)

pub returns-in_default-clause-fault : goal.returns-in_default-clause-fault
returns-in_default-clause-fault c =
    let of_version : IsOfVersion (file_version c.args.version) c.args.block.now = sym (c.read_u16.ensures ∙ number_in 8 4088 2 c.args.block.now (omega arith)) ∙ c.if-read_u16-number_of.false ∙ c.number_of.ensures in
    subst (IsFirstFailing (PassesHeader (file_version c.args.version) c.args.block.now) header_tests) (sym c.at_header-in_default.ensures)
    (first_length (file_version c.args.version) c.args.block.now (c.has_magic.ensures.0 c.if-not-has_magic.false) of_version (c.is_sealed.ensures.0 c.if-not-is_sealed.false)
    (λ ranges. c.in_default.ensures.none ranges.0 ranges.1 ranges.2))

pub returns-then-block-ne0-clause-every : goal.returns-then-block-ne0-clause-every
returns-then-block-ne0-clause-every c header image =
    let padded = (says (file_version c.args.version) (known_file_fits c.args.version) header c.args.block.now image).padding in
    elim c.then-block-ne0.branch [
      | then-block-ne0-via-then-block-ne0 w ↦ absurd (w.if-block-ne0.true padded.between.0)
      | then-block-ne0-via-else-block-ne0+then-block-ne0-2 w ↦ absurd (w.if-block-ne0-2.true padded.between.1.0)
      | then-block-ne0-via-else-block-ne0+else-block-ne0-2+then-block-ne0-3 w ↦ absurd (w.if-block-ne0-3.true padded.between.1.1.0)
      | then-block-ne0-via-else-block-ne0+else-block-ne0-2+else-block-ne0-3+then-not-are_zero w ↦ absurd (false≢true (sym w.if-not-are_zero.true ∙ w.are_zero.ensures.1 padded.rest))
    ]

pub returns-then-block-ne0-clause-fault : goal.returns-then-block-ne0-clause-fault
returns-then-block-ne0-clause-fault c =
    let of_version : IsOfVersion (file_version c.args.version) c.args.block.now = sym (c.read_u16.ensures ∙ number_in 8 4088 2 c.args.block.now (omega arith)) ∙ c.if-read_u16-number_of.false ∙ c.number_of.ensures in
    let fails : IsHeaderPadded c.args.block.now → ⊥ = λ padded. elim c.then-block-ne0.branch [
      | then-block-ne0-via-then-block-ne0 w ↦ w.if-block-ne0.true padded.between.0
      | then-block-ne0-via-else-block-ne0+then-block-ne0-2 w ↦ w.if-block-ne0-2.true padded.between.1.0
      | then-block-ne0-via-else-block-ne0+else-block-ne0-2+then-block-ne0-3 w ↦ w.if-block-ne0-3.true padded.between.1.1.0
      | then-block-ne0-via-else-block-ne0+else-block-ne0-2+else-block-ne0-3+then-not-are_zero w ↦ absurd (false≢true (sym w.if-not-are_zero.true ∙ w.are_zero.ensures.1 padded.rest))
    ] in
    subst (IsFirstFailing (PassesHeader (file_version c.args.version) c.args.block.now) header_tests) (sym c.at_header-then-block-ne0.ensures)
    (first_padding (file_version c.args.version) c.args.block.now (c.has_magic.ensures.0 c.if-not-has_magic.false) of_version (c.is_sealed.ensures.0 c.if-not-is_sealed.false)
    (c.in-Some.header, c.in-Some.ensures.some, c.in-Some.ensures.in_range) fails)

pub returns-clause-header : goal.returns-clause-header
returns-clause-header c =
    let of_version : IsOfVersion (file_version c.args.version) c.args.block.now = sym (c.read_u16.ensures ∙ number_in 8 4088 2 c.args.block.now (omega arith)) ∙ c.if-read_u16-number_of.false ∙ c.number_of.ensures in
    image_from (file_version c.args.version) (known_file_fits c.args.version) c.in-Some.header c.args.block.now c.told-block c.fits-block (c.has_magic.ensures.0 c.if-not-has_magic.false) of_version
    (c.is_sealed.ensures.0 c.if-not-is_sealed.false) c.in-Some.ensures.some c.in-Some.ensures.in_range
    (record { between = (c.if-block-ne0.false, (c.if-block-ne0-2.false, (c.if-block-ne0-3.false, tt))); rest = c.are_zero.ensures.0 c.if-not-are_zero.false })

pub returns-clause-every : goal.returns-clause-every
returns-clause-every c header image = ap Ok (one_header (file_version c.args.version) (known_file_fits c.args.version) c.in-Some.header header c.args.block.now (returns-clause-header c) image)
