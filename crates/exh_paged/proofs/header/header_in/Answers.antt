use Rattle.std.proofs.Common.{ℕ, List, subst}
use Rattle.exh_format.specs.FirstFailing.{IsFirstFailing}
use Rattle.exh_format.specs.HeaderTests.{header_tests}
use Rattle.exh_cells.specs.StampedHeader.{IsStampedImage, PassesStamped}
use Rattle.exh_paged.proofs.header.header_in.Goals as goal

pub returns-in-Err-from_block-clause-refused : goal.returns-in-Err-from_block-clause-refused
returns-in-Err-from_block-clause-refused g c own clean =
    let there = c.in_default.ensures.block c.requires clean in
    (there.0, subst (λ (block : List ℕ). IsFirstFailing (PassesStamped block) header_tests c.in-Err-from_block.fault) there.1 c.in-Err-from_block.ensures.fault)

pub returns-in-Ok-clause-header : goal.returns-in-Ok-clause-header
returns-in-Ok-clause-header g c clean =
    let there = c.in_default.ensures.block c.requires clean in
    record { whole = there.0; is = subst (λ (block : List ℕ). IsStampedImage c.in-Ok.header block) there.1 c.in-Ok.ensures.header }
