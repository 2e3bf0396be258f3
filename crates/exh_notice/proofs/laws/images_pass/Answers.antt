use Rattle.std.proofs.Common.{slice_index}
use Rattle.exh_notice.proofs.ImagesRead.{entry_passes, notice_passes, image_from_tests, notice_from_tests}
use Rattle.exh_notice.proofs.laws.images_pass.Goals as goal

pub returns-clause-entries : goal.returns-clause-entries
returns-clause-entries c version fits image len small = (
  λ (ward, prefix, entry, is). entry_passes version fits is,
  λ passed. let found = image_from_tests version fits image len small passed.0 passed.1 passed.2 in (slice_index image 0, found.0, found.1, found.2),
)

pub returns-clause-notices : goal.returns-clause-notices
returns-clause-notices c version fits image len small = (λ (notice, is). notice_passes version fits is, λ passed. notice_from_tests version fits image len small passed)
