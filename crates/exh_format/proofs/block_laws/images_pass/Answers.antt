use Rattle.exh_format.proofs.HeaderPassed.{image_passes, image_from_tests}
use Rattle.exh_format.proofs.TablePassed.{table_from_tests, table_passes}
use Rattle.exh_format.proofs.block_laws.images_pass.Goals as goal

pub returns-clause-headers : goal.returns-clause-headers
returns-clause-headers c version fits block long small = (λ (header, image). image_passes version fits header block image, λ passed. image_from_tests version fits block long small passed)

pub returns-clause-tables : goal.returns-clause-tables
returns-clause-tables c version fits count before block long small few =
    (λ (entries, is). table_passes version fits count before entries block is, λ passed. table_from_tests version fits count before block long small few passed)
