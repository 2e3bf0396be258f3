use Rattle.exh_format.proofs.NoFault.{file_passes, no_fault}
use Rattle.exh_format.proofs.file_laws.files_pass.Goals as goal

pub returns-clause-pass : goal.returns-clause-pass
returns-clause-pass c version fits file bytes small is =
    file_passes version fits c.images_pass.ensures c.images_are_blocks.ensures c.images_are_blocks-2.ensures.headers c.images_pass-2.ensures.tables c.images_are_blocks-2.ensures.tables file bytes small is

pub returns-clause-no_fault : goal.returns-clause-no_fault
returns-clause-no_fault c version fits header bytes fault small passes is_fault = no_fault c.images_pass-2.ensures.headers c.one_value.ensures.headers version fits header bytes fault small passes is_fault
