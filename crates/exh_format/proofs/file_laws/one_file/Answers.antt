use Rattle.exh_format.proofs.OneFile.{one_file}
use Rattle.exh_format.proofs.file_laws.one_file.Goals as goal

pub returns : goal.returns
returns c version fits bytes one other first second =
    one_file version fits c.images_are_blocks.ensures c.one_page.ensures c.images_are_blocks-2.ensures.headers c.one_value.ensures.headers c.images_are_blocks-2.ensures.tables c.one_value.ensures.tables one other bytes first second
