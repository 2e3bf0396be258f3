use Rattle.exh_cells.proofs.StampedPassed.{one_header, says}
use Rattle.exh_cells.proofs.block_laws.stamped_headers_pass.Goals as goal

pub returns : goal.returns
returns c = record {
  pass = λ header block image. let said = says header block image in (said.magic, (said.of_version, (said.is_sealed, ((header, said.read, image.valid), (said.padding, tt)))));
  one = λ block one other first second. one_header one other block first second;
}
