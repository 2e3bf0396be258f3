use Rattle.exh_versions.proofs.NoFault.{file_passes, no_fault}
use Rattle.exh_versions.proofs.placed_laws.placed_files_pass.Goals as goal

pub returns : goal.returns
returns c = record {
  pass = λ file bytes small is. file_passes c.images_pass.ensures c.images_are_blocks.ensures c.walk_blocks_pass.ensures.pass c.walk_blocks_pass.ensures.blocks file bytes small is;
  no_fault = λ header bytes fault passes fails. no_fault c.stamped_headers_pass.ensures.pass c.stamped_headers_pass.ensures.one header bytes fault passes fails;
}
