use Rattle.exh_versions.specs.PlacedTests.{StampedFails}
use Rattle.exh_versions.proofs.Blocks.{block_fails}
use Rattle.exh_versions.proofs.block_source.BlockSource.read_header.Goals as goal

pub returns-in-Err-clause-err : goal.returns-in-Err-clause-err
returns-in-Err-clause-err g c = block_fails StampedFails _ _ c.fill.new.block c.in-Err.fault c.in_ok-fill.ensures.ok c.in_ok-fill.ensures.block.0 c.in-Err.ensures.fault

pub returns-in-Ok-clause-ok : goal.returns-in-Ok-clause-ok
returns-in-Ok-clause-ok g c = (c.fill.new.block, c.in_ok-fill.ensures.ok, c.in-Ok.ensures.header, c.in_ok-fill.ensures.block)
