use Rattle.std.proofs.Common.{List, ℕ, subst}
use Rattle.exh_prefix.specs.declared.version.Version.{Version}
use Rattle.exh_format.specs.FileVersion.{file_version, format_of}
use Rattle.exh_format.specs.FileTests.{HeaderFails}
use Rattle.exh_format.proofs.Blocks.{block_fails}
use Rattle.exh_format.proofs.block_source.BlockSource.read_header.Goals as goal

pub returns-in-Err-clause-err : goal.returns-in-Err-clause-err
returns-in-Err-clause-err g c =
    block_fails (λ (block : List ℕ). HeaderFails (format_of block) block) _ _ c.fill.new.block c.in-Err.fault c.in_ok-fill.ensures.ok c.in_ok-fill.ensures.block.0
    (subst (λ (version : Version). HeaderFails (file_version version) c.fill.new.block c.in-Err.fault) c.version_in-version.ensures c.in-Err.ensures.fault)

pub returns-in-Ok-clause-ok : goal.returns-in-Ok-clause-ok
returns-in-Ok-clause-ok g c = (c.fill.new.block, c.in_ok-fill.ensures.ok, c.in-Ok.ensures.header, c.in_ok-fill.ensures.block)
