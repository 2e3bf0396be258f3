use Rattle.std.proofs.Common.{ℕ, List, subst}
use Rattle.exh_prefix.specs.declared.version.Version.{Version}
use Rattle.exh_format.specs.FileVersion.{file_version, format_of}
use Rattle.exh_format.specs.FileTests.{HeaderFails}
use Rattle.exh_direct.specs.BlockFaultLemmas.{block_fails}
use Rattle.exh_direct.proofs.reading.header_in.Goals as goal

pub returns-in-Err-clause-err : goal.returns-in-Err-clause-err
returns-in-Err-clause-err c known there =
    let block = c.args.block.now in
    let fault = c.in-Err.fault in
    let fails = subst (λ (version : Version). HeaderFails (file_version version) block fault) c.version_in-version.ensures c.in-Err.ensures.fault in
    block_fails (λ (block : List ℕ). HeaderFails (format_of block) block) known 0 block fault there fails
