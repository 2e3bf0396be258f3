use Rattle.std.proofs.Common.{ap, ◌∙◌}
use Rattle.exh_versions.proofs.PlacedRead.{every}
use Rattle.exh_versions.proofs.placed_reading.read_placed.Goals as goal

pub returns-clause-every : goal.returns-clause-every
returns-clause-every g c file bytes knows small is =
    every g.W.PageList.pages c.one_placed_file.ensures c.placed_files_pass.ensures.pass c.placed_files_pass.ensures.no_fault _ c.read_parts.result c.read_parts.ensures.parts c.read_parts.ensures.fault file bytes
    (ap g.R.Read.remaining c.new.ensures.reads_from.1 ∙ knows) small is
