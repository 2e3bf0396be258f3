use Rattle.std.proofs.Common.{ap, ◌∙◌}
use Rattle.exh_format.proofs.Read.{every}
use Rattle.exh_format.proofs.reading.read_file_into.Goals as goal

pub returns-clause-every : goal.returns-clause-every
returns-clause-every g c file bytes knows small is =
    every g.W.PageList.pages c.one_file.ensures c.files_pass.ensures.pass c.files_pass.ensures.no_fault _ c.read_parts.result c.read_parts.ensures.parts c.read_parts.ensures.fault file bytes
    (ap g.R.Read.remaining c.new.ensures.reads_from.1 ∙ knows) small is
