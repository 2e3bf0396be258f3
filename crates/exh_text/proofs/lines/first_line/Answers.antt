use Rattle.std.proofs.Common.{◌∙◌}
use Rattle.exh_text.specs.TextLines.{newline}
use Rattle.exh_text.proofs.Cuts.{first_by_search, parts_at_first, parts_at_none}
use Rattle.exh_text.proofs.lines.first_line.Goals as goal

pub returns-in-Some : goal.returns-in-Some
returns-in-Some c =
    let found = first_by_search newline c.args.bytes.now c.newline_in.result c.newline_in.ensures in
    parts_at_first newline c.args.bytes.now c.in-Some.end (found ∙ c.in-Some.is)

pub returns-in-None : goal.returns-in-None
returns-in-None c =
    let found = first_by_search newline c.args.bytes.now c.newline_in.result c.newline_in.ensures in
    parts_at_none newline c.args.bytes.now (found ∙ c.in-None.is)
