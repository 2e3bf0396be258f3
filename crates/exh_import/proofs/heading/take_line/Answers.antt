use Rattle.exh_import.proofs.Heads.{one_read}
use Rattle.exh_import.proofs.heading.take_line.Goals as goal

pub returns-clause-line : goal.returns-clause-line
returns-clause-line g c =
    one_read g.R.Read.remaining c.args.lines.now c.is_over.new.self c.next_line.new.self c.in_ok-is_over.ensures.text c.in_ok-next_line.ensures.next c.in_ok-next_line.ensures.ends
