use Rattle.exh_line.proofs.ToldLemmas.{told_by_text}
use Rattle.exh_line.proofs.laws.printed_answers_are_one.Goals as goal

pub returns : goal.returns
returns c = told_by_text
