use Rattle.exh_change.proofs.HomeAnswers.{AnswerLaws, home_answers}
use Rattle.exh_change.proofs.laws.answers_keep_legal.Goals as goal

pub returns : goal.returns
returns c =
    let laws : AnswerLaws = record { begin = c.fitting_tables_begin_wards.ensures; answer = c.answers_keep_legal.ensures } in
    home_answers laws
