-- The line of a refusal, which is the text of a script that is refused as a whole.
use Rattle.std.specs.Prelude.{ℕ, List}
use Rattle.exh_line.specs.LineAnswer.{answer_text}
use Rattle.exh_line.specs.declared.answer.Answer.TheVariants.{Refused}
use Rattle.exh_line.specs.declared.refusal.Refusal.{Refusal}

abbrev pub refusal_text : Refusal → List ℕ
refusal_text refusal = answer_text (Refused refusal)
