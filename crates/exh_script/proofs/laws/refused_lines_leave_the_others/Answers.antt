use Rattle.std.proofs.lemmas.List.Elements.{recursion_from_All}
use Rattle.exh_script.specs.RefusedLines.{HasText, LineMoment}
use Rattle.exh_script.proofs.OtherLines.{answered_text, others_answered}
use Rattle.exh_script.proofs.laws.refused_lines_leave_the_others.Goals as goal

pub returns-clause-others : goal.returns-clause-others
returns-clause-others c tells_moves start moments end run others is twin alike = others_answered c.steps_go_alike.ensures.function tells_moves start moments end run others is twin alike

pub returns-clause-script : goal.returns-clause-script
returns-clause-script c tells_moves start moments end run all =
    answered_text tells_moves start moments end run (recursion_from_All (λ (moment : LineMoment). HasText moment.told) moments all)
