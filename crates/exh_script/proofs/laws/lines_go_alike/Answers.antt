use Rattle.exh_script.proofs.AlikeLines.{lines_alike}
use Rattle.exh_script.proofs.laws.lines_go_alike.Goals as goal

pub returns : goal.returns
returns c tells_moves one other alike = lines_alike c.steps_go_alike.ensures.function tells_moves one other alike
