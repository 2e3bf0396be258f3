use Rattle.std.proofs.Common.{sym, ap, ◌∙◌, length}
use Rattle.exh_frames.specs.Runs.{RunList}
use Rattle.exh_frames.proofs.InRuns.{length-items}
use Rattle.exh_frames.proofs.runs.Runs.len.Goals as goal

pub returns : goal.returns
returns g c = sym (length-items c.self.inside.runs.items c.self.inside.len c.self.invariant) ∙ ap (λ (l : RunList g.row.T.Denot). length l.items) c.self.view_is
