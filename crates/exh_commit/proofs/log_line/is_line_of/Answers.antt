use Rattle.exh_commit.proofs.LineLemmas.{states_if, states_of}
use Rattle.exh_commit.proofs.log_line.is_line_of.Goals as goal

pub returns-in-Some-clause-line : goal.returns-in-Some-clause-line
returns-in-Some-clause-line g c clean =
    let are = (rw c.in-Some.is at c.in_ok-line.ensures.line) clean in (
      λ yes. states_if _ _ _ _ are (c.has_own.ensures.0 yes),
      λ holds. c.has_own.ensures.1 (states_of _ _ _ _ are holds),
    )
