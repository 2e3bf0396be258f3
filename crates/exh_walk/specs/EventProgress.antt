-- What the hop of a request comes to, with its moves and their bound where it is answered.
use Rattle.std.specs.Prelude.{ℕ}
use Rattle.exh_calls.specs.declared.reply.Reply.{Reply}
use Rattle.exh_ward.specs.declared.hop.Hop.{Hop}
use Rattle.exh_ward.specs.declared.hop.Hop.TheVariants as hops
use Rattle.exh_walk.specs.declared.outcome.Outcome.{Outcome}
use Rattle.exh_walk.specs.declared.outcome.Outcome.TheVariants.{Hopped, Replied}

-- an answer, after so many moves of at most so many; or what a hop comes to that answers nothing
pub data Progress : Type 0 where
  Done : Reply → ℕ → ℕ → Progress
  Moved : ℕ → Progress
  MustSplit : Progress
  Stray : Progress

-- a hop of a request that has made so many moves of at most so many
abbrev pub progress_with : Hop → ℕ → ℕ → Progress
progress_with (hops.Done reply) moves bound = Done reply moves bound
progress_with (hops.Moved next) moves bound = Moved next
progress_with hops.MustSplit moves bound = MustSplit
progress_with hops.Stray moves bound = Stray

-- the hop alone
abbrev pub hop_in : Progress → Hop
hop_in (Done reply moves bound) = hops.Done reply
hop_in (Moved next) = hops.Moved next
hop_in MustSplit = hops.MustSplit
hop_in Stray = hops.Stray

-- its outcome, in a ward
abbrev pub hop_outcome : ℕ → Progress → Outcome
hop_outcome ward (Done reply moves bound) = Replied ward reply moves bound
hop_outcome ward (Moved next) = Hopped ward (hops.Moved next)
hop_outcome ward MustSplit = Hopped ward hops.MustSplit
hop_outcome ward Stray = Hopped ward hops.Stray
