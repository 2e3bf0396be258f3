use Rattle.std.proofs.Common.{◌≡◌, length}
use Rattle.exh_array.specs.KnownCopy.{forgotten}
use Rattle.exh_array.proofs.known.forget.Given as goal

-- those that are left to be forgotten lead to the same
abbrev pub invariant-loop-place : goal.invariant-loop-place
invariant-loop-place l = forgotten l.noted.items l.known ≡ forgotten l.fn.noted.items l.fn.known

abbrev pub decreases-loop-place : goal.decreases-loop-place
decreases-loop-place l = length l.noted.items
