use Rattle.std.proofs.Common.{◌≡◌, take}
use Rattle.std.specs.Prelude.{fold, max}
use Rattle.exh_compact.proofs.text.most_of.Given as goal

-- the greatest so far
abbrev pub invariant-loop-count : goal.invariant-loop-count
invariant-loop-count l = l.most ≡ fold max 0 (take l.count-index l.counts)
