use Rattle.std.proofs.Common.{◌≡◌, ◌-◌}
use Rattle.exh_ward.specs.Distance.{live_between}
use Rattle.exh_ward.proofs.FirstSteps.{HasCounted}
use Rattle.exh_ward.proofs.ward.Ward.count_beyond.Given as goal

abbrev pub invariant-loop-next : goal.invariant-loop-next
invariant-loop-next g l = record { same : l.self ≡ l.fn.self; k_same : l.pseudokey ≡ l.fn.pseudokey; counted : HasCounted l.fn.self.pages l.fn.first.low l.fn.pseudokey l.count l.next }

-- the live pages that are left to count
abbrev pub decreases-loop-next : goal.decreases-loop-next
decreases-loop-next g l = live_between l.fn.self.pages l.fn.first.low l.fn.pseudokey - l.count
