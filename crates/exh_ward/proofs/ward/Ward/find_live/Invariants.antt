use Rattle.std.proofs.Common.{◌≡◌, ◌-◌}
use Rattle.exh_ward.proofs.FirstSteps.{HasForwarded}
use Rattle.exh_ward.proofs.ward.Ward.find_live.Given as goal

abbrev pub invariant-forwards : goal.invariant-forwards
invariant-forwards g l = record { same : l.self ≡ l.fn.self; start : l.page ≡ l.fn.page; way : HasForwarded l.fn.self.pages l.fn.page l.forwards l.at }

-- no more are passed than a low bound has bits
abbrev pub decreases-forwards : goal.decreases-forwards
decreases-forwards g l = 64 - l.forwards
