-- A turn of a walk: a hop, and the split that it asks for.
use Rattle.std.specs.Prelude.{◌≡◌, ℕ, List, Result, Ok, Err}
use Rattle.exh_notice.specs.declared.notice.Notice.{Notice}
use Rattle.exh_calls.specs.declared.call.Call.{Call}
use Rattle.exh_ward.specs.declared.ward_fault.WardFault.{WardFault}
use Rattle.exh_walk.specs.WardRun.{WardEvent, SplitAt}
use Rattle.exh_walk.specs.declared.ask_fault.AskFault.{AskFault}
use Rattle.exh_walk.specs.declared.walk.Turn.{Turn}
use Rattle.exh_walk.specs.declared.walk.Turn.TheVariants.{Answered, At}
use Rattle.exh_walk.specs.CallerWalk.{Due, HopDue, SplitDue, Over, due_after, due_from, IsRun, AreDue, hops_in}

-- what a turn came to is what is then to come
abbrev pub IsNext : Due → Result Turn AskFault → Type 0
IsNext (Over (Ok reply)) result = result ≡ Ok (Answered reply)
IsNext (Over (Err fault)) result = result ≡ Err fault
IsNext (HopDue page) result = result ≡ Ok (At page)
IsNext (SplitDue page) result = ⊥

abbrev pub IsSplitTurn : {S : Type 0} → (S → WardEvent → S → Type 0) → S → ℕ → ℕ → Result Turn AskFault → S → Type 0
IsSplitTurn step old page pseudokey result new = (split : Result Notice WardFault) × step old (SplitAt page split) new × IsNext (due_after pseudokey (SplitAt page split)) result

-- one hop, with a split after it where that is to come
pub record IsTurn {S : Type 0} (step : S → WardEvent → S → Type 0) (old : S) (page client : ℕ) (call : Call) (pseudokey : ℕ) (result : Result Turn AskFault) (new : S) : Type 0 where
  pub events : List WardEvent
  pub run : IsRun step old events new
  pub due : AreDue page client call pseudokey events
  pub hops : hops_in events ≡ 1
  pub next : IsNext (due_from pseudokey page events) result
