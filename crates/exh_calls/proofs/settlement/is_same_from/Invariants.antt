use Rattle.std.proofs.Common.{◌≡◌, ◌++◌}
use Rattle.exh_calls.proofs.Beside.{Matched}
use Rattle.exh_calls.proofs.settlement.is_same_from.Given as goal

-- each journal has what the diary has had of its ward so far, and then what is left of it
abbrev pub invariant-loop-entry : goal.invariant-loop-entry
invariant-loop-entry g l = record {
  all : l.diary.entries ≡ l.yielded ++ l.entry-iterator;
  matched : Matched (g.J.Journals.ward_of l.journals) (g.J.Journals.journals_of l.journals) l.diary.client l.first l.yielded l.places;
}
