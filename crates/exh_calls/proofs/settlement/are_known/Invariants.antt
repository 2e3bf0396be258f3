use Rattle.std.proofs.Common.{take}
use Rattle.std.specs.Prelude.{All}
use Rattle.exh_calls.specs.declared.journal_entry.JournalEntry.{JournalEntry}
use Rattle.exh_calls.specs.Settled.{IsOfOne}
use Rattle.exh_calls.proofs.settlement.are_known.Given as goal

-- the entries of the journals so far are each of one of the diaries
abbrev pub invariant-loop-number : goal.invariant-loop-number
invariant-loop-number g l = All (All (λ (entry : JournalEntry). IsOfOne l.diaries entry.client)) (take l.number (g.J.Journals.journals_of l.journals))
