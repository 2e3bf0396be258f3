use Rattle.std.proofs.Common.{take}
use Rattle.std.specs.Prelude.{All}
use Rattle.exh_calls.specs.declared.journal_entry.JournalEntry.{JournalEntry}
use Rattle.exh_calls.specs.Settled.{IsOfOne}
use Rattle.exh_calls.proofs.settlement.is_known.Given as goal

-- the entries so far are each of one of the diaries
abbrev pub invariant-loop-at : goal.invariant-loop-at
invariant-loop-at l = All (λ (entry : JournalEntry). IsOfOne l.diaries entry.client) (take l.at l.journal.entries)
