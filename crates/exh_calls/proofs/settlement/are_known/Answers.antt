use Rattle.std.proofs.Common.{refl, sym, ◌∙◌, arith}
use Rattle.std.specs.Prelude.{All}
use Rattle.std.proofs.lemmas.Bool.{false≢true}
use Rattle.exh_calls.specs.declared.journal_entry.JournalEntry.{JournalEntry}
use Rattle.exh_calls.specs.Settled.{IsOfOne}
use Rattle.exh_calls.proofs.Each.{each_at, each_more, each_taken}
use Rattle.exh_calls.proofs.settlement.are_known.Goals as goal

pub returns-then-not-is_known : goal.returns-then-not-is_known
returns-then-not-is_known g c = (
  λ is. absurd (false≢true is),
  λ known. absurd (false≢true (sym c.if-not-is_known.true ∙ c.is_known.ensures.1 (each_at (All (λ (entry : JournalEntry). IsOfOne c.args.diaries.now entry.client)) (g.J.Journals.journals_of c.args.journals.now) c.loop-number.number c.journal.result.now.entries c.journal.ensures (omega (arith, c.loop-number-test.true, c.count-number-end.ensures)) known))),
)

pub loop-number-preserved : goal.loop-number-preserved
loop-number-preserved g c = each_more (All (λ (entry : JournalEntry). IsOfOne c.args.diaries.now entry.client)) (g.J.Journals.journals_of c.args.journals.now) c.loop-number.number c.journal.result.now.entries c.journal.ensures (omega (arith, c.loop-number-test.true, c.count-number-end.ensures)) c.loop-number.invariant (c.is_known.ensures.0 c.if-not-is_known.false)

pub returns : goal.returns
returns g c = (
  λ _. each_taken (All (λ (entry : JournalEntry). IsOfOne c.args.diaries.now entry.client)) (g.J.Journals.journals_of c.args.journals.now) c.loop-number.number (omega (arith, c.loop-number-test.false, c.count-number-end.ensures)) c.loop-number.invariant,
  λ _. refl,
)
