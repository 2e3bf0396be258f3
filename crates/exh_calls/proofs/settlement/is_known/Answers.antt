use Rattle.std.proofs.Common.{refl, sym, ◌∙◌, subst, arith}
use Rattle.std.proofs.lemmas.Bool.{false≢true}
use Rattle.exh_calls.specs.declared.journal_entry.JournalEntry.{JournalEntry}
use Rattle.exh_calls.specs.Settled.{IsOfOne}
use Rattle.exh_calls.proofs.Each.{caller_at, each_at, each_more, each_taken}
use Rattle.exh_calls.proofs.settlement.is_known.Goals as goal

pub returns-then-not-is_of_one : goal.returns-then-not-is_of_one
returns-then-not-is_of_one c =
    let journal = c.args.journal.now.entries in
    let one = caller_at journal c.loop-at.at c.unwrap-client.result (sym c.client.ensures ∙ c.unwrap-client.ensures) in (
      λ is. absurd (false≢true is),
      λ known. absurd (false≢true (sym c.if-not-is_of_one.true ∙ c.is_of_one.ensures.1 (subst (IsOfOne c.args.diaries.now) one.3 (each_at (λ (entry : JournalEntry). IsOfOne c.args.diaries.now entry.client) journal c.loop-at.at one.0 one.2 one.1 known)))),
    )

pub loop-at-preserved : goal.loop-at-preserved
loop-at-preserved c =
    let journal = c.args.journal.now.entries in
    let one = caller_at journal c.loop-at.at c.unwrap-client.result (sym c.client.ensures ∙ c.unwrap-client.ensures) in
    each_more (λ (entry : JournalEntry). IsOfOne c.args.diaries.now entry.client) journal c.loop-at.at one.0 one.2 one.1 c.loop-at.invariant (subst (IsOfOne c.args.diaries.now) (sym one.3) (c.is_of_one.ensures.0 c.if-not-is_of_one.false))

pub returns : goal.returns
returns c = (
  λ _. each_taken (λ (entry : JournalEntry). IsOfOne c.args.diaries.now entry.client) c.args.journal.now.entries c.loop-at.at (omega arith) c.loop-at.invariant,
  λ _. refl,
)
