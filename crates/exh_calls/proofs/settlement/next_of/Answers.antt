use Rattle.std.proofs.Common.{◌≡◌, ◌∷◌, ◌+◌, Some, slice_get, sym, ap, ◌∙◌}
use Rattle.std.specs.Option.{option_map}
use Rattle.std.proofs.lemmas.Option.{same_Some}
use Rattle.exh_calls.specs.declared.journal_entry.JournalEntry.{JournalEntry}
use Rattle.exh_calls.specs.Beside.{of_caller_from}
use Rattle.exh_calls.specs.declared.diary_entry.DiaryEntry.{DiaryEntry}
use Rattle.exh_calls.proofs.Beside.{other_next, own_next}
use Rattle.exh_calls.proofs.Each.{caller_at}
use Rattle.exh_calls.proofs.settlement.next_of.Goals as goal

pub returns-then-caller-client : goal.returns-then-caller-client
returns-then-caller-client c =
    let client = c.args.client in
    let journal = c.args.journal.now.entries in
    let place = c.loop-place.place in
    let entry = c.unwrap-entry.result in
    let there : slice_get journal place ≡ Some entry = sym c.get.ensures ∙ c.unwrap-entry.ensures in
    let asked : Some entry.client ≡ Some client = ap (option_map (λ (one : JournalEntry). one.client)) (sym there) ∙ sym c.client.ensures ∙ c.unwrap-caller.ensures ∙ ap Some c.if-caller-client.true in
    let own : entry.client ≡ client = same_Some entry.client client asked in
    c.loop-place.invariant ∙ own_next client journal place entry there own ∙ ap (λ (one : DiaryEntry). one ∷ of_caller_from client journal (place + 1)) (sym c.from.ensures)

pub loop-place-preserved : goal.loop-place-preserved
loop-place-preserved c =
    let journal = c.args.journal.now.entries in
    let place = c.loop-place.place in
    let one = caller_at journal place c.unwrap-caller.result (sym c.client.ensures ∙ c.unwrap-caller.ensures) in
    c.loop-place.invariant ∙ other_next c.args.client journal place one.0 one.2 (λ own. c.if-caller-client.false (sym one.3 ∙ own))
