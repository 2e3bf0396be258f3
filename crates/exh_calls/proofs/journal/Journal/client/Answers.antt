use Rattle.std.proofs.Common.{◌≡◌, ℕ, Some, slice_get, ap, arith}
use Rattle.std.specs.Option.{option_map}
use Rattle.std.proofs.lemmas.Grind.{common_steps}
use Rattle.std.proofs.lemmas.Option.{gets, slice_get-map}
use Rattle.exh_calls.specs.Journal.{JournalState, entry_in}
use Rattle.exh_calls.specs.declared.journal_entry.JournalEntry.{JournalEntry}
use Rattle.exh_calls.proofs.journal.Journal.client.Goals as goal

pub returns : goal.returns
returns c =
    let texts = c.self.inside.texts.items in
    let stored = c.in_ok-stored.stored.now in
    let there : slice_get c.self.inside.stored.items c.args.at ≡ Some stored = grind (arith, common_steps, gets) in
    let client_of : JournalEntry → ℕ = λ entry. entry.client in
    let before = ap (λ (journal : JournalState). option_map client_of (slice_get journal.entries c.args.at)) c.self.view_is in
    rw (← before, slice_get-map (entry_in texts) c.self.inside.stored.items c.args.at, there)
