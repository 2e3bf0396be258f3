use Rattle.std.proofs.Common.{◌≡◌, ℕ, List, [], ◌∷◌, refl, sym, ap, ◌∙◌, subst}
use Rattle.exh_calls.specs.History.{IsHistory, map_left}
use Rattle.exh_page.specs.KeyMap.{KeyMap}
use Rattle.exh_calls.specs.CallLaws.{calls_of, replies_of}
use Rattle.exh_calls.specs.MapMachine.{reply_of, map_after}
use Rattle.exh_calls.specs.declared.journal_entry.JournalEntry.{JournalEntry}
use Rattle.exh_calls.proofs.laws.history_is_determined.Goals as goal

decided : (cap : ℕ) (pseudo : List ℕ → ℕ) (base : KeyMap) (one other : List JournalEntry)
    → IsHistory cap pseudo base one → IsHistory cap pseudo base other → calls_of one ≡ calls_of other
    → (replies_of one ≡ replies_of other) × (map_left cap pseudo base one ≡ map_left cap pseudo base other)
decided cap pseudo base [] [] one_is other_is same = (refl, refl)
decided cap pseudo base [] (second ∷ other) one_is other_is same = cc
decided cap pseudo base (first ∷ one) [] one_is other_is same = cc
decided cap pseudo base (first ∷ one) (second ∷ other) one_is other_is same =
    let call : first.call ≡ second.call = cc in
    let calls : calls_of one ≡ calls_of other = cc in
    let P : KeyMap → Type 0 = λ m. IsHistory cap pseudo m other in
    let rest = decided cap pseudo (map_after cap pseudo base first.call) one other one_is.1 (subst P (ap (map_after cap pseudo base) (sym call)) other_is.1) calls in
    let reply : first.reply ≡ second.reply = one_is.0 ∙ ap (reply_of cap pseudo base) call ∙ sym other_is.0 in
    (ap (λ reply. reply ∷ replies_of one) reply ∙ ap (λ replies. second.reply ∷ replies) rest.0, rest.1 ∙ ap (λ call. map_left cap pseudo (map_after cap pseudo base call) other) call)

pub returns : goal.returns
returns c = decided
