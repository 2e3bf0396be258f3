-- What is asked of one element after the other.
use Rattle.std.proofs.Common.{◌≡◌, ℕ, ◌+◌, ◌<◌, ◌≤◌, inl, inr, List, [], ◌∷◌, ◌++◌, length, take, sym, ap, ◌∙◌, append_assoc}
use Rattle.std.specs.Option.{option_map}
use Rattle.std.specs.Prelude.{All, Some, slice_get}
use Rattle.std.proofs.lemmas.List.{append-nil, take_all}
use Rattle.std.proofs.lemmas.List.Elements.{All-head, All-more, All-same, All-tail}
use Rattle.std.proofs.lemmas.Option.{get_or_from_slice_get, none-some, same_Some, slice_get_cases}
use Rattle.exh_calls.specs.declared.journal_entry.JournalEntry.{JournalEntry}

module _ {X : Type 0} (P : X → Type 0) where
  behind : (front back : List X) (x : X) → All P (front ++ x ∷ back) → P x
  behind [] back x all = All-head P x back all
  behind (first ∷ front) back x all = behind front back x (All-tail P first (front ++ x ∷ back) all)

  -- the next of a list
  pub each_next : (xs front back : List X) (x : X) → xs ≡ front ++ x ∷ back → All P xs → P x
  each_next xs front back x whole all = behind front back x (All-same P (front ++ x ∷ back) xs (sym whole) all)

  pub each_to_the_end : (xs front : List X) → xs ≡ front ++ [] → All P front → All P xs
  each_to_the_end xs front whole all = All-same P xs front (whole ∙ append-nil front) all

  -- by numbers
  pub each_at : (xs : List X) (number : ℕ) (x : X) → slice_get xs number ≡ Some x → number < length xs → All P xs → P x
  each_at xs number x at less all = let P' : X → Type 0 = P in rw (get_or_from_slice_get xs number x x at) at (all number x less)

  pub each_more : (xs : List X) (number : ℕ) (x : X) → slice_get xs number ≡ Some x → number < length xs → All P (take number xs) → P x → All P (take (number + 1) xs)
  each_more xs number x at less all holds = All-more P xs number x less all (rw (get_or_from_slice_get xs number x x at) holds)

  pub each_taken : (xs : List X) (number : ℕ) → length xs ≤ number → All P (take number xs) → All P xs
  each_taken xs number all taken = All-same P xs (take number xs) (sym (take_all number xs all)) taken

-- of an entry of a journal its caller alone was asked
pub caller_at : (journal : List JournalEntry) (at caller : ℕ) → option_map (λ (entry : JournalEntry). entry.client) (slice_get journal at) ≡ Some caller
    → (entry : JournalEntry) × (at < length journal) × (slice_get journal at ≡ Some entry) × (entry.client ≡ caller)
caller_at journal at caller asked = elim (slice_get_cases journal at).1 [
  | inl (entry, within, there, _) ↦ (entry, within, there, same_Some entry.client caller (ap (option_map (λ (one : JournalEntry). one.client)) (sym there) ∙ asked))
  | inr (_, none) ↦ absurd (none-some caller (ap (option_map (λ (one : JournalEntry). one.client)) (sym none) ∙ asked))
]

-- a loop over a list has had one more
pub turned : {X : Type 0} (xs front rest after : List X) (x : X) → xs ≡ front ++ rest → rest ≡ x ∷ after → xs ≡ (front ++ x ∷ []) ++ after
turned xs front rest after x whole next = whole ∙ ap (λ xs. front ++ xs) next ∙ sym (append_assoc front (x ∷ []) after)
