-- One block more.
use Rattle.std.proofs.Common.{◌≡◌, ℕ, zero, suc, ◌+◌, Bool, List, Option, None, Some, inl, inr, subst, arith}
use Rattle.std.specs.Prelude.{IsTrue}
use Rattle.exh_salvage.specs.Blocks.{IsBlockAt}
use Rattle.exh_salvage.specs.Salvage.{IsNextSaved, IsNotedUnread, IsSalvage, IsSalvageOf, IsSavedAt, IsSavedBlock}
use Rattle.exh_salvage.specs.declared.salvage.Salvage.{Salvage}

-- ---- a read that failed stays so

module _ (failed later : ℕ → Bool) (still : (other : ℕ) → IsTrue (failed other) → IsTrue (later other)) where
  saved_still : (bytes : List ℕ) (place : ℕ) (before after : Salvage) → IsSavedAt failed bytes place before after → IsSavedAt later bytes place before after
  saved_still bytes place before after (inl read) = inl read
  saved_still bytes place before after (inr (lost, noted)) = inr (still place lost, noted)

  salvage_still : (bytes : List ℕ) (count : ℕ) (salvage : Salvage) → IsSalvage failed bytes count salvage → IsSalvage later bytes count salvage
  salvage_still bytes zero salvage none = none
  salvage_still bytes (suc count) salvage (before, so_far, next) = (before, salvage_still bytes count before so_far, saved_still bytes count before salvage next)

-- ---- with one block more

pub next_of : (failed later : ℕ → Bool) (known : Option (List ℕ)) (place : ℕ) (before after : Salvage) → ((other : ℕ) → IsTrue (failed other) → IsTrue (later other)) → IsSalvageOf failed known place before
    → IsNextSaved later known place before after → IsSalvageOf later known (place + 1) after
next_of failed later None place before after still so_far next = tt
next_of failed later (Some bytes) place before after still so_far next =
    let one : suc place ≡ place + 1 = omega arith in
    subst (λ (count : ℕ). IsSalvage later bytes count after) one (before, salvage_still failed later still bytes place before so_far, next)

pub next_at : (failed : ℕ → Bool) (known : Option (List ℕ)) (block : List ℕ) (place : ℕ) (before after : Salvage) → IsBlockAt known place block → IsSavedBlock block place before after → IsNextSaved failed known place before after
next_at failed None block place before after is saved = tt
next_at failed (Some bytes) block place before after is saved = inl (is.0, subst (λ (block : List ℕ). IsSavedBlock block place before after) is.1 saved)

pub not_read : (failed : ℕ → Bool) (known : Option (List ℕ)) (place : ℕ) (before after : Salvage) → IsTrue (failed place) → IsNotedUnread place before after → IsNextSaved failed known place before after
not_read failed None place before after lost noted = tt
not_read failed (Some bytes) place before after lost noted = inr (lost, noted)
