-- What is saved of the blocks of some bytes, in the order of their places.
use Rattle.std.specs.Prelude.{◌≡◌, ◌⊎◌, ℕ, zero, suc, ◌+◌, Bool, List, [], ◌∷◌, ◌++◌, Option, take, IfSome, IsTrue}
use Rattle.exh_page.specs.declared.page.Page.{Page}
use Rattle.exh_codec.specs.Block.{IsSealed}
use Rattle.exh_salvage.specs.Blocks.{IsWhole, block_at}
use Rattle.exh_salvage.specs.SavedBlock.{IsNoPage, IsPageBlock, live_count, saved_pairs}
use Rattle.exh_salvage.specs.declared.salvage.Salvage.{Salvage}
use Rattle.exh_salvage.specs.declared.salvage.TheConstants.{SHOWN_PLACES}

pub record IsNothing (salvage : Salvage) : Type 0 where
  pub pairs : salvage.pairs.items ≡ []
  pub live : salvage.live ≡ 0
  pub lost : salvage.lost ≡ 0
  pub unread : salvage.unread ≡ 0
  pub first : salvage.first.items ≡ []

-- ---- with one block more

-- that of a page
pub record IsWithPage (page : Page) (place : ℕ) (before after : Salvage) : Type 0 where
  pub pairs : after.pairs.items ≡ before.pairs.items ++ saved_pairs place page
  pub live : after.live ≡ before.live + live_count page
  pub lost : after.lost ≡ before.lost
  pub unread : after.unread ≡ before.unread
  pub first : after.first.items ≡ before.first.items

-- one that was read, and is lost
pub record IsNoted (place : ℕ) (before after : Salvage) : Type 0 where
  pub pairs : after.pairs.items ≡ before.pairs.items
  pub live : after.live ≡ before.live
  pub lost : after.lost ≡ before.lost + 1
  pub unread : after.unread ≡ before.unread
  pub first : after.first.items ≡ take SHOWN_PLACES (before.first.items ++ place ∷ [])

-- one that couldn't be read
pub record IsNotedUnread (place : ℕ) (before after : Salvage) : Type 0 where
  pub pairs : after.pairs.items ≡ before.pairs.items
  pub live : after.live ≡ before.live
  pub lost : after.lost ≡ before.lost + 1
  pub unread : after.unread ≡ before.unread + 1
  pub first : after.first.items ≡ take SHOWN_PLACES (before.first.items ++ place ∷ [])

-- one that was read: a page's, one without a page whose digest is right, or one that is lost
abbrev pub IsSavedBlock : List ℕ → ℕ → Salvage → Salvage → Type 0
IsSavedBlock block place before after = ((page : Page) × IsPageBlock block page × IsWithPage page place before after)
    ⊎ ((IsSealed block × IsNoPage block × (after ≡ before)) ⊎ ((IsSealed block → ⊥) × IsNoted place before after))

-- the one at a place of some bytes, which was read, or of which a read has failed
abbrev pub IsSavedAt : (ℕ → Bool) → List ℕ → ℕ → Salvage → Salvage → Type 0
IsSavedAt failed bytes place before after = (IsWhole place bytes × IsSavedBlock (block_at place bytes) place before after) ⊎ (IsTrue (failed place) × IsNotedUnread place before after)

-- the same where the bytes are known
abbrev pub IsNextSaved : (ℕ → Bool) → Option (List ℕ) → ℕ → Salvage → Salvage → Type 0
IsNextSaved failed known place before after = IfSome known (λ bytes. IsSavedAt failed bytes place before after)

-- ---- of the first blocks, so many

abbrev pub IsSalvage : (ℕ → Bool) → List ℕ → ℕ → Salvage → Type 0
IsSalvage failed bytes zero salvage = IsNothing salvage
IsSalvage failed bytes (suc count) salvage = (before : Salvage) × IsSalvage failed bytes count before × IsSavedAt failed bytes count before salvage

-- the same where the bytes are known
abbrev pub IsSalvageOf : (ℕ → Bool) → Option (List ℕ) → ℕ → Salvage → Type 0
IsSalvageOf failed known count salvage = IfSome known (λ bytes. IsSalvage failed bytes count salvage)
