-- Decoded pages, as pairs of a number and a page.
use Rattle.std.specs.Prelude.{◌≡◌, ℕ, cond, nat_eq, List, slice_get, Option, Some, None}
use Rattle.std.specs.Map.{lookup}
use Rattle.exh_page.specs.declared.page.Page.{Page}

abbrev pub Decoded : Type 0
Decoded = List (ℕ × Page)

-- what is seen of decoded pages: those of the cache, the one beside it, and how many the cache may have
pub record KeptPages : Type 0 where
  pub recent : Decoded
  pub beside : Option (ℕ × Page)
  pub cap : ℕ

-- the page of a number in the cache
abbrev pub decoded_at : ℕ → Decoded → Option Page
decoded_at number decoded = lookup (nat_eq number) decoded

-- the page beside it, if it is of the number
abbrev pub beside_at : ℕ → Option (ℕ × Page) → Option Page
beside_at number None = None
beside_at number (Some kept) = cond (nat_eq number kept.0) (Some kept.1) None

abbrev pub first_of : Option Page → Option Page → Option Page
first_of (Some page) other = Some page
first_of None other = other

-- the decoded page of a number
abbrev pub kept_at : ℕ → KeptPages → Option Page
kept_at number kept = first_of (decoded_at number kept.recent) (beside_at number kept.beside)

-- each page that is looked up is the page of its number
abbrev pub AreFound : List Page → (ℕ → Option Page) → Type 0
AreFound pages look_up = (number : ℕ) (page : Page) → look_up number ≡ Some page → slice_get pages number ≡ Some page

-- each decoded page is the page of its number
pub record AreOf (pages : List Page) (kept : KeptPages) : Type 0 where
  pub recent : AreFound pages (λ number. decoded_at number kept.recent)
  pub beside : AreFound pages (λ number. beside_at number kept.beside)
