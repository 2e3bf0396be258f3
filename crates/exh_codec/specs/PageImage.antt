-- The image of a page, in each version of the page file.
use Rattle.std.specs.Prelude.{◌≡◌, ℕ, ◌-◌, ◌^◌, ◌<◌, ◌≤◌, List, ◌++◌, length, map, replicate, take, IfSome}
use Rattle.std.specs.List.{AllByRecursion, flat_map}
use Rattle.sha2.specs.Sha256.{sha256}
use Rattle.exh_page.specs.PrefixLimits.{LIMIT}
use Rattle.exh_page.specs.Layout.{written_version}
use Rattle.exh_page.specs.Version.{Version}
use Rattle.exh_page.specs.declared.page.Page.{Page}
use Rattle.exh_page.specs.declared.page.Page.TheVariants.{Live, Forward}
use Rattle.exh_page.specs.Page.{IsFormedUpTo, records_of}
use Rattle.exh_codec.specs.declared.block.TheConstants.{CONTENT_LEN}
use Rattle.exh_codec.specs.Block.{sealed}
use Rattle.exh_page.specs.KeyMap.{pair_of}
use Rattle.exh_codec.specs.Cells.{IsSizedPair, pair_image}
use Rattle.exh_codec.specs.Head.{head_bytes, head_of}

-- the bytes, with zeros after them up to a length
abbrev pub padded : ℕ → List ℕ → List ℕ
padded len bytes = bytes ++ replicate (len - length bytes) 0

-- the bytes that a page uses: its head, and its records one after the other
abbrev pub used_of : Page → List ℕ
used_of page = head_bytes (head_of page) ++ flat_map pair_image (map pair_of (records_of page))

-- a block's content for a page: the bytes that it uses, and zeros
unfoldable pub content_of : Page → List ℕ
content_of page = padded CONTENT_LEN (used_of page)

-- the digest of a page's block
abbrev pub page_digest : Page → List ℕ
page_digest page = sha256 (content_of page)

-- the numbers and lengths in the page are those that its types and the version hold
abbrev pub IsInRange : Version → Page → Type 0
IsInRange version (Live prefix right records) = (length prefix ≤ version.limit) × IfSome right (λ page. page < 2 ^ 32) × AllByRecursion IsSizedPair (map pair_of records)
IsInRange version (Forward low target) = (low < 2 ^ 64) × (target < 2 ^ 32)

-- the numbers and lengths in the page are those that its types hold
abbrev pub IsHeld : Page → Type 0
IsHeld page = IsInRange (record { limit = LIMIT; bytes = 8 }) page

-- a page that any file of the version may have, under a keyer's pseudokeys
pub record IsPage (version : Version) (pseudo : List ℕ → ℕ) (page : Page) : Type 0 where
  pub in_range : IsInRange version page
  pub formed : IsFormedUpTo version.limit pseudo page

-- the block's content is that of the page, which is well formed; its digest bytes may be any
pub record IsLaidOut (version : Version) (pseudo : List ℕ → ℕ) (page : Page) (block : List ℕ) : Type 0 where
  pub valid : IsPage version pseudo page
  pub content : take CONTENT_LEN block ≡ content_of page

-- the block is the image of the page, which is well formed
pub record IsImage (version : Version) (pseudo : List ℕ → ℕ) (page : Page) (block : List ℕ) : Type 0 where
  pub valid : IsPage version pseudo page
  pub whole : block ≡ sealed (content_of page)

-- the block is the page's in a file of the version that is written, whatever the keyer is
pub record IsBlockOf (page : Page) (block : List ℕ) : Type 0 where
  pub in_range : IsInRange written_version page
  pub whole : block ≡ sealed (content_of page)
