-- Laws of images, for the crates above: in every version of the page file, or in each whose bytes are room for its limit and fit into eight.
use Rattle.std.specs.Prelude.{◌≡◌, ◌<◌, ℕ, ◌↔◌, List, length, slice_index}
use Rattle.std.specs.List.{AllByRecursion}
use Rattle.exh_page.specs.Version.{Version, Fits}
use Rattle.exh_page.specs.declared.page.Page.{Page}
use Rattle.exh_codec.specs.declared.block.TheConstants.{BLOCK_LEN}
use Rattle.exh_codec.specs.Block.{IsSealed}
use Rattle.exh_codec.specs.ImageTests.{Passes, image_tests}
use Rattle.exh_codec.specs.PageImage.{IsPage, IsImage, IsLaidOut}
use Rattle.exh_codec.specs.PageOf.{page_of}

-- the block is the page's image, and no other is
pub record IsOnePageImage (version : Version) (pseudo : List ℕ → ℕ) (page : Page) (block : List ℕ) : Type 0 where
  pub image : IsImage version pseudo page block
  pub only : (other : List ℕ) → IsImage version pseudo page other → other ≡ block

-- a page that any file may have has exactly one image
abbrev pub OneImage : Type 0
OneImage = (version : Version) (pseudo : List ℕ → ℕ) (page : Page) → IsPage version pseudo page → (block : List ℕ) × IsOnePageImage version pseudo page block

-- an image is that of one page
abbrev pub OnePage : Type 0
OnePage = (version : Version) → Fits 8 version → (pseudo : List ℕ → ℕ) (block : List ℕ) (one other : Page)
    → IsImage version pseudo one block → IsImage version pseudo other block → one ≡ other

-- a block of bytes is the image of a page exactly where it passes all tests
abbrev pub ImagesPass : Type 0
ImagesPass = (version : Version) → Fits 8 version → (pseudo : List ℕ → ℕ) (block : List ℕ) → length block ≡ BLOCK_LEN → ((i : ℕ) → slice_index block i < 256)
    → ((page : Page) × IsImage version pseudo page block) ↔ AllByRecursion (Passes version pseudo block) image_tests

-- a block is a page's image exactly where it was laid out for the page and is sealed
abbrev pub ImagesAreSealed : Type 0
ImagesAreSealed = (version : Version) (pseudo : List ℕ → ℕ) (page : Page) (block : List ℕ)
    → IsImage version pseudo page block ↔ (IsLaidOut version pseudo page block × IsSealed block)

-- an image has the length of a block
abbrev pub ImagesAreBlocks : Type 0
ImagesAreBlocks = (version : Version) (pseudo : List ℕ → ℕ) (page : Page) (block : List ℕ) → IsImage version pseudo page block → length block ≡ BLOCK_LEN

-- a block that was laid out for a page is read as that page
abbrev pub BlocksAreRead : Type 0
BlocksAreRead = (version : Version) → Fits 8 version → (pseudo : List ℕ → ℕ) (page : Page) (block : List ℕ) → IsLaidOut version pseudo page block → page_of version pseudo block ≡ page
