-- Of the image of a page just its pairs are saved.
use Rattle.std.specs.Prelude.{◌≡◌, ◌⊎◌, ◌<◌, ℕ, Bool, List, Option, slice_index}
use Rattle.exh_prefix.specs.declared.version.Version.{Version as KnownVersion}
use Rattle.exh_prefix.specs.Layout.{layout}
use Rattle.exh_keyer.specs.declared.any_keyer.AnyKeyer.{AnyKeyer}
use Rattle.exh_keyer.specs.Pseudokey.{any_pseudokey}
use Rattle.exh_page.specs.declared.page.Page.{Page}
use Rattle.exh_page.specs.declared.page.Page.TheVariants.{Live}
use Rattle.exh_page.specs.declared.record.Record.{Record}
use Rattle.exh_codec.specs.PageImage.{IsImage}
use Rattle.exh_salvage.specs.SavedBlock.{IsNoPage, IsPageBlock, pairs_of}

pub record PagesAreSaved : Type 0 where
  -- a live page of any version, under any keyer
  pub live : (version : KnownVersion) (keyer : AnyKeyer) (prefix : List Bool) (right : Option ℕ) (records : List Record) (block : List ℕ)
      → IsImage (layout version) (any_pseudokey keyer) (Live prefix right records) block → IsPageBlock block (Live prefix right records)
  -- whichever page its block is saved as, the pairs are those of the page, of which a forwarding page has none
  pub pairs : (version : KnownVersion) (pseudo : List ℕ → ℕ) (page other : Page) (block : List ℕ) → IsImage (layout version) pseudo page block → IsPageBlock block other → pairs_of other ≡ pairs_of page
  -- a block that begins with no page's byte is no page's
  pub others : (block : List ℕ) → (slice_index block 0 < 1) ⊎ (2 < slice_index block 0) → IsNoPage block
