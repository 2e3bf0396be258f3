-- Of bytes whose blocks are pages and others with their digests just the pages' pairs are saved, and no block is lost.
use Rattle.std.specs.Prelude.{◌≡◌, ◌<◌, ℕ, Bool, List, [], Option, Some, None, flat_map, get_or, length, map}
use Rattle.exh_prefix.specs.declared.version.Version.{Version as KnownVersion}
use Rattle.exh_prefix.specs.Layout.{layout}
use Rattle.exh_keyer.specs.declared.any_keyer.AnyKeyer.{AnyKeyer}
use Rattle.exh_keyer.specs.Pseudokey.{any_pseudokey}
use Rattle.exh_page.specs.declared.page.Page.{Page}
use Rattle.exh_codec.specs.Block.{IsSealed}
use Rattle.exh_codec.specs.Cells.{Pair}
use Rattle.exh_codec.specs.PageImage.{IsImage}
use Rattle.exh_salvage.specs.Blocks.{block_at}
use Rattle.exh_salvage.specs.SavedBlock.{IsNoPage, pairs_of}
use Rattle.exh_salvage.specs.Salvage.{IsSalvage}
use Rattle.exh_salvage.specs.declared.salvage.Salvage.{Salvage}
use Rattle.exh_salvage.specs.declared.salvage.SavedPair.{SavedPair}

-- the block is the page's in a file of some version, under some keyer
pub record IsPageOfAny (page : Page) (block : List ℕ) : Type 0 where
  pub version : KnownVersion
  pub keyer : AnyKeyer
  pub image : IsImage (layout version) (any_pseudokey keyer) page block

-- it is this page's, or no page's and has its digest
abbrev pub Stands : Option Page → List ℕ → Type 0
Stands (Some page) block = IsPageOfAny page block
Stands None block = IsSealed block × IsNoPage block

abbrev pub pairs_within : Option Page → List Pair
pairs_within (Some page) = pairs_of page
pairs_within None = []

abbrev pub both_of : SavedPair → Pair
both_of pair = (pair.key, pair.value)

-- what is saved, where each block could be read
pub record IsWhole (pages : List (Option Page)) (salvage : Salvage) : Type 0 where
  pub pairs : map both_of salvage.pairs.items ≡ flat_map pairs_within pages
  pub lost : salvage.lost ≡ 0

abbrev pub WholeFilesAreSaved : Type 0
WholeFilesAreSaved = (failed : ℕ → Bool) (bytes : List ℕ) (pages : List (Option Page)) (salvage : Salvage) → ((place : ℕ) → place < length pages → Stands (get_or pages place None) (block_at place bytes))
    → IsSalvage failed bytes (length pages) salvage → salvage.unread ≡ 0 → IsWhole pages salvage
