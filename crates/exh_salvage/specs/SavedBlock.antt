-- What is saved of a block, wherever it stands and whatever the others are.
use Rattle.std.specs.Prelude.{⊤, ℕ, List, map}
use Rattle.exh_prefix.specs.Layout.{written_version}
use Rattle.exh_keyer.specs.declared.any_keyer.AnyKeyer.{AnyKeyer}
use Rattle.exh_keyer.specs.Pseudokey.{any_pseudokey}
use Rattle.exh_page.specs.declared.page.Page.{Page}
use Rattle.exh_page.specs.declared.page.Page.TheVariants.{Live, Forward}
use Rattle.exh_page.specs.declared.record.Record.{Record}
use Rattle.exh_page.specs.KeyMap.{pair_of}
use Rattle.exh_page.specs.Page.{records_of}
use Rattle.exh_codec.specs.Block.{IsSealed}
use Rattle.exh_codec.specs.Cells.{Pair}
use Rattle.exh_codec.specs.declared.image_fault.ImageFault.{ImageFault}
use Rattle.exh_codec.specs.declared.image_fault.ImageFault.TheVariants.{Memory}
use Rattle.exh_codec.specs.PageImage.{IsImage}
use Rattle.exh_salvage.specs.declared.salvage.SavedPair.{SavedPair}
use Rattle.exh_salvage.specs.declared.saved.Saved.{Saved}
use Rattle.exh_salvage.specs.declared.saved.Saved.TheVariants as saved

-- the block is the image of the page under one of the keyers. Each page of a file of version 1 or 3 is one of version 2
pub record IsPageBlock (block : List ℕ) (page : Page) : Type 0 where
  pub keyer : AnyKeyer
  pub image : IsImage written_version (any_pseudokey keyer) page block

abbrev pub IsNoPage : List ℕ → Type 0
IsNoPage block = (page : Page) → IsPageBlock block page → ⊥

-- a page's pairs, in the order of its records: a forwarding page has none
abbrev pub pairs_of : Page → List Pair
pairs_of page = map pair_of (records_of page)

-- the same, each with its block's place
abbrev pub saved_pair : ℕ → Record → SavedPair
saved_pair place r = record { place = place; key = r.key; value = r.value }

abbrev pub saved_pairs : ℕ → Page → List SavedPair
saved_pairs place page = map (saved_pair place) (records_of page)

abbrev pub live_count : Page → ℕ
live_count (Live prefix right records) = 1
live_count (Forward low target) = 0

-- ---- what a block is to a salvage

abbrev pub IsSavedAs : List ℕ → Saved → Type 0
IsSavedAs block (saved.Page page) = IsPageBlock block page
IsSavedAs block saved.Other = IsSealed block × IsNoPage block
IsSavedAs block saved.Lost = IsSealed block → ⊥

-- the fault is that of a block, and not want of memory
abbrev pub IsOfBlock : ImageFault → Type 0
IsOfBlock Memory = ⊥
IsOfBlock fault = ⊤
