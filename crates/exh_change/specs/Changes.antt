-- What splits, merges and answers make of a draft.
use Rattle.std.specs.Prelude.{◌≡◌, ◌⊎◌, ℕ, ◌+◌, ◌<◌, ◌≤◌, Bool, List, [], ◌∷◌, ◌++◌, length}
use Rattle.exh_prefix.specs.declared.prefix.TheConstants.{LIMIT}
use Rattle.exh_legal.specs.Pages.{IsHome}
use Rattle.exh_page.specs.declared.page.Page.{Page}
use Rattle.exh_page.specs.declared.page.Page.TheVariants.{Forward, Live}
use Rattle.exh_page.specs.KeyMap.{KeyMap}
use Rattle.exh_page.specs.Page.{IsWellFormed}
use Rattle.exh_cells.specs.PlacedFile.{PlacedFile}
use Rattle.exh_cells.specs.Places.{group_in, page_block_of, walk_block_of}
use Rattle.exh_edits.specs.EditsInTurn.{AreAmong, AreMoreAt, places_of}
use Rattle.exh_edits.specs.declared.home.Home.{Home}
use Rattle.exh_change.specs.PlacedHome.{IsHomeIn}
use Rattle.exh_change.specs.PlacedLaws.{map_in}
use Rattle.exh_change.specs.WalkBlocks.{pages_in}
use Rattle.exh_change.specs.PlacedSteps.{IsStep}
use Rattle.exh_change.specs.declared.draft.Draft.{Draft}
use Rattle.exh_change.specs.Drafts.{IsOf, pseudo_in}
use Rattle.exh_change.specs.Leaves.{IsOneOf, MayMerge, MayNotMerge, edits_for, leaves_in, united_leaves}

-- a page of the draft that may be a pseudokey's home
pub record IsHomeOf (draft : Draft) (pseudokey : ℕ) (home : Home) : Type 0 where
  pub there : home.place < pages_in draft.header
  pub formed : IsWellFormed (pseudo_in draft) home.page
  pub own : IsHome home.page pseudokey

-- the same file's blocks, its settings and stamps stay
pub record IsLater (old new : Draft) : Type 0 where
  pub first : new.edits.first ≡ old.edits.first
  pub settings : new.header.settings ≡ old.header.settings
  pub stamp : new.header.stamp ≡ old.header.stamp

-- the draft is this file, in which the pseudokey has this home
pub record IsAtHome (base : List ℕ) (draft : Draft) (pseudokey : ℕ) (home : Home) (file : PlacedFile) : Type 0 where
  pub is : IsOf base draft file
  pub own : IsHomeIn file pseudokey home

-- it is one that came of another with the same map
pub record HasRoom (base : List ℕ) (old : PlacedFile) (draft : Draft) (pseudokey : ℕ) (home : Home) : Type 0 where
  pub new : PlacedFile
  pub at : IsAtHome base draft pseudokey home new
  pub step : IsStep old (map_in old) new

-- the draft is a legal file with this map, which came of another one
pub record Becomes (base : List ℕ) (old : PlacedFile) (map : KeyMap) (draft : Draft) : Type 0 where
  pub new : PlacedFile
  pub is : IsOf base draft new
  pub step : IsStep old map new

-- a live page of this prefix
abbrev pub IsOfPrefix : List Bool → Page → Type 0
IsOfPrefix prefix (Live own link records) = own ≡ prefix
IsOfPrefix prefix (Forward low target) = ⊥

-- the prefix of a live page, none where it forwards
abbrev pub prefix_in : Page → List Bool
prefix_in (Live prefix link records) = prefix
prefix_in (Forward low target) = []

-- ---- the places of edits

-- the block of a page, and the walk block of its cell
abbrev pub blocks_at : ℕ → List ℕ
blocks_at place = page_block_of place ∷ walk_block_of (group_in place) ∷ []

-- blocks of these places were edited, and no others
abbrev pub EditsMore : List ℕ → Draft → Draft → Type 0
EditsMore places old new = AreMoreAt places old.edits.items.items new.edits.items.items

-- the page at a place was split, one half is the home, and the blocks of both and the header's were edited, no others
pub record IsHalved (old new : Draft) (place : ℕ) (home : Home) : Type 0 where
  pub right : ℕ
  pub which : IsOneOf home.place place right
  pub more : EditsMore (0 ∷ blocks_at place ++ blocks_at right) old new

-- the edits are of at most as many places as so many digits take; among these are the header's and the home's, and from one digit on its cell's
pub record AreCounted (draft : Draft) (home : Home) (digits : ℕ) : Type 0 where
  pub places : List ℕ
  pub few : length places ≤ edits_for digits
  pub own : AreAmong places (0 ∷ page_block_of home.place ∷ [])
  pub cell : (digits ≡ 0) ⊎ AreAmong places (blocks_at home.place)
  pub edits : AreAmong places (places_of draft.edits.items.items)

-- the home's prefix became longer by so many digits
pub record HasGrown (first home : Home) (draft : Draft) : Type 0 where
  pub digits : ℕ
  pub longer : length (prefix_in home.page) ≡ length (prefix_in first.page) + digits
  pub within : digits ≤ LIMIT
  pub counted : AreCounted draft home digits

-- the draft is as it was, or blocks of two pages were edited, and the cell of one
abbrev pub MayEditTwo : Draft → Draft → Type 0
MayEditTwo old new = (new ≡ old) ⊎ ((left : ℕ) × (right : ℕ) × EditsMore (page_block_of right ∷ blocks_at left) old new)

-- ---- merges

-- the same header and leaves
pub record HasSameLeaves (old new : PlacedFile) : Type 0 where
  pub header : old.header ≡ new.header
  pub leaves : leaves_in old ≡ leaves_in new

-- the draft is the file of two halves that were merged
pub record IsUnited (base : List ℕ) (file : PlacedFile) (prefix : List Bool) (left right : ℕ) (draft : Draft) : Type 0 where
  pub becomes : Becomes base file (map_in file) draft
  pub may : MayMerge file prefix left right
  pub leaves : leaves_in becomes.new ≡ united_leaves prefix left right file

-- the left half at a place was merged with the right one, or no page may be
abbrev pub SettlesLeft : List ℕ → PlacedFile → List Bool → ℕ → Draft → Draft → Type 0
SettlesLeft base file prefix left old new = ((right : ℕ) × IsUnited base file prefix left right new) ⊎ (((right : ℕ) → MayMerge file prefix left right → ⊥) × (new ≡ old))

-- and the page at a place is one of them
pub record IsUnitedAt (base : List ℕ) (file : PlacedFile) (place : ℕ) (draft : Draft) : Type 0 where
  pub prefix : List Bool
  pub left : ℕ
  pub right : ℕ
  pub one : IsOneOf place left right
  pub united : IsUnited base file prefix left right draft

-- the page at a place and its buddy were merged, or may not be
abbrev pub Settles : List ℕ → PlacedFile → ℕ → Draft → Draft → Type 0
Settles base file place old new = IsUnitedAt base file place new ⊎ (MayNotMerge file place × (new ≡ old))
