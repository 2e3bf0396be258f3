-- What a commit saves, and what a crash leaves of it.
use Rattle.std.specs.Prelude.{◌≡◌, ◌⊎◌, Bool, ℕ, List, IsTrue, length, take}
use Rattle.exh_keyer.specs.declared.any_keyer.AnyKeyer.{AnyKeyer}
use Rattle.exh_table.specs.Table.{TableMap}
use Rattle.exh_page.specs.KeyMap.{KeyMap}
use Rattle.exh_page.specs.declared.file_settings.FileSettings.{FileSettings}
use Rattle.exh_map.specs.Reading.{AreBytes}
use Rattle.exh_map.specs.LegalPlaced.{IsLegalPlacedFile}
use Rattle.exh_map.specs.PlacedFile.{PlacedFile, lows_of}
use Rattle.exh_map.specs.Draft.{DraftState, IsDraftSaving}
use Rattle.exh_map.specs.declared.Stamps.{Stamps}
use Rattle.exhash.specs.CallChange.{HasPairs, HasStamps, HasState}
use Rattle.exhash.specs.PlacedLaws.{map_in}

-- the draft's page file has these pairs and stamps
abbrev pub Drafts : KeyMap → Stamps → DraftState → Type 0
Drafts whole stamps draft = (bytes : List ℕ) → IsDraftSaving draft bytes → HasPairs bytes whole × HasStamps bytes stamps.own stamps.before

-- the bytes are those of a legal page file whose first pages have these low bounds, and the draft's are
pub record HasPlaces (lows : List ℕ) (bytes : List ℕ) : Type 0 where
  pub file : PlacedFile
  pub tables : List TableMap
  pub legal : IsLegalPlacedFile file tables bytes
  pub begins : take (length lows) (lows_of file.pages) ≡ lows

abbrev pub DraftsPlaces : List ℕ → DraftState → Type 0
DraftsPlaces lows draft = (bytes : List ℕ) → IsDraftSaving draft bytes → HasPlaces lows bytes

-- the bytes are those of a legal page file of version 3 with these settings, these pairs and this stamp
pub record IsFileOf (settings : FileSettings AnyKeyer) (pairs : KeyMap) (own : ℕ) (bytes : List ℕ) : Type 0 where
  pub file : PlacedFile
  pub tables : List TableMap
  pub are_bytes : AreBytes bytes
  pub legal : IsLegalPlacedFile file tables bytes
  pub settings_are : file.header.settings ≡ settings
  pub is : map_in file ≡ pairs
  pub stamp_is : file.header.stamp ≡ own

-- those of a state behind the one with a stamp
abbrev pub stamps_behind : ℕ → ℕ → Stamps
stamps_behind before own = record { own = own; before = before }

-- no block changed, or a legal page file has the new stamp, and before it that of the state that was opened
abbrev pub AreStamps : Stamps → List ℕ → List ℕ → Type 0
AreStamps stamps old new = (new ≡ old) ⊎ HasStamps new stamps.own stamps.before

-- the bytes are a legal page file with these pairs and stamps, where the disk tells the truth
abbrev pub IsCommitted : Bool → KeyMap → Stamps → List ℕ → List ℕ → Type 0
IsCommitted truthful whole stamps old new = IsTrue truthful → HasPairs new whole × AreStamps stamps old new

abbrev pub IsOldOrCommitted : Bool → KeyMap → Stamps → List ℕ → List ℕ → Type 0
IsOldOrCommitted truthful whole stamps old new = (new ≡ old) ⊎ IsCommitted truthful whole stamps old new

-- the pages that had places, which are the first ones, have them
abbrev pub KeepsPlaces : Bool → List ℕ → List ℕ → Type 0
KeepsPlaces truthful lows new = IsTrue truthful → HasPlaces lows new

-- and it is in the state of this stamp
abbrev pub IsCommittedAs : Bool → KeyMap → Stamps → ℕ → List ℕ → List ℕ → Type 0
IsCommittedAs truthful whole stamps now old new = IsTrue truthful → HasState new whole now × AreStamps stamps old new
