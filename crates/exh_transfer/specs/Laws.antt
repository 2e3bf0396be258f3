-- What holds of each export that is imported.
use Rattle.std.specs.Prelude.{◌≡◌, ◌⊎◌, ◌<◌, ◌+◌, ◌^◌, ℕ, Bool, true, false, List, [], ◌∷◌, length, All, Option, Some, None}
use Rattle.std.specs.FinMap.{empty, from_entries}
use Rattle.exh_keyer.specs.Pseudokey.{any_pseudokey}
use Rattle.exh_keyer.specs.declared.any_keyer.AnyKeyer.{AnyKeyer}
use Rattle.exh_page.specs.KeyMap.{KeyMap}
use Rattle.exh_page.specs.declared.file_settings.FileSettings.{FileSettings}
use Rattle.exh_calls.specs.MapMachine.{map_after}
use Rattle.exh_calls.specs.declared.call.Call.TheVariants.{Put}
use Rattle.exh_pair_text.specs.Laws.{IsPair}
use Rattle.exh_pair_text.specs.Parts.{parts_of, usual}
use Rattle.exh_import.specs.declared.imported.Imported.{Imported}
use Rattle.exh_import.specs.declared.imported_store.Added.{Added}
use Rattle.exh_import.specs.declared.options.ImportOptions.{ImportOptions}
use Rattle.exh_import.specs.declared.rejection.Rejection.{Rejection}
use Rattle.exh_import.specs.Imports.{EndsSo, Imports, IsTextOf}
use Rattle.exh_import.specs.Pairs.{ArePut, pairs_put}
use Rattle.exh_compact.specs.FileChange.{HasMap}
use Rattle.exh_compact.specs.Opened.{settings_in}
use Rattle.exh_map.specs.Pairs.{AreOnce}
use Rattle.exh_run.specs.declared.Store.{Store}
use Rattle.exh_transfer.specs.Exports.{export_text}
use Rattle.exh_transfer.specs.Imports.{IsAddedTo, KeepsPairs}

-- keys and values, as many as 64 bits count
pub record ArePairs (pairs : List (List ℕ × List ℕ)) : Type 0 where
  pub each : All (λ pair. IsPair pair.0 pair.1) pairs
  pub few : length pairs < 2 ^ 64

-- the usual layout, and nothing taken before
pub record AreUsual (options : ImportOptions) : Type 0 where
  pub layout : parts_of options.layout ≡ usual
  pub begun : options.begun ≡ record { is_opened = false; has_header = false }

-- what an export of pairs prints in the format of these options, in hexadecimal as they say
abbrev pub printed_for : ImportOptions → Bool → List (List ℕ × List ℕ) → List ℕ
printed_for options bare pairs = export_text options.format options.is_hex bare pairs

-- the lines of that
pub record AreExported (options : ImportOptions) (bare : Bool) (pairs : List (List ℕ × List ℕ)) (lines : List (List ℕ)) : Type 0 where
  pub usual_are : AreUsual options
  pub pairs_are : ArePairs pairs
  pub text : IsTextOf options.format lines (printed_for options bare pairs)

-- there are such lines
abbrev pub ExportsHaveLines : Type 0
ExportsHaveLines = (options : ImportOptions) (bare : Bool) (pairs : List (List ℕ × List ℕ)) → ArePairs pairs → (lines : List (List ℕ)) × IsTextOf options.format lines (printed_for options bare pairs)

-- the pairs that are put are those that were exported, in their order
abbrev pub ExportsAreImported : Type 0
ExportsAreImported = (options : ImportOptions) (bare : Bool) (pairs : List (List ℕ × List ℕ)) (lines : List (List ℕ)) → AreExported options bare pairs lines → pairs_put options lines ≡ pairs

-- no line was rejected and no end is missing, and so many were put or found no room
pub record IsWhole (count : ℕ) (imported : Imported) : Type 0 where
  pub rejected : imported.rejected ≡ 0
  pub cut_off : imported.is_cut_off ≡ false
  pub told : imported.pairs + imported.full ≡ count

-- into any store
module _ {S L : Type 0} (gives : S → List ℕ → List ℕ → Added → S → Type 0) (saves rests : S → S → Type 0) (told : L → ℕ → Rejection → List ℕ → L → Type 0) where
  abbrev pub ExportsAreWhole : Type 0
  ExportsAreWhole = (options : ImportOptions) (bare : Bool) (pairs : List (List ℕ × List ℕ)) (lines : List (List ℕ)) (whole : Bool) (store store' : S) (listener listener' : L) (imported : Imported) → AreExported options bare pairs lines
      → EndsSo whole lines (printed_for options bare pairs) → Imports gives saves rests told options whole lines store listener imported store' listener' → IsWhole (length pairs) imported

-- the store that is held has this map
abbrev pub HasMapHeld : Option Store → KeyMap → Type 0
HasMapHeld None whole = ⊥
HasMapHeld (Some store) whole = HasMap store.map whole

-- a put is one into the map of the store that is held, and a commit keeps that
pub record HoldsOneMap {S : Type 0} (gives : S → List ℕ → List ℕ → Added → S → Type 0) (saves : S → S → Type 0) (held : S → Option Store) : Type 0 where
  pub puts : (old new : S) (key value : List ℕ) (added : Added) → gives old key value added new → IsAddedTo (held old) key value added (held new)
  pub commits : (old new : S) → saves old new → KeepsPairs (held old) (held new)

-- nobody else changes the map, or the settings, while the store rests
abbrev pub IsLeftAlone : {S : Type 0} → (S → S → Type 0) → (S → Option Store) → Type 0
IsLeftAlone {S} rests held = (old new : S) → rests old new → KeepsPairs (held old) (held new)

module _ {S L : Type 0} (gives : S → List ℕ → List ℕ → Added → S → Type 0) (saves rests : S → S → Type 0) (told : L → ℕ → Rejection → List ℕ → L → Type 0) where
  -- all pairs are committed at once, or nobody else changes the map
  abbrev pub IsAlone : ImportOptions → (S → Option Store) → Type 0
  IsAlone options held = (options.is_atomic ≡ true) ⊎ IsLeftAlone rests held

  -- a store without pairs has the map of those that were exported, where no key stands twice among them and none found no room
  abbrev pub ExportsGiveTheirMap : Type 0
  ExportsGiveTheirMap = (held : S → Option Store) (options : ImportOptions) (bare : Bool) (pairs : List (List ℕ × List ℕ)) (lines : List (List ℕ)) (whole : Bool) (store store' : S) (listener listener' : L) (imported : Imported) → HoldsOneMap gives saves held → IsAlone options held
      → AreExported options bare pairs lines → AreOnce pairs → HasMapHeld (held store) empty → EndsSo whole lines (printed_for options bare pairs) → Imports gives saves rests told options whole lines store listener imported store' listener' → imported.full ≡ 0 → HasMapHeld (held store') (from_entries pairs)

-- ---- any import

-- the store that is held has these settings and this map
abbrev pub IsOfMap : FileSettings AnyKeyer → KeyMap → Option Store → Type 0
IsOfMap settings whole None = ⊥
IsOfMap settings whole (Some store) = (settings_in store.map ≡ settings) × HasMap store.map whole

-- the map behind pairs that are put in order: the map machine's, which leaves out a pair whose key finds no room
abbrev pub map_with : FileSettings AnyKeyer → KeyMap → List (List ℕ × List ℕ) → KeyMap
map_with settings whole [] = whole
map_with settings whole (pair ∷ pairs) = map_with settings (map_after settings.cap (any_pseudokey settings.keyer) whole (Put pair.0 pair.1)) pairs

-- so is a store's whose puts, commits and rests are told so
abbrev pub PutsLeaveTheMachinesMap : {S : Type 0} → (S → List ℕ → List ℕ → Added → S → Type 0) → (S → S → Type 0) → (S → S → Type 0) → Type 0
PutsLeaveTheMachinesMap {S} gives saves rests = (held : S → Option Store) (settings : FileSettings AnyKeyer) (whole : KeyMap) (pairs : List (List ℕ × List ℕ)) (store store' : S) → HoldsOneMap gives saves held → IsLeftAlone rests held
    → ArePut gives saves rests pairs store store' → IsOfMap settings whole (held store) → IsOfMap settings (map_with settings whole pairs) (held store')
