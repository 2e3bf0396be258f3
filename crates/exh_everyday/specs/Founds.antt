-- Keys that are asked for together, and what is found of each.
use Rattle.std.specs.Prelude.{◌≡◌, ⊤, ◌⊎◌, ℕ, List, [], ◌∷◌, ◌++◌, map, flat_map, Option, None, Some, Ok, Err}
use Rattle.std.specs.List.{AllByRecursion}
use Rattle.std.specs.FinMap as fin
use Rattle.exh_page.specs.KeyMap.{KeyMap}
use Rattle.exh_direct.specs.declared.direct_fault.DirectFault.{DirectFault}
use Rattle.exh_transfer.specs.AnyAnswer.{IsOfLegal}
use Rattle.exh_transfer.specs.FileChange.{HasMap}
use Rattle.exh_transfer.specs.Opened.{OpenedState}
use Rattle.exh_transfer.specs.FileMap.{IsRemoved}
use Rattle.exh_everyday.specs.declared.found.Found.{Found}

-- ---- one key

-- a key that is asked for, and the value that is found of it, if it has one
abbrev pub Asked : Type 0
Asked = List ℕ × Option (List ℕ)

-- it stands with its value, or among the absent keys
abbrev pub pair_if : List ℕ → Option (List ℕ) → List (List ℕ × List ℕ)
pair_if key (Some value) = (key, value) ∷ []
pair_if key None = []

abbrev pub absent_if : List ℕ → Option (List ℕ) → List (List ℕ)
absent_if key (Some value) = []
absent_if key None = key ∷ []

-- behind the others
pub record IsPushed (before : Found) (key : List ℕ) (value : Option (List ℕ)) (after : Found) : Type 0 where
  pub pairs : after.pairs ≡ before.pairs ++ pair_if key value
  pub absent : after.absent.items ≡ before.absent.items ++ absent_if key value

-- ---- all keys

abbrev pub keys_of : List Asked → List (List ℕ)
keys_of asked = map (λ one. one.0) asked

abbrev pub pairs_of : List Asked → List (List ℕ × List ℕ)
pairs_of asked = flat_map (λ one. pair_if one.0 one.1) asked

abbrev pub absent_of : List Asked → List (List ℕ)
absent_of asked = flat_map (λ one. absent_if one.0 one.1) asked

-- of each key of a list, as often as it stands there and in this order, something is found, and of no other, behind what was
-- found before
pub record AreAdded (keys : List (List ℕ)) (before : Found) (asked : List Asked) (after : Found) : Type 0 where
  pub each : keys_of asked ≡ keys
  pub pairs : after.pairs ≡ before.pairs ++ pairs_of asked
  pub absent : after.absent.items ≡ before.absent.items ++ absent_of asked

-- the same where nothing was found before
pub record AreFound (keys : List (List ℕ)) (asked : List Asked) (found : Found) : Type 0 where
  pub each : keys_of asked ≡ keys
  pub pairs : found.pairs ≡ pairs_of asked
  pub absent : found.absent.items ≡ absent_of asked

-- whatever file it is found in
abbrev pub AreOfKeys : List (List ℕ) → Found → Type 0
AreOfKeys keys found = (asked : List Asked) × AreFound keys asked found

-- ---- in a file of known bytes

-- a key has this value, that of the file's map where the file is legal
abbrev pub IsOfFile : Option (List ℕ) → List ℕ → Option (List ℕ) → Type 0
IsOfFile known key value = (old : Option (List ℕ)) × ((new : Option (List ℕ)) × IsOfLegal known key old new (Ok value))

-- a fault, that is none of the file where the file is legal
abbrev pub IsFaultOf : Option (List ℕ) → DirectFault → Type 0
IsFaultOf known fault = (key : List ℕ) × ((old : Option (List ℕ)) × ((new : Option (List ℕ)) × IsOfLegal known key old new (Err fault)))

abbrev pub IsFoundOne : Option (List ℕ) → List ℕ → Found → Found → Type 0
IsFoundOne known key before after = (value : Option (List ℕ)) × (IsOfFile known key value × IsPushed before key value after)

pub record AreOfFile (known : Option (List ℕ)) (keys : List (List ℕ)) (before after : Found) : Type 0 where
  pub asked : List Asked
  pub added : AreAdded keys before asked after
  pub are : AllByRecursion (λ one. IsOfFile known one.0 one.1) asked

pub record AreFoundIn (known : Option (List ℕ)) (keys : List (List ℕ)) (found : Found) : Type 0 where
  pub asked : List Asked
  pub all : AreFound keys asked found
  pub are : AllByRecursion (λ one. IsOfFile known one.0 one.1) asked

-- ---- of keys that are taken out of a map, one behind the other

abbrev pub IsAmong : List ℕ → List (List ℕ) → Type 0
IsAmong key [] = ⊥
IsAmong key (other ∷ keys) = (key ≡ other) ⊎ IsAmong key keys

-- a map without these keys, in which all others have what they had
pub record IsWithout (whole : KeyMap) (keys : List (List ℕ)) (left : KeyMap) : Type 0 where
  pub out : (key : List ℕ) → IsAmong key keys → fin.get left key ≡ None
  pub others : (key : List ℕ) → (IsAmong key keys → ⊥) → fin.get left key ≡ fin.get whole key

-- a key has what the map has at it once the keys before it are out
pub record IsOut (whole : KeyMap) (before : List (List ℕ)) (key : List ℕ) (value : Option (List ℕ)) : Type 0 where
  pub left : KeyMap
  pub without : IsWithout whole before left
  pub is : value ≡ fin.get left key

abbrev pub AreOut : KeyMap → List (List ℕ) → List Asked → Type 0
AreOut whole before [] = ⊤
AreOut whole before (one ∷ asked) = IsOut whole before one.0 one.1 × AreOut whole (before ++ one.0 ∷ []) asked

-- of a file that had this map, whose map is then without the keys
pub record IsLeft (whole : KeyMap) (asked : List Asked) (after : OpenedState) : Type 0 where
  pub had : AreOut whole [] asked
  pub left : KeyMap
  pub map : HasMap after left
  pub without : IsWithout whole (keys_of asked) left

abbrev pub IsTakenOne : OpenedState → List ℕ → Found → Found → OpenedState → Type 0
IsTakenOne old key before after new = (value : Option (List ℕ)) × (IsRemoved old key value new × IsPushed before key value after)

-- whichever map the file had
pub record AreTaken (old : OpenedState) (keys : List (List ℕ)) (before after : Found) (new : OpenedState) : Type 0 where
  pub asked : List Asked
  pub added : AreAdded keys before asked after
  pub taken : (whole : KeyMap) → HasMap old whole → IsLeft whole asked new
