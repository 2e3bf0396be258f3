-- Keys that are met again.
use Rattle.std.specs.Prelude.{ℕ, zero, suc, Bool, true, false, List, [], ◌∷◌, ◌++◌, Option, Some, None, get_or, length, map, take}
use Rattle.std.specs.Ordering.{is_eq, nat_cmp}
use Rattle.std.specs.Cmp.Lexicographic.{slice_cmp}
use Rattle.exh_salvage.specs.declared.repeats.Repeat.{Repeat}
use Rattle.exh_salvage.specs.declared.salvage.SavedPair.{SavedPair}

abbrev pub keys_of : List SavedPair → List (List ℕ)
keys_of pairs = map (λ pair. pair.key) pairs

-- the keys are one
abbrev pub is_same : List ℕ → List ℕ → Bool
is_same first second = is_eq (slice_cmp nat_cmp first second)

-- a place, one further on; where there is none, the first, if the key is there
abbrev pub place_in : Option ℕ → Bool → Option ℕ
place_in (Some place) is_first = Some (suc place)
place_in None true = Some 0
place_in None false = None

-- the last place at which a key stands, if there is one
abbrev pub last_of : List (List ℕ) → List ℕ → Option ℕ
last_of [] key = None
last_of (first ∷ keys) key = place_in (last_of keys key) (is_same first key)

-- what is told of a place: nothing, or the last place before it with the same key
abbrev pub told_at : ℕ → Option ℕ → List Repeat
told_at index None = []
told_at index (Some earlier) = record { index = index; earlier = earlier } ∷ []

-- what is told of the first so many places
abbrev pub repeats_to : List (List ℕ) → ℕ → List Repeat
repeats_to keys zero = []
repeats_to keys (suc count) = repeats_to keys count ++ told_at count (last_of (take count keys) (get_or keys count []))

abbrev pub repeats_of : List (List ℕ) → List Repeat
repeats_of keys = repeats_to keys (length keys)
