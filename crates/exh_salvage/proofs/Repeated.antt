-- One key more.
use Rattle.std.proofs.Common.{◌≡◌, ℕ, suc, ◌+◌, ◌<◌, Bool, true, false, cond, List, [], ◌∷◌, ◌++◌, Option, Some, None, get_or, length, take, refl, sym, ap, ◌∙◌, subst, arith}
use Rattle.std.proofs.lemmas.List.{length-take-le, take_more}
use Rattle.std.proofs.lemmas.Option.{get_or_from_slice_get, slice_get-map, slice_get_read}
use Rattle.std.specs.Prelude.{option_map}
use Rattle.exh_salvage.specs.Repeats.{is_same, keys_of, last_of, place_in, repeats_to, told_at}
use Rattle.exh_salvage.specs.declared.repeats.Repeat.{Repeat}
use Rattle.exh_salvage.specs.declared.salvage.SavedPair.{SavedPair}

alone : (is_last : Bool) → place_in None is_last ≡ cond is_last (Some 0) None
alone true = refl
alone false = refl

further : (is_last is_first : Bool) (place : ℕ) (rest : Option ℕ) → place_in (cond is_last (Some place) rest) is_first ≡ cond is_last (Some (suc place)) (place_in rest is_first)
further true is_first place rest = refl
further false is_first place rest = refl

last_pushed : (keys : List (List ℕ)) (last key : List ℕ) → last_of (keys ++ last ∷ []) key ≡ cond (is_same last key) (Some (length keys)) (last_of keys key)
last_pushed [] last key = alone (is_same last key)
last_pushed (first ∷ keys) last key =
    ap (λ (place : Option ℕ). place_in place (is_same first key)) (last_pushed keys last key) ∙ further (is_same last key) (is_same first key) (length keys) (last_of keys key)

-- the key of a pair
pub key_at : (pairs : List SavedPair) (index : ℕ) (pair : SavedPair) → index < length pairs → pair ≡ get_or pairs index pair → pair.key ≡ get_or (keys_of pairs) index []
key_at pairs index pair within is =
    let there = slice_get-map (λ (pair : SavedPair). pair.key) pairs index ∙ ap (option_map (λ (pair : SavedPair). pair.key)) (slice_get_read pairs (length pairs) index pair refl within is) in
    sym (get_or_from_slice_get (keys_of pairs) index pair.key [] there)

pub last_more : (keys : List (List ℕ)) (index : ℕ) (met key : List ℕ) (old new : Option ℕ) → index < length keys → met ≡ get_or keys index [] → old ≡ last_of (take index keys) key → new ≡ cond (is_same met key) (Some index) old
    → new ≡ last_of (take (index + 1) keys) key
last_more keys index met key old new within is was now =
    let count : length (take index keys) ≡ index = length-take-le index keys (omega (arith, within)) in
    now
    ∙ ap (cond (is_same met key) (Some index)) was
    ∙ sym (ap (λ (n : ℕ). cond (is_same met key) (Some n) (last_of (take index keys) key)) count)
    ∙ sym (last_pushed (take index keys) met key)
    ∙ ap (λ (k : List ℕ). last_of (take index keys ++ k ∷ []) key) is
    ∙ sym (ap (λ (ks : List (List ℕ)). last_of ks key) (take_more keys index [] within))

pub told_more : (keys : List (List ℕ)) (index : ℕ) (met : List ℕ) (old new : List Repeat) (earlier : Option ℕ) → met ≡ get_or keys index [] → old ≡ repeats_to keys index → earlier ≡ last_of (take index keys) met → new ≡ old ++ told_at index earlier
    → new ≡ repeats_to keys (index + 1)
told_more keys index met old new earlier is was earlier_is now =
    let one : suc index ≡ index + 1 = omega arith in
    subst (λ (count : ℕ). new ≡ repeats_to keys count) one
    (now ∙ ap (λ (first : List Repeat). first ++ told_at index earlier) was ∙ ap (λ (place : Option ℕ). repeats_to keys index ++ told_at index place) (earlier_is ∙ ap (last_of (take index keys)) is))
