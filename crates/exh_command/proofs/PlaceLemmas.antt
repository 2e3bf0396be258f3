-- Words at places: they stand at the first ones, and the next one has its position.
use Rattle.std.proofs.Common.{◌≡◌, ◌∙◌, ℕ, ◌+◌, Bool, true, false, List, [], ◌∷◌, ◌++◌, Some, refl, sym, ap, ap₂, subst, cond}
use Rattle.std.specs.Prelude.{not, ◌&&◌, ◌||◌}
use Rattle.std.specs.List.{list_any}
use Rattle.std.specs.Str.{bytes_eq}
use Rattle.std.proofs.lemmas.Bool.{and_parts}
use Rattle.std.proofs.lemmas.Slice.Eq.{bytes_eq-Decides}
use Rattle.clap.specs.Words.{Text}
use Rattle.exh_command.specs.Words.{Use, gives, is_named, is_use_of, next_place}
use Rattle.exh_command.proofs.WordLemmas.{is_name, some_is}

-- ---- tests

pub or-true : (b : Bool) → (b || true) ≡ true
or-true true = refl
or-true false = refl

pub or-false : (b : Bool) → (b || false) ≡ b
or-false true = refl
or-false false = refl

pub false-or : (a b : Bool) → (a || b) ≡ false → (a ≡ false) × (b ≡ false)
false-or true b none = cc
false-or false b none = (refl, none)

pub not-true : (b : Bool) → not b ≡ true → b ≡ false
not-true true e = cc
not-true false e = refl

one_first : (first all others last : Bool) → all ≡ (others || last) → (first || all) ≡ ((first || others) || last)
one_first true all others last same = refl
one_first false all others last same = same

-- ---- a use more

pub gives_more : (name : Text) (uses : List Use) (one : Use) → gives (uses ++ one ∷ []) name ≡ (gives uses name || is_use_of name one)
gives_more name [] one = or-false (is_use_of name one)
gives_more name (first ∷ uses) one = one_first (is_use_of name first) _ (gives uses name) (is_use_of name one) (gives_more name uses one)

-- it is of none of the places
abbrev pub IsOfNone : List Text → Use → Type 0
IsOfNone places one = list_any (λ place. bytes_eq one.name place) places ≡ false

gives_kept : (place : Text) (uses : List Use) (one : Use) → bytes_eq one.name place ≡ false → gives (uses ++ one ∷ []) place ≡ gives uses place
gives_kept place uses one apart = gives_more place uses one ∙ ap (λ b. gives uses place || b) apart ∙ or-false (gives uses place)

any_kept : (places : List Text) (uses : List Use) (one : Use) → IsOfNone places one → list_any (gives (uses ++ one ∷ [])) places ≡ list_any (gives uses) places
any_kept [] uses one apart = refl
any_kept (place ∷ places) uses one apart =
    let parts = false-or (bytes_eq one.name place) (list_any (λ place. bytes_eq one.name place) places) apart in
    ap₂ (λ a b. a || b) (gives_kept place uses one parts.0) (any_kept places uses one parts.1)

-- an option's name is no place's
pub options_apart : (places names : List Text) (name : Text) → list_any (is_named names) places ≡ false → is_named names name ≡ true → list_any (λ place. bytes_eq name place) places ≡ false
options_apart [] names name none named = refl
options_apart (place ∷ places) names name none named =
    let parts = false-or (is_named names place) (list_any (is_named names) places) none in
    ap₂ (λ a b. a || b) (go (bytes_eq name place) refl parts.0) (options_apart places names name parts.1 named)
  where
    go : (same : Bool) → bytes_eq name place ≡ same → is_named names place ≡ false → bytes_eq name place ≡ false
    go true e none = absurd (let never : true ≡ false = sym named ∙ ap (is_named names) (is_name name place e) ∙ none in cc)
    go false e none = e

-- ---- where the next word stands

-- the position of the first place without a word
abbrev pub position_of : List Text → List Use → ℕ
position_of [] uses = 1
position_of (place ∷ places) uses = cond (gives uses place) (1 + position_of places uses) 1

-- the places with a word are the first ones
abbrev pub in_order : List Text → List Use → Bool
in_order [] uses = true
in_order (place ∷ places) uses = cond (gives uses place) (in_order places uses) (not (list_any (gives uses) places))

pub position_kept : (places : List Text) (uses : List Use) (one : Use) → IsOfNone places one → position_of places (uses ++ one ∷ []) ≡ position_of places uses
position_kept [] uses one apart = refl
position_kept (place ∷ places) uses one apart =
    let parts = false-or (bytes_eq one.name place) (list_any (λ place. bytes_eq one.name place) places) apart in
    ap₂ (λ (b : Bool) (n : ℕ). cond b (1 + n) 1) (gives_kept place uses one parts.0) (position_kept places uses one parts.1)

pub order_kept : (places : List Text) (uses : List Use) (one : Use) → IsOfNone places one → in_order places (uses ++ one ∷ []) ≡ in_order places uses
order_kept [] uses one apart = refl
order_kept (place ∷ places) uses one apart =
    let parts = false-or (bytes_eq one.name place) (list_any (λ place. bytes_eq one.name place) places) apart in
    ap₂ (λ (b : Bool) (p : Bool × Bool). cond b p.0 (not p.1)) (gives_kept place uses one parts.0) (ap₂ (λ (a b : Bool). (a, b)) (order_kept places uses one parts.1) (any_kept places uses one parts.1))

-- places without a word
unstarted : (places : List Text) (uses : List Use) → list_any (gives uses) places ≡ false → (in_order places uses ≡ true) × (position_of places uses ≡ 1)
unstarted [] uses none = (refl, refl)
unstarted (place ∷ places) uses none =
    let parts = false-or (gives uses place) (list_any (gives uses) places) none in
    (rw (parts.0, parts.1) refl, rw parts.0 refl)

none_given : (places : List Text) → list_any (gives []) places ≡ false
none_given [] = refl
none_given (place ∷ places) = none_given places

pub at_start : (places : List Text) → (in_order places [] ≡ true) × (position_of places [] ≡ 1)
at_start places = unstarted places [] (none_given places)

-- ---- a word at the next place

pub next_found : (places : List Text) (uses : List Use) (place : Text) → next_place places uses ≡ Some place → (is_named places place ≡ true) × (gives uses place ≡ false)
next_found [] uses place next = cc
next_found (first ∷ places) uses place next = go (gives uses first) refl next (next_found places uses place)
  where
    go : (given : Bool) → gives uses first ≡ given → cond (not given) (Some first) (next_place places uses) ≡ Some place
        → (next_place places uses ≡ Some place → (is_named places place ≡ true) × (gives uses place ≡ false)) → (is_named (first ∷ places) place ≡ true) × (gives uses place ≡ false)
    go true e next more = let rest = more next in (ap (λ b. bytes_eq first place || b) rest.0 ∙ or-true (bytes_eq first place), rest.1)
    go false e next more =
        let same : first ≡ place = some_is next in
        (ap (λ b. b || is_named places place) ((bytes_eq-Decides first place).1 same), subst (λ place. gives uses place ≡ false) same e)

-- no place has the name of another
abbrev pub are_distinct : List Text → Bool
are_distinct [] = true
are_distinct (place ∷ places) = not (list_any (λ other. bytes_eq place other) places) && are_distinct places

module _ (first : Text) (places : List Text) (uses : List Use) (place word : Text) where
  abbrev one : Use
  one = record { name = place; value = word }

  abbrev more : List Use
  more = uses ++ one ∷ []

  abbrev IsTaken : Bool → Type 0
  IsTaken given = (cond given (in_order places more) (not (list_any (gives more) places)) ≡ true) × (cond given (1 + position_of places more) 1 ≡ 1 + cond (gives uses first) (1 + position_of places uses) 1)

  now_given : gives more first ≡ (gives uses first || bytes_eq place first)
  now_given = gives_more first uses one

  one_further : (given : Bool) (n : ℕ) → gives uses first ≡ given → n ≡ cond given (1 + position_of places uses) 1 → 1 + n ≡ 1 + cond (gives uses first) (1 + position_of places uses) 1
  one_further given n e same = ap (λ n. 1 + n) (same ∙ ap (λ (b : Bool). cond b (1 + position_of places uses) 1) (sym e))

  taken : not (list_any (λ other. bytes_eq first other) places) ≡ true → (given : Bool) → gives uses first ≡ given → cond given (in_order places uses) (not (list_any (gives uses) places)) ≡ true
      → cond (not given) (Some first) (next_place places uses) ≡ Some place
      → (in_order places uses ≡ true → next_place places uses ≡ Some place → (in_order places more ≡ true) × (position_of places more ≡ 1 + position_of places uses)) → IsTaken (gives more first)
  taken apart true e ordered next on =
      let rest = on ordered next in
      let given : gives more first ≡ true = now_given ∙ ap (λ b. b || bytes_eq place first) e in
      subst IsTaken (sym given) (rest.0, one_further true _ e rest.1)
  taken apart false e ordered next on =
      let same : first ≡ place = some_is next in
      let given : gives more first ≡ true = now_given ∙ ap (λ b. b || bytes_eq place first) e ∙ (bytes_eq-Decides place first).1 (sym same) in
      let other : IsOfNone places one = subst (λ first. list_any (λ other. bytes_eq first other) places ≡ false) same (not-true _ apart) in
      let fresh = unstarted places more (any_kept places uses one other ∙ not-true _ ordered) in
      subst IsTaken (sym given) (fresh.0, one_further false _ e fresh.1)

-- it stays in order, and the next position is one further
pub next_taken : (places : List Text) (uses : List Use) (place word : Text) → are_distinct places ≡ true → in_order places uses ≡ true → next_place places uses ≡ Some place
    → (in_order places (uses ++ record { name = place; value = word } ∷ []) ≡ true) × (position_of places (uses ++ record { name = place; value = word } ∷ []) ≡ 1 + position_of places uses)
next_taken [] uses place word distinct ordered next = cc
next_taken (first ∷ places) uses place word distinct ordered next =
    let parts = and_parts (not (list_any (λ other. bytes_eq first other) places)) (are_distinct places) distinct in
    taken first places uses place word parts.0 (gives uses first) refl ordered next (next_taken places uses place word parts.1)
