-- Slots as the requests that stand in them.
use Rattle.std.proofs.Common.{◌≡◌, ℕ, ◌+◌, ◌<◌, Bool, true, false, cond, not, List, [], ◌∷◌, ◌++◌, filter, Option, None, Some, refl, sym, ap, subst, ◌∙◌, arith, true≢false}
use Rattle.std.specs.Prelude.{nat_eq}
use Rattle.std.specs.List.{AllByRecursion, IsDistinct}
use Rattle.std.specs.Map.{lookup, set_value, keys_of}
use Rattle.std.specs.Option.{option_map_or}
use Rattle.std.proofs.lemmas.Bool.{eq-eqb, eqb-true}
use Rattle.std.proofs.lemmas.List.Elements.{All-push, All-weaker, All-filter, All-from_recursion, recursion_from_All}
use Rattle.indexmap.specs.IndexMap.{insert_entry}
use Rattle.exh_world.specs.InFlight.{Requests, request_named, moved_to, without}
use Rattle.exh_world.specs.Slots.{before_others, standing_in, StandsAt, AreKept}
use Rattle.exh_world.specs.declared.request.Request.{Request}
use Rattle.exh_world.specs.declared.slot.Slot.{Slot}

abbrev pub Slots : Type 0
Slots = List (ℕ × Slot)

-- ---- requests without one of a name

pub without-absent : (name : ℕ) (requests : Requests) → request_named name requests ≡ None → without name requests ≡ requests
without-absent name [] = λ none. refl
without-absent name (e ∷ requests) =
    elim (nat_eq name e.0) as (λ b. cond b (Some e.1) (request_named name requests) ≡ None → cond b requests (e ∷ without name requests) ≡ e ∷ requests) [
      | true ↦ λ none. cc
      | false ↦ λ none. ap (λ (rest : Requests). e ∷ rest) (without-absent name requests none)
    ]

-- ---- one slot before others

-- a request that stands is the first
stands_first : (slot : Slot) (requests : Requests) → slot.is_answered ≡ false → before_others slot requests ≡ (slot.name, slot.request) ∷ requests
stands_first slot requests stands = ap (λ b. cond b requests ((slot.name, slot.request) ∷ requests)) stands

-- another name than those that stand
abbrev IsOther : ℕ → Slot → Type 0
IsOther name slot = slot.is_answered ≡ false → nat_eq name slot.name ≡ false

passed : (name : ℕ) (slot : Slot) (requests : Requests) → IsOther name slot → request_named name (before_others slot requests) ≡ request_named name requests
passed name slot requests other =
    elim slot.is_answered as (λ b. (b ≡ false → nat_eq name slot.name ≡ false) → request_named name (cond b requests ((slot.name, slot.request) ∷ requests)) ≡ request_named name requests) [
      | true ↦ λ other. refl
      | false ↦ λ other. ap (λ b. cond b (Some slot.request) (request_named name requests)) (other refl)
    ] other

passed_without : (name : ℕ) (slot : Slot) (requests : Requests) → IsOther name slot → without name (before_others slot requests) ≡ before_others slot (without name requests)
passed_without name slot requests other =
    elim slot.is_answered as (λ b. (b ≡ false → nat_eq name slot.name ≡ false) → without name (cond b requests ((slot.name, slot.request) ∷ requests)) ≡ cond b (without name requests) ((slot.name, slot.request) ∷ without name requests)) [
      | true ↦ λ other. refl
      | false ↦ λ other. ap (λ b. cond b requests ((slot.name, slot.request) ∷ without name requests)) (other refl)
    ] other

passed_written : (name : ℕ) (request : Request) (slot : Slot) (requests : Requests) → IsOther name slot
    → insert_entry nat_eq (before_others slot requests) name request ≡ before_others slot (insert_entry nat_eq requests name request)
passed_written name request slot requests other =
    elim slot.is_answered as (λ b. (b ≡ false → nat_eq name slot.name ≡ false) → insert_entry nat_eq (cond b requests ((slot.name, slot.request) ∷ requests)) name request ≡ cond b (insert_entry nat_eq requests name request) ((slot.name, slot.request) ∷ insert_entry nat_eq requests name request)) [
      | true ↦ λ other. refl
      | false ↦ λ other. ap (λ b. cond b ((slot.name, request) ∷ requests) ((slot.name, slot.request) ∷ insert_entry nat_eq requests name request)) (other refl)
    ] other

-- ---- names and their places

module _ (place_of : ℕ → Option ℕ) where
  abbrev pub IsNamed : ℕ × Slot → Type 0
  IsNamed e = e.1.is_answered ≡ false → place_of e.1.name ≡ Some e.0

  -- a name that has one place stands at no other
  apart : (name place at other : ℕ) → place_of name ≡ Some place → place_of other ≡ Some at → nat_eq place at ≡ false → nat_eq name other ≡ false
  apart name place at other there is differ =
      elim (nat_eq name other) as (λ b. nat_eq name other ≡ b → b ≡ false) [
        | true ↦ λ same.
            let both : Some place ≡ Some at = sym there ∙ ap place_of (eqb-true name other same) ∙ is in
            let here : place ≡ at = cc in
            absurd (true≢false (sym (eq-eqb place at here) ∙ differ))
        | false ↦ λ other. refl
      ] refl

  others : (name place at : ℕ) (slot : Slot) → IsNamed (at, slot) → place_of name ≡ Some place → nat_eq place at ≡ false → IsOther name slot
  others name place at slot named there differ = λ stands. apart name place at slot.name there (named stands) differ

  -- a name without a place stands nowhere
  pub unnamed : (name : ℕ) (slots : Slots) → AllByRecursion IsNamed slots → place_of name ≡ None → request_named name (standing_in slots) ≡ None
  unnamed name [] named none = refl
  unnamed name ((at, slot) ∷ slots) named none =
      passed name slot (standing_in slots) (λ stands.
      elim (nat_eq name slot.name) as (λ b. nat_eq name slot.name ≡ b → b ≡ false) [
        | true ↦ λ same. let clash : None ≡ Some at = sym none ∙ ap place_of (eqb-true name slot.name same) ∙ named.0 stands in cc
        | false ↦ λ other. refl
      ] refl)
      ∙ unnamed name slots named.1 none

  module _ (name place : ℕ) (there : place_of name ≡ Some place) (slot : Slot) (own : slot.name ≡ name) (stands : slot.is_answered ≡ false) where
    -- the slot is the first, or behind others of other names
    first_or_later : (P : Type 0) (at : ℕ) (first : Slot) (slots : Slots) → IsNamed (at, first) → lookup (nat_eq place) ((at, first) ∷ slots) ≡ Some slot
        → (nat_eq place at ≡ true → first ≡ slot → P) → (nat_eq place at ≡ false → IsOther name first → lookup (nat_eq place) slots ≡ Some slot → P) → P
    first_or_later P at first slots named is here later =
        elim (nat_eq place at) as (λ b. nat_eq place at ≡ b → cond b (Some first) (lookup (nat_eq place) slots) ≡ Some slot → P) [
          | true ↦ λ same is. here same cc
          | false ↦ λ differ is. later differ (others name place at first named there differ) is
        ] refl is

    named_first : (requests : Requests) → before_others slot requests ≡ (name, slot.request) ∷ requests
    named_first requests = stands_first slot requests stands ∙ ap (λ name. (name, slot.request) ∷ requests) own

    pub found : (slots : Slots) → AllByRecursion IsNamed slots → lookup (nat_eq place) slots ≡ Some slot → request_named name (standing_in slots) ≡ Some slot.request
    found [] named is = cc
    found ((at, first) ∷ slots) named is =
        first_or_later (request_named name (before_others first (standing_in slots)) ≡ Some slot.request) at first slots named.0 is
        (λ same one. ap (λ s. request_named name (before_others s (standing_in slots))) one ∙ ap (request_named name) (named_first (standing_in slots))
        ∙ ap (λ b. cond b (Some slot.request) (request_named name (standing_in slots))) (eq-eqb name name refl))
        (λ differ other is. passed name first (standing_in slots) other ∙ found slots named.1 is)

    -- marked, it is out
    pub marked : (new : Slot) → new.is_answered ≡ true → (slots : Slots) → AllByRecursion IsNamed slots → lookup (nat_eq place) slots ≡ Some slot → standing_in (set_value (nat_eq place) slots new) ≡ without name (standing_in slots)
    marked new answered [] named is = cc
    marked new answered ((at, first) ∷ slots) named is =
        first_or_later (standing_in (cond (nat_eq place at) ((at, new) ∷ slots) ((at, first) ∷ set_value (nat_eq place) slots new)) ≡ without name (before_others first (standing_in slots))) at first slots named.0 is
        (λ same one. ap (λ b. standing_in (cond b ((at, new) ∷ slots) ((at, first) ∷ set_value (nat_eq place) slots new))) same
        ∙ ap (λ b. cond b (standing_in slots) ((new.name, new.request) ∷ standing_in slots)) answered
        ∙ sym (ap (λ s. without name (before_others s (standing_in slots))) one ∙ ap (without name) (named_first (standing_in slots))
        ∙ ap (λ b. cond b (standing_in slots) ((name, slot.request) ∷ without name (standing_in slots))) (eq-eqb name name refl)))
        (λ differ other is. ap (λ b. standing_in (cond b ((at, new) ∷ slots) ((at, first) ∷ set_value (nat_eq place) slots new))) differ
        ∙ ap (before_others first) (marked new answered slots named.1 is) ∙ sym (passed_without name first (standing_in slots) other))

    -- written, it stands in its old place
    pub written : (new : Slot) → new.is_answered ≡ false → new.name ≡ name → (slots : Slots) → AllByRecursion IsNamed slots → lookup (nat_eq place) slots ≡ Some slot
        → standing_in (set_value (nat_eq place) slots new) ≡ insert_entry nat_eq (standing_in slots) name new.request
    written new new_stands new_own [] named is = cc
    written new new_stands new_own ((at, first) ∷ slots) named is =
        first_or_later (standing_in (cond (nat_eq place at) ((at, new) ∷ slots) ((at, first) ∷ set_value (nat_eq place) slots new)) ≡ insert_entry nat_eq (before_others first (standing_in slots)) name new.request) at first slots named.0 is
        (λ same one. ap (λ b. standing_in (cond b ((at, new) ∷ slots) ((at, first) ∷ set_value (nat_eq place) slots new))) same
        ∙ stands_first new (standing_in slots) new_stands ∙ ap (λ name. (name, new.request) ∷ standing_in slots) new_own
        ∙ sym (ap (λ s. insert_entry nat_eq (before_others s (standing_in slots)) name new.request) one ∙ ap (λ requests. insert_entry nat_eq requests name new.request) (named_first (standing_in slots))
        ∙ ap (λ b. cond b ((name, new.request) ∷ standing_in slots) ((name, slot.request) ∷ insert_entry nat_eq (standing_in slots) name new.request)) (eq-eqb name name refl)))
        (λ differ other is. ap (λ b. standing_in (cond b ((at, new) ∷ slots) ((at, first) ∷ set_value (nat_eq place) slots new))) differ
        ∙ ap (before_others first) (written new new_stands new_own slots named.1 is) ∙ sym (passed_written name new.request first (standing_in slots) other))

-- ---- slots at the end, and slots swept

pub standing-push : (slots : Slots) (place : ℕ) (slot : Slot) → slot.is_answered ≡ false → standing_in (slots ++ (place, slot) ∷ []) ≡ standing_in slots ++ (slot.name, slot.request) ∷ []
standing-push [] place slot stands = stands_first slot [] stands
standing-push ((at, first) ∷ slots) place slot stands =
    ap (before_others first) (standing-push slots place slot stands)
    ∙ elim first.is_answered as (λ b. cond b (standing_in slots ++ (slot.name, slot.request) ∷ []) ((first.name, first.request) ∷ (standing_in slots ++ (slot.name, slot.request) ∷ []))
    ≡ cond b (standing_in slots) ((first.name, first.request) ∷ standing_in slots) ++ (slot.name, slot.request) ∷ []) [ true ↦ refl | false ↦ refl ]

abbrev pub is_standing : ℕ × Slot → Bool
is_standing e = not e.1.is_answered

pub standing-swept : (slots : Slots) → standing_in (filter is_standing slots) ≡ standing_in slots
standing-swept [] = refl
standing-swept ((at, slot) ∷ slots) =
    elim slot.is_answered as (λ b. slot.is_answered ≡ b → standing_in (cond (not b) ((at, slot) ∷ filter is_standing slots) (filter is_standing slots)) ≡ cond b (standing_in slots) ((slot.name, slot.request) ∷ standing_in slots)) [
      | true ↦ λ is. standing-swept slots
      | false ↦ λ is. stands_first slot (standing_in (filter is_standing slots)) is ∙ ap (λ requests. (slot.name, slot.request) ∷ requests) (standing-swept slots)
    ] refl

-- ---- slots by their keys

eqb-sym : (one other : ℕ) → nat_eq one other ≡ false → nat_eq other one ≡ false
eqb-sym one other differ =
    elim (nat_eq other one) as (λ b. nat_eq other one ≡ b → b ≡ false) [
      | true ↦ λ same. absurd (true≢false (sym (eq-eqb one other (sym (eqb-true other one same))) ∙ differ))
      | false ↦ λ differ. refl
    ] refl

lookup-push : (slots : Slots) (key : ℕ) (slot : Slot) (last : ℕ × Slot) → lookup (nat_eq key) slots ≡ Some slot → lookup (nat_eq key) (slots ++ last ∷ []) ≡ Some slot
lookup-push [] key slot last = λ is. cc
lookup-push ((at, first) ∷ slots) key slot last =
    elim (nat_eq key at) as (λ b. cond b (Some first) (lookup (nat_eq key) slots) ≡ Some slot → cond b (Some first) (lookup (nat_eq key) (slots ++ last ∷ [])) ≡ Some slot) [
      | true ↦ λ is. is
      | false ↦ λ is. lookup-push slots key slot last is
    ]

not_above : (at key : ℕ) → at < key → nat_eq key at ≡ false
not_above at key below =
    elim (nat_eq key at) as (λ b. nat_eq key at ≡ b → b ≡ false) [ true ↦ λ same. let is : key ≡ at = eqb-true key at same in absurd (omega arith) | false ↦ λ differ. refl ] refl

lookup-last : (slots : Slots) (key : ℕ) (slot : Slot) → AllByRecursion (λ (e : ℕ × Slot). e.0 < key) slots → lookup (nat_eq key) (slots ++ (key, slot) ∷ []) ≡ Some slot
lookup-last [] key slot before = ap (λ b. cond b (Some slot) None) (eq-eqb key key refl)
lookup-last ((at, first) ∷ slots) key slot before =
    ap (λ b. cond b (Some first) (lookup (nat_eq key) (slots ++ (key, slot) ∷ []))) (not_above at key before.0) ∙ lookup-last slots key slot before.1

lookup-above : (slots : Slots) (key : ℕ) → AllByRecursion (λ (e : ℕ × Slot). e.0 < key) slots → lookup (nat_eq key) slots ≡ None
lookup-above [] key before = refl
lookup-above ((at, first) ∷ slots) key before = ap (λ b. cond b (Some first) (lookup (nat_eq key) slots)) (not_above at key before.0) ∙ lookup-above slots key before.1

lookup-set_value : (slots : Slots) (key : ℕ) (old new : Slot) → lookup (nat_eq key) slots ≡ Some old → lookup (nat_eq key) (set_value (nat_eq key) slots new) ≡ Some new
lookup-set_value [] key old new = λ is. cc
lookup-set_value ((at, first) ∷ slots) key old new =
    elim (nat_eq key at) as (λ b. nat_eq key at ≡ b → cond b (Some first) (lookup (nat_eq key) slots) ≡ Some old → lookup (nat_eq key) (cond b ((at, new) ∷ slots) ((at, first) ∷ set_value (nat_eq key) slots new)) ≡ Some new) [
      | true ↦ λ same is. ap (λ b. cond b (Some new) (lookup (nat_eq key) slots)) same
      | false ↦ λ differ is. ap (λ b. cond b (Some first) (lookup (nat_eq key) (set_value (nat_eq key) slots new))) differ ∙ lookup-set_value slots key old new is
    ] refl

lookup-set_other : (slots : Slots) (key other : ℕ) (new : Slot) → nat_eq key other ≡ false → lookup (nat_eq other) (set_value (nat_eq key) slots new) ≡ lookup (nat_eq other) slots
lookup-set_other [] key other new differ = refl
lookup-set_other ((at, first) ∷ slots) key other new differ =
    elim (nat_eq key at) as (λ b. nat_eq key at ≡ b → lookup (nat_eq other) (cond b ((at, new) ∷ slots) ((at, first) ∷ set_value (nat_eq key) slots new)) ≡ lookup (nat_eq other) ((at, first) ∷ slots)) [
      | true ↦ λ same.
          let P : ℕ → Type 0 = λ k. nat_eq k other ≡ false in
          let away = eqb-sym at other (subst P (eqb-true key at same) differ) in
          ap (λ b. cond b (Some new) (lookup (nat_eq other) slots)) away ∙ sym (ap (λ b. cond b (Some first) (lookup (nat_eq other) slots)) away)
      | false ↦ λ apart. ap (cond (nat_eq other at) (Some first)) (lookup-set_other slots key other new differ)
    ] refl

lookup-swept : (slots : Slots) (key : ℕ) (slot : Slot) → slot.is_answered ≡ false → lookup (nat_eq key) slots ≡ Some slot → lookup (nat_eq key) (filter is_standing slots) ≡ Some slot
lookup-swept [] key slot stands = λ is. cc
lookup-swept ((at, first) ∷ slots) key slot stands =
    elim (nat_eq key at) as (λ b. nat_eq key at ≡ b → cond b (Some first) (lookup (nat_eq key) slots) ≡ Some slot → lookup (nat_eq key) (cond (not first.is_answered) ((at, first) ∷ filter is_standing slots) (filter is_standing slots)) ≡ Some slot) [
      | true ↦ λ same is.
          let one : first ≡ slot = cc in
          ap (λ b. lookup (nat_eq key) (cond (not b) ((at, first) ∷ filter is_standing slots) (filter is_standing slots))) (ap (λ (s : Slot). s.is_answered) one ∙ stands)
          ∙ ap (λ b. cond b (Some first) (lookup (nat_eq key) (filter is_standing slots))) same ∙ ap Some one
      | false ↦ λ differ is.
          elim first.is_answered as (λ a. lookup (nat_eq key) (cond (not a) ((at, first) ∷ filter is_standing slots) (filter is_standing slots)) ≡ Some slot) [
            | true ↦ lookup-swept slots key slot stands is
            | false ↦ ap (λ b. cond b (Some first) (lookup (nat_eq key) (filter is_standing slots))) differ ∙ lookup-swept slots key slot stands is
          ]
    ] refl

all_set : (P : ℕ × Slot → Type 0) (key : ℕ) (new : Slot) (slots : Slots) → ((at : ℕ) (old : Slot) → nat_eq key at ≡ true → P (at, old) → P (at, new)) → AllByRecursion P slots → AllByRecursion P (set_value (nat_eq key) slots new)
all_set P key new [] keeps all = tt
all_set P key new ((at, first) ∷ slots) keeps all =
    elim (nat_eq key at) as (λ b. nat_eq key at ≡ b → AllByRecursion P (cond b ((at, new) ∷ slots) ((at, first) ∷ set_value (nat_eq key) slots new))) [
      | true ↦ λ same. (keeps at first same all.0, all.1)
      | false ↦ λ differ. (all.0, all_set P key new slots keeps all.1)
    ] refl

-- ---- slots as they are kept

abbrev Below : ℕ → ℕ × Slot → Type 0
Below begun e = e.0 < begun

module _ (slots : Slots) (place_of : ℕ → Option ℕ) (begun : ℕ) (kept : AreKept slots place_of begun) where
  named_all : AllByRecursion (IsNamed place_of) slots
  named_all = recursion_from_All (IsNamed place_of) slots kept.named

  below_all : AllByRecursion (Below begun) slots
  below_all = recursion_from_All (Below begun) slots kept.before

  pub none_named : (name : ℕ) → place_of name ≡ None → request_named name (standing_in slots) ≡ None
  none_named name none = unnamed place_of name slots named_all none

  -- a name that no request has, has no place
  pub not_placed : (name : ℕ) → request_named name (standing_in slots) ≡ None → place_of name ≡ None
  not_placed name none =
      elim (place_of name) as (λ found. place_of name ≡ found → found ≡ None) [
        | None ↦ λ is. refl
        | Some place ↦ λ is.
            let old = kept.standing name place is in
            let clash : None ≡ Some old.slot.request = sym none ∙ found place_of name place is old.slot old.own old.stands slots named_all old.there in
            cc
      ] refl

  pub not_begun : lookup (nat_eq begun) slots ≡ None
  not_begun = lookup-above slots begun below_all

  -- one more is begun
  pub kept_begun : (name : ℕ) (slot : Slot) (places : ℕ → Option ℕ) → place_of name ≡ None → slot.name ≡ name → slot.is_answered ≡ false
      → ((q : ℕ) → places q ≡ cond (nat_eq name q) (Some begun) (place_of q)) → AreKept (slots ++ (begun, slot) ∷ []) places (begun + 1)
  kept_begun name slot places none own stands updates = record {
    before = All-push (Below (begun + 1)) slots (begun, slot) (All-weaker (Below begun) (Below (begun + 1)) (λ e below. omega (arith, below)) slots kept.before) (omega arith);
    named = All-push (IsNamed places) slots (begun, slot)
        (All-weaker (IsNamed place_of) (IsNamed places) (λ e named standing.
        updates e.1.name ∙ ap (λ b. cond b (Some begun) (place_of e.1.name)) (not_it e.1.name e.0 (named standing)) ∙ named standing) slots kept.named)
        (λ standing. updates slot.name ∙ ap (λ b. cond b (Some begun) (place_of slot.name)) (eq-eqb name slot.name (sym own)));
    standing = λ other place there.
        elim (nat_eq name other) as (λ b. nat_eq name other ≡ b → cond b (Some begun) (place_of other) ≡ Some place → StandsAt (slots ++ (begun, slot) ∷ []) other place) [
          | true ↦ λ same is.
              let last : begun ≡ place = cc in
              let Q : ℕ → Type 0 = λ place. StandsAt (slots ++ (begun, slot) ∷ []) other place in
              subst Q last (record { slot = slot; there = lookup-last slots begun slot below_all; own = own ∙ eqb-true name other same; stands = stands })
          | false ↦ λ differ is.
              let old = kept.standing other place is in
              record { slot = old.slot; there = lookup-push slots place old.slot (begun, slot) old.there; own = old.own; stands = old.stands }
        ] refl (sym (updates other) ∙ there);
  }
    where
      not_it : (other at : ℕ) → place_of other ≡ Some at → nat_eq name other ≡ false
      not_it other at is =
          elim (nat_eq name other) as (λ b. nat_eq name other ≡ b → b ≡ false) [
            | true ↦ λ same. let clash : None ≡ Some at = sym none ∙ ap place_of (eqb-true name other same) ∙ is in cc
            | false ↦ λ differ. refl
          ] refl

  -- the answered ones are swept
  pub kept_swept : AreKept (filter is_standing slots) place_of begun
  kept_swept = record {
    before = All-filter is_standing (Below begun) slots kept.before;
    named = All-filter is_standing (IsNamed place_of) slots kept.named;
    standing = λ name place there.
        let old = kept.standing name place there in
        record { slot = old.slot; there = lookup-swept slots place old.slot old.stands old.there; own = old.own; stands = old.stands };
  }

  module _ (name place : ℕ) (there : place_of name ≡ Some place) where
    pub no_slot : lookup (nat_eq place) slots ≡ None → ⊥
    no_slot none = let clash : None ≡ Some (kept.standing name place there).slot = sym none ∙ (kept.standing name place there).there in cc

    module _ (slot : Slot) (is : lookup (nat_eq place) slots ≡ Some slot) where
      its_slot : (kept.standing name place there).slot ≡ slot
      its_slot = let both : Some (kept.standing name place there).slot ≡ Some slot = sym (kept.standing name place there).there ∙ is in cc

      pub its_name : slot.name ≡ name
      its_name = sym (ap (λ (s : Slot). s.name) its_slot) ∙ (kept.standing name place there).own

      pub still_stands : slot.is_answered ≡ false
      still_stands = sym (ap (λ (s : Slot). s.is_answered) its_slot) ∙ (kept.standing name place there).stands

      pub found_at : request_named name (standing_in slots) ≡ Some slot.request
      found_at = found place_of name place there slot its_name still_stands slots named_all is

      -- it is answered
      pub marked_at : (new : Slot) → new.is_answered ≡ true → standing_in (set_value (nat_eq place) slots new) ≡ without name (standing_in slots)
      marked_at new answered = marked place_of name place there slot its_name still_stands new answered slots named_all is

      -- it is moved
      pub moved_at : (page : ℕ) (new : Slot) → new ≡ record slot { request = record slot.request { page = page; moves = slot.request.moves + 1 } }
          → standing_in (set_value (nat_eq place) slots new) ≡ moved_to name page (standing_in slots)
      moved_at page new is_new =
          written place_of name place there slot its_name still_stands new (ap (λ (s : Slot). s.is_answered) is_new ∙ still_stands) (ap (λ (s : Slot). s.name) is_new ∙ its_name) slots named_all is
          ∙ ap (λ (s : Slot). insert_entry nat_eq (standing_in slots) name s.request) is_new
          ∙ sym (ap (λ found. option_map_or (λ (request : Request). insert_entry nat_eq (standing_in slots) name (record request { page = page; moves = request.moves + 1 })) found (standing_in slots)) found_at)

      -- a place of another name
      away : (other at : ℕ) → nat_eq name other ≡ false → place_of other ≡ Some at → nat_eq place at ≡ false
      away other at differ is_at =
          elim (nat_eq place at) as (λ b. nat_eq place at ≡ b → b ≡ false) [
            | true ↦ λ same.
                let old = kept.standing other at is_at in
                let both : Some old.slot ≡ Some slot = sym old.there ∙ ap (λ k. lookup (nat_eq k) slots) (sym (eqb-true place at same)) ∙ is in
                let one : old.slot ≡ slot = cc in
                absurd (true≢false (sym (eq-eqb name other (sym its_name ∙ sym (ap (λ (s : Slot). s.name) one) ∙ old.own)) ∙ differ))
            | false ↦ λ apart. refl
          ] refl

      others_stand : (new : Slot) (other at : ℕ) → nat_eq name other ≡ false → place_of other ≡ Some at → StandsAt (set_value (nat_eq place) slots new) other at
      others_stand new other at differ is_at =
          let old = kept.standing other at is_at in
          record { slot = old.slot; there = lookup-set_other slots place at new (away other at differ is_at) ∙ old.there; own = old.own; stands = old.stands }

      pub kept_written : (new : Slot) → new.is_answered ≡ false → new.name ≡ name → AreKept (set_value (nat_eq place) slots new) place_of begun
      kept_written new new_stands new_own = record {
        before = All-from_recursion (Below begun) _ (all_set (Below begun) place new slots (λ at old same below. below) below_all);
        named = All-from_recursion (IsNamed place_of) _ (all_set (IsNamed place_of) place new slots
            (λ at old same named stands. ap place_of new_own ∙ there ∙ ap Some (eqb-true place at same)) named_all);
        standing = λ other at is_at.
            elim (nat_eq name other) as (λ b. nat_eq name other ≡ b → StandsAt (set_value (nat_eq place) slots new) other at) [
              | true ↦ λ same.
                  let both : Some place ≡ Some at = sym there ∙ ap place_of (eqb-true name other same) ∙ is_at in
                  let one : place ≡ at = cc in
                  let Q : ℕ → Type 0 = λ at. StandsAt (set_value (nat_eq place) slots new) other at in
                  subst Q one (record { slot = new; there = lookup-set_value slots place slot new is; own = new_own ∙ eqb-true name other same; stands = new_stands })
              | false ↦ λ differ. others_stand new other at differ is_at
            ] refl;
      }

      module _ (places : ℕ → Option ℕ) (updates : (q : ℕ) → places q ≡ cond (nat_eq name q) None (place_of q)) where
        still : (at : ℕ) (other : Slot) → IsNamed place_of (at, other) → nat_eq place at ≡ false → IsNamed places (at, other)
        still at other named differ = λ stands.
            updates other.name ∙ ap (λ b. cond b None (place_of other.name)) (apart place_of name place at other.name there (named stands) differ) ∙ named stands

        rest_named : (at : ℕ) (rest : Slots) → nat_eq place at ≡ true → AllByRecursion (IsNamed place_of) rest → AllByRecursion (λ key. nat_eq at key ≡ false) (keys_of rest) → AllByRecursion (IsNamed places) rest
        rest_named at [] same named distinct = tt
        rest_named at ((key, other) ∷ rest) same named distinct =
            let Q : ℕ → Type 0 = λ k. nat_eq k key ≡ false in
            (still key other named.0 (subst Q (sym (eqb-true place at same)) distinct.0), rest_named at rest same named.1 distinct.1)

        marked_named : (new : Slot) → new.is_answered ≡ true → (rest : Slots) → AllByRecursion (IsNamed place_of) rest → IsDistinct nat_eq (keys_of rest) → AllByRecursion (IsNamed places) (set_value (nat_eq place) rest new)
        unfolding IsDistinct
        marked_named new answered [] named distinct = tt
        marked_named new answered ((at, first) ∷ rest) named distinct =
            elim (nat_eq place at) as (λ b. nat_eq place at ≡ b → AllByRecursion (IsNamed places) (cond b ((at, new) ∷ rest) ((at, first) ∷ set_value (nat_eq place) rest new))) [
              | true ↦ λ same. (λ stands. absurd (true≢false (sym answered ∙ stands)), rest_named at rest same named.1 distinct.0)
              | false ↦ λ differ. (still at first named.0 differ, marked_named new answered rest named.1 distinct.1)
            ] refl

        pub kept_marked : (new : Slot) → new.is_answered ≡ true → IsDistinct nat_eq (keys_of slots) → AreKept (set_value (nat_eq place) slots new) places begun
        kept_marked new answered distinct = record {
          before = All-from_recursion (Below begun) _ (all_set (Below begun) place new slots (λ at old same below. below) below_all);
          named = All-from_recursion (IsNamed places) _ (marked_named new answered slots named_all distinct);
          standing = λ other at is_at.
              elim (nat_eq name other) as (λ b. nat_eq name other ≡ b → cond b None (place_of other) ≡ Some at → StandsAt (set_value (nat_eq place) slots new) other at) [
                | true ↦ λ same is. cc
                | false ↦ λ differ is. others_stand new other at differ is
              ] refl (sym (updates other) ∙ is_at);
        }
