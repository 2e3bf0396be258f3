-- Words of which one is empty spell no line.
use Rattle.std.proofs.Common.{◌≡◌, ℕ, List, [], ◌∷◌, ◌⊎◌, inl, inr, Bool, true, false, Option, Some, None, refl, sym, ap, arith}
use Rattle.std.specs.Prelude.{if◌then◌else◌, codes}
use Rattle.std.specs.List.{list_any}
use Rattle.std.specs.Str.{bytes_eq}
use Rattle.std.proofs.lemmas.Bool.Decides.{nat_tests}
use Rattle.exh_text.specs.ByteWord.{bytes_of_word}
use Rattle.exh_text.specs.LineFault.{ranged}
use Rattle.exh_text.specs.TextLines.{is_empty, parts_at, space, words_of}
use Rattle.exh_text.specs.Numbers.{◌>>=◌, index_spelled, number_after, number_spelled, number_up_to}
use Rattle.exh_line.specs.Grammar.{line_in_range, line_of, spelled, spelled_begin, spelled_call, spelled_change, spelled_copy_step, spelled_deliver, spelled_hop, spelled_in_flight, spelled_number, spelled_pair_of_numbers, spelled_put, spelled_swap, spelled_view}

abbrev HasEmpty : List (List ℕ) → Type 0
HasEmpty words = list_any is_empty words ≡ true

first_or_later : (word : List ℕ) (words : List (List ℕ)) → HasEmpty (word ∷ words) → (word ≡ []) ⊎ HasEmpty words
first_or_later [] words has = inl refl
first_or_later (byte ∷ word) words has = inr (grind (arith, nat_tests))

then_none : {A B : Type 0} (option : Option A) (f : A → Option B) → ((a : A) → f a ≡ None) → (option >>= f) ≡ None
then_none None f none = refl
then_none (Some a) f none = none a

none_then : {A B : Type 0} (option : Option A) (f : A → Option B) → option ≡ None → (option >>= f) ≡ None
none_then option f none = ap (λ o. o >>= f) none

either_none : {A : Type 0} (test : Bool) (a b : Option A) → a ≡ None → b ≡ None → (if test then a else b) ≡ None
either_none true a b is other = is
either_none false a b is other = other

-- ---- what an empty word spells

no_number : number_spelled [] ≡ None
unfolding number_up_to
no_number = refl

no_index : index_spelled [] ≡ None
unfolding number_up_to
no_index = refl

no_name : number_after (codes "r") [] ≡ None
unfolding number_after
no_name = refl

no_client : number_after (codes "c") [] ≡ None
unfolding number_after
no_client = refl

no_bytes : bytes_of_word [] ≡ None
unfolding bytes_of_word
no_bytes = refl

-- ---- what words with an empty one spell

number_none : (words : List (List ℕ)) → HasEmpty words → spelled_number words ≡ None
unfolding spelled_number
number_none [] has = refl
number_none (word ∷ []) has = elim (first_or_later word [] has) [
  | inl is ↦ rw is no_number
  | inr later ↦ cc
]
number_none (word ∷ other ∷ words) has = refl

pair_none : (words : List (List ℕ)) → HasEmpty words → spelled_pair_of_numbers words ≡ None
unfolding spelled_pair_of_numbers
pair_none [] has = refl
pair_none (first ∷ []) has = refl
pair_none (first ∷ second ∷ []) has = elim (first_or_later first (second ∷ []) has) [
  | inl is ↦ rw is (none_then _ _ no_number)
  | inr later ↦ elim (first_or_later second [] later) [
    | inl is ↦ rw is (then_none (number_spelled first) _ (λ n. none_then _ _ no_number))
    | inr none ↦ cc
  ]
]
pair_none (first ∷ second ∷ third ∷ words) has = refl

deliver_none : (words : List (List ℕ)) → HasEmpty words → spelled_deliver words ≡ None
unfolding spelled_deliver
deliver_none [] has = refl
deliver_none (copy ∷ []) has = refl
deliver_none (copy ∷ ward ∷ []) has = refl
deliver_none (copy ∷ ward ∷ index ∷ []) has = elim (first_or_later copy (ward ∷ index ∷ []) has) [
  | inl is ↦ rw is (none_then _ _ no_number)
  | inr later ↦ elim (first_or_later ward (index ∷ []) later) [
    | inl is ↦ rw is (then_none (number_spelled copy) _ (λ c. none_then _ _ no_number))
    | inr last ↦ elim (first_or_later index [] last) [
      | inl is ↦ rw is (then_none (number_spelled copy) _ (λ c. then_none (number_spelled ward) _ (λ w. none_then _ _ no_index)))
      | inr none ↦ cc
    ]
  ]
]
deliver_none (copy ∷ ward ∷ index ∷ other ∷ words) has = refl

in_flight_none : (words : List (List ℕ)) → HasEmpty words → spelled_in_flight words ≡ None
unfolding spelled_in_flight
in_flight_none [] has = cc
in_flight_none (word ∷ words) has = refl

view_none : (keyword : List ℕ) (words : List (List ℕ)) → HasEmpty (keyword ∷ words) → spelled_view keyword words ≡ None
unfolding spelled_view
view_none keyword words has = elim (first_or_later keyword words has) [
  | inl is ↦ rw is refl
  | inr later ↦ either_none (bytes_eq keyword (codes "show")) _ _ (none_then _ _ (number_none words later))
      (either_none (bytes_eq keyword (codes "page")) _ _ (none_then _ _ (pair_none words later)) (either_none (bytes_eq keyword (codes "inflight")) _ _ (in_flight_none words later) refl))
]

copy_step_none : (keyword : List ℕ) (words : List (List ℕ)) → HasEmpty (keyword ∷ words) → spelled_copy_step keyword words ≡ None
unfolding spelled_copy_step
copy_step_none keyword words has =
    let view = view_none keyword words has in
    elim (first_or_later keyword words has) [
      | inl is ↦ rw is (none_then _ _ (rw is at view))
      | inr later ↦ either_none (bytes_eq keyword (codes "deliver")) _ _ (deliver_none words later)
          (either_none (bytes_eq keyword (codes "send")) _ _ (none_then _ _ (number_none words later))
          (either_none (bytes_eq keyword (codes "combine")) _ _ (none_then _ _ (pair_none words later))
          (either_none (bytes_eq keyword (codes "restart")) _ _ (none_then _ _ (number_none words later)) (none_then _ _ view))))
    ]

change_none : (keyword : List ℕ) (words : List (List ℕ)) → HasEmpty (keyword ∷ words) → spelled_change keyword words ≡ None
unfolding spelled_change
change_none keyword words has =
    let step = copy_step_none keyword words has in
    elim (first_or_later keyword words has) [
      | inl is ↦ rw is (rw is at step)
      | inr later ↦ either_none (bytes_eq keyword (codes "split")) _ _ (none_then _ _ (pair_none words later))
          (either_none (bytes_eq keyword (codes "merge")) _ _ (none_then _ _ (pair_none words later)) step)
    ]

hop_none : (words : List (List ℕ)) → HasEmpty words → spelled_hop words ≡ None
unfolding spelled_hop
hop_none [] has = refl
hop_none (name ∷ []) has = elim (first_or_later name [] has) [
  | inl is ↦ rw is (none_then _ _ no_name)
  | inr none ↦ cc
]
hop_none (name ∷ other ∷ words) has = refl

put_none : (key value : List ℕ) → HasEmpty (key ∷ value ∷ []) → spelled_put key value ≡ None
unfolding spelled_put
put_none key value has = elim (first_or_later key (value ∷ []) has) [
  | inl is ↦ rw is (none_then _ _ no_bytes)
  | inr later ↦ elim (first_or_later value [] later) [
    | inl is ↦ rw is (then_none (bytes_of_word key) _ (λ k. none_then _ _ no_bytes))
    | inr none ↦ cc
  ]
]

swap_none : (key old new : List ℕ) → HasEmpty (key ∷ old ∷ new ∷ []) → spelled_swap key old new ≡ None
unfolding spelled_swap
swap_none key old new has = elim (first_or_later key (old ∷ new ∷ []) has) [
  | inl is ↦ rw is (none_then _ _ no_bytes)
  | inr later ↦ elim (first_or_later old (new ∷ []) later) [
    | inl is ↦ rw is (then_none (bytes_of_word key) _ (λ k. none_then _ _ no_bytes))
    | inr last ↦ elim (first_or_later new [] last) [
      | inl is ↦ rw is (then_none (bytes_of_word key) _ (λ k. then_none (bytes_of_word old) _ (λ o. none_then _ _ no_bytes)))
      | inr none ↦ cc
    ]
  ]
]

call_none : (words : List (List ℕ)) → HasEmpty words → spelled_call words ≡ None
unfolding spelled_call
call_none [] has = refl
call_none (verb ∷ []) has = refl
call_none (verb ∷ key ∷ []) has = elim (first_or_later verb (key ∷ []) has) [
  | inl is ↦ rw is refl
  | inr later ↦ elim (first_or_later key [] later) [
    | inl is ↦ rw is (either_none (bytes_eq verb (codes "get")) _ _ (none_then _ _ no_bytes) (either_none (bytes_eq verb (codes "del")) _ _ (none_then _ _ no_bytes) refl))
    | inr none ↦ cc
  ]
]
call_none (verb ∷ key ∷ value ∷ []) has = elim (first_or_later verb (key ∷ value ∷ []) has) [
  | inl is ↦ rw is refl
  | inr later ↦ either_none (bytes_eq verb (codes "put")) _ _ (put_none key value later) refl
]
call_none (verb ∷ key ∷ old ∷ new ∷ []) has = elim (first_or_later verb (key ∷ old ∷ new ∷ []) has) [
  | inl is ↦ rw is refl
  | inr later ↦ either_none (bytes_eq verb (codes "swap")) _ _ (swap_none key old new later) refl
]
call_none (verb ∷ key ∷ old ∷ new ∷ other ∷ words) has = refl

begin_none : (words : List (List ℕ)) → HasEmpty words → spelled_begin words ≡ None
unfolding spelled_begin
begin_none [] has = refl
begin_none (name ∷ []) has = refl
begin_none (name ∷ client ∷ []) has = refl
begin_none (name ∷ client ∷ copy ∷ call) has = elim (first_or_later name (client ∷ copy ∷ call) has) [
  | inl is ↦ rw is (none_then _ _ no_name)
  | inr later ↦ elim (first_or_later client (copy ∷ call) later) [
    | inl is ↦ rw is (then_none (number_after (codes "r") name) _ (λ n. none_then _ _ no_client))
    | inr last ↦ elim (first_or_later copy call last) [
      | inl is ↦ rw is (then_none (number_after (codes "r") name) _ (λ n. then_none (number_after (codes "c") client) _ (λ c. none_then _ _ no_number)))
      | inr rest ↦ then_none (number_after (codes "r") name) _ (λ n. then_none (number_after (codes "c") client) _ (λ c. then_none (number_spelled copy) _ (λ p. none_then _ _ (call_none call rest))))
    ]
  ]
]

none_spelled : (words : List (List ℕ)) → HasEmpty words → spelled words ≡ None
unfolding spelled
none_spelled [] has = refl
none_spelled (keyword ∷ words) has =
    let change = change_none keyword words has in
    elim (first_or_later keyword words has) [
      | inl is ↦ rw is (rw is at change)
      | inr later ↦ either_none (bytes_eq keyword (codes "begin")) _ _ (begin_none words later) (either_none (bytes_eq keyword (codes "hop")) _ _ (hop_none words later) change)
    ]

-- a line's words needn't be looked through for an empty one
pub line_of_words : (line : List ℕ) → line_of line ≡ ranged line_in_range (spelled (parts_at space line))
unfolding line_of words_of
line_of_words line =
    elim (list_any is_empty (parts_at space line)) as (λ b. list_any is_empty (parts_at space line) ≡ b → ranged line_in_range ((if b then None else Some (parts_at space line)) >>= spelled) ≡ ranged line_in_range (spelled (parts_at space line))) [
      | true ↦ λ has. ap (ranged line_in_range) (sym (none_spelled (parts_at space line) has))
      | false ↦ λ has. refl
    ] refl
