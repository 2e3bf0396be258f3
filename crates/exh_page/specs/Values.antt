-- What rising records hold after a record is put among them or taken out.
use Rattle.std.proofs.Common.{◌≡◌, ℕ, ◌+◌, ◌<◌, ◌≤◌, Bool, true, false, not, cond, List, [], ◌∷◌, ◌++◌, length, filter, find, None, Some, Ordering, refl, sym, ap, ◌∙◌, arith}
use Rattle.std.specs.declared.cmp.Ordering.TheVariants.{Less, Equal, Greater}
use Rattle.std.specs.List.{AllByRecursion}
use Rattle.std.specs.Option.{option_map}
use Rattle.std.specs.Ordering.{is_lt, is_eq, is_gt, ordering_reverse}
use Rattle.std.proofs.lemmas.List.{length-append, append-nil}
use Rattle.exh_prefix.specs.PrefixListLemmas.{AllByRecursion-append, AllByRecursion-filter}
use Rattle.exh_page.specs.declared.record.Record.{Record}
use Rattle.exh_page.specs.Place.{Place, place_cmp, place_of}
use Rattle.exh_page.specs.Records.{is_before, is_at, is_after, value_at, with_record, without_place}
use Rattle.exh_page.specs.RecordsLemmas.{place_cmp-total, place_cmp-exact}

-- ---- finds in filtered lists

find_kept : (p q : Record → Bool) → ((r : Record) → p r ≡ true → q r ≡ true) → (records rest : List Record) → find p rest ≡ None → find p (filter q records ++ rest) ≡ find p records
find_kept p q keeps [] rest none = none
find_kept p q keeps (r ∷ records) rest none =
    elim (p r) as (λ b. p r ≡ b → find p (cond (q r) (r ∷ filter q records) (filter q records) ++ rest) ≡ cond b (Some r) (find p records)) [
      | true ↦ λ is. rw (keeps r is, is) refl
      | false ↦ λ is. elim (q r) as (λ k. find p (cond k (r ∷ filter q records) (filter q records) ++ rest) ≡ find p records) [
        | true ↦ rw is (find_kept p q keeps records rest none)
        | false ↦ find_kept p q keeps records rest none
      ]
    ] refl

find_dropped : (p q : Record → Bool) → ((r : Record) → p r ≡ true → q r ≡ false) → (records rest : List Record) → find p (filter q records ++ rest) ≡ find p rest
find_dropped p q drops [] rest = refl
find_dropped p q drops (r ∷ records) rest =
    elim (p r) as (λ b. p r ≡ b → find p (cond (q r) (r ∷ filter q records) (filter q records) ++ rest) ≡ find p rest) [
      | true ↦ λ is. rw (drops r is) (find_dropped p q drops records rest)
      | false ↦ λ is. elim (q r) as (λ k. find p (cond k (r ∷ filter q records) (filter q records) ++ rest) ≡ find p rest) [
        | true ↦ rw is (find_dropped p q drops records rest)
        | false ↦ find_dropped p q drops records rest
      ]
    ] refl

-- a record at a place has the place
place_at : (place : Place) (r : Record) → is_at place r ≡ true → place_of r ≡ place
place_at place r here = place_cmp-exact (place_of r) place (elim (place_cmp (place_of r) place) as (λ o. is_eq o ≡ true → o ≡ Equal) [ Less ↦ λ h. cc | Equal ↦ λ _. refl | Greater ↦ λ h. cc ] here)

-- so a test of its order to another place is one of the place
test_at : (place other : Place) (test : Ordering → Bool) (b : Bool) → test (place_cmp place other) ≡ b → (r : Record) → is_at place r ≡ true → test (place_cmp (place_of r) other) ≡ b
test_at place other test b is r here = ap (λ p. test (place_cmp p other)) (place_at place r here) ∙ is

-- ---- the values

with_before : (place : Place) (r : Record) (records : List Record) → place_cmp place (place_of r) ≡ Less → value_at place (with_record r records) ≡ value_at place records
with_before place r records order =
    let other : is_at place r ≡ false = ap is_eq (place_cmp-total.antisymm (place_of r) place ∙ ap ordering_reverse order) in
    let none : find (is_at place) (r ∷ filter (is_after (place_of r)) records) ≡ None =
    ap (λ b. cond b (Some r) (find (is_at place) (filter (is_after (place_of r)) records))) other
    ∙ ap (find (is_at place)) (sym (append-nil _)) ∙ find_dropped (is_at place) (is_after (place_of r)) (test_at place (place_of r) is_gt false (ap is_gt order)) records [] in
    ap (option_map (λ r. r.value)) (find_kept (is_at place) (is_before (place_of r)) (test_at place (place_of r) is_lt true (ap is_lt order)) records _ none)

with_after : (place : Place) (r : Record) (records : List Record) → place_cmp place (place_of r) ≡ Greater → value_at place (with_record r records) ≡ value_at place records
with_after place r records order =
    let other : is_at place r ≡ false = ap is_eq (place_cmp-total.antisymm (place_of r) place ∙ ap ordering_reverse order) in
    ap (option_map (λ r. r.value))
    (find_dropped (is_at place) (is_before (place_of r)) (test_at place (place_of r) is_lt false (ap is_lt order)) records (r ∷ filter (is_after (place_of r)) records)
    ∙ ap (λ b. cond b (Some r) (find (is_at place) (filter (is_after (place_of r)) records))) other
    ∙ ap (find (is_at place)) (sym (append-nil _)) ∙ find_kept (is_at place) (is_after (place_of r)) (test_at place (place_of r) is_gt true (ap is_gt order)) records [] refl)

with_same : (place : Place) (r : Record) (records : List Record) → place_cmp place (place_of r) ≡ Equal → value_at place (with_record r records) ≡ Some r.value
with_same place r records order =
    let here : is_at place r ≡ true = ap is_eq (place_cmp-total.antisymm (place_of r) place ∙ ap ordering_reverse order) in
    ap (option_map (λ r. r.value))
    (find_dropped (is_at place) (is_before (place_of r)) (test_at place (place_of r) is_lt false (ap is_lt order)) records (r ∷ filter (is_after (place_of r)) records)
    ∙ ap (λ b. cond b (Some r) (find (is_at place) (filter (is_after (place_of r)) records))) here)

-- a record that is put among others gives its place its value, and leaves the other places theirs
pub value_at-with_record : (place : Place) (r : Record) (records : List Record) → value_at place (with_record r records) ≡ cond (is_eq (place_cmp place (place_of r))) (Some r.value) (value_at place records)
value_at-with_record place r records =
    elim (place_cmp place (place_of r)) as (λ o. place_cmp place (place_of r) ≡ o → value_at place (with_record r records) ≡ cond (is_eq o) (Some r.value) (value_at place records)) [
      | Less ↦ with_before place r records
      | Equal ↦ with_same place r records
      | Greater ↦ with_after place r records
    ] refl

-- a place that is taken out has no value, and the other places keep theirs
pub value_at-without_place : (place out : Place) (records : List Record) → value_at place (without_place out records) ≡ cond (is_eq (place_cmp place out)) None (value_at place records)
value_at-without_place place out records =
    elim (is_eq (place_cmp place out)) as (λ b. is_eq (place_cmp place out) ≡ b → value_at place (without_place out records) ≡ cond b None (value_at place records)) [
      | true ↦ λ is. ap (option_map (λ r. r.value)) (ap (find (is_at place)) (sym (append-nil _)) ∙ find_dropped (is_at place) (λ r. not (is_at out r)) (test_at place out (λ o. not (is_eq o)) false (ap not is)) records [])
      | false ↦ λ is. ap (option_map (λ r. r.value)) (ap (find (is_at place)) (sym (append-nil _)) ∙ find_kept (is_at place) (λ r. not (is_at out r)) (test_at place out (λ o. not (is_eq o)) true (ap not is)) records [] refl)
    ] refl

-- ---- how many there are

one_of_three : (place : Place) (r : Record) → cond (is_before place r) 1 0 + cond (is_at place r) 1 0 + cond (is_after place r) 1 0 ≡ 1
one_of_three place r = elim (place_cmp (place_of r) place) as (λ o. cond (is_lt o) 1 0 + cond (is_eq o) 1 0 + cond (is_gt o) 1 0 ≡ 1) [ Less ↦ refl | Equal ↦ refl | Greater ↦ refl ]

length_kept : (b : Bool) (r : Record) (records : List Record) → length (cond b (r ∷ records) records) ≡ cond b 1 0 + length records
length_kept true r records = omega arith
length_kept false r records = omega arith

at_most_one : (b : Bool) → (cond b 1 0) ≤ 1
at_most_one true = omega arith
at_most_one false = omega arith

length_of_three : (place : Place) (records : List Record) → length (filter (is_before place) records) + length (filter (is_at place) records) + length (filter (is_after place) records) ≡ length records
length_of_three place [] = refl
length_of_three place (r ∷ records) =
    omega (
      arith,
      one_of_three place r,
      length_of_three place records,
      length_kept (is_before place r) r (filter (is_before place) records),
      length_kept (is_at place r) r (filter (is_at place) records),
      length_kept (is_after place r) r (filter (is_after place) records),
    )

pub length-with_record : (r : Record) (records : List Record) → length (with_record r records) + length (filter (is_at (place_of r)) records) ≡ length records + 1
length-with_record r records = omega (arith, length_of_three (place_of r) records, length-append (filter (is_before (place_of r)) records) (r ∷ filter (is_after (place_of r)) records))

some_filtered : (p : Record → Bool) (records : List Record) (value : List ℕ) → option_map (λ r. r.value) (find p records) ≡ Some value → 0 < length (filter p records)
some_filtered p [] value found = cc
some_filtered p (r ∷ records) value found =
    elim (p r) as (λ b. option_map (λ r. r.value) (cond b (Some r) (find p records)) ≡ Some value → 0 < length (cond b (r ∷ filter p records) (filter p records))) [
      | true ↦ λ _. omega arith
      | false ↦ λ found. some_filtered p records value found
    ] found

-- a record that replaces another adds none
pub length-with_record_old : (r : Record) (records : List Record) (value : List ℕ) → value_at (place_of r) records ≡ Some value → length (with_record r records) ≤ length records
length-with_record_old r records value old = omega (arith, length-with_record r records, some_filtered (is_at (place_of r)) records value old)

pub length-with_record_le : (r : Record) (records : List Record) → length (with_record r records) ≤ length records + 1
length-with_record_le r records = omega (arith, length-with_record r records)

pub length-without_place : (place : Place) (records : List Record) → length (without_place place records) ≤ length records
length-without_place place [] = omega arith
length-without_place place (r ∷ records) = omega (arith, length-without_place place records, length_kept (not (is_at place r)) r (without_place place records), at_most_one (not (is_at place r)))

-- what holds of a record and of others holds of them all
pub AllByRecursion-with_record : (P : Record → Type 0) (r : Record) (records : List Record) → P r → AllByRecursion P records → AllByRecursion P (with_record r records)
AllByRecursion-with_record P r records new all = AllByRecursion-append P _ _ (AllByRecursion-filter _ P records all) (new, AllByRecursion-filter _ P records all)

others_stay : (place : Place) (r : Record) (records : List Record) (here : Bool) → option_map (λ r. r.value) (cond here (Some r) (find (is_at place) records)) ≡ None
    → (value_at place records ≡ None → without_place place records ≡ records) → cond (not here) (r ∷ without_place place records) (without_place place records) ≡ r ∷ records
others_stay place r records true none rest = cc
others_stay place r records false none rest = ap (λ others. r ∷ others) (rest none)

-- where no record stands at the place, nothing goes
pub without_place-absent : (place : Place) (records : List Record) → value_at place records ≡ None → without_place place records ≡ records
without_place-absent place [] none = refl
without_place-absent place (r ∷ records) none = others_stay place r records (is_at place r) none (without_place-absent place records)
