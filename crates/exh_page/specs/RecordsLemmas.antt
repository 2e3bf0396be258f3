-- Rising records, cut at a place.
use Rattle.std.proofs.Common.{◌≡◌, ℕ, zero, suc, Bool, true, false, not, cond, List, [], ◌∷◌, ◌++◌, drop, filter, find, remove, Option, None, Some, Ordering, refl, sym, ap, ◌∙◌}
use Rattle.std.specs.declared.cmp.Ordering.TheVariants.{Less, Equal, Greater}
use Rattle.std.specs.Cmp.{IsTotalOrder}
use Rattle.std.specs.List.{AllByRecursion}
use Rattle.std.specs.Option.{option_map, option_to_list}
use Rattle.std.specs.Ordering.{is_lt, is_eq, is_gt, ordering_reverse, nat_cmp}
use Rattle.std.proofs.lemmas.List.{append-nil}
use Rattle.std.proofs.lemmas.Cmp.{nat_cmp_total, nat_list_cmp_total, on_total, then_total}
use Rattle.std.proofs.lemmas.Map.Lookups.{CmpEqualImpliesEq, exact_pairs, exact_unsigned, exact_bytes}
use Rattle.exh_prefix.specs.PrefixListLemmas.{AllByRecursion-append, AllByRecursion-append_left, AllByRecursion-filter, AllByRecursion-weaker, filter-passes}
use Rattle.exh_page.specs.declared.record.Record.{Record}
use Rattle.exh_page.specs.Place.{Place, place_cmp, place_of}
use Rattle.exh_page.specs.Records.{IsRising, is_before, is_at, is_after, value_at, with_record, without_place}

pub place_cmp-total : IsTotalOrder place_cmp
place_cmp-total = then_total (on_total (λ (place : Place). place.0) nat_cmp_total) (on_total (λ (place : Place). place.1) nat_list_cmp_total)

-- places that compare alike are one
pub place_cmp-exact : CmpEqualImpliesEq place_cmp
place_cmp-exact one other same = exact_pairs nat_cmp _ exact_unsigned exact_bytes one other same

-- records that stand before a place
abbrev pub AllBefore : Place → List Record → Type 0
AllBefore place records = AllByRecursion (λ r. place_cmp (place_of r) place ≡ Less) records

abbrev pub AllAfter : Place → List Record → Type 0
AllAfter place records = AllByRecursion (λ r. place_cmp (place_of r) place ≡ Greater) records

-- the records are those before a place, the one at it, if there is one, and those after it
pub record IsCut (place : Place) (records front : List Record) (middle : Option Record) (back : List Record) : Type 0 where
  pub whole : records ≡ front ++ (option_to_list middle ++ back)
  pub before : AllBefore place front
  pub here : AllByRecursion (λ r. place_cmp (place_of r) place ≡ Equal) (option_to_list middle)
  pub after : AllAfter place back

-- ---- tests, all of which pass or fail

pub all_pass : (p : Record → Bool) (P : Record → Type 0) → ((r : Record) → P r → p r ≡ true) → (records : List Record) → AllByRecursion P records → filter p records ≡ records
all_pass p P passes [] all = refl
all_pass p P passes (r ∷ records) all = rw (passes r all.0) (ap (λ records. r ∷ records) (all_pass p P passes records all.1))

pub all_fail : (p : Record → Bool) (P : Record → Type 0) → ((r : Record) → P r → p r ≡ false) → (records : List Record) → AllByRecursion P records → filter p records ≡ []
all_fail p P fails [] all = refl
all_fail p P fails (r ∷ records) all = rw (fails r all.0) (all_fail p P fails records all.1)

none_found : (p : Record → Bool) (P : Record → Type 0) → ((r : Record) → P r → p r ≡ false) → (records rest : List Record) → AllByRecursion P records → find p (records ++ rest) ≡ find p rest
none_found p P fails [] rest all = refl
none_found p P fails (r ∷ records) rest all = rw (fails r all.0) (none_found p P fails records rest all.1)

pub filter-append : (p : Record → Bool) (front back : List Record) → filter p (front ++ back) ≡ filter p front ++ filter p back
filter-append p [] back = refl
filter-append p (r ∷ front) back = elim (p r) as (λ b. cond b (r ∷ filter p (front ++ back)) (filter p (front ++ back)) ≡ cond b (r ∷ filter p front) (filter p front) ++ filter p back) [
  | true ↦ ap (λ records. r ∷ records) (filter-append p front back)
  | false ↦ filter-append p front back
]

-- a test of the order that a record has to a place
by_order : (place : Place) (test : Ordering → Bool) (o : Ordering) (b : Bool) → test o ≡ b → (r : Record) → place_cmp (place_of r) place ≡ o → test (place_cmp (place_of r) place) ≡ b
by_order place test o b is r order = ap test order ∙ is

-- ---- what is found, put and taken out where the records are cut

value_middle : (place : Place) (middle : Option Record) (back : List Record) → AllByRecursion (λ r. place_cmp (place_of r) place ≡ Equal) (option_to_list middle) → AllAfter place back
    → option_map (λ r. r.value) (find (is_at place) (option_to_list middle ++ back)) ≡ option_map (λ r. r.value) middle
value_middle place None back here after = ap (option_map (λ r. r.value)) (sym (ap (find (is_at place)) (append-nil back)) ∙ none_found (is_at place) _ (by_order place is_eq Greater false refl) back [] after)
value_middle place (Some r) back here after = rw here.0 refl

pub value_at-cut : (place : Place) (records front : List Record) (middle : Option Record) (back : List Record) → IsCut place records front middle back → value_at place records ≡ option_map (λ r. r.value) middle
value_at-cut place records front middle back cut =
    ap (value_at place) cut.whole
    ∙ ap (option_map (λ r. r.value)) (none_found (is_at place) _ (by_order place is_eq Less false refl) front _ cut.before)
    ∙ value_middle place middle back cut.here cut.after

before_middle : (place : Place) (middle : Option Record) (back : List Record) → AllByRecursion (λ r. place_cmp (place_of r) place ≡ Equal) (option_to_list middle) → AllAfter place back
    → filter (is_before place) (option_to_list middle ++ back) ≡ []
before_middle place None back here after = all_fail (is_before place) _ (by_order place is_lt Greater false refl) back after
before_middle place (Some r) back here after = rw here.0 (all_fail (is_before place) _ (by_order place is_lt Greater false refl) back after)

after_middle : (place : Place) (middle : Option Record) (back : List Record) → AllByRecursion (λ r. place_cmp (place_of r) place ≡ Equal) (option_to_list middle) → AllAfter place back
    → filter (is_after place) (option_to_list middle ++ back) ≡ back
after_middle place None back here after = all_pass (is_after place) _ (by_order place is_gt Greater true refl) back after
after_middle place (Some r) back here after = rw here.0 (all_pass (is_after place) _ (by_order place is_gt Greater true refl) back after)

others_middle : (place : Place) (middle : Option Record) (back : List Record) → AllByRecursion (λ r. place_cmp (place_of r) place ≡ Equal) (option_to_list middle) → AllAfter place back
    → without_place place (option_to_list middle ++ back) ≡ back
others_middle place None back here after = all_pass (λ r. not (is_at place r)) _ (by_order place (λ o. not (is_eq o)) Greater true refl) back after
others_middle place (Some r) back here after = rw here.0 (all_pass (λ r. not (is_at place r)) _ (by_order place (λ o. not (is_eq o)) Greater true refl) back after)

pub with_record-cut : (r : Record) (records front : List Record) (middle : Option Record) (back : List Record) → IsCut (place_of r) records front middle back → with_record r records ≡ front ++ r ∷ back
with_record-cut r records front middle back cut =
    let place = place_of r in
    let fore : filter (is_before place) records ≡ front =
    ap (filter (is_before place)) cut.whole ∙ filter-append (is_before place) front _
    ∙ ap (λ back. filter (is_before place) front ++ back) (before_middle place middle back cut.here cut.after)
    ∙ append-nil _ ∙ all_pass (is_before place) _ (by_order place is_lt Less true refl) front cut.before in
    let aft : filter (is_after place) records ≡ back =
    ap (filter (is_after place)) cut.whole ∙ filter-append (is_after place) front _
    ∙ ap (λ fore. fore ++ filter (is_after place) (option_to_list middle ++ back)) (all_fail (is_after place) _ (by_order place is_gt Less false refl) front cut.before)
    ∙ after_middle place middle back cut.here cut.after in
    ap (λ fore. fore ++ r ∷ filter (is_after place) records) fore ∙ ap (λ aft. front ++ r ∷ aft) aft

pub without_place-cut : (place : Place) (records front : List Record) (middle : Option Record) (back : List Record) → IsCut place records front middle back → without_place place records ≡ front ++ back
without_place-cut place records front middle back cut =
    ap (without_place place) cut.whole ∙ filter-append (λ r. not (is_at place r)) front _
    ∙ ap (λ fore. fore ++ without_place place (option_to_list middle ++ back)) (all_pass (λ r. not (is_at place r)) _ (by_order place (λ o. not (is_eq o)) Less true refl) front cut.before)
    ∙ ap (λ back. front ++ back) (others_middle place middle back cut.here cut.after)

-- ---- rising lists

pub IsRising-filter : (p : Record → Bool) (records : List Record) → IsRising records → IsRising (filter p records)
IsRising-filter p [] rising = tt
IsRising-filter p (r ∷ records) rising = elim (p r) as (λ b. IsRising (cond b (r ∷ filter p records) (filter p records))) [
  | true ↦ (AllByRecursion-filter p _ records rising.0, IsRising-filter p records rising.1)
  | false ↦ IsRising-filter p records rising.1
]

-- a record between those before it and those after it
pub IsRising-around : (r : Record) (front back : List Record) → IsRising front → IsRising back → AllBefore (place_of r) front → AllAfter (place_of r) back → IsRising (front ++ r ∷ back)
IsRising-around r [] back fore aft before after = (AllByRecursion-weaker _ _ (λ s order. place_cmp-total.antisymm (place_of r) (place_of s) ∙ ap ordering_reverse order) back after, aft)
IsRising-around r (first ∷ front) back fore aft before after =
    let later : (s : Record) → place_cmp (place_of s) (place_of r) ≡ Greater → place_cmp (place_of first) (place_of s) ≡ Less =
    λ s order. place_cmp-total.trans (place_of first) (place_of r) (place_of s) before.0 (place_cmp-total.antisymm (place_of r) (place_of s) ∙ ap ordering_reverse order) in
    (AllByRecursion-append _ front (r ∷ back) fore.0 (before.0, AllByRecursion-weaker _ _ later back after), IsRising-around r front back fore.1 aft before.1 after)

lt_passes : (place : Place) (r : Record) → is_before place r ≡ true → place_cmp (place_of r) place ≡ Less
lt_passes place r passes = elim (place_cmp (place_of r) place) as (λ o. is_lt o ≡ true → o ≡ Less) [ Less ↦ λ _. refl | Equal ↦ λ h. cc | Greater ↦ λ h. cc ] passes

gt_passes : (place : Place) (r : Record) → is_after place r ≡ true → place_cmp (place_of r) place ≡ Greater
gt_passes place r passes = elim (place_cmp (place_of r) place) as (λ o. is_gt o ≡ true → o ≡ Greater) [ Less ↦ λ h. cc | Equal ↦ λ h. cc | Greater ↦ λ _. refl ] passes

pub IsRising-with_record : (r : Record) (records : List Record) → IsRising records → IsRising (with_record r records)
IsRising-with_record r records rising =
    IsRising-around r _ _ (IsRising-filter _ records rising) (IsRising-filter _ records rising)
    (filter-passes (is_before (place_of r)) _ (lt_passes (place_of r)) records) (filter-passes (is_after (place_of r)) _ (gt_passes (place_of r)) records)

-- a part of rising records rises
pub IsRising-drop : (i : ℕ) (records : List Record) → IsRising records → IsRising (drop i records)
IsRising-drop zero records rising = rising
IsRising-drop (suc i) [] rising = tt
IsRising-drop (suc i) (r ∷ records) rising = IsRising-drop i records rising.1

pub IsRising-append_left : (front back : List Record) → IsRising (front ++ back) → IsRising front
IsRising-append_left [] back rising = tt
IsRising-append_left (r ∷ front) back rising = (AllByRecursion-append_left _ front back rising.0, IsRising-append_left front back rising.1)

pub IsRising-append_right : (front back : List Record) → IsRising (front ++ back) → IsRising back
IsRising-append_right [] back rising = rising
IsRising-append_right (r ∷ front) back rising = IsRising-append_right front back rising.1

-- a record after one that isn't before a place is after the place
beyond : (place : Place) (r s : Record) → place_cmp (place_of r) (place_of s) ≡ Less → is_lt (place_cmp (place_of r) place) ≡ false → place_cmp (place_of s) place ≡ Greater
beyond place r s order later =
    elim (place_cmp (place_of r) place) as (λ o. place_cmp (place_of r) place ≡ o → is_lt o ≡ false → place_cmp (place_of s) place ≡ Greater) [
      | Less ↦ λ is late. cc
      | Equal ↦ λ is late.
          let tied : place_cmp place (place_of s) ≡ Less = sym (place_cmp-total.congr (place_of r) place (place_of s) is) ∙ order in
          place_cmp-total.antisymm (place_of s) place ∙ ap ordering_reverse tied
      | Greater ↦ λ is late.
          let back : place_cmp place (place_of r) ≡ Less = place_cmp-total.antisymm place (place_of r) ∙ ap ordering_reverse is in
          place_cmp-total.antisymm (place_of s) place ∙ ap ordering_reverse (place_cmp-total.trans place (place_of r) (place_of s) back order)
    ] refl later

-- what follows a record that isn't before a place stands after the place
pub after_later : (place : Place) (r : Record) (rest : List Record) → IsRising (r ∷ rest) → is_lt (place_cmp (place_of r) place) ≡ false → AllAfter place rest
after_later place r rest rising later = AllByRecursion-weaker _ _ (λ s order. beyond place r s order later) rest rising.0

-- ---- one record is taken out

all_left : (P : Record → Type 0) (records : List Record) (i : ℕ) → AllByRecursion P records → AllByRecursion P (remove records i)
all_left P [] zero all = tt
all_left P [] (suc i) all = tt
all_left P (r ∷ records) zero all = all.1
all_left P (r ∷ records) (suc i) all = (all.0, all_left P records i all.1)

pub IsRising-remove : (records : List Record) (i : ℕ) → IsRising records → IsRising (remove records i)
IsRising-remove [] zero rising = tt
IsRising-remove [] (suc i) rising = tt
IsRising-remove (r ∷ records) zero rising = rising.1
IsRising-remove (r ∷ records) (suc i) rising = (all_left _ records i rising.0, IsRising-remove records i rising.1)
