-- The map of legal pages: what it has at a key.
use Rattle.std.proofs.Common.{◌≡◌, ℕ, zero, suc, Bool, true, false, cond, List, [], ◌∷◌, ◌++◌, map, find, filter, slice_get, Ordering, Option, None, Some, refl, sym, ap, ◌∙◌, subst, arith, nat_cmp}
use Rattle.std.specs.declared.cmp.Ordering.TheVariants.{Less, Equal, Greater}
use Rattle.std.specs.FinMap as fin
use Rattle.std.specs.List.{AllByRecursion, flat_map}
use Rattle.std.specs.Option.{option_map, option_map_or, option_or}
use Rattle.std.specs.Ordering.{is_eq, eq_by_cmp}
use Rattle.std.specs.Cmp.Lexicographic.{slice_cmp}
use Rattle.std.proofs.lemmas.Bool.{false_from_ne_true, false≢true}
use Rattle.std.proofs.lemmas.Cmp.{nat_list_cmp_total, tied_itself}
use Rattle.std.proofs.lemmas.List.Folds.{find-append}
use Rattle.std.proofs.lemmas.Map.Lookups.{exact_bytes}
use Rattle.exh_prefix.specs.Bits.{word_bits}
use Rattle.exh_prefix.specs.Prefix.{Begins, begins}
use Rattle.exh_prefix.specs.PrefixLemmas.{is_front-true}
use Rattle.exh_prefix.specs.PrefixListLemmas.{is_equal, AllByRecursion-append}
use Rattle.exh_page.specs.declared.page.Page.{Page}
use Rattle.exh_page.specs.declared.page.Page.TheVariants.{Live, Forward}
use Rattle.exh_page.specs.declared.record.Record.{Record}
use Rattle.exh_page.specs.Page.{records_of, begun_by, with_records}
use Rattle.exh_page.specs.Place.{Place, place_cmp, place_of}
use Rattle.exh_page.specs.Records.{is_at, value_at}
use Rattle.exh_page.specs.RecordsLemmas.{place_cmp-total, place_cmp-exact}
use Rattle.exh_page.specs.KeyMap.{KeyMap, pair_of}
use Rattle.exh_legal.specs.Pages.{map_of, IsAt, IsHome, IsLegalPage, IsLegal}
use Rattle.exh_legal.specs.BareLemmas.{bare_at}
use Rattle.exh_legal.specs.LegalPlaceLemmas.{home_bare}

-- ---- the map of some records

abbrev pub map_of_records : List Record → KeyMap
map_of_records records = fin.from_entries (map pair_of records)

-- each record has its key's pseudokey beside it
abbrev pub AreHashed : (List ℕ → ℕ) → List Record → Type 0
AreHashed pseudo records = AllByRecursion (λ r. r.pseudokey ≡ pseudo r.key) records

value_cons : (b : Bool) (place : Place) (r : Record) (records : List Record) → cond b (Some r.value) (value_at place records) ≡ option_map (λ r. r.value) (cond b (Some r) (find (is_at place) records))
value_cons true place r records = refl
value_cons false place r records = refl

-- where the record of a key stands
abbrev pub place_of_key : (List ℕ → ℕ) → List ℕ → Place
place_of_key pseudo key = (pseudo key, key)

-- places of keys that differ don't tie
differ : (pseudo : List ℕ → ℕ) (one other : List ℕ) {o : Ordering} → slice_cmp nat_cmp one other ≡ o → is_eq o ≡ false → is_eq (place_cmp (place_of_key pseudo other) (place_of_key pseudo one)) ≡ false
differ pseudo one other {o = o} is unequal =
    false_from_ne_true _ (λ tied.
    let same = ap (λ (p : Place). p.1) (place_cmp-exact (place_of_key pseudo other) (place_of_key pseudo one) (is_equal _ tied)) in
    let itself : o ≡ Equal = sym is ∙ ap (slice_cmp nat_cmp one) same ∙ tied_itself nat_list_cmp_total one in
    false≢true (sym unequal ∙ ap is_eq itself))

-- two keys compare alike exactly where their places do
pub same_test : (pseudo : List ℕ → ℕ) (one other : List ℕ) → eq_by_cmp (slice_cmp nat_cmp) one other ≡ is_eq (place_cmp (place_of_key pseudo other) (place_of_key pseudo one))
same_test pseudo one other =
    elim (slice_cmp nat_cmp one other) as (λ o. slice_cmp nat_cmp one other ≡ o → is_eq o ≡ is_eq (place_cmp (place_of_key pseudo other) (place_of_key pseudo one))) [
      | Less ↦ λ is. sym (differ pseudo one other is refl)
      | Equal ↦ λ is. let same = exact_bytes one other is in
          sym (ap (λ key. is_eq (place_cmp (place_of_key pseudo key) (place_of_key pseudo one))) (sym same) ∙ ap is_eq (tied_itself place_cmp-total (place_of_key pseudo one)))
      | Greater ↦ λ is. sym (differ pseudo one other is refl)
    ] refl

-- a record of the key, by its place
is_at_key : (pseudo : List ℕ → ℕ) (key : List ℕ) (r : Record) → r.pseudokey ≡ pseudo r.key → eq_by_cmp (slice_cmp nat_cmp) key r.key ≡ is_at (place_of_key pseudo key) r
is_at_key pseudo key r hashed = same_test pseudo key r.key ∙ ap (λ k. is_eq (place_cmp (k, r.key) (place_of_key pseudo key))) (sym hashed)

found_in_pairs : (pseudo : List ℕ → ℕ) (records : List Record) (key : List ℕ) → AreHashed pseudo records → fin.find (slice_cmp nat_cmp) key (map pair_of records) ≡ value_at (place_of_key pseudo key) records
found_in_pairs pseudo [] key hashed = refl
found_in_pairs pseudo (r ∷ records) key hashed =
    ap (λ b. cond b (Some r.value) (fin.find (slice_cmp nat_cmp) key (map pair_of records))) (is_at_key pseudo key r hashed.0)
    ∙ ap (cond (is_at (place_of_key pseudo key) r) (Some r.value)) (found_in_pairs pseudo records key hashed.1)
    ∙ value_cons (is_at (place_of_key pseudo key) r) (place_of_key pseudo key) r records

-- what the map of the records has at a key
pub get-map_of_records : (pseudo : List ℕ → ℕ) (records : List Record) (key : List ℕ) → AreHashed pseudo records → fin.get (map_of_records records) key ≡ value_at (place_of_key pseudo key) records
get-map_of_records pseudo records key hashed = fin.get-from_entries nat_list_cmp_total (map pair_of records) key ∙ found_in_pairs pseudo records key hashed

-- ---- what is found in the records of several pages

-- what a page's records, if there is such a page, have
abbrev pub found_at : (Record → Bool) → List Page → ℕ → Option Record
found_at p pages number = option_map_or (λ page. find p (records_of page)) (slice_get pages number) None

pub skip : (p : Record → Bool) (front back : List Record) → find p front ≡ None → find p (front ++ back) ≡ find p back
skip p front back none = find-append p front back ∙ ap (λ found. option_or found (find p back)) none

pub nothing_found : (p : Record → Bool) (pages : List Page) → ((number : ℕ) → found_at p pages number ≡ None) → find p (flat_map records_of pages) ≡ None
nothing_found p [] none = refl
nothing_found p (page ∷ pages) none = skip p (records_of page) (flat_map records_of pages) (none 0) ∙ nothing_found p pages (λ number. none (suc number))

pub or_none : (found : Option Record) → option_or found None ≡ found
or_none None = refl
or_none (Some r) = refl

-- where the records of all other pages have none, what is found is the page's
pub found_here : (p : Record → Bool) (pages : List Page) (number : ℕ) (page : Page) → IsAt pages number page → ((other : ℕ) → (other ≡ number → ⊥) → found_at p pages other ≡ None)
    → find p (flat_map records_of pages) ≡ find p (records_of page)
found_here p [] number page is others = cc
found_here p (first ∷ pages) zero page is others =
    let same : first ≡ page = cc in
    find-append p (records_of first) (flat_map records_of pages)
    ∙ ap (λ found. option_or (find p (records_of first)) found) (nothing_found p pages (λ number. others (suc number) (λ same. absurd (omega arith))))
    ∙ or_none (find p (records_of first)) ∙ ap (λ page. find p (records_of page)) same
found_here p (first ∷ pages) (suc number) page is others =
    skip p (records_of first) (flat_map records_of pages) (others 0 (λ same. absurd (omega arith)))
    ∙ found_here p pages number page is (λ other else. others (suc other) (λ same. else (omega arith)))

-- pages whose records have the same, number for number, have the same together
pub found_alike : (p : Record → Bool) (one other : List Page) → ((number : ℕ) → found_at p one number ≡ found_at p other number) → find p (flat_map records_of one) ≡ find p (flat_map records_of other)
found_alike p [] other same = sym (nothing_found p other (λ number. sym (same number)))
found_alike p (page ∷ one) [] same = nothing_found p (page ∷ one) same
found_alike p (page ∷ one) (twin ∷ other) same =
    find-append p (records_of page) (flat_map records_of one)
    ∙ ap (λ found. option_or found (find p (flat_map records_of one))) (same 0)
    ∙ ap (option_or (find p (records_of twin))) (found_alike p one other (λ number. same (suc number)))
    ∙ sym (find-append p (records_of twin) (flat_map records_of other))

-- ---- records of a prefix

-- a record at a place has the place's pseudokey
pub pseudokey_at : (place : Place) (r : Record) → is_at place r ≡ true → r.pseudokey ≡ place.0
pseudokey_at place r here = ap (λ (p : Place). p.0) (place_cmp-exact (place_of r) place (is_equal (place_cmp (place_of r) place) here))

-- records that a prefix begins have nothing of a pseudokey that it doesn't begin
pub none_of_others : (prefix : List Bool) (place : Place) (records : List Record) → AllByRecursion (λ r. Begins prefix r.pseudokey) records → (Begins prefix place.0 → ⊥) → find (is_at place) records ≡ None
none_of_others prefix place [] begun not = refl
none_of_others prefix place (r ∷ records) begun not =
    let misses : is_at place r ≡ false = false_from_ne_true _ (λ here. not (subst (Begins prefix) (pseudokey_at place r here) begun.0)) in
    rw misses (none_of_others prefix place records begun.1 not)

-- a test that each record found passes doesn't matter for what is found
find_through : (p q : Record → Bool) → ((r : Record) → p r ≡ true → q r ≡ true) → (records : List Record) → find p (filter q records) ≡ find p records
find_through p q passes [] = refl
find_through p q passes (r ∷ records) =
    elim (p r) as (λ b. p r ≡ b → find p (cond (q r) (r ∷ filter q records) (filter q records)) ≡ cond b (Some r) (find p records)) [
      | true ↦ λ is. rw (passes r is, is) refl
      | false ↦ λ is. elim (q r) as (λ k. find p (cond k (r ∷ filter q records) (filter q records)) ≡ find p records) [
        | true ↦ rw is (find_through p q passes records)
        | false ↦ find_through p q passes records
      ]
    ] refl

pub found_in_begun : (prefix : List Bool) (place : Place) (records : List Record) → Begins prefix place.0 → find (is_at place) (begun_by prefix records) ≡ find (is_at place) records
found_in_begun prefix place records is =
    find_through (is_at place) (λ r. begins prefix r.pseudokey) (λ r here. ap (begins prefix) (pseudokey_at place r here) ∙ is_front-true prefix (word_bits place.0) is) records

-- ---- the map of legal pages

pub page_at : (P : Page → Type 0) (pages : List Page) (number : ℕ) (page : Page) → AllByRecursion P pages → IsAt pages number page → P page
page_at P [] number page all is = cc
page_at P (first ∷ pages) zero page all is = let same : first ≡ page = cc in subst P same all.0
page_at P (first ∷ pages) (suc number) page all is = page_at P pages number page all.1 is

pub all_pages : (P : Page → Type 0) (pages : List Page) → ((number : ℕ) (page : Page) → IsAt pages number page → P page) → AllByRecursion P pages
all_pages P [] each = tt
all_pages P (page ∷ pages) each = (each 0 page refl, all_pages P pages (λ number. each (suc number)))

hashed_page : (cap : ℕ) (pseudo : List ℕ → ℕ) (page : Page) → IsLegalPage cap pseudo page → AreHashed pseudo (records_of page)
hashed_page cap pseudo (Live prefix right records) legal = legal.0.hashed
hashed_page cap pseudo (Forward low target) legal = tt

pub hashed_pages : (cap : ℕ) (pseudo : List ℕ → ℕ) (pages : List Page) → AllByRecursion (IsLegalPage cap pseudo) pages → AreHashed pseudo (flat_map records_of pages)
hashed_pages cap pseudo [] each = tt
hashed_pages cap pseudo (page ∷ pages) each = AllByRecursion-append _ (records_of page) (flat_map records_of pages) (hashed_page cap pseudo page each.0) (hashed_pages cap pseudo pages each.1)

-- what the map of pages has at a key is what their records have
pub get-map_of_pages : (cap : ℕ) (pseudo : List ℕ → ℕ) (pages : List Page) (key : List ℕ) → AllByRecursion (IsLegalPage cap pseudo) pages → fin.get (map_of pages) key ≡ value_at (place_of_key pseudo key) (flat_map records_of pages)
get-map_of_pages cap pseudo pages key each = get-map_of_records pseudo (flat_map records_of pages) key (hashed_pages cap pseudo pages each)

none_in_page : (cap : ℕ) (pseudo : List ℕ → ℕ) (page : Page) (place : Place) → IsLegalPage cap pseudo page → (IsHome page place.0 → ⊥) → find (is_at place) (records_of page) ≡ None
none_in_page cap pseudo (Live prefix right records) place legal not = none_of_others prefix place records legal.0.begun not
none_in_page cap pseudo (Forward low target) place legal not = refl

-- a page that isn't the home of a pseudokey has no record of it
pub none_elsewhere : (cap : ℕ) (pseudo : List ℕ → ℕ) (pages : List Page) (number : ℕ) (place : Place) → AllByRecursion (IsLegalPage cap pseudo) pages → ((page : Page) → IsAt pages number page → IsHome page place.0 → ⊥)
    → found_at (is_at place) pages number ≡ None
none_elsewhere cap pseudo pages number place each not =
    elim (slice_get pages number) as (λ found. slice_get pages number ≡ found → option_map_or (λ page. find (is_at place) (records_of page)) found None ≡ None) [
      | None ↦ λ is. refl
      | Some page ↦ λ is. none_in_page cap pseudo page place (page_at (IsLegalPage cap pseudo) pages number page each is) (not page is)
    ] refl

-- in legal pages it is what the key's home has
pub found_at_home : (cap : ℕ) (pseudo : List ℕ → ℕ) (ward : List Bool) (pages : List Page) (number : ℕ) (page : Page) (place : Place) → IsLegal cap pseudo ward pages → IsAt pages number page → IsHome page place.0
    → find (is_at place) (flat_map records_of pages) ≡ find (is_at place) (records_of page)
found_at_home cap pseudo ward pages number page place legal is home =
    found_here (is_at place) pages number page is (λ other else.
    none_elsewhere cap pseudo pages other place legal.each (λ twin is_twin twin_home.
    else (legal.linked.one_home place.0 other number (with_records [] twin) (with_records [] page) (bare_at pages other twin is_twin) (bare_at pages number page is) (home_bare twin place.0 twin_home) (home_bare page place.0 home))))

pub get-map_of : (cap : ℕ) (pseudo : List ℕ → ℕ) (ward : List Bool) (pages : List Page) (number : ℕ) (page : Page) (key : List ℕ) → IsLegal cap pseudo ward pages → IsAt pages number page → IsHome page (pseudo key)
    → fin.get (map_of pages) key ≡ value_at (place_of_key pseudo key) (records_of page)
get-map_of cap pseudo ward pages number page key legal is home =
    get-map_of_pages cap pseudo pages key legal.each ∙ ap (option_map (λ r. r.value)) (found_at_home cap pseudo ward pages number page (place_of_key pseudo key) legal is home)
