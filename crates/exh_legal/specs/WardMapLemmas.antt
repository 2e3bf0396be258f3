-- The map of all wards' pages, at a key, is that of the key's own ward.
use Rattle.std.proofs.Common.{◌≡◌, ℕ, zero, suc, ◌+◌, ◌<◌, ◌≤◌, ◌^◌, Bool, List, [], ◌∷◌, length, find, slice_get, None, Some, refl, sym, ap, ◌∙◌, subst, arith}
use Rattle.std.specs.FinMap as fin
use Rattle.std.specs.List.{AllByRecursion, flat_map}
use Rattle.std.specs.Option.{option_map, option_or}
use Rattle.std.proofs.lemmas.Grind.{flat_map-append}
use Rattle.std.proofs.lemmas.List.Folds.{find-append}
use Rattle.std.proofs.lemmas.Option.{slice_get_within}
use Rattle.exh_prefix.specs.Bits.{word_bits}
use Rattle.exh_prefix.specs.LeadingLemmas.{one_front}
use Rattle.exh_prefix.specs.Prefix.{Begins}
use Rattle.exh_prefix.specs.PrefixLemmas.{front_of_front}
use Rattle.exh_page.specs.declared.page.Page.{Page}
use Rattle.exh_page.specs.declared.page.Page.TheVariants.{Live, Forward}
use Rattle.exh_page.specs.Page.{records_of, with_records}
use Rattle.exh_page.specs.Place.{Place}
use Rattle.exh_page.specs.Records.{is_at}
use Rattle.exh_prefix.specs.Leading.{ward_prefix}
use Rattle.exh_legal.specs.Pages.{map_of, IsHome, IsWithin, IsLegalPage, IsLegal}
use Rattle.exh_legal.specs.BareLemmas.{bare_at}
use Rattle.exh_prefix.specs.LowLemmas.{front_shorter}
use Rattle.exh_prefix.specs.PrefixListLemmas.{AllByRecursion-append}
use Rattle.exh_legal.specs.MapLemmas.{place_of_key, skip, or_none, nothing_found, none_elsewhere, get-map_of_pages}

-- the pages of all wards, one ward after the other
abbrev pub all_pages_of : List (List Page) → List Page
all_pages_of wards = flat_map (λ pages. pages) wards

-- pages of wards from a number on, each ward's legal
abbrev pub AreLegalFrom : ℕ → (List ℕ → ℕ) → ℕ → ℕ → List (List Page) → Type 0
AreLegalFrom cap pseudo ward_bits first [] = Unit {0}
AreLegalFrom cap pseudo ward_bits first (pages ∷ wards) = IsLegal cap pseudo (ward_prefix ward_bits first) pages × AreLegalFrom cap pseudo ward_bits (suc first) wards

pub legal_from : (cap : ℕ) (pseudo : List ℕ → ℕ) (ward_bits first : ℕ) (wards : List (List Page)) → ((number : ℕ) (pages : List Page) → slice_get wards number ≡ Some pages → IsLegal cap pseudo (ward_prefix ward_bits (first + number)) pages)
    → AreLegalFrom cap pseudo ward_bits first wards
legal_from cap pseudo ward_bits first [] each = tt
legal_from cap pseudo ward_bits first (pages ∷ wards) each =
    let here : first + 0 ≡ first = omega arith in (
      subst (λ n. IsLegal cap pseudo (ward_prefix ward_bits n) pages) here (each 0 pages refl),
      legal_from cap pseudo ward_bits (suc first) wards (λ number other is.
          let later : first + suc number ≡ suc first + number = omega arith in
          subst (λ n. IsLegal cap pseudo (ward_prefix ward_bits n) other) later (each (suc number) other is)),
    )

each_legal : (cap : ℕ) (pseudo : List ℕ → ℕ) (ward_bits first : ℕ) (wards : List (List Page)) → AreLegalFrom cap pseudo ward_bits first wards → AllByRecursion (IsLegalPage cap pseudo) (all_pages_of wards)
each_legal cap pseudo ward_bits first [] legal = tt
each_legal cap pseudo ward_bits first (pages ∷ wards) legal = AllByRecursion-append _ pages (all_pages_of wards) legal.0.each (each_legal cap pseudo ward_bits (suc first) wards legal.1)

-- ---- the ward of a pseudokey

-- a pseudokey is in one ward alone
one_ward : (ward_bits one other pseudokey : ℕ) → one < 2 ^ ward_bits → other < 2 ^ ward_bits → Begins (ward_prefix ward_bits one) pseudokey → Begins (ward_prefix ward_bits other) pseudokey → one ≡ other
one_ward ward_bits one other pseudokey = one_front ward_bits one other (word_bits pseudokey)

-- what is at home in a page of a ward is of the ward
home_within : (ward : List Bool) (page : Page) (pseudokey : ℕ) → IsWithin ward (with_records [] page) → IsHome page pseudokey → Begins ward pseudokey
home_within ward (Live prefix right records) pseudokey within home = front_of_front ward prefix (word_bits pseudokey) (front_shorter ward prefix within.0) within.0 home
home_within ward (Forward low target) pseudokey within home = absurd home

-- a ward has no record of a pseudokey of another ward
none_of_ward : (cap : ℕ) (pseudo : List ℕ → ℕ) (ward : List Bool) (pages : List Page) (place : Place) → IsLegal cap pseudo ward pages → (Begins ward place.0 → ⊥) → find (is_at place) (flat_map records_of pages) ≡ None
none_of_ward cap pseudo ward pages place legal not =
    nothing_found (is_at place) pages (λ number. none_elsewhere cap pseudo pages number place legal.each (λ page is home.
    not (home_within ward page place.0 (legal.linked.within number (with_records [] page) (bare_at pages number page is)) home)))

found_none : (cap : ℕ) (pseudo : List ℕ → ℕ) (ward_bits first : ℕ) (wards : List (List Page)) (place : Place) → AreLegalFrom cap pseudo ward_bits first wards
    → ((other : ℕ) (pages : List Page) → slice_get wards other ≡ Some pages → Begins (ward_prefix ward_bits (first + other)) place.0 → ⊥)
    → find (is_at place) (flat_map records_of (all_pages_of wards)) ≡ None
found_none cap pseudo ward_bits first [] place legal not = refl
found_none cap pseudo ward_bits first (pages ∷ wards) place legal not =
    let here : first + 0 ≡ first = omega arith in
    ap (find (is_at place)) (flat_map-append records_of pages (all_pages_of wards))
    ∙ skip (is_at place) (flat_map records_of pages) (flat_map records_of (all_pages_of wards))
    (none_of_ward cap pseudo (ward_prefix ward_bits first) pages place legal.0 (λ begins. not 0 pages refl (subst (λ n. Begins (ward_prefix ward_bits n) place.0) (sym here) begins)))
    ∙ found_none cap pseudo ward_bits (suc first) wards place legal.1 (λ other pages is begins.
    let later : suc first + other ≡ first + suc other = omega arith in
    not (suc other) pages is (subst (λ n. Begins (ward_prefix ward_bits n) place.0) later begins))

-- what all wards have at a place is what the place's own ward has
found_in_ward : (cap : ℕ) (pseudo : List ℕ → ℕ) (ward_bits first number : ℕ) (wards : List (List Page)) (pages : List Page) (place : Place) → AreLegalFrom cap pseudo ward_bits first wards
    → first + length wards ≤ 2 ^ ward_bits → slice_get wards number ≡ Some pages → Begins (ward_prefix ward_bits (first + number)) place.0
    → find (is_at place) (flat_map records_of (all_pages_of wards)) ≡ find (is_at place) (flat_map records_of pages)
found_in_ward cap pseudo ward_bits first number [] own place legal few is begins = cc
found_in_ward cap pseudo ward_bits first zero (pages ∷ wards) own place legal few is begins =
    let same : pages ≡ own = cc in
    let none = found_none cap pseudo ward_bits (suc first) wards place legal.1 (λ other twin is_twin begins_too.
    let within : other < length wards = slice_get_within wards other twin is_twin in
    let clash : first + 0 ≡ suc first + other = one_ward ward_bits (first + 0) (suc first + other) place.0 (omega (arith, few)) (omega (arith, few, within)) begins begins_too in
    omega (arith, clash)) in
    ap (find (is_at place)) (flat_map-append records_of pages (all_pages_of wards))
    ∙ find-append (is_at place) (flat_map records_of pages) (flat_map records_of (all_pages_of wards))
    ∙ ap (option_or (find (is_at place) (flat_map records_of pages))) none ∙ or_none _ ∙ ap (λ pages. find (is_at place) (flat_map records_of pages)) same
found_in_ward cap pseudo ward_bits first (suc number) (pages ∷ wards) own place legal few is begins =
    let later : first + suc number ≡ suc first + number = omega arith in
    let within : number < length wards = slice_get_within wards number own is in
    let none = none_of_ward cap pseudo (ward_prefix ward_bits first) pages place legal.0 (λ begins_too.
    let clash : first + suc number ≡ first = one_ward ward_bits (first + suc number) first place.0 (omega (arith, few, within)) (omega (arith, few)) begins begins_too in
    omega (arith, clash)) in
    ap (find (is_at place)) (flat_map-append records_of pages (all_pages_of wards))
    ∙ skip (is_at place) (flat_map records_of pages) (flat_map records_of (all_pages_of wards)) none
    ∙ found_in_ward cap pseudo ward_bits (suc first) number wards own place legal.1 (omega (arith, few)) is (subst (λ n. Begins (ward_prefix ward_bits n) place.0) later begins)

-- so the map of all wards has at a key what the key's own ward has
pub get_in_ward : (cap : ℕ) (pseudo : List ℕ → ℕ) (ward_bits number : ℕ) (wards : List (List Page)) (pages : List Page) (key : List ℕ) → AreLegalFrom cap pseudo ward_bits 0 wards
    → length wards ≡ 2 ^ ward_bits → slice_get wards number ≡ Some pages → AllByRecursion (IsLegalPage cap pseudo) pages → Begins (ward_prefix ward_bits number) (pseudo key)
    → fin.get (map_of (all_pages_of wards)) key ≡ fin.get (map_of pages) key
get_in_ward cap pseudo ward_bits number wards pages key legal count is each begins =
    let here : number ≡ 0 + number = omega arith in
    get-map_of_pages cap pseudo (all_pages_of wards) key (each_legal cap pseudo ward_bits 0 wards legal)
    ∙ ap (option_map (λ r. r.value)) (found_in_ward cap pseudo ward_bits 0 number wards pages (place_of_key pseudo key) legal (omega (arith, count)) is (subst (λ n. Begins (ward_prefix ward_bits n) (pseudo key)) here begins))
    ∙ sym (get-map_of_pages cap pseudo pages key each)
