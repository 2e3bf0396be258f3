-- Orders of pages, as they grow page by page and ward by ward.
use Rattle.std.proofs.Common.{◌≡◌, ℕ, zero, suc, ◌+◌, ◌-◌, ◌<◌, ◌≤◌, Bool, nat_eq, eq-eqb, cond, false, List, [], ◌∷◌, ◌++◌, length, map, take, get_or, refl, sym, ap, ◌∙◌, subst, inl, inr, append_assoc, append-nil, arith, ◌^◌, drop, Some}
use Rattle.std.specs.List.{flat_map, range_with_len, slice_get}
use Rattle.std.proofs.lemmas.Bool.{cases_eq, cases_lt}
use Rattle.std.proofs.lemmas.Bool.Decides.{eqb_tells}
use Rattle.std.proofs.lemmas.List.{get_or_past, length-append, take-append-le, length-map, length-take, take-append-drop}
use Rattle.std.proofs.lemmas.List.Concat.{flat_map-append}
use Rattle.std.proofs.lemmas.List.FromFn.{map-range_with_len_more, get_or-map-range_with_len, length-map-range_with_len}
use Rattle.std.proofs.lemmas.List.Sums.{sum_by_push}
use Rattle.std.proofs.lemmas.Option.{slice_get_within, slice_get-get_or, slice_get-map}
use Rattle.std.proofs.Math.Seq.{take-append_seam}
use Rattle.std.specs.Option.{option_map}
use Rattle.exh_placing.proofs.Filtered.{counted_none}
use Rattle.exh_cells.specs.Fit.{BeginWards}
use Rattle.exh_prefix.specs.Leading.{ward_of}
use Rattle.exh_prefix.specs.PrefixListLemmas.{at_front, at_last, one_there, within_there}
use Rattle.exh_placing.specs.declared.page_at.PageAt.{PageAt}
use Rattle.exh_placing.specs.Order.{IsNumbered, IsOrderOf, IsWithin, first_pages, own_in, page_at, pages_between, with_others, BeginsWithFirsts, IsOrderOfLows}

-- ---- one page more

abbrev one_if : Bool → ℕ
one_if test = cond test 1 0

not_eqb : (one other : ℕ) → (one ≡ other → ⊥) → nat_eq one other ≡ false
not_eqb one other differ = elim (eqb_tells one other) [ inl same ↦ absurd (differ same.1) | inr else ↦ else.0 ]

pub own_more : (order : List PageAt) (page : PageAt) (ward : ℕ) → page.ward ≡ ward → own_in (order ++ page ∷ []) ward ≡ own_in order ward + 1
own_more order page ward same =
    sum_by_push (λ (page : PageAt). one_if (nat_eq page.ward ward)) order page ∙ ap (λ (test : Bool). own_in order ward + one_if test) (eq-eqb page.ward ward same)

pub own_else : (order : List PageAt) (page : PageAt) (ward : ℕ) → (page.ward ≡ ward → ⊥) → own_in (order ++ page ∷ []) ward ≡ own_in order ward
own_else order page ward other =
    let more = sum_by_push (λ (page : PageAt). one_if (nat_eq page.ward ward)) order page ∙ ap (λ (test : Bool). own_in order ward + one_if test) (not_eqb page.ward ward other) in
    omega (arith, more)

pub numbered_push : (order : List PageAt) (page : PageAt) → IsNumbered order → page.number ≡ own_in order page.ward → IsNumbered (order ++ page ∷ [])
numbered_push order page numbered number = λ place other is.
    let within = slice_get_within (order ++ page ∷ []) place other is in
    elim (cases_lt place (length order)) [
      | inl before ↦
          numbered place other (sym (at_front order (page ∷ []) place before) ∙ is)
          ∙ ap (λ (front : List PageAt). own_in front other.ward) (sym (take-append-le place order (page ∷ []) (omega (arith, before))))
      | inr past ↦
          let here : place ≡ length order = omega (arith, past, within, length-append order (page ∷ [])) in
          let same : page ≡ other = one_there (order ++ page ∷ []) (length order) page other (at_last order page) (ap (slice_get (order ++ page ∷ [])) (sym here) ∙ is) in
          let front : take place (order ++ page ∷ []) ≡ order = ap (λ (n : ℕ). take n (order ++ page ∷ [])) here ∙ take-append_seam order (page ∷ []) in
          ap (λ (page : PageAt). page.number) (sym same) ∙ number ∙ ap (λ (page : PageAt). own_in order page.ward) same ∙ ap (λ (front : List PageAt). own_in front other.ward) (sym front)
    ]

-- ---- pages of one ward more

pub between_more : (ward from to : ℕ) → from ≤ to → pages_between ward from (to + 1) ≡ pages_between ward from to ++ page_at ward to ∷ []
between_more ward from to within =
    let long : to + 1 - from ≡ to - from + 1 = omega (arith, within) in
    ap (λ (n : ℕ). map (page_at ward) (range_with_len from n)) long ∙ map-range_with_len_more (page_at ward) from (to - from) to (omega (arith, within))

record IsGrownBy (order new : List PageAt) (ward to : ℕ) : Type 0 where
  numbered : IsNumbered new
  own : own_in new ward ≡ to
  else_same : (other : ℕ) → (ward ≡ other → ⊥) → own_in new other ≡ own_in order other

grown_by : (order : List PageAt) (ward from n : ℕ) → IsNumbered order → own_in order ward ≡ from → IsGrownBy order (order ++ map (page_at ward) (range_with_len from n)) ward (from + n)
grown_by order ward from zero numbered own =
    let same : order ≡ order ++ [] = sym (append-nil order) in
    subst (λ (new : List PageAt). IsGrownBy order new ward (from + 0)) same (record { numbered = numbered; own = omega (arith, own); else_same = λ other differ. refl })
grown_by order ward from (suc n) numbered own =
    let before = grown_by order ward from n numbered own in
    let front = order ++ map (page_at ward) (range_with_len from n) in
    let page = page_at ward (from + n) in
    let next : suc n ≡ n + 1 = omega arith in
    let whole : front ++ page ∷ [] ≡ order ++ map (page_at ward) (range_with_len from (suc n)) =
    append_assoc order (map (page_at ward) (range_with_len from n)) (page ∷ [])
    ∙ ap (λ (more : List PageAt). order ++ more) (sym (ap (λ (count : ℕ). map (page_at ward) (range_with_len from count)) next ∙ map-range_with_len_more (page_at ward) from n (from + n) refl)) in
    subst (λ (new : List PageAt). IsGrownBy order new ward (from + suc n)) whole (record {
      numbered = numbered_push front page before.numbered (sym before.own);
      own = let more = own_more front page ward refl in omega (arith, more, before.own);
      else_same = λ other differ. own_else front page other differ ∙ before.else_same other differ;
    })

between_grows : (order : List PageAt) (ward from to : ℕ) → IsNumbered order → own_in order ward ≡ from → from ≤ to → IsGrownBy order (order ++ pages_between ward from to) ward to
between_grows order ward from to numbered own within =
    let whole : from + (to - from) ≡ to = omega (arith, within) in
    subst (IsGrownBy order (order ++ pages_between ward from to) ward) whole (grown_by order ward from (to - from) numbered own)

-- ---- ward by ward

range_more : (n i : ℕ) → range_with_len i (suc n) ≡ range_with_len i n ++ (i + n) ∷ []
range_more zero i = let here : i ≡ i + 0 = omega arith in ap (λ (j : ℕ). j ∷ []) here
range_more (suc n) i =
    let next : i + 1 + n ≡ i + suc n = omega arith in
    ap (λ (rest : List ℕ). i ∷ rest) (range_more n (i + 1) ∙ ap (λ (j : ℕ). range_with_len (i + 1) n ++ j ∷ []) next)

pub flat_more : {A : Type 0} (f : ℕ → List A) (n : ℕ) → flat_map f (range_with_len 0 (n + 1)) ≡ flat_map f (range_with_len 0 n) ++ f n
flat_more f n =
    let next : n + 1 ≡ suc n = omega arith in
    let here : 0 + n ≡ n = omega arith in
    ap (λ (count : ℕ). flat_map f (range_with_len 0 count)) next ∙ ap (flat_map f) (range_more n 0 ∙ ap (λ (j : ℕ). range_with_len 0 n ++ j ∷ []) here)
    ∙ flat_map-append f (range_with_len 0 n) (n ∷ []) ∙ ap (λ (last : List _). flat_map f (range_with_len 0 n) ++ last) (append-nil (f n))

module _ (counts : List ℕ) (placed : List PageAt) (numbered : IsNumbered placed) (within : IsWithin counts placed) where
  abbrev others_of : ℕ → List PageAt
  others_of ward = pages_between ward (own_in placed ward) (get_or counts ward 0)

  abbrev grown_to : ℕ → List PageAt
  grown_to wards = placed ++ flat_map others_of (range_with_len 0 wards)

  record IsGrownTo (wards : ℕ) (order : List PageAt) : Type 0 where
    numbered_now : IsNumbered order
    done : (ward : ℕ) → ward < wards → own_in order ward ≡ get_or counts ward 0
    left : (ward : ℕ) → wards ≤ ward → own_in order ward ≡ own_in placed ward

  grown : (wards : ℕ) → IsGrownTo wards (grown_to wards)
  grown zero = subst (IsGrownTo 0) (sym (append-nil placed)) (record { numbered_now = numbered; done = λ ward less. absurd (omega (arith, less)); left = λ ward more. refl })
  grown (suc wards) =
      let before = grown wards in
      let more = between_grows (grown_to wards) wards (own_in placed wards) (get_or counts wards 0) before.numbered_now (before.left wards (omega arith)) (within wards) in
      let next : wards + 1 ≡ suc wards = omega arith in
      let whole : grown_to wards ++ others_of wards ≡ grown_to (suc wards) =
      append_assoc placed (flat_map others_of (range_with_len 0 wards)) (others_of wards)
      ∙ ap (λ (rest : List PageAt). placed ++ rest) (sym (flat_more others_of wards) ∙ ap (λ (count : ℕ). flat_map others_of (range_with_len 0 count)) next) in
      subst (IsGrownTo (suc wards)) whole (record {
        numbered_now = more.numbered;
        done = λ ward less. elim (cases_eq wards ward) [
          | inl same ↦ ap (own_in (grown_to wards ++ others_of wards)) (sym same) ∙ more.own ∙ ap (λ (ward : ℕ). get_or counts ward 0) same
          | inr differ ↦ more.else_same ward differ ∙ before.done ward (omega (arith, less, differ))
        ];
        left = λ ward past. more.else_same ward (λ same. absurd (omega (arith, same, past))) ∙ before.left ward (omega (arith, past));
      })

  pub others_ordered : IsOrderOf counts (with_others counts placed)
  others_ordered =
      let all = grown (length counts) in
      record {
        numbered = all.numbered_now;
        counted = λ ward. elim (cases_lt ward (length counts)) [
          | inl less ↦ all.done ward less
          | inr past ↦
              let none = get_or_past counts ward 0 past in
              let few = within ward in
              let is = all.left ward past in
              omega (arith, none, few, is)
        ];
      }

-- ---- first pages

pub first_more : (wards : ℕ) → first_pages (wards + 1) ≡ first_pages wards ++ page_at wards 0 ∷ []
first_more wards = map-range_with_len_more (λ ward. page_at ward 0) 0 wards wards (omega arith)

record AreFirst (wards : ℕ) (order : List PageAt) : Type 0 where
  numbered_first : IsNumbered order
  one : (ward : ℕ) → ward < wards → own_in order ward ≡ 1
  none : (ward : ℕ) → wards ≤ ward → own_in order ward ≡ 0

firsts : (wards : ℕ) → AreFirst wards (first_pages wards)
firsts zero = record { numbered_first = λ place page is. cc; one = λ ward less. absurd (omega (arith, less)); none = λ ward past. refl }
firsts (suc wards) =
    let before = firsts wards in
    let order = first_pages wards in
    let page = page_at wards 0 in
    let next : wards + 1 ≡ suc wards = omega arith in
    let own = before.none wards (omega arith) in
    subst (AreFirst (suc wards)) (sym (first_more wards) ∙ ap first_pages next) (record {
      numbered_first = numbered_push order page before.numbered_first (sym own);
      one = λ ward less. elim (cases_eq wards ward) [
        | inl same ↦
            let more = own_more order page ward same in
            let was = before.none ward (omega (arith, same)) in
            omega (arith, more, was)
        | inr differ ↦ own_else order page ward differ ∙ before.one ward (omega (arith, less, differ))
      ];
      none = λ ward past. own_else order page ward (λ same. absurd (omega (arith, same, past))) ∙ before.none ward (omega (arith, past));
    })

pub firsts_numbered : (wards : ℕ) → IsNumbered (first_pages wards)
firsts_numbered wards = (firsts wards).numbered_first

pub firsts_within : (counts : List ℕ) → ((ward : ℕ) → ward < length counts → 1 ≤ get_or counts ward 0) → IsWithin counts (first_pages (length counts))
firsts_within counts some ward = elim (cases_lt ward (length counts)) [
  | inl less ↦ let one = (firsts (length counts)).one ward less in omega (arith, one, some ward less)
  | inr past ↦ let none = (firsts (length counts)).none ward past in omega (arith, none)
]

-- ---- the first places

pub firsts_begin : (wards : ℕ) → BeginsWithFirsts wards (first_pages wards)
firsts_begin wards ward less =
    let page : ℕ → PageAt = λ ward. page_at ward 0 in
    slice_get-get_or (first_pages wards) ward (page 0) (omega (arith, less, length-map-range_with_len page 0 wards))
    ∙ ap (λ (at : PageAt). Some at) (get_or-map-range_with_len page 0 wards ward ward (page 0) less (omega arith))

pub firsts_kept : (wards : ℕ) (placed more : List PageAt) → BeginsWithFirsts wards placed → BeginsWithFirsts wards (placed ++ more)
firsts_kept wards placed more firsts ward less = at_front placed more ward (slice_get_within placed ward (page_at ward 0) (firsts ward less)) ∙ firsts ward less

-- what stands in a front stands in the whole
front_there : {A : Type 0} (n : ℕ) (xs : List A) (i : ℕ) (x : A) → slice_get (take n xs) i ≡ Some x → (i < n) × (slice_get xs i ≡ Some x)
front_there n xs i x is =
    let within = slice_get_within (take n xs) i x is in (
      omega (arith, within, length-take n xs),
      ap (λ (xs : List _). slice_get xs i) (sym (take-append-drop n xs)) ∙ at_front (take n xs) (drop n xs) i within ∙ is,
    )

module _ (ward_bits : ℕ) (lows : List ℕ) (order : List PageAt) (is_order : IsOrderOfLows ward_bits lows order) where
  abbrev at_ward : PageAt → ℕ
  at_ward at = at.ward

  low_at : (place : ℕ) (at : PageAt) → slice_get order place ≡ Some at → (low : ℕ) × (slice_get lows place ≡ Some low) × (at.ward ≡ ward_of ward_bits low)
  low_at place at is =
      let long : length order ≡ length lows = sym (length-map order at_ward) ∙ ap length is_order.wards ∙ length-map lows (ward_of ward_bits) in
      let low = within_there lows place (omega (arith, long, slice_get_within order place at is)) in
      let both = one_there (map at_ward order) place at.ward (ward_of ward_bits low.0) (slice_get-map at_ward order place ∙ ap (option_map at_ward) is)
      (ap (λ (wards : List ℕ). slice_get wards place) is_order.wards ∙ slice_get-map (ward_of ward_bits) lows place ∙ ap (option_map (ward_of ward_bits)) low.1) in
      (low.0, low.1, both)

  pub lows_begin : 2 ^ ward_bits ≤ length lows → BeginWards ward_bits lows → BeginsWithFirsts (2 ^ ward_bits) order
  lows_begin many begins ward less =
      let long : length order ≡ length lows = sym (length-map order at_ward) ∙ ap length is_order.wards ∙ length-map lows (ward_of ward_bits) in
      let at = within_there order ward (omega (arith, long, less, many)) in
      let own = low_at ward at.0 at.1 in
      let ward_is : (at.0).ward ≡ ward = own.2 ∙ begins ward own.0 less own.1 in
      let none : own_in (take ward order) ward ≡ 0 = counted_none (λ page. nat_eq page.ward ward) (take ward order) (λ place page is.
      let there = front_there ward order place page is in
      let low = low_at place page there.1 in
      let other : page.ward ≡ place = low.2 ∙ begins place low.0 (omega (arith, there.0, less)) low.1 in
      not_eqb page.ward ward (λ same. omega (arith, same, other, there.0))) in
      let number_is : (at.0).number ≡ 0 = is_order.numbered ward at.0 at.1 ∙ ap (own_in (take ward order)) ward_is ∙ none in
      at.1 ∙ (λ i. Some (page_at (ward_is i) (number_is i)))
