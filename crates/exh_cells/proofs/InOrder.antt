-- Places one after the other: pages counted by wards, what is told place by place.
use Rattle.std.proofs.Common.{◌≡◌, ℕ, zero, suc, ◌+◌, ◌<◌, ◌≤◌, ◌^◌, false, eq-eqb, nat_eq, List, [], ◌∷◌, ◌++◌, length, take, get_or, refl, ap, ◌∙◌, append-nil, subst, inl, inr, arith}
use Rattle.std.specs.List.{flat_map, range_with_len}
use Rattle.std.proofs.lemmas.Bool.Decides.{eqb_tells}
use Rattle.std.proofs.lemmas.List.Concat.{flat_map-append}
use Rattle.std.proofs.lemmas.List.Sums.{count_by_more_no, count_by_more_yes}
use Rattle.std.proofs.lemmas.Nat.{pow_below}
use Rattle.std.proofs.lemmas.Bool.{cases_lt}
use Rattle.exh_prefix.specs.Leading.{ward_of}
use Rattle.exh_prefix.specs.LeadingLemmas.{leading-lt}
use Rattle.exh_cells.specs.Fit.{pages_in}

-- ---- wards

pub ward_within : (ward_bits low : ℕ) → ward_bits ≤ 4 → ward_of ward_bits low < 2 ^ ward_bits
ward_within ward_bits low few = leading-lt ward_bits low (omega arith)

pub wards_few : (ward_bits low : ℕ) → ward_bits ≤ 4 → ward_of ward_bits low < 16
wards_few ward_bits low few = elim (cases_lt ward_bits 4) [
  | inl less ↦ omega (arith, ward_within ward_bits low few, pow_below ward_bits 4 less)
  | inr not_less ↦ let same : ward_bits ≡ 4 = omega arith in subst (λ (n : ℕ). ward_of ward_bits low < 2 ^ n) same (ward_within ward_bits low few)
]

pub not_eqb : (one other : ℕ) → (one ≡ other → ⊥) → nat_eq one other ≡ false
not_eqb one other differ = elim (eqb_tells one other) [ inl same ↦ absurd (differ same.1) | inr else ↦ else.0 ]

-- one page more is one of its ward, and none of another
pub counted_more : (ward_bits : ℕ) (lows : List ℕ) (place d low : ℕ) → place < length lows → get_or lows place d ≡ low
    → pages_in ward_bits (ward_of ward_bits low) (take (place + 1) lows) ≡ pages_in ward_bits (ward_of ward_bits low) (take place lows) + 1
counted_more ward_bits lows place d low within is =
    let ward = ward_of ward_bits low in
    count_by_more_yes (λ low. nat_eq (ward_of ward_bits low) ward) lows place d within (ap (λ (low : ℕ). nat_eq (ward_of ward_bits low) ward) is ∙ eq-eqb ward ward refl)

pub counted_else : (ward_bits : ℕ) (lows : List ℕ) (place d low ward : ℕ) → place < length lows → get_or lows place d ≡ low → (ward_of ward_bits low ≡ ward → ⊥)
    → pages_in ward_bits ward (take (place + 1) lows) ≡ pages_in ward_bits ward (take place lows)
counted_else ward_bits lows place d low ward within is other =
    count_by_more_no (λ low. nat_eq (ward_of ward_bits low) ward) lows place d within (ap (λ (low : ℕ). nat_eq (ward_of ward_bits low) ward) is ∙ not_eqb (ward_of ward_bits low) ward other)

-- ---- one after the other

range_more : (n i : ℕ) → range_with_len i (suc n) ≡ range_with_len i n ++ (i + n) ∷ []
range_more zero i = let here : i ≡ i + 0 = omega arith in ap (λ (j : ℕ). j ∷ []) here
range_more (suc n) i =
    let next : i + 1 + n ≡ i + suc n = omega arith in
    ap (λ (rest : List ℕ). i ∷ rest) (range_more n (i + 1) ∙ ap (λ (j : ℕ). range_with_len (i + 1) n ++ j ∷ []) next)

pub flat_more : {A : Type 0} (f : ℕ → List A) (n : ℕ) → flat_map f (range_with_len 0 (n + 1)) ≡ flat_map f (range_with_len 0 n) ++ f n
flat_more f n =
    let next : n + 1 ≡ suc n = omega arith in
    let here : 0 + n ≡ n = omega arith in
    ap (λ (count : ℕ). flat_map f (range_with_len 0 count)) next ∙ ap (flat_map f) (range_more n 0 ∙ ap (λ (j : ℕ). range_with_len 0 n ++ j ∷ []) here)
    ∙ flat_map-append f (range_with_len 0 n) (n ∷ []) ∙ ap (λ (last : List _). flat_map f (range_with_len 0 n) ++ last) (append-nil (f n))

-- lists of one length that agree at each place are one
pub same_items : (one other : List ℕ) → length one ≡ length other → ((i : ℕ) → i < length one → get_or one i 0 ≡ get_or other i 0) → one ≡ other
same_items [] [] len agree = refl
same_items [] (y ∷ other) len agree = absurd (omega (arith, len))
same_items (x ∷ one) [] len agree = absurd (omega (arith, len))
same_items (x ∷ one) (y ∷ other) len agree =
    ap (λ (x : ℕ). x ∷ one) (agree 0 (omega arith)) ∙ ap (λ (rest : List ℕ). y ∷ rest) (same_items one other (omega (arith, len)) (λ i within. agree (suc i) (omega (arith, within))))
