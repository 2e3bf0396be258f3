use Rattle.std.proofs.Common.{◌≡◌, ℕ, zero, suc, ◌+◌, ◌<◌, ◌≤◌, nat_eq, eq-eqb, false, cond, List, length, take, get_or, slice_get, Some, inl, inr, refl, sym, ap, ◌∙◌, subst, arith}
use Rattle.std.proofs.lemmas.Bool.{cases_eq, cases_lt, false≢true}
use Rattle.std.proofs.lemmas.Bool.Decides.{eqb_tells}
use Rattle.std.proofs.lemmas.List.{take_all}
use Rattle.std.proofs.lemmas.List.Sums.{count_by_more_no, count_by_more_yes, sum_by-take-drop}
use Rattle.std.proofs.lemmas.Option.{slice_get-get_or}
use Rattle.exh_prefix.specs.PrefixListLemmas.{one_there}
use Rattle.exh_placing.specs.declared.page_at.PageAt.{PageAt}
use Rattle.exh_placing.specs.Order.{IsNumbered, IsWithin, own_in}
use Rattle.exh_file.proofs.placing_making.are_within.Goals as goal

abbrev nowhere : PageAt
nowhere = record { ward = 0; number = 0 }

abbrev AreBelow : List ℕ → List PageAt → ℕ → Type 0
AreBelow counts order count = (place : ℕ) (page : PageAt) → place < count → slice_get order place ≡ Some page → page.number < get_or counts page.ward 0

not_eqb : (one other : ℕ) → (one ≡ other → ⊥) → nat_eq one other ≡ false
not_eqb one other differ = elim (eqb_tells one other) [ inl same ↦ absurd (differ same.1) | inr else ↦ else.0 ]

module _ (counts : List ℕ) (order : List PageAt) (numbered : IsNumbered order) (below : AreBelow counts order (length order)) (ward : ℕ) where
  within_front : (k : ℕ) → k ≤ length order → own_in (take k order) ward ≤ get_or counts ward 0
  within_front zero room = omega arith
  within_front (suc k) room =
      let less : k < length order = omega (arith, room) in
      let page = get_or order k nowhere in
      let is = slice_get-get_or order k nowhere less in
      let next : k + 1 ≡ suc k = omega arith in
      let before = within_front k (omega (arith, room)) in
      elim (cases_eq page.ward ward) [
        | inl same ↦
            let more = count_by_more_yes (λ (p : PageAt). nat_eq p.ward ward) order k nowhere less (eq-eqb page.ward ward same) in
            let here : own_in (take (suc k) order) ward ≡ own_in (take k order) ward + 1 = ap (λ (n : ℕ). own_in (take n order) ward) (sym next) ∙ more in
            let number : page.number ≡ own_in (take k order) ward = numbered k page is ∙ ap (own_in (take k order)) same in
            let most : page.number < get_or counts ward 0 = subst (λ (w : ℕ). page.number < get_or counts w 0) same (below k page less is) in
            omega (arith, here, number, most)
        | inr else ↦
            let more = count_by_more_no (λ (p : PageAt). nat_eq p.ward ward) order k nowhere less (not_eqb page.ward ward else) in
            let here : own_in (take (suc k) order) ward ≡ own_in (take k order) ward = ap (λ (n : ℕ). own_in (take n order) ward) (sym next) ∙ more in
            omega (arith, here, before)
      ]

within_all : (counts : List ℕ) (order : List PageAt) → IsNumbered order → AreBelow counts order (length order) → IsWithin counts order
within_all counts order numbered below ward =
    subst (λ (pages : List PageAt). own_in pages ward ≤ get_or counts ward 0) (take_all (length order) order (omega arith)) (within_front counts order numbered below ward (length order) (omega arith))

-- a page of an order within the counts is one of its ward's
within_each : (counts : List ℕ) (order : List PageAt) → IsNumbered order → IsWithin counts order → (place : ℕ) → place < length order → (get_or order place nowhere).number < get_or counts (get_or order place nowhere).ward 0
within_each counts order numbered within place less =
    let page = get_or order place nowhere in
    let number = numbered place page (slice_get-get_or order place nowhere less) in
    let more = count_by_more_yes (λ (p : PageAt). nat_eq p.ward page.ward) order place nowhere less (eq-eqb page.ward page.ward refl) in
    let whole = sum_by-take-drop (λ (p : PageAt). cond (nat_eq p.ward page.ward) 1 0) order (place + 1) in
    let most = within page.ward in
    omega (arith, number, more, whole, most)

pub loop-place-init : goal.loop-place-init
loop-place-init c = λ place page less is. absurd (omega (arith, less))

pub loop-place-preserved : goal.loop-place-preserved
loop-place-preserved c =
    let order = c.args.order.now in
    let at = c.loop-place.place in
    let here = c.is_within.ensures.0 c.if-not-is_within.false in
    λ place page less is. elim (cases_lt place at) [
      | inl under ↦ c.loop-place.invariant place page under is
      | inr past ↦
          let same : at ≡ place = omega (arith, less, past) in
          let found = slice_get-get_or order at nowhere c.loop-place-test.true in
          let page_is : get_or order at nowhere ≡ page = one_there order at (get_or order at nowhere) page found (subst (λ (n : ℕ). slice_get order n ≡ Some page) (sym same) is) in
          subst (λ (p : PageAt). p.number < get_or c.args.counts.now p.ward 0) page_is here
    ]

pub returns : goal.returns
returns c = (λ _. within_all c.args.counts.now c.args.order.now c.requires (λ place page less is. c.loop-place.invariant place page (omega (arith, less, c.loop-place-test.false)) is), λ _. refl)

pub returns-then-not-is_within : goal.returns-then-not-is_within
returns-then-not-is_within c = (
  λ is. absurd (false≢true is),
  λ within. sym c.if-not-is_within.true ∙ c.is_within.ensures.1 (within_each c.args.counts.now c.args.order.now c.requires within c.loop-place.place c.loop-place-test.true),
)
