use Rattle.std.proofs.Common.{◌≡◌, ◌≢◌, ℕ, Some, refl, sym, subst, inl, inr, get_or, arith}
use Rattle.std.specs.List.{slice_get}
use Rattle.std.proofs.lemmas.Bool.{cases_lt}
use Rattle.std.proofs.lemmas.Option.{get_or_from_slice_get, slice_get_within}
use Rattle.exh_cells.specs.declared.cell.Slot.{Slot}
use Rattle.exh_cells.specs.Fit.{FitsSlot}
use Rattle.exh_cells.proofs.fit.slots_fit.Goals as goal

pub loop-len-preserved : goal.loop-len-preserved
loop-len-preserved c = λ len slot within is some. elim (cases_lt len c.loop-len.len) [
  | inl before ↦ c.loop-len.invariant len slot before is some
  | inr past ↦
      let at = c.loop-len.len in
      let slots = c.args.slots.now in
      let lows = c.args.lows.now in
      let low = c.args.low in
      let here : len ≡ at = omega arith in
      let none : Slot = record { number = 0; page = 0 } in
      let same : get_or slots at none ≡ slot = get_or_from_slice_get slots at slot none (subst (λ (n : ℕ). slice_get slots n ≡ Some slot) here is) in
      let fits : slot.number ≢ 0 → FitsSlot lows low at slot.page =
      subst (λ (slot : Slot). slot.number ≢ 0 → FitsSlot lows low at slot.page) same (c.may_stand.ensures.0 c.if-not-may_stand.false) in
      subst (λ (n : ℕ). FitsSlot lows low n slot.page) (sym here) (fits some)
]

pub returns : goal.returns
returns c = (
  λ _ len slot is some. c.loop-len.invariant len slot (let within = slice_get_within c.args.slots.now len slot is in omega arith) is some,
  λ _. refl,
)
