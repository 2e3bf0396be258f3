use Rattle.std.proofs.Common.{◌≡◌, ℕ, ◌+◌, ◌-◌, ◌*◌, ◌^◌, ◌<◌, ◌≤◌, drop, ap, ap₂, arith, refl, sym, ◌∙◌}
use Rattle.exh_text.specs.Numbers.{digits_up_to}
use Rattle.exh_text.proofs.Numbers.{digits_end, digits_great, digits_more, digits_refused}
use Rattle.exh_text.proofs.number.parse_digits.Goals as goal

fits : (number : ℕ) → number < 2 ^ 64 → number ≤ 2 ^ 64 - 1
fits number small = omega arith

great_tens : (number digit : ℕ) → (number * 10 < 2 ^ 64 → ⊥) → 2 ^ 64 - 1 < number * 10 + digit
great_tens number digit great = omega (arith, great)

great_sum : (number digit tens value : ℕ) → (tens + value < 2 ^ 64 → ⊥) → tens ≡ number * 10 → value ≡ digit → 2 ^ 64 - 1 < number * 10 + digit
great_sum number digit tens value great is_tens is_digit = omega (arith, great, is_tens, is_digit)

pub loop-digit-init : goal.loop-digit-init
loop-digit-init c = (omega arith, refl)

pub loop-digit-preserved : goal.loop-digit-preserved
loop-digit-preserved c =
    let i = c.loop-digit.digit-index in
    let digits = c.args.digits.now in
    let is = c.in_ok-number.ensures.1 ∙ ap₂ (λ tens digit. tens + digit) c.in_ok-checked_mul.ensures.1 c.from.ensures in (
      rw c.in_ok-number.ensures.1 c.in_ok-number.ensures.0,
      ap (λ number. digits_up_to (2 ^ 64 - 1) number (drop (i + 1) digits)) is ∙ sym (digits_more (2 ^ 64 - 1) c.loop-digit.number i digits c.loop-digit-test.true (sym c.if-not-is_ascii_digit.ensures.value)) ∙ c.loop-digit.invariant.1,
    )

pub returns : goal.returns
returns c = sym (digits_end (2 ^ 64 - 1) c.loop-digit.number c.loop-digit.digit-index c.args.digits.now (fits c.loop-digit.number c.loop-digit.invariant.0) c.loop-digit-test.false) ∙ c.loop-digit.invariant.1

pub returns-then-not-is_ascii_digit : goal.returns-then-not-is_ascii_digit
returns-then-not-is_ascii_digit c =
    sym (digits_refused (2 ^ 64 - 1) c.loop-digit.number c.loop-digit.digit-index c.args.digits.now c.loop-digit-test.true (sym c.if-not-is_ascii_digit.ensures.value)) ∙ c.loop-digit.invariant.1

pub returns-in_err-checked_mul : goal.returns-in_err-checked_mul
returns-in_err-checked_mul c =
    c.from_residual.ensures
    ∙ sym (digits_great (2 ^ 64 - 1) c.loop-digit.number c.loop-digit.digit-index c.args.digits.now c.loop-digit-test.true (sym c.if-not-is_ascii_digit.ensures.value) (great_tens c.loop-digit.number _ c.in_err-checked_mul.ensures))
    ∙ c.loop-digit.invariant.1

pub returns-in_err-number : goal.returns-in_err-number
returns-in_err-number c =
    let great = great_sum c.loop-digit.number _ c.in_ok-checked_mul.field-0 c.from.result c.in_err-number.ensures c.in_ok-checked_mul.ensures.1 c.from.ensures in
    c.from_residual-in_err-number.ensures
    ∙ sym (digits_great (2 ^ 64 - 1) c.loop-digit.number c.loop-digit.digit-index c.args.digits.now c.loop-digit-test.true (sym c.if-not-is_ascii_digit.ensures.value) great)
    ∙ c.loop-digit.invariant.1
