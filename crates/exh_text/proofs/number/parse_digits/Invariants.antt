use Rattle.std.proofs.Common.{◌≡◌, ◌-◌, ◌^◌, ◌<◌, drop}
use Rattle.exh_text.specs.Numbers.{digits_up_to}
use Rattle.exh_text.proofs.number.parse_digits.Given as goal

-- the digits so far, and what is left behind them, spell what all do
abbrev pub invariant-loop-digit : goal.invariant-loop-digit
invariant-loop-digit l = (l.number < 2 ^ 64)
    × (digits_up_to (2 ^ 64 - 1) l.number (drop l.digit-index l.digits) ≡ digits_up_to (2 ^ 64 - 1) 0 l.digits)
