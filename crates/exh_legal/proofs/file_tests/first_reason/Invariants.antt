use Rattle.std.proofs.Common.{◌≡◌, ℕ, ◌<◌, ◌≤◌, length, map}
use Rattle.std.specs.FinMap.{empty}
use Rattle.exh_legal.specs.LegalParts.{parts_of, table_of}
use Rattle.exh_legal.specs.Reasons.{IsFirstUnpassed}
use Rattle.exh_legal.proofs.Whole.{PassedBelow}
use Rattle.exh_legal.proofs.file_tests.first_reason.Given as goal

abbrev pub invariant-loop-number : goal.invariant-loop-number
invariant-loop-number g l = IsFirstUnpassed (PassedBelow (parts_of l.cap l.ward_bits (map g.P.PageList.pages l.wards) l.tables) l.number) l.first

abbrev pub invariant-loop-number-2 : goal.invariant-loop-number-2
invariant-loop-number-2 g l = (number : ℕ) → length l.wards ≤ number → number < l.number → table_of (parts_of l.cap l.ward_bits (map g.P.PageList.pages l.wards) l.tables) number ≡ empty
