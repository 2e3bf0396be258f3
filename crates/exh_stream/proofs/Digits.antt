-- How many bytes digits take with their commas.
use Rattle.std.proofs.Common.{ℕ, ◌*◌, ◌≤◌, Bool, true, false, if◌then◌else◌, List, [], ◌∷◌, length, length-append, arith}
use Rattle.exh_stream.specs.Line.{digit_text, has_comma, in_threes}

pub two_at_most : (comma : Bool) (digit : ℕ) → length (let text : List ℕ = if comma then digit ∷ 44 ∷ [] else digit ∷ [] in text) ≤ 2
two_at_most true digit = omega arith
two_at_most false digit = omega arith

pub twice_at_most : (digits : List ℕ) → length (in_threes digits) ≤ 2 * length digits
twice_at_most [] = omega arith
twice_at_most (digit ∷ digits) =
    omega (arith, length-append (digit_text digit (length digits)) (in_threes digits), two_at_most (has_comma (length digits)) digit, twice_at_most digits)
