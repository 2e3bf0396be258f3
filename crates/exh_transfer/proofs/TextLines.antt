-- A text has one list of lines.
use Rattle.std.proofs.Common.{◌≡◌, ℕ, List, [], ◌∷◌, ◌++◌, length, inl, inr, refl, sym, ap, ◌∙◌, subst, append_assoc, length-append, arith}
use Rattle.exh_pair_text.specs.declared.place.Place.TheVariants.{Start}
use Rattle.exh_pair_text.specs.Places.{AreQuoted, newline}
use Rattle.exh_pair_text.specs.Records.{place_by}
use Rattle.exh_pair_text.specs.declared.pair_format.PairFormat.{PairFormat}
use Rattle.exh_import.specs.Causes.{AreWholeLines, IsWholeLine, whole_line, whole_lines}
use Rattle.exh_import.specs.Imports.{IsTextOf}
use Rattle.exh_transfer.proofs.LineEnds.{cut_once, stays}

-- a line, and the newline that ends it
whole_behind : (line rest : List ℕ) → whole_line line ++ rest ≡ line ++ newline ∷ rest
whole_behind line rest = append_assoc line (newline ∷ []) rest

some_bytes : (line rest : List ℕ) → [] ≡ line ++ newline ∷ rest → ⊥
some_bytes line rest is = omega (arith, ap length is, length-append line (newline ∷ rest))

-- the first line
first_line : (format : PairFormat) (line rest : List ℕ) (lines : List (List ℕ)) → IsWholeLine format line → IsTextOf format lines (line ++ newline ∷ rest) → (more : List (List ℕ)) × ((lines ≡ line ∷ more) × IsTextOf format more rest)
first_line format line rest [] whole text = absurd (some_bytes line rest (sym text))
first_line format line rest (first ∷ more) whole (one, inl (left, ended, is, text)) =
    let cut = cut_once (place_by format) Start first line left rest one ended whole.0 whole.1 (sym is) in
    (more, (ap (λ (l : List ℕ). l ∷ more) cut.0, subst (IsTextOf format more) cut.1 text))
first_line format line rest (first ∷ more) whole (one, inr (is, some, none)) =
    absurd (whole.1 (stays (place_by format) Start line rest (subst (AreQuoted (place_by format) Start) (sym is) one)))

pub lines_are : (format : PairFormat) (front lines : List (List ℕ)) → AreWholeLines format front → IsTextOf format lines (whole_lines front) → lines ≡ front
lines_are format [] [] all text = refl
lines_are format [] (line ∷ lines) all (one, inl (rest, ended, is, text)) = absurd (some_bytes line rest is)
lines_are format [] (line ∷ lines) all (one, inr (is, some, none)) = absurd (some (sym is))
lines_are format (line ∷ front) lines all text =
    let first = first_line format line (whole_lines front) lines all.0 (subst (IsTextOf format lines) (whole_behind line (whole_lines front)) text) in
    first.1.0 ∙ ap (λ (more : List (List ℕ)). line ∷ more) (lines_are format front first.0 all.1 first.1.1)
