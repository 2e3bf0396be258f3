-- Pairs in which no key stands twice.
use Rattle.std.specs.Prelude.{◌≡◌, ⊤, ℕ, List, [], ◌∷◌, None}
use Rattle.std.specs.FinMap as map
use Rattle.std.specs.Ordering.{nat_cmp}
use Rattle.std.specs.Cmp.Lexicographic.{slice_cmp}

-- none of the pairs after a pair has its key
abbrev pub AreApart : List (List ℕ × List ℕ) → Type 0
AreApart [] = ⊤
AreApart (pair ∷ pairs) = (map.find (slice_cmp nat_cmp) pair.0 pairs ≡ None) × AreApart pairs
