-- Which keys find no room in a file, whose pages of the greatest length hold so many.
use Rattle.std.specs.Prelude.{◌==◌, ℕ, List, [], ◌∷◌, ◌++◌, count_by, nat_le, if◌then◌else◌}
use Rattle.exh_prefix.specs.Leading.{leading}
use Rattle.exh_prefix.specs.declared.prefix.TheConstants.{LIMIT}

-- how many of these pairs have keys that share their LIMIT leading bits with this one
abbrev pub sharers : (List ℕ → ℕ) → List (List ℕ × List ℕ) → List ℕ → ℕ
sharers pseudo pairs key = count_by (λ pair. leading LIMIT (pseudo pair.0) == leading LIMIT (pseudo key)) pairs

-- of pairs that come behind others, in their order: the keys that come behind `cap` or more of which each shares its leading bits
abbrev pub without_room : ℕ → (List ℕ → ℕ) → List (List ℕ × List ℕ) → List (List ℕ × List ℕ) → List (List ℕ)
without_room cap pseudo before [] = []
without_room cap pseudo before (pair ∷ pairs) =
    (if nat_le cap (sharers pseudo before pair.0) then pair.0 ∷ [] else []) ++ without_room cap pseudo (before ++ pair ∷ []) pairs
