-- Parts of a text that are put one behind the other.
use Rattle.std.proofs.Common.{◌≡◌, List, ℕ, ◌++◌, ◌∙◌, ap, append_assoc}

pub three_parts : (old first second third one two new : List ℕ) → one ≡ old ++ first → two ≡ one ++ second → new ≡ two ++ third → new ≡ old ++ (first ++ (second ++ third))
three_parts old first second third one two new p q r =
    r ∙ ap (λ (l : List ℕ). l ++ third) (q ∙ ap (λ (l : List ℕ). l ++ second) p) ∙ append_assoc (old ++ first) second third ∙ append_assoc old first (second ++ third)
