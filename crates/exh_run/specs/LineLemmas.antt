-- Lines that are added one after the other.
use Rattle.std.proofs.Common.{◌≡◌, ℕ, List, [], ◌∷◌, ◌++◌, flat_map, sym, ap, ◌∙◌, append_assoc, append-nil}
use Rattle.std.proofs.lemmas.List.Concat.{flat_map-append}

-- what was gone over, and what is left
pub next_all : {A : Type 0} (seen left : List A) (item : A) {all rest : List A} → all ≡ seen ++ rest → rest ≡ item ∷ left → all ≡ (seen ++ item ∷ []) ++ left
next_all seen left item was steps = was ∙ ap (λ rest. seen ++ rest) steps ∙ sym (append_assoc seen (item ∷ []) left)

-- one line more
pub next_line : {A : Type 0} (line : A → List ℕ) (seen : List A) (item : A) {so_far next : List ℕ} → so_far ≡ flat_map line seen → next ≡ so_far ++ line item → next ≡ flat_map line (seen ++ item ∷ [])
next_line line seen item was pushed =
    pushed ∙ ap (λ text. text ++ line item) was ∙ ap (λ last. flat_map line seen ++ last) (sym (append-nil (line item))) ∙ sym (flat_map-append line seen (item ∷ []))
