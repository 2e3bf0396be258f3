-- Lines behind what stood there.
use Rattle.std.proofs.Common.{◌≡◌, ◌∙◌, ℕ, Bool, List, [], ◌∷◌, ◌++◌, ap, append_assoc, flat_map, refl, subst, Option, Result}
use Rattle.std.specs.Prelude.{IfOk}
use Rattle.exh_run.specs.declared.Status.{Status}
use Rattle.exh_run.specs.Ends.{Ends, EndsText, Says}
use Rattle.exh_run.specs.LineLemmas.{next_line}
use Rattle.exh_run.specs.SaidLemmas.{said}

pub next_behind : {A : Type 0} (line : A → List ℕ) (front : List ℕ) (seen : List A) (item : A) {so_far next : List ℕ}
    → so_far ≡ front ++ flat_map line seen → next ≡ so_far ++ line item → next ≡ front ++ flat_map line (seen ++ item ∷ [])
next_behind line front seen item was pushed =
    pushed ∙ ap (λ text. text ++ line item) was ∙ append_assoc front (flat_map line seen) (line item) ∙ ap (λ rest. front ++ rest) (next_line line seen item refl refl)

-- a text that a command ends with, and a status that is another's
pub said_so : {V E : Type 0} (bytes : V → List ℕ) (old new : Option (List ℕ)) (failed : Bool) (text : Result V E) (given status result : Status) (wanted : List ℕ)
    → given ≡ status → IfOk text (λ text. bytes text ≡ wanted) → EndsText bytes old new failed text given result → Ends (Says wanted status) old new failed result
said_so bytes old new failed text given status result wanted same is told =
    said bytes old new failed text status result wanted is (subst (λ (s : Status). EndsText bytes old new failed text s result) same told)
