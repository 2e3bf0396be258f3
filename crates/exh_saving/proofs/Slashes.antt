-- What stands around the last slash of a path.
use Rattle.std.proofs.Common.{◌≡◌, ℕ, suc, ◌<◌, ◌≤◌, ◌+◌, List, [], ◌∷◌, ◌++◌, length, get_or, take, drop, None, Option, Some, MatchOption, Bor, sym, ap, ◌∙◌, arith, take-append-drop, ne_eqb}
use Rattle.std.specs.Str.Pattern.{RFindsChar}
use Rattle.std.specs.Path.{HasNoSlash, slash}
use Rattle.std.proofs.lemmas.Str.Pattern.{NoCharPasses-char}

no_slash : (bytes : List ℕ) → ((i : ℕ) → i < length bytes → get_or bytes i 0 ≡ slash → ⊥) → HasNoSlash bytes
no_slash [] none = tt
no_slash (b ∷ bs) none = rw (ne_eqb b slash (none 0 (omega arith))) (no_slash bs (λ i below is. none (suc i) (omega arith) is))

-- what the clause of `rsplit_once` says of a slash, as bytes
pub split_at_slash : (path : List ℕ) (split : Option (Bor (List ℕ) × Bor (List ℕ)))
    → MatchOption split (RFindsChar slash path None) (λ parts. (i : ℕ) × (j : ℕ) × RFindsChar slash path (Some (i, j)) × (parts.0.now ≡ take i path) × (parts.1.now ≡ drop j path) × (i ≤ j) × (length parts.0.now ≡ i) × (length parts.1.now + j ≡ length path))
    → MatchOption split (HasNoSlash path) (λ parts. (path ≡ parts.0.now ++ slash ∷ parts.1.now) × HasNoSlash parts.1.now)
unfolding lib.Utf8.encode
split_at_slash path None none = no_slash path (λ i. NoCharPasses-char slash path i none (omega arith))
split_at_slash path (Some parts) h =
    let i = h.0 in
    let j = h.1 in
    let rest : drop i path ≡ slash ∷ drop j path = h.2.1.split in
    let whole : path ≡ take i path ++ slash ∷ drop j path = sym (take-append-drop i path) ∙ ap (λ bytes. take i path ++ bytes) rest in
    let behind : HasNoSlash (drop j path) = no_slash (drop j path) (λ k. NoCharPasses-char slash (drop j path) k h.2.0 (omega arith)) in
    (rw (h.3, h.4) whole, rw h.4 behind)
