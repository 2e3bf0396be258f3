-- Paths are UTF-8.
use Rattle.std.proofs.Common.{◌≡◌, ◌∙◌, ℕ, Bool, true, false, List, Ok, Err, ap, cond, refl, sym}
use Rattle.std.specs.Str.{IsUtf8, is_utf8}
use Rattle.std.proofs.lemmas.Str.{IsUtf8-from_is_utf8, is_utf8-from_IsUtf8}
use Rattle.exh_request.specs.declared.place.Place.{Place}
use Rattle.exh_request.specs.declared.wrong_request.WrongCause.TheVariants.{PathNotText}
use Rattle.exh_request.specs.Request.{path_asked}

pub text_path : (place : Place) (word path : List ℕ) → path ≡ word → IsUtf8 word → path_asked place word ≡ Ok path
text_path place word path is text = ap (λ b. cond b (Ok word) (Err (PathNotText place))) (is_utf8-from_IsUtf8 word text) ∙ ap Ok (sym is)

pub other_path : (place : Place) (word : List ℕ) → ¬ (IsUtf8 word) → path_asked place word ≡ Err (PathNotText place)
other_path place word other = go (is_utf8 word) refl
  where
    go : (b : Bool) → is_utf8 word ≡ b → cond b (Ok word) (Err (PathNotText place)) ≡ Err (PathNotText place)
    go true is = absurd (other (IsUtf8-from_is_utf8 word is))
    go false is = refl
