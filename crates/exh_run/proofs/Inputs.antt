-- Keys and values of standard input.
use Rattle.std.proofs.Common.{◌≡◌, ◌∙◌, ◌⊎◌, inl, inr, ℕ, ◌+◌, ◌/◌, ◌<◌, Bool, true, false, cond, List, [], ◌∷◌, ◌++◌, length, map, None, Some, Result, Ok, Err, refl, sym, ap, append_assoc, arith}
use Rattle.std.proofs.lemmas.List.{map-append}
use Rattle.hex.proofs.HexLemmas.{decode_of-ok}
use Rattle.hex.specs.Hex.{decode_of}
use Rattle.hex.specs.declared.error.FromHexError.{FromHexError}
use Rattle.exh_page.specs.declared.key.TheConstants.{KEY_LIMIT}
use Rattle.exh_text.specs.ByteWord.{key_in_range}
use Rattle.exh_run.specs.Input.{AreKeys, bytes_decoded, if_key, key_of_line}

-- ---- lines that are read one by one

-- the lines before those that are left are keys, and these are they
pub record AreReadTo (is_hex : Bool) (lines keys left : List (List ℕ)) : Type 0 where
  pub before : List (List ℕ)
  pub are : lines ≡ before ++ left
  pub keys_are : AreKeys is_hex before keys

pub one_read : (is_hex : Bool) (lines keys left next rest : List (List ℕ)) (line key : List ℕ) → AreReadTo is_hex lines keys left → left ≡ line ∷ rest → key_of_line is_hex line ≡ Some key → next ≡ keys ++ key ∷ [] → AreReadTo is_hex lines next rest
one_read is_hex lines keys left next rest line key was steps is pushed = record {
  before = was.before ++ line ∷ [];
  are = was.are ∙ ap (λ left. was.before ++ left) steps ∙ sym (append_assoc was.before (line ∷ []) rest);
  keys_are = map-append (key_of_line is_hex) was.before (line ∷ []) ∙ ap (λ front. front ++ key_of_line is_hex line ∷ []) was.keys_are
      ∙ ap (λ one. map Some keys ++ one ∷ []) is ∙ sym (map-append Some keys (key ∷ [])) ∙ sym (ap (map Some) pushed);
}

-- ---- keys of digits

-- more digits than of the longest key spell none
pub too_many_digits : (digits : List ℕ) (decoded : Result (List ℕ) FromHexError) → decode_of digits ≡ decoded → KEY_LIMIT < length digits / 2 → if_key (bytes_decoded decoded) ≡ None
too_many_digits digits (Ok bytes) is many = ap (λ b. cond b (Some bytes) None) (out_of_range bytes (omega (arith, many, (decode_of-ok digits bytes is).2)))
  where
    out_of_range : (bytes : List ℕ) → KEY_LIMIT < length bytes → key_in_range bytes ≡ false
    out_of_range bytes many = grind (arith)
too_many_digits digits (Err error) is many = refl

pub no_key_of_digits : (digits : List ℕ) → (bytes_decoded (decode_of digits) ≡ None) ⊎ (KEY_LIMIT < length digits / 2) → key_of_line true digits ≡ None
no_key_of_digits digits (inl none) = ap if_key none
no_key_of_digits digits (inr many) = too_many_digits digits (decode_of digits) refl many
