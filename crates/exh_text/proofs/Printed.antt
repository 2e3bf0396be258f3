-- What is printed of bytes, and that it is read again.
use Rattle.std.proofs.Common.{◌≡◌, ◌≢◌, ℕ, ◌+◌, ◌<◌, ◌≤◌, List, [], ◌∷◌, ◌++◌, length, take, drop, get_or, false, Result, Ok, Err, OnErr, sym, ap, ◌∙◌, arith}
use Rattle.std.specs.Char.{is_ascii_graphic}
use Rattle.std.specs.List.{list_all}
use Rattle.hex.specs.Hex.{encode_lower}
use Rattle.exh_text.proofs.Hexadecimal.{encode_lower-append}
use Rattle.std.proofs.lemmas.Bool.Decides.{nat_tests}
use Rattle.exh_text.specs.ByteWord.{hash}
use Rattle.exh_text.specs.Printing.{is_plain, printed, AppendsFrontOf}
use Rattle.std.proofs.lemmas.List.{append_assoc, take-append-drop, take_more}

-- bytes of which the first isn't `#`, as the code reads it
pub plain_own : (bytes : List ℕ) → 1 ≤ length bytes → get_or bytes 0 0 ≢ hash → is_plain bytes ≡ list_all is_ascii_graphic bytes
plain_own [] some other = absurd (omega arith)
plain_own (byte ∷ bytes) some other = grind (arith, nat_tests)

-- where memory runs out behind the front of a text
pub cut_behind : {T E : Type 0} (text old new : List ℕ) (r : Result T E) (front rest : List ℕ) → new ≡ old ++ front → text ≡ front ++ rest → OnErr r (AppendsFrontOf text old new)
cut_behind text old new (Ok made) front rest added begins = tt
cut_behind text old new (Err fault) front rest added begins = record { front = front; rest = rest; appended = added; begins = begins }

pub printed_cut : (i : ℕ) (bytes : List ℕ) → is_plain bytes ≡ false → printed bytes ≡ (hash ∷ encode_lower (take i bytes)) ++ encode_lower (drop i bytes)
unfolding printed
printed_cut i bytes other = rw other (ap (λ digits. hash ∷ digits) (ap encode_lower (sym (take-append-drop i bytes)) ∙ encode_lower-append (take i bytes) (drop i bytes)))

-- one byte more
pub printed_more : (i : ℕ) (bytes front : List ℕ) → i < length bytes → (front ++ (hash ∷ encode_lower (take i bytes))) ++ encode_lower (get_or bytes i 0 ∷ []) ≡ front ++ (hash ∷ encode_lower (take (i + 1) bytes))
printed_more i bytes front within =
    append_assoc front _ _ ∙ ap (λ digits. front ++ (hash ∷ digits)) (sym (encode_lower-append (take i bytes) (get_or bytes i 0 ∷ [])) ∙ ap encode_lower (sym (take_more bytes i 0 within)))
