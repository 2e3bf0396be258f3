-- Bytes that a text spells, read one behind the other.
use Rattle.std.proofs.Common.{◌≡◌, ℕ, zero, suc, ◌+◌, ◌-◌, ◌<◌, ◌≤◌, List, [], ◌∷◌, ◌++◌, length, drop, take, get_or, Bool, Some, None, Result, Ok, Err, refl, sym, ap, ◌∙◌, append_assoc, append-nil, arith}
use Rattle.std.proofs.lemmas.List.{drop-drop, drop_all, get_or-drop, length-drop, take_rest}
use Rattle.exh_pair_text.specs.declared.wrong_line.WrongLine.{WrongLine}
use Rattle.exh_pair_text.specs.Bytes.{first_byte}
use Rattle.exh_pair_text.specs.Reading.{◌>>=◌, bytes_from, wrong_byte}

-- bytes in front of those that are read
abbrev pub behind : List ℕ → Result (List ℕ) WrongLine → Result (List ℕ) WrongLine
behind front read = read >>= λ bytes. Ok (front ++ bytes)

pub behind_none : (read : Result (List ℕ) WrongLine) → behind [] read ≡ read
behind_none (Ok bytes) = refl
behind_none (Err wrong) = refl

pub behind_more : (front : List ℕ) (byte : ℕ) (read : Result (List ℕ) WrongLine) → behind front (behind (byte ∷ []) read) ≡ behind (front ++ byte ∷ []) read
behind_more front byte (Ok bytes) = ap Ok (sym (append_assoc front (byte ∷ []) bytes))
behind_more front byte (Err wrong) = refl

-- the bytes of a text that belong to a byte before
pub skipped : (hex : Bool) (at skip : ℕ) (text : List ℕ) → skip ≤ length text → bytes_from hex at skip text ≡ bytes_from hex (at + skip) 0 (drop skip text)
unfolding bytes_from
skipped hex at zero text within = ap (λ n. bytes_from hex n 0 text) (omega arith)
skipped hex at (suc skip) [] within = absurd (omega arith)
skipped hex at (suc skip) (byte ∷ text) within =
    skipped hex (at + 1) skip text (omega arith) ∙ ap (λ n. bytes_from hex n 0 (drop skip text)) (omega arith)

-- one byte more
pub byte_step : (hex : Bool) (at : ℕ) (text : List ℕ) (byte count : ℕ) → first_byte hex text ≡ Some (byte, count) → 1 ≤ count → count ≤ length text
    → bytes_from hex at 0 text ≡ behind (byte ∷ []) (bytes_from hex (at + count) 0 (drop count text))
unfolding bytes_from
byte_step hex at [] byte count first some within = absurd (omega arith)
byte_step hex at (b ∷ text) byte zero first some within = absurd (omega arith)
byte_step hex at (b ∷ text) byte (suc count) first some within =
    let less : suc count - 1 ≡ count = omega arith in
    rw first (ap (λ n. behind (byte ∷ []) (bytes_from hex (at + 1) n text)) less
    ∙ ap (behind (byte ∷ [])) (skipped hex (at + 1) count text (omega arith) ∙ ap (λ n. bytes_from hex n 0 (drop count text)) (omega arith)))

-- none
pub byte_wrong : (hex : Bool) (at : ℕ) (text : List ℕ) → first_byte hex text ≡ None → 1 ≤ length text → bytes_from hex at 0 text ≡ Err (wrong_byte hex (get_or text 0 0) at)
unfolding bytes_from
byte_wrong hex at [] none some = absurd (omega arith)
byte_wrong hex at (b ∷ text) none some = rw none refl

-- the end
pub bytes_end : (hex : Bool) (at : ℕ) → bytes_from hex at 0 [] ≡ Ok []
unfolding bytes_from
bytes_end hex at = refl

-- ---- as a loop goes on, of which so many bytes are taken

module _ (hex : Bool) (at : ℕ) (text : List ℕ) (taken : ℕ) (front : List ℕ) (left : behind front (bytes_from hex (at + taken) 0 (drop taken text)) ≡ bytes_from hex at 0 text) where
  pub loop_step : (byte width : ℕ) → first_byte hex (take (length text - taken) (drop taken text)) ≡ Some (byte, width) → 1 ≤ width → width ≤ length (take (length text - taken) (drop taken text))
      → behind (front ++ byte ∷ []) (bytes_from hex (at + (taken + width)) 0 (drop (taken + width) text)) ≡ bytes_from hex at 0 text
  loop_step byte width first some within =
      let rest = take_rest text taken in
      let step = byte_step hex (at + taken) (drop taken text) byte width (ap (first_byte hex) (sym rest) ∙ first) some (omega (arith, within, ap length rest)) in
      let place : at + taken + width ≡ at + (taken + width) = omega arith in
      sym (behind_more front byte (bytes_from hex (at + (taken + width)) 0 (drop (taken + width) text)))
      ∙ ap (behind front) (sym (step ∙ ap (λ n. behind (byte ∷ []) (bytes_from hex n 0 (drop width (drop taken text)))) place ∙ ap (λ (more : List ℕ). behind (byte ∷ []) (bytes_from hex (at + (taken + width)) 0 more)) (drop-drop width taken text)))
      ∙ left

  pub loop_wrong : first_byte hex (take (length text - taken) (drop taken text)) ≡ None → taken < length text → bytes_from hex at 0 text ≡ Err (wrong_byte hex (get_or text taken 0) (at + taken))
  loop_wrong none within =
      let same : taken + 0 ≡ taken = omega arith in
      sym left ∙ ap (behind front) (byte_wrong hex (at + taken) (drop taken text) (ap (first_byte hex) (sym (take_rest text taken)) ∙ none) (omega (arith, length-drop taken text)))
      ∙ ap (λ byte. Err (wrong_byte hex byte (at + taken))) (get_or-drop taken text 0 0 ∙ ap (λ n. get_or text n 0) same)

  pub loop_end : length text ≤ taken → bytes_from hex at 0 text ≡ Ok front
  loop_end past = sym left ∙ ap (λ (more : List ℕ). behind front (bytes_from hex (at + taken) 0 more)) (drop_all taken text past) ∙ ap (behind front) (bytes_end hex (at + taken)) ∙ ap Ok (append-nil front)
