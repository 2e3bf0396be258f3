-- The image of a pair: its length, and how it is written from a byte on.
use Rattle.std.proofs.Common.{◌≡◌, ℕ, ◌+◌, ◌≤◌, List, [], ◌∷◌, ◌++◌, length, take, drop, set, sym, ap, ◌∙◌, append_assoc, arith}
use borrow.Rule.Slice.PartMut.{put_mid}
use Rattle.std.proofs.lemmas.List.{take_at, drop_at, drop-drop, length-append}
use Rattle.exh_codec.specs.Cells.{Pair, pair_image}

pub length-pair_image : (pair : Pair) → length (pair_image pair) ≡ 2 + length pair.0 + length pair.1
unfolding pair_image
length-pair_image pair = omega (arith, length-append pair.0 pair.1)

pub put_pair : (out key value : List ℕ) (k l : ℕ) → 2 ≤ length out → k ≡ length key → l ≡ length value
    → put_mid (2 + length key) l (put_mid 2 k (set (set out 0 (length key)) 1 (length value)) key) value ≡ pair_image (key, value) ++ drop (2 + length key + length value) out
unfolding pair_image
put_pair [] key value k l some key_len value_len = absurd (omega (arith, some))
put_pair (x ∷ []) key value k l some key_len value_len = absurd (omega (arith, some))
put_pair (x ∷ y ∷ out) key value k l some key_len value_len =
    let front = length key ∷ length value ∷ key in
    let len : length front ≡ 2 + length key = omega arith in
    let rest : drop l (drop k out) ≡ drop (2 + length key + length value) (x ∷ y ∷ out) =
    drop-drop l k out ∙ drop-drop (k + l) 2 (x ∷ y ∷ out) ∙ ap (λ (n : ℕ). drop n (x ∷ y ∷ out)) (omega (arith, key_len, value_len)) in
    let taken : take (2 + length key) (front ++ drop k out) ≡ front = take_at front (drop k out) (2 + length key) len in
    let dropped : drop (2 + length key) (front ++ drop k out) ≡ drop k out = drop_at front (drop k out) (2 + length key) len in
    ap (λ (taken : List ℕ). taken ++ (value ++ drop l (drop (2 + length key) (front ++ drop k out)))) taken
    ∙ ap (λ (dropped : List ℕ). front ++ (value ++ drop l dropped)) dropped
    ∙ ap (λ (rest : List ℕ). front ++ (value ++ rest)) rest
    ∙ sym (append_assoc front value (drop (2 + length key + length value) (x ∷ y ∷ out)))
