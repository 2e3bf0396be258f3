-- An image that is written behind a head.
use Rattle.std.proofs.Common.{◌≡◌, ℕ, ◌+◌, ◌-◌, List, [], ◌++◌, length, take, drop, sym, ap, ◌∙◌, append_assoc, append-nil, arith}
use borrow.Rule.Slice.PartMut.{put_mid}
use Rattle.std.proofs.lemmas.List.{take_all, take_at, drop_at, drop_all, drop-drop, length-append}

-- a head is put in front, and then an image behind it
pub put_behind : (block head image new : List ℕ) (n k : ℕ) → length head ≡ n → k ≡ length (head ++ drop n block) - n
    → new ≡ image ++ drop (length image) (take k (drop n (head ++ drop n block)))
    → put_mid n k (head ++ drop n block) new ≡ (head ++ image) ++ drop (length (head ++ image)) block
put_behind block head image new n k len room is =
    let rest = drop n block in
    let taken : take n (head ++ rest) ≡ head = take_at head rest n len in
    let dropped : drop n (head ++ rest) ≡ rest = drop_at head rest n len in
    let size : length (head ++ rest) ≡ n + length rest = omega (arith, len, length-append head rest) in
    let whole : take k rest ≡ rest = take_all k rest (omega (arith, room, size)) in
    let none : drop k (drop n (head ++ rest)) ≡ [] = ap (drop k) dropped ∙ drop_all k rest (omega (arith, room, size)) in
    let part : new ≡ image ++ drop (length image) rest = is ∙ ap (λ (bytes : List ℕ). image ++ drop (length image) (take k bytes)) dropped ∙ ap (λ (bytes : List ℕ). image ++ drop (length image) bytes) whole in
    let end : drop (length image) rest ≡ drop (length (head ++ image)) block =
    drop-drop (length image) n block ∙ ap (λ (m : ℕ). drop m block) (omega (arith, len, length-append head image)) in
    ap (λ (front : List ℕ). front ++ (new ++ drop k (drop n (head ++ rest)))) taken
    ∙ ap (λ (back : List ℕ). head ++ (new ++ back)) none ∙ ap (λ (back : List ℕ). head ++ back) (append-nil new ∙ part)
    ∙ sym (append_assoc head image (drop (length image) rest)) ∙ ap (λ (back : List ℕ). (head ++ image) ++ back) end
