-- Contents that are padded with zeros, and blocks of them.
use Rattle.std.proofs.Common.{◌≡◌, ℕ, zero, suc, ◌+◌, ◌-◌, ◌≤◌, List, [], ◌∷◌, ◌++◌, length, take, drop, slice_range, replicate, sym, refl, ap, ◌∙◌, append_assoc, subst, arith}
use Rattle.std.proofs.lemmas.List.{drop_at, take_at, take-append-drop, drop-drop, drop-replicate, take-replicate, length-append, length-replicate, length-drop, length-take-le}
use Rattle.std.proofs.Math.Seq.{take-add, take-append-add}
use Rattle.sha2.specs.Sha256.{sha256}
use Rattle.sha2.proofs.Facts256.{length-sha256}
use Rattle.exh_codec.specs.Block.{sealed, IsSealed, AreZero}
use Rattle.exh_codec.specs.PageImage.{padded}

-- bytes that are written over zeros
pub front_padded : (used : List ℕ) (content whole : ℕ) → length used ≤ content → content ≤ whole
    → take content (used ++ drop (length used) (replicate whole 0)) ≡ used ++ replicate (content - length used) 0
front_padded used content whole fits room =
    let zeros : drop (length used) (replicate {A = ℕ} whole 0) ≡ replicate {A = ℕ} (whole - length used) 0 = drop-replicate {X = ℕ} (length used) whole 0 in
    let some : content ≡ length used + (content - length used) = omega (arith, fits) in
    ap (λ (back : List ℕ). take content (used ++ back)) zeros
    ∙ ap (λ (n : ℕ). take n (used ++ replicate (whole - length used) 0)) some
    ∙ take-append-add used (replicate (whole - length used) 0) (content - length used)
    ∙ ap (λ (back : List ℕ). used ++ back) (take-replicate (content - length used) (whole - length used) 0 (omega (arith, room)))

pub back_padded : (used : List ℕ) (content whole : ℕ) → length used ≤ content → content ≤ whole
    → drop content (used ++ drop (length used) (replicate whole 0)) ≡ replicate (whole - content) 0
back_padded used content whole fits room =
    let some : content ≡ length used + (content - length used) = omega (arith, fits) in
    let split : drop content (used ++ drop (length used) (replicate whole 0)) ≡ drop (content - length used) (drop (length used) (used ++ drop (length used) (replicate whole 0))) =
    ap (λ (n : ℕ). drop n (used ++ drop (length used) (replicate whole 0))) some ∙ sym (drop-drop (content - length used) (length used) _) in
    split ∙ ap (drop (content - length used)) (drop_at used (drop (length used) (replicate whole 0)) (length used) refl)
    ∙ drop-drop (content - length used) (length used) (replicate whole 0) ∙ ap (λ (n : ℕ). drop n (replicate whole 0)) (sym some) ∙ drop-replicate content whole 0

zeros_are : (n : ℕ) → AreZero (replicate n 0)
zeros_are zero = tt
zeros_are (suc n) = (refl, zeros_are n)

zeros_from : (n : ℕ) (bytes : List ℕ) → length bytes ≡ n → AreZero bytes → bytes ≡ replicate n 0
zeros_from zero [] len zeros = refl
zeros_from zero (byte ∷ bytes) len zeros = absurd (omega (arith, len))
zeros_from (suc n) [] len zeros = absurd (omega (arith, len))
zeros_from (suc n) (byte ∷ bytes) len zeros =
    ap (λ (byte : ℕ). byte ∷ bytes) zeros.0 ∙ ap (λ (rest : List ℕ). 0 ∷ rest) (zeros_from n bytes (omega (arith, len)) zeros.1)

-- ---- padded contents

pub length-padded : (content : ℕ) (used : List ℕ) → length used ≤ content → length (padded content used) ≡ content
length-padded content used fits = omega (arith, length-append used (replicate (content - length used) 0), length-replicate {A = ℕ} (content - length used) 0)

-- a block with such a content begins with the bytes,
pub padded_front : (block used : List ℕ) (content : ℕ) → take content block ≡ padded content used → block ≡ used ++ (replicate (content - length used) 0 ++ drop content block)
padded_front block used content is =
    sym (take-append-drop content block) ∙ ap (λ (front : List ℕ). front ++ drop content block) is ∙ append_assoc used (replicate (content - length used) 0) (drop content block)

-- and has zeros behind them
pub padded_rest : (block used : List ℕ) (content n : ℕ) → length used ≡ n → take content block ≡ padded content used → AreZero (slice_range block n content)
padded_rest block used content n len is =
    let zeros = replicate {A = ℕ} (content - length used) 0 in
    let rest : drop n block ≡ zeros ++ drop content block = ap (drop n) (padded_front block used content is) ∙ drop_at used (zeros ++ drop content block) n len in
    let some : length zeros ≡ content - n = length-replicate {A = ℕ} (content - length used) 0 ∙ ap (λ (n : ℕ). content - n) len in
    subst AreZero (sym (ap (take (content - n)) rest ∙ take_at zeros (drop content block) (content - n) some)) (zeros_are (content - length used))

-- a block that begins with some bytes, and has zeros behind them, has such a content
pub padded_from : (block used : List ℕ) (content n : ℕ) → length used ≡ n → n ≤ content → content ≤ length block → take n block ≡ used → AreZero (slice_range block n content)
    → take content block ≡ padded content used
padded_from block used content n len fits room front zeros =
    let some : content ≡ n + (content - n) = omega (arith, fits) in
    let rest : length (take (content - n) (drop n block)) ≡ content - n = length-take-le (content - n) (drop n block) (omega (arith, length-drop n block, room, fits)) in
    let count : content - n ≡ content - length used = ap (λ (n : ℕ). content - n) (sym len) in
    ap (λ (n : ℕ). take n block) some ∙ take-add n (content - n) block ∙ ap (λ (front : List ℕ). front ++ take (content - n) (drop n block)) front
    ∙ ap (λ (rest : List ℕ). used ++ rest) (zeros_from (content - n) (take (content - n) (drop n block)) rest zeros ∙ ap (λ (n : ℕ). replicate n 0) count)

-- ---- blocks of a content

pub sealed_content : (block content : List ℕ) → length content ≡ 4064 → block ≡ sealed content → take 4064 block ≡ content
sealed_content block content len is = ap (take 4064) is ∙ take_at content (sha256 content) 4064 len

pub sealed_is_sealed : (block content : List ℕ) → length content ≡ 4064 → block ≡ sealed content → IsSealed block
sealed_is_sealed block content len is = ap (drop 4064) is ∙ drop_at content (sha256 content) 4064 len ∙ ap sha256 (sym (sealed_content block content len is))

pub sealed_from : (block content : List ℕ) → take 4064 block ≡ content → IsSealed block → block ≡ sealed content
sealed_from block content is is_sealed = sym (take-append-drop 4064 block) ∙ ap (λ (digest : List ℕ). take 4064 block ++ digest) is_sealed ∙ ap sealed is

pub length-sealed : (block content : List ℕ) → length content ≡ 4064 → block ≡ sealed content → length block ≡ 4096
length-sealed block content len is = ap length is ∙ omega (arith, length-append content (sha256 content), length-sha256 content, len)

-- the bytes after the content are its digest
pub digest_of_sealed : (block content : List ℕ) → length block ≡ 4096 → block ≡ sealed content → drop 4064 block ≡ sha256 content
digest_of_sealed block content len is =
    let long : length content ≡ 4064 = omega (arith, len, ap length is, length-append content (sha256 content), length-sha256 content) in
    sealed_is_sealed block content long is ∙ ap sha256 (sealed_content block content long is)
