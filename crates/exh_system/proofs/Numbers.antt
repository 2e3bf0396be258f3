-- Numbers that are read of a part of some bytes.
use Rattle.std.proofs.Common.{◌≡◌, ℕ, ◌+◌, ◌≤◌, List, drop, take, ap, ◌∙◌, arith}
use Rattle.byteorder.specs.Endian.{big_from}
use Rattle.byteorder.specs.Numbers.{big_from-take}
use Rattle.exh_notice.specs.NoticeByteLemmas.{big_from-drop}

pub number_in : (i m n : ℕ) (bytes : List ℕ) → n ≤ m → big_from 0 n (take m (drop i bytes)) ≡ big_from i n bytes
number_in i m n bytes within =
    let place : i + 0 ≡ i = omega arith in
    big_from-take 0 n m (drop i bytes) (omega (arith, within)) ∙ big_from-drop i 0 n bytes ∙ ap (λ (place : ℕ). big_from place n bytes) place
