-- A head as bytes and back.
use Rattle.std.proofs.Common.{inl, inr, ◌≡◌, ℕ, ◌+◌, ◌^◌, ◌<◌, ◌≤◌, List, [], ◌∷◌, ◌++◌, length, take, drop, get_or, slice_index, refl, sym, ap, ◌∙◌, arith}
use Rattle.std.proofs.Math.Seq.{take-add}
use Rattle.std.proofs.lemmas.Bool.{cases_lt}
use Rattle.std.proofs.lemmas.List.{get_or_past, get_or-take, get_or-drop, length-take, length-drop, length-take-le, drop-drop}
use Rattle.std.proofs.lemmas.Nat.{be_bytes_4, be_bytes_8}
use Rattle.byteorder.specs.Endian.{big_bytes, big_number}
use Rattle.byteorder.specs.Numbers.{big_number-reads_back}
use Rattle.exh_codec.specs.declared.head.Head.{Head}
use Rattle.exh_codec.specs.declared.kind.Kind.{Kind}
use Rattle.exh_codec.specs.declared.kind.Kind.TheVariants.{Live, Forward}
use Rattle.exh_codec.specs.Head.{head_bytes, IsReadHead, page_kind_byte}

abbrev pub AreBytes : List ℕ → Type 0
AreBytes bytes = (i : ℕ) → get_or bytes i 0 < 256

-- what a head's bytes say, whatever follows
pub reads_head : (head : Head) (tail : List ℕ) → head.link < 2 ^ 32 → head.low < 2 ^ 64 → IsReadHead (head_bytes head ++ tail) head
unfolding head_bytes
reads_head head tail link_fits low_fits = record {
  kind = refl;
  prefix_len = refl;
  count = refl;
  link = big_number-reads_back 4 head.link (big_bytes 8 head.low ++ tail) link_fits;
  low = big_number-reads_back 8 head.low tail low_fits;
}

pub fourth_is_zero : (head : Head) (tail : List ℕ) → slice_index (head_bytes head ++ tail) 3 ≡ 0
unfolding head_bytes
fourth_is_zero head tail = refl

-- ---- back

pub AreBytes-drop : (n : ℕ) (bytes : List ℕ) → AreBytes bytes → AreBytes (drop n bytes)
AreBytes-drop n bytes fits i = rw get_or-drop (fits (n + i))

AreBytes-take : (n : ℕ) (bytes : List ℕ) → AreBytes bytes → AreBytes (take n bytes)
AreBytes-take n bytes fits i =
    elim (cases_lt i n) [
      | inl within ↦ rw (get_or-take n bytes i 0 within) (fits i)
      | inr past ↦ rw (get_or_past (take n bytes) i 0 (omega (arith, length-take n bytes))) (omega arith)
    ]

number_back_4 : (xs : List ℕ) → 4 ≤ length xs → AreBytes xs → big_bytes 4 (big_number 4 xs) ≡ take 4 xs
number_back_4 xs long fits =
    let front = λ (i : ℕ) (lt : i < 4). get_or-take 4 xs i 0 lt in
    let e0 = front 0 (omega arith) in
    let e1 = front 1 (omega arith) in
    let e2 = front 2 (omega arith) in
    let e3 = front 3 (omega arith) in
    be_bytes_4 (take 4 xs) (big_number 4 xs) (length-take-le 4 xs long) (AreBytes-take 4 xs fits) (omega (arith, e0, e1, e2, e3))

number_back_8 : (xs : List ℕ) → 8 ≤ length xs → AreBytes xs → big_bytes 8 (big_number 8 xs) ≡ take 8 xs
number_back_8 xs long fits =
    let front = λ (i : ℕ) (lt : i < 8). get_or-take 8 xs i 0 lt in
    let e0 = front 0 (omega arith) in
    let e1 = front 1 (omega arith) in
    let e2 = front 2 (omega arith) in
    let e3 = front 3 (omega arith) in
    let e4 = front 4 (omega arith) in
    let e5 = front 5 (omega arith) in
    let e6 = front 6 (omega arith) in
    let e7 = front 7 (omega arith) in
    be_bytes_8 (take 8 xs) (big_number 8 xs) (length-take-le 8 xs long) (AreBytes-take 8 xs fits) (omega (arith, e0, e1, e2, e3, e4, e5, e6, e7))

take_four : (xs : List ℕ) → 4 ≤ length xs → take 4 xs ≡ get_or xs 0 0 ∷ get_or xs 1 0 ∷ get_or xs 2 0 ∷ get_or xs 3 0 ∷ []
take_four [] long = absurd (omega (arith, long))
take_four (a ∷ []) long = absurd (omega (arith, long))
take_four (a ∷ b ∷ []) long = absurd (omega (arith, long))
take_four (a ∷ b ∷ c ∷ []) long = absurd (omega (arith, long))
take_four (a ∷ b ∷ c ∷ d ∷ xs) long = refl

-- the first bytes are those of the head that they say, where the fourth is zero
pub head_back : (block : List ℕ) (head : Head) → 16 ≤ length block → AreBytes block → IsReadHead block head → slice_index block 3 ≡ 0 → take 16 block ≡ head_bytes head
unfolding head_bytes
head_back block head long fits read fourth =
    let link : take 4 (drop 4 block) ≡ big_bytes 4 head.link =
    sym (number_back_4 (drop 4 block) (omega (arith, length-drop 4 block)) (AreBytes-drop 4 block fits)) ∙ ap (big_bytes 4) read.link in
    let low : take 8 (drop 8 block) ≡ big_bytes 8 head.low =
    sym (number_back_8 (drop 8 block) (omega (arith, length-drop 8 block)) (AreBytes-drop 8 block fits)) ∙ ap (big_bytes 8) read.low in
    let later : take 12 (drop 4 block) ≡ big_bytes 4 head.link ++ big_bytes 8 head.low =
    take-add 4 8 (drop 4 block) ∙ ap (λ (back : List ℕ). take 4 (drop 4 block) ++ take 8 back) (drop-drop 4 4 block)
    ∙ ap (λ (front : List ℕ). front ++ take 8 (drop 8 block)) link ∙ ap (λ (back : List ℕ). big_bytes 4 head.link ++ back) low in
    take-add 4 12 block ∙ ap (λ (front : List ℕ). front ++ take 12 (drop 4 block)) (take_four block (omega (arith, long)))
    ∙ ap (λ (n : ℕ). n ∷ get_or block 1 0 ∷ get_or block 2 0 ∷ get_or block 3 0 ∷ take 12 (drop 4 block)) read.kind
    ∙ ap (λ (n : ℕ). page_kind_byte head.kind ∷ n ∷ get_or block 2 0 ∷ get_or block 3 0 ∷ take 12 (drop 4 block)) read.prefix_len
    ∙ ap (λ (n : ℕ). page_kind_byte head.kind ∷ head.prefix_len ∷ n ∷ get_or block 3 0 ∷ take 12 (drop 4 block)) read.count
    ∙ ap (λ (n : ℕ). page_kind_byte head.kind ∷ head.prefix_len ∷ head.count ∷ n ∷ take 12 (drop 4 block)) fourth
    ∙ ap (λ (back : List ℕ). page_kind_byte head.kind ∷ head.prefix_len ∷ head.count ∷ 0 ∷ back) later

-- one block says one head
same_kind : (one other : Kind) → page_kind_byte one ≡ page_kind_byte other → one ≡ other
same_kind Live Live same = refl
same_kind Live Forward same = absurd (omega (arith, same))
same_kind Forward Live same = absurd (omega (arith, same))
same_kind Forward Forward same = refl

pub same_heads : (block : List ℕ) (one other : Head) → IsReadHead block one → IsReadHead block other → one ≡ other
same_heads block one other first second =
    let kind : one.kind ≡ other.kind = same_kind one.kind other.kind (sym first.kind ∙ second.kind) in
    let prefix_len : one.prefix_len ≡ other.prefix_len = sym first.prefix_len ∙ second.prefix_len in
    let count : one.count ≡ other.count = sym first.count ∙ second.count in
    let link : one.link ≡ other.link = sym first.link ∙ second.link in
    let low : one.low ≡ other.low = sym first.low ∙ second.low in
    ap (λ (k : Kind). record { kind = k; prefix_len = one.prefix_len; count = one.count; link = one.link; low = one.low }) kind
    ∙ ap (λ (n : ℕ). record { kind = other.kind; prefix_len = n; count = one.count; link = one.link; low = one.low }) prefix_len
    ∙ ap (λ (n : ℕ). record { kind = other.kind; prefix_len = other.prefix_len; count = n; link = one.link; low = one.low }) count
    ∙ ap (λ (n : ℕ). record { kind = other.kind; prefix_len = other.prefix_len; count = other.count; link = n; low = one.low }) link
    ∙ ap (λ (n : ℕ). record { kind = other.kind; prefix_len = other.prefix_len; count = other.count; link = other.link; low = n }) low
