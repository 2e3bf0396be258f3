-- Pages one after the other, as bytes.
use Rattle.std.proofs.Common.{◌≡◌, ◌≢◌, ℕ, zero, suc, ◌+◌, ◌-◌, ◌*◌, ◌/◌, ◌<◌, ◌≤◌, List, [], ◌++◌, length, take, drop, Some, None, refl, sym, ◌∙◌, ap, ap₂, subst, inl, inr, arith, length-append, append_assoc, append-nil}
use Rattle.std.proofs.lemmas.List.{take-append-le, drop-append-le, take_at, drop_at, length-drop, length-take-le, take_all, take-append-drop}
use Rattle.std.proofs.Math.Seq.{take-append-add}
use Rattle.std.proofs.Math.ListN.{drop_of_length-le}
use Rattle.std.proofs.lemmas.Bool.{cases_lt, cond-true, cond-false, and_from, and_right, le-leb, lt-leb}
use Rattle.sqlite_wal.specs.Recovery.{Pages}
use Rattle.exh_edits.specs.FileTests.{IsWhole, block_at}
use Rattle.exh_edits.specs.BlockEdits.{with_block}
use Rattle.exh_commit.specs.FilePages.{bytes_in_page, bytes_of, pages_of}
use mathlib.Core.Path.{fun_ext}

-- each of the first so many pages has 4,096 bytes
abbrev pub AreSized : ℕ → Pages → Type 0
AreSized count pages = (n : ℕ) → n < count → length (bytes_in_page (pages (suc n))) ≡ 4096

-- there are so many pages, each with all its bytes
pub record AreCounted (count : ℕ) (pages : Pages) : Type 0 where
  pub sized : AreSized count pages
  pub some : (n : ℕ) → 1 ≤ n → n ≤ count → pages n ≡ Some (bytes_in_page (pages n))
  pub first : pages 0 ≡ None
  pub behind : (n : ℕ) → count < n → pages n ≡ None

fewer : (count : ℕ) (pages : Pages) → AreSized (suc count) pages → AreSized count pages
fewer count pages sized n low = sized n (omega arith)

pub length_of : (count : ℕ) (pages : Pages) → AreSized count pages → length (bytes_of count pages) ≡ 4096 * count
length_of zero pages sized = refl
length_of (suc count) pages sized =
    omega (arith, length-append (bytes_of count pages) (bytes_in_page (pages (suc count))), length_of count pages (fewer count pages sized), sized count (omega arith))

-- ---- blocks of bytes that more bytes follow

block_before : (n : ℕ) (bytes more : List ℕ) → 4096 * (n + 1) ≤ length bytes → block_at n (bytes ++ more) ≡ block_at n bytes
block_before n bytes more within =
    ap (take 4096) (drop-append-le (4096 * n) bytes more (omega arith)) ∙ take-append-le 4096 (drop (4096 * n) bytes) more (omega (arith, length-drop (4096 * n) bytes))

block_behind : (n : ℕ) (bytes block : List ℕ) → length bytes ≡ 4096 * n → length block ≡ 4096 → block_at n (bytes ++ block) ≡ block
block_behind n bytes block len sized = ap (take 4096) (drop_at bytes block (4096 * n) len) ∙ take_all 4096 block (omega arith)

pub block_of : (count : ℕ) (pages : Pages) (n : ℕ) → AreSized count pages → n < count → block_at n (bytes_of count pages) ≡ bytes_in_page (pages (suc n))
block_of zero pages n sized low = absurd (omega arith)
block_of (suc count) pages n sized low =
    let len = length_of count pages (fewer count pages sized) in
    elim (cases_lt n count) [
      | inl before ↦ block_before n (bytes_of count pages) (bytes_in_page (pages (suc count))) (omega arith) ∙ block_of count pages n (fewer count pages sized) before
      | inr last ↦
          let same : n ≡ count = omega arith in
          rw same (block_behind count (bytes_of count pages) (bytes_in_page (pages (suc count))) len (sized count (omega arith)))
    ]

-- ---- pages of the bytes of pages

pub page_within : (bytes : List ℕ) (count n : ℕ) → length bytes ≡ 4096 * count → 1 ≤ n → n ≤ count → pages_of bytes n ≡ Some (block_at (n - 1) bytes)
page_within bytes count n len low high = cond-true _ _ _ (and_from _ _ (le-leb 1 n low) (le-leb n (length bytes / 4096) (omega arith)))

pub page_zero : (bytes : List ℕ) → pages_of bytes 0 ≡ None
page_zero bytes = refl

pub page_past : (bytes : List ℕ) (count n : ℕ) → length bytes ≡ 4096 * count → count < n → pages_of bytes n ≡ None
page_past bytes count n len past = cond-false _ _ _ (and_right _ _ (lt-leb n (length bytes / 4096) (omega arith)))

pub pages_back : (count : ℕ) (pages : Pages) → AreCounted count pages → pages_of (bytes_of count pages) ≡ pages
pages_back count pages counted =
    let len = length_of count pages counted.sized in
    fun_ext (λ (n : ℕ). elim (cases_lt count n) [
      | inl past ↦ page_past (bytes_of count pages) count n len past ∙ sym (counted.behind n past)
      | inr within ↦ elim (cases_lt 0 n) [
        | inl low ↦
            let prev : suc (n - 1) ≡ n = omega arith in
            page_within (bytes_of count pages) count n len low within ∙ ap Some (block_of count pages (n - 1) counted.sized (omega arith) ∙ ap (λ (m : ℕ). bytes_in_page (pages m)) prev) ∙ sym (counted.some n low within)
        | inr none ↦
            let is : n ≡ 0 = omega arith in
            rw is (sym counted.first)
      ]
    ])

pub some_not_none : {a : List ℕ} → Some a ≡ None → ⊥
some_not_none same = cc

-- a page that is there is the block at its place
pub read_at : (count place : ℕ) (block : List ℕ) (pages : Pages) → AreCounted count pages → pages (suc place) ≡ Some block → IsWhole place (bytes_of count pages) × (block ≡ block_at place (bytes_of count pages))
read_at count place block pages counted is =
    let low : place < count = elim (cases_lt place count) [ inl low ↦ low | inr past ↦ absurd (some_not_none (sym is ∙ counted.behind (suc place) (omega arith))) ] in
    (omega (arith, length-drop (4096 * place) (bytes_of count pages), length_of count pages counted.sized), ap bytes_in_page (sym is) ∙ sym (block_of count pages place counted.sized low))

-- ---- bytes of the pages of bytes

pub take_split : (i n : ℕ) (bytes : List ℕ) → i ≤ length bytes → take (i + n) bytes ≡ take i bytes ++ take n (drop i bytes)
take_split i n bytes within =
    let len : length (take i bytes) ≡ i = length-take-le i bytes within in
    let joined : take (length (take i bytes) + n) (take i bytes ++ drop i bytes) ≡ take i bytes ++ take n (drop i bytes) = take-append-add (take i bytes) (drop i bytes) n in
    sym (ap₂ (λ (k : ℕ) (all : List ℕ). take (k + n) all) len (take-append-drop i bytes)) ∙ joined

pub bytes_back : (bytes : List ℕ) (count k : ℕ) → length bytes ≡ 4096 * count → k ≤ count → bytes_of k (pages_of bytes) ≡ take (4096 * k) bytes
bytes_back bytes count zero len low = refl
bytes_back bytes count (suc k) len low =
    let prev : suc k - 1 ≡ k = omega arith in
    let here : pages_of bytes (suc k) ≡ Some (block_at k bytes) = page_within bytes count (suc k) len (omega arith) low ∙ ap (λ (n : ℕ). Some (block_at n bytes)) prev in
    let more : 4096 * suc k ≡ 4096 * k + 4096 = omega arith in
    ap₂ (λ (a b : List ℕ). a ++ b) (bytes_back bytes count k len (omega arith)) (ap bytes_in_page here) ∙ sym (ap (λ (n : ℕ). take n bytes) more ∙ take_split (4096 * k) 4096 bytes (omega arith))

pub bytes_whole : (bytes : List ℕ) (count : ℕ) → length bytes ≡ 4096 * count → bytes_of count (pages_of bytes) ≡ bytes
bytes_whole bytes count len = bytes_back bytes count count len (omega arith) ∙ take_all (4096 * count) bytes (omega arith)

no_fewer : (a b : List ℕ) (count more : ℕ) → length a ≡ 4096 * count → length b ≡ 4096 * more → pages_of a ≡ pages_of b → more ≤ count
no_fewer a b count more len_a len_b same =
    elim (cases_lt count more) [
      | inl less ↦ absurd (some_not_none (sym (page_within b more (suc count) len_b (omega arith) less) ∙ sym (ap (λ (pages : Pages). pages (suc count)) same) ∙ page_past a count (suc count) len_a (omega arith)))
      | inr within ↦ within
    ]

-- whole blocks are told by their pages
pub same_bytes : (a b : List ℕ) (count more : ℕ) → length a ≡ 4096 * count → length b ≡ 4096 * more → pages_of a ≡ pages_of b → a ≡ b
same_bytes a b count more len_a len_b same =
    let counts : more ≡ count = omega (arith, no_fewer a b count more len_a len_b same, no_fewer b a more count len_b len_a (sym same)) in
    sym (bytes_whole a count len_a) ∙ ap (bytes_of count) same ∙ ap (λ (n : ℕ). bytes_of n (pages_of b)) (sym counts) ∙ bytes_whole b more len_b

-- ---- edits

pub same_below : (count : ℕ) (old new : Pages) → ((n : ℕ) → n < count → new (suc n) ≡ old (suc n)) → bytes_of count new ≡ bytes_of count old
same_below zero old new same = refl
same_below (suc count) old new same =
    ap₂ (λ (a b : List ℕ). a ++ b) (same_below count old new (λ n low. same n (omega arith))) (ap bytes_in_page (same count (omega arith)))

with_block_before : (place : ℕ) (block bytes more : List ℕ) → 4096 * (place + 1) ≤ length bytes → with_block place block (bytes ++ more) ≡ with_block place block bytes ++ more
with_block_before place block bytes more within =
    rw (take-append-le (4096 * place) bytes more (omega arith), drop-append-le (4096 * (place + 1)) bytes more within)
    (simp append_assoc)

with_block_last : (place : ℕ) (block bytes more : List ℕ) → length bytes ≡ 4096 * place → length more ≤ 4096 → with_block place block (bytes ++ more) ≡ bytes ++ block
with_block_last place block bytes more len few =
    let behind : length (bytes ++ more) ≤ 4096 * (place + 1) = omega (arith, length-append bytes more) in
    rw (take_at bytes more (4096 * place) len, drop_of_length-le (bytes ++ more) behind, append-nil block) refl

-- a block in place of another
pub put : (count place : ℕ) (block : List ℕ) (old new : Pages) → AreSized count old → place < count → new (suc place) ≡ Some block → ((n : ℕ) → n ≢ suc place → new n ≡ old n)
    → bytes_of count new ≡ with_block place block (bytes_of count old)
put zero place block old new sized low here others = absurd (omega arith)
put (suc count) place block old new sized low here others =
    let len = length_of count old (fewer count old sized) in
    elim (cases_lt place count) [
      | inl before ↦
          ap₂ (λ (a b : List ℕ). a ++ b) (put count place block old new (fewer count old sized) before here others) (ap bytes_in_page (others (suc count) (omega arith)))
          ∙ sym (with_block_before place block (bytes_of count old) (bytes_in_page (old (suc count))) (omega arith))
      | inr last ↦
          let is : place ≡ count = omega arith in
          let there : new (suc count) ≡ Some block = subst (λ (n : ℕ). new (suc n) ≡ Some block) is here in
          let below = same_below count old new (λ n under. others (suc n) (omega arith)) in
          ap₂ (λ (a b : List ℕ). a ++ b) below (ap bytes_in_page there)
          ∙ sym (rw is (with_block_last count block (bytes_of count old) (bytes_in_page (old (suc count))) len (omega (arith, sized count (omega arith)))))
    ]

-- a block behind the last one
pub added : (count : ℕ) (block : List ℕ) (old new : Pages) → AreSized count old → new (suc count) ≡ Some block → ((n : ℕ) → n ≢ suc count → new n ≡ old n)
    → bytes_of (suc count) new ≡ with_block count block (bytes_of count old)
added count block old new sized here others =
    let len = length_of count old sized in
    let below = same_below count old new (λ n under. others (suc n) (omega arith)) in
    ap₂ (λ (a b : List ℕ). a ++ b) below (ap bytes_in_page here)
    ∙ sym (ap (with_block count block) (sym (append-nil (bytes_of count old))) ∙ with_block_last count block (bytes_of count old) [] len (omega arith))
