-- A file without its log.
use Rattle.std.proofs.Common.{◌≡◌, ℕ, zero, suc, ◌+◌, ◌-◌, ◌*◌, ◌/◌, ◌<◌, ◌≤◌, ◌&&◌, nat_le, if◌then◌else◌, List, [], ◌++◌, length, take, drop, Some, None, refl, sym, ◌∙◌, ap, ap₂, inl, inr, arith}
use Rattle.std.proofs.lemmas.Bool.{cases_lt, cond-true, cond-false, and_from, and_right, le-leb, lt-leb}
use Rattle.sqlite_wal.specs.Format.{part}
use Rattle.sqlite_wal.specs.Recovery.{Pages, Replays, pages_after}
use Rattle.exh_edits.specs.FileTests.{block_at}
use Rattle.exh_commit.specs.FilePages.{StandsFor, bytes_in_page, bytes_of, pages_of}
use Rattle.exh_commit.proofs.PageLemmas.{bytes_whole, some_not_none, take_split}
use mathlib.Core.Path.{fun_ext}

page_there : (bytes : List ℕ) (n : ℕ) → 1 ≤ n → n ≤ length bytes / 4096 → pages_of bytes n ≡ Some (block_at (n - 1) bytes)
page_there bytes n low high = cond-true _ _ _ (and_from _ _ (le-leb 1 n low) (le-leb n (length bytes / 4096) high))

page_behind : (bytes : List ℕ) (n : ℕ) → length bytes / 4096 < n → pages_of bytes n ≡ None
page_behind bytes n past = cond-false _ _ _ (and_right _ _ (lt-leb n (length bytes / 4096) past))

no_more : (a b : List ℕ) → pages_of a ≡ pages_of b → length b / 4096 ≤ length a / 4096
no_more a b same =
    elim (cases_lt (length a / 4096) (length b / 4096)) [
      | inl less ↦ absurd (some_not_none (sym (page_there b (suc (length a / 4096)) (omega arith) less) ∙ sym (ap (λ (pages : Pages). pages (suc (length a / 4096))) same) ∙ page_behind a (suc (length a / 4096)) (omega arith)))
      | inr within ↦ within
    ]

first_bytes : (bytes : List ℕ) (count : ℕ) → count ≤ length bytes / 4096 → bytes_of count (pages_of bytes) ≡ take (4096 * count) bytes
first_bytes bytes zero within = refl
first_bytes bytes (suc count) within =
    let prev : suc count - 1 ≡ count = omega arith in
    let here : pages_of bytes (suc count) ≡ Some (block_at count bytes) = page_there bytes (suc count) (omega arith) within ∙ ap (λ (n : ℕ). Some (block_at n bytes)) prev in
    let more : 4096 * suc count ≡ 4096 * count + 4096 = omega arith in
    ap₂ (λ (a b : List ℕ). a ++ b) (first_bytes bytes count (omega arith)) (ap bytes_in_page here) ∙ sym (ap (λ (n : ℕ). take n bytes) more ∙ take_split (4096 * count) 4096 bytes (omega arith))

file_pages : (db : List ℕ) → pages_after 4096 [] db 0 ≡ pages_of db
unfolding pages_after part
file_pages db =
    fun_ext (λ (n : ℕ).
    let start : (n - 1) * 4096 ≡ 4096 * (n - 1) = omega arith in
    ap (λ (at : ℕ). if nat_le 1 n && nat_le n (length db / 4096) then Some (take 4096 (drop at db)) else None) start)

no_frames : (count : ℕ) → Replays 4096 [] count → count ≡ 0
no_frames count (inl ignored) = ignored.1
no_frames count (inr committed) = absurd (omega (arith, committed.0.long))

pub alone_has : (db bytes : List ℕ) → StandsFor (record { log = []; db = db }) bytes → (take (length bytes) db ≡ bytes) × (length db < length bytes + 4096)
alone_has db bytes found =
    let none = no_frames found.recovers.frames found.recovers.replays in
    let same : pages_of db ≡ pages_of bytes = sym (file_pages db) ∙ ap (pages_after 4096 [] db) (sym none) ∙ found.recovers.gives in
    let count : ℕ = found.count in
    let whole : length bytes ≡ 4096 * count = found.whole in
    let counts : length db / 4096 ≡ count = omega (arith, whole, no_more db bytes same, no_more bytes db (sym same)) in
    let first : take (4096 * count) db ≡ bytes = sym (first_bytes db count (omega (arith, counts))) ∙ ap (bytes_of count) same ∙ bytes_whole bytes count whole in
    (ap (λ (n : ℕ). take n db) whole ∙ first, omega (arith, whole, counts))
