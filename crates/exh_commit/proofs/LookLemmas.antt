-- The frames of a log that is looked at.
use Rattle.std.proofs.Common.{◌≡◌, ◌≢◌, ◌⊎◌, ◌+◌, ◌*◌, ◌<◌, ◌≤◌, ℕ, List, length, take, slice_index, sym, refl, ◌∙◌, ap, subst, inl, inr, arith}
use Rattle.std.specs.Prelude.{min}
use Rattle.std.proofs.lemmas.Bool.{cases_lt, cases_order}
use Rattle.std.proofs.lemmas.List.{take-take, take_all, length-take-le}
use Rattle.sqlite_disk.specs.Disk.{Holds}
use Rattle.sqlite_wal.specs.Format.{IsHeader, content}
use Rattle.sqlite_wal.specs.Index.{IsLatest}
use Rattle.sqlite_wal.specs.Recovery.{AreFramesOf, frame, frame_at, frames_len, header}
use Rattle.exh_codec.specs.Block.{AreZero}
use Rattle.sqlite_wal.proofs.FileLemmas.{content-frame}
use Rattle.sqlite_wal.proofs.FormatLemmas.{part_front}
use Rattle.sqlite_wal.proofs.PartLemmas.{held_is_part}
use Rattle.sqlite_wal.proofs.RecoveryLemmas.{replays_once}
use Rattle.exh_commit.specs.LogLook.{BeginsAs, HasOwnCommits, IsHeaderOfPages, IsOwnLog, front}

-- a frame of a log of blocks is in it whole
pub frame_within : (log numbers : List ℕ) (i : ℕ) → AreFramesOf 4096 log numbers → i < length numbers → frame_at 4096 i + (24 + 4096) ≤ length log
frame_within log numbers i (inl ignored, each) low = absurd (omega (arith, ignored.1, low))
frame_within log numbers i (inr taken, each) low = (taken.0.valid i low).within

-- the block of a frame
pub block_within : (log numbers : List ℕ) (i : ℕ) → AreFramesOf 4096 log numbers → i < length numbers → 56 + 4120 * i + 4096 ≤ length log
unfolding frames_len
block_within log numbers i are low = omega (arith, frame_within log numbers i are low)

pub content_held : (log block : List ℕ) (i : ℕ) → Holds log (56 + 4120 * i) block → length block ≡ 4096 → content (frame 4096 log i) ≡ block
unfolding frames_len
content_held log block i holds len =
    let at : 56 + 4120 * i ≡ frame_at 4096 i + 24 = omega arith in
    content-frame 4096 log i ∙ held_is_part log block (frame_at 4096 i + 24) 4096 (subst (λ (n : ℕ). Holds log n block) at holds) len

-- without a frame there is no commit
pub none_own : (log numbers : List ℕ) → AreFramesOf 4096 log numbers → length numbers ≡ 0 → HasOwnCommits log
none_own log numbers are none frames replays some =
    let same = replays_once 4096 log frames (length numbers) replays are.0 in
    absurd (omega (arith, some, same, none))

-- commits without a frame of page 1 aren't a page file's
pub none_of_first : (log numbers : List ℕ) → AreFramesOf 4096 log numbers → 0 < length numbers → ((i : ℕ) → i < length numbers → slice_index numbers i ≢ 1) → HasOwnCommits log → ⊥
none_of_first log numbers are some none own =
    let it = own (length numbers) are.0 some in
    none it.at it.within (are.1 it.at it.within ∙ it.first)

module _ (log numbers : List ℕ) (i : ℕ) (are : AreFramesOf 4096 log numbers) (latest : IsLatest numbers 1 i) where
  -- the last frame of page 1 is the one that tells
  pub own_if : IsHeaderOfPages (content (frame 4096 log i)) → HasOwnCommits log
  own_if header frames replays some =
      let same : frames ≡ length numbers = replays_once 4096 log frames (length numbers) replays are.0 in
      record {
        at = i;
        within = omega (arith, latest.within, same);
        first = sym (are.1 i latest.within) ∙ latest.found;
        last = λ j later within is. let low : j < length numbers = omega (arith, within, same) in latest.last j later low (are.1 j low ∙ is);
        header = header;
      }

  pub header_if : HasOwnCommits log → IsHeaderOfPages (content (frame 4096 log i))
  header_if own =
      let it = own (length numbers) are.0 (omega (arith, latest.within)) in
      elim (cases_order it.at i) [
        | inl same ↦ subst (λ (n : ℕ). IsHeaderOfPages (content (frame 4096 log n))) same it.header
        | inr (inl before) ↦ absurd (it.last i before latest.within (sym (are.1 i latest.within) ∙ latest.found))
        | inr (inr behind) ↦ absurd (latest.last it.at behind it.within (are.1 it.at it.within ∙ it.first))
      ]

-- ---- the first bytes

-- as many of the first bytes as are asked, or all
abbrev pub AreEnough : ℕ → List ℕ → Type 0
AreEnough n log = (n ≤ length log) × ((12 ≤ n) ⊎ (n ≡ length log))

same_front : (n : ℕ) (log : List ℕ) → AreEnough n log → take 12 (take n log) ≡ take 12 log
same_front n log (within, inl long) = take-take 12 n log long
same_front n log (within, inr whole) = ap (take 12) (take_all n log (omega (arith, whole)))

front_is_12 : (first order : ℕ) → length (front first order) ≡ 12
front_is_12 first order = refl

same_end : (n first order : ℕ) (log : List ℕ) → AreEnough n log → take (length (take n log)) (front first order) ≡ take (length log) (front first order)
same_end n first order log (within, inl long) =
    let twelve = front_is_12 first order in
    let all = length-take-le n log within in
    take_all (length (take n log)) (front first order) (omega (arith, twelve, all, long)) ∙ sym (take_all (length log) (front first order) (omega (arith, twelve, within, long)))
same_end n first order log (within, inr whole) = ap (λ (bytes : List ℕ). take (length bytes) (front first order)) (take_all n log (omega (arith, whole)))

pub begins_log : (first n : ℕ) (log : List ℕ) → AreEnough n log → BeginsAs first (take n log) → BeginsAs first log
begins_log first n log enough (inl is) = inl (sym (same_front n log enough) ∙ is ∙ same_end n first 0x82 log enough)
begins_log first n log enough (inr is) = inr (sym (same_front n log enough) ∙ is ∙ same_end n first 0x83 log enough)

pub begins_front : (first n : ℕ) (log : List ℕ) → AreEnough n log → BeginsAs first log → BeginsAs first (take n log)
begins_front first n log enough (inl is) = inl (same_front n log enough ∙ is ∙ sym (same_end n first 0x82 log enough))
begins_front first n log enough (inr is) = inr (same_front n log enough ∙ is ∙ sym (same_end n first 0x83 log enough))

-- ---- the answer

-- what was read of the first bytes of a log
pub record IsFrontOf (log front : List ℕ) (n : ℕ) : Type 0 where
  pub is : front ≡ take n log
  pub enough : AreEnough n log

pub front_of : (log front : List ℕ) (len n : ℕ) → len ≡ length log → n ≡ min len 56 → front ≡ take n log → IsFrontOf log front n
front_of log front len n all least is =
    record { is = is; enough = (omega (arith, all, least), elim (cases_lt len 57) [ inl short ↦ inr (omega (arith, all, least, short)) | inr long ↦ inl (omega (arith, least, long)) ]) }

module _ (log front : List ℕ) (n : ℕ) (it : IsFrontOf log front n) where
  to_log : (first : ℕ) → BeginsAs first front → BeginsAs first log
  to_log first begins = begins_log first n log it.enough (subst (BeginsAs first) it.is begins)

  to_front : (first : ℕ) → BeginsAs first log → BeginsAs first front
  to_front first begins = subst (BeginsAs first) (sym it.is) (begins_front first n log it.enough begins)

  pub emptied_own : BeginsAs 0 front → IsOwnLog log
  emptied_own begins = inl (to_log 0 begins)

  whole : n ≡ length log → front ≡ log
  whole all = it.is ∙ take_all n log (omega (arith, all))

  pub short_own : n ≡ length log → length log ≤ 56 → (AreZero front ⊎ BeginsAs 0x37 front) → IsOwnLog log
  short_own all short (inl zeros) = inr (inl (record { short = short; begun = inl (subst AreZero (whole all) zeros) }))
  short_own all short (inr begins) = inr (inl (record { short = short; begun = inr (to_log 0x37 begins) }))

  pub own_short : n ≡ length log → length log ≤ 56 → (BeginsAs 0 front → ⊥) → IsOwnLog log → AreZero front ⊎ BeginsAs 0x37 front
  own_short all short other (inl emptied) = absurd (other (to_front 0 emptied))
  own_short all short other (inr (inl own)) = elim own.begun [ inl zeros ↦ inl (subst AreZero (sym (whole all)) zeros) | inr begins ↦ inr (to_front 0x37 begins) ]
  own_short all short other (inr (inr written)) = absurd (omega (arith, short, written.long))

  head_is : 32 ≤ n → take 32 front ≡ header log
  head_is long = ap (take 32) it.is ∙ take-take 32 n log long ∙ sym (part_front log 32)

  pub written_own : 32 ≤ n → 56 < length log → IsHeader 4096 (take 32 front) → HasOwnCommits log → IsOwnLog log
  written_own low long signed own = inr (inr (record { long = long; signed = subst (IsHeader 4096) (head_is low) signed; own = own }))

  pub own_written : 32 ≤ n → 56 < length log → (BeginsAs 0 front → ⊥) → IsOwnLog log → IsHeader 4096 (take 32 front) × HasOwnCommits log
  own_written low long other (inl emptied) = absurd (other (to_front 0 emptied))
  own_written low long other (inr (inl own)) = absurd (omega (arith, long, own.short))
  own_written low long other (inr (inr written)) = (subst (IsHeader 4096) (sym (head_is low)) written.signed, written.own)
