-- From the states of a pager to bytes and files.
use Rattle.std.proofs.Common.{◌≡◌, OnOk, Result, Ok, Err, ℕ, suc, ◌*◌, List, [], length, Option, Some, None, IsSome, IsTrue, refl, sym, ◌∙◌, ap, subst, inl, arith}
use Rattle.sqlite_disk.specs.declared.Disk.{Ghosts}
use Rattle.sqlite_wal.specs.Log as log
use Rattle.sqlite_wal.specs.Recovery.{Image, Pages, Recovers, pages_after}
use Rattle.sqlite_wal.specs.State.{Keeps, MayCommit, LeavesOnly}
use Rattle.sqlite_wal.proofs.RecoveryLemmas.{recovers_once}
use Rattle.sqlite_wal.proofs.StateLemmas.{LeavesOnly-commit, LeavesOnly-keeps, LeavesOnly-settled, open_from, ready_of}
use Rattle.sqlite_wal.proofs.FileLemmas.{pages_without_frames}
use Rattle.sqlite_wal.proofs.LogLemmas.{SeenMayStay, durable_frames, sound_of}
use Rattle.sqlite_pager.specs.declared.pager.Pager.{Pager}
use Rattle.sqlite_pager.specs.Pager.{state, visible, files, log_frames, page_count}
use Rattle.sqlite_pager.proofs.PagerLemmas.{settled, visible_counted, visible_whole}
use Rattle.exh_commit.specs.FilePages.{Leaves, StandsFor, bytes_in_page, pages_of}
use Rattle.exh_commit.specs.PagedFile.{bytes_seen}
use Rattle.exh_commit.proofs.PageLemmas.{AreCounted, length_of, pages_back, same_bytes}

some_is : (page : Option (List ℕ)) → IsSome page → page ≡ Some (bytes_in_page page)
some_is (Some bytes) some = refl
some_is None some = absurd (cc)

none_is : (page : Option (List ℕ)) → (IsSome page → ⊥) → page ≡ None
none_is None never = refl
none_is (Some bytes) never = absurd (never refl)

-- pages that are those of bytes of which P holds
pub record Stand (P : List ℕ → Type 0) (pages : Pages) : Type 0 where
  pub bytes : List ℕ
  pub count : ℕ
  pub whole : length bytes ≡ 4096 * count
  pub are : pages ≡ pages_of bytes
  pub holds : P bytes

pub both_on_ok : {T E : Type 0} (r : Result T E) (P Q S : Type 0) → OnOk r P → OnOk r Q → (P → Q → S) → OnOk r S
both_on_ok (Ok x) P Q S p q f = f p q
both_on_ok (Err e) P Q S p q f = p

-- files stand for one list of bytes alone
pub stands_once : (image : Image) (a b : List ℕ) → StandsFor image a → StandsFor image b → a ≡ b
stands_once image a b first second = same_bytes a b first.count second.count first.whole second.whole (recovers_once 4096 image (pages_of a) (pages_of b) first.recovers second.recovers)

pub stands : (page_size : ℕ) (image : Image) (pages : Pages) (P : List ℕ → Type 0) → page_size ≡ 4096 → Recovers page_size image pages → (stand : Stand P pages) → StandsFor image stand.bytes
stands page_size image pages P size recovers stand = record {
  count = stand.count;
  whole = stand.whole;
  recovers = subst (Recovers 4096 image) stand.are (subst (λ (n : ℕ). Recovers n image pages) size recovers);
}

module _ {D : Type 0} {g : Ghosts D} where
  module _ (it : Pager D g) (is_open : IsTrue (state it).is_open) (size : (state it).page_size ≡ 4096) where
    pub counted : AreCounted (page_count it) (visible it)
    counted =
        let range = visible_counted it is_open in
        let whole = visible_whole it is_open in
        record {
          sized = λ n low. size_at n (whole.sized (suc n) _ (some_is (visible it (suc n)) ((range (suc n)).1 (omega arith) (omega arith))));
          some = λ n low high. some_is (visible it n) ((range n).1 low high);
          first = none_is (visible it 0) (λ some. absurd (omega (arith, ((range 0).0 some).0)));
          behind = λ n past. none_is (visible it n) (λ some. absurd (omega (arith, past, ((range n).0 some).1)));
        }
      where
        size_at : (n : ℕ) → length (bytes_in_page (visible it (suc n))) ≡ (state it).page_size → length (bytes_in_page (visible it (suc n))) ≡ 4096
        size_at n is = is ∙ size

    pub stand_for : (P : List ℕ → Type 0) → P (bytes_seen it) → Stand P (visible it)
    stand_for P holds = record {
      bytes = bytes_seen it;
      count = page_count it;
      whole = length_of (page_count it) (visible it) counted.sized;
      are = sym (pages_back (page_count it) (visible it) counted);
      holds = holds;
    }

  -- an image stands for what an open pager shows, if it recovers to these pages
  pub stands_seen : (it : Pager D g) (page_size : ℕ) (image : Image) (pages : Pages) → IsTrue (state it).is_open → (state it).page_size ≡ 4096 → page_size ≡ 4096 → visible it ≡ pages → Recovers page_size image pages → StandsFor image (bytes_seen it)
  unfolding stand_for
  stands_seen it page_size image pages is_open size sized same recovers =
      stands page_size image (visible it) (λ bytes. bytes ≡ bytes_seen it) sized (subst (Recovers page_size image) (sym same) recovers) (stand_for it is_open size (λ bytes. bytes ≡ bytes_seen it) refl)

  pub leaves : (it : Pager D g) (P : List ℕ → Type 0) → (state it).page_size ≡ 4096 → LeavesOnly (state it) (Stand P) → Leaves g (files it) P
  leaves it P size all left clean may =
      let (pages, recovers, stand) = all left (clean, may) in
      (stand.bytes, stands (state it).page_size left pages P size recovers stand, stand.holds)

  -- a crash of an open pager that has written nothing leaves what it shows
  pub leaves_seen : (it : Pager D g) (P : List ℕ → Type 0) → IsTrue (state it).is_open → (state it).page_size ≡ 4096 → visible it ≡ (state it).committed → SeenMayStay g → P (bytes_seen it) → LeavesOnly (state it) (Stand P)
  leaves_seen it P is_open size same stays holds = LeavesOnly-settled (state it) (Stand P) (settled it is_open stays) (subst (Stand P) same (stand_for it is_open size P holds))

  -- two open pagers that show the same pages show the same bytes
  pub seen_once : (old new : Pager D g) → IsTrue (state old).is_open → (state old).page_size ≡ 4096 → IsTrue (state new).is_open → (state new).page_size ≡ 4096 → visible new ≡ visible old → bytes_seen new ≡ bytes_seen old
  seen_once old new old_open old_size new_open new_size same =
      let first = counted old old_open old_size in
      let second = counted new new_open new_size in
      same_bytes (bytes_seen new) (bytes_seen old) (page_count new) (page_count old) (length_of (page_count new) (visible new) second.sized) (length_of (page_count old) (visible old) first.sized)
      (pages_back (page_count new) (visible new) second ∙ same ∙ sym (pages_back (page_count old) (visible old) first))

  -- a call that commits nothing, on a file that was ready: a crash leaves what it showed
  pub kept_leaves : (old new : Pager D g) (P : List ℕ → Type 0) → Keeps (state old) (state new) → IsTrue (state old).is_ready → (state old).page_size ≡ 4096 → (IsTrue (state old).is_open → visible old ≡ (state old).committed) → SeenMayStay g → P (bytes_seen old) → Leaves g (files new) P
  kept_leaves old new P keeps ready size seen stays holds left clean may =
      let was = open_from (state old) ready (keeps.stays.clean clean) in
      leaves new P (keeps.stays.size ∙ size) (LeavesOnly-keeps (state old) (state new) (Stand P) keeps (leaves_seen old P was size (seen was) stays holds)) left clean may

  -- writes, a commit of them, and a call that commits nothing: a crash leaves what was shown before or what was written
  pub commit_leaves : (old mid done new : Pager D g) (P : List ℕ → Type 0) → Keeps (state old) (state mid) → MayCommit (state mid) (visible mid) (state done) → Keeps (state done) (state new)
      → IsTrue (state old).is_ready → (state old).page_size ≡ 4096 → (IsTrue (state old).is_open → visible old ≡ (state old).committed) → SeenMayStay g → P (bytes_seen old) → (IsTrue (state mid).is_open → P (bytes_seen mid)) → Leaves g (files new) P
  commit_leaves old mid done new P first commits last ready size seen stays before after left clean may =
      let was = open_from (state old) ready (first.stays.clean (commits.stays.clean (last.stays.clean clean))) in
      let mid_size : (state mid).page_size ≡ 4096 = first.stays.size ∙ size in
      leaves new P (last.stays.size ∙ (commits.stays.size ∙ mid_size))
      (LeavesOnly-keeps (state done) (state new) (Stand P) last
      (LeavesOnly-commit (state mid) (state done) (visible mid) (Stand P) commits
      (LeavesOnly-keeps (state old) (state mid) (Stand P) first (leaves_seen old P was size (seen was) stays before))
      (λ is_open. stand_for mid is_open mid_size P (after is_open))))
      left clean may

  -- a file that is ready and has written nothing leaves what it shows
  pub ready_leaves : (it : Pager D g) (P : List ℕ → Type 0) → IsTrue (state it).is_ready → (state it).page_size ≡ 4096 → (IsTrue (state it).is_open → visible it ≡ (state it).committed) → SeenMayStay g → (IsTrue (state it).is_open → P (bytes_seen it)) → Leaves g (files it) P
  ready_leaves it P ready size seen stays holds left clean may =
      let is_open = open_from (state it) ready clean in
      leaves it P size (leaves_seen it P is_open size (seen is_open) stays (holds is_open)) left clean may

  -- with no frame in the log, the file alone stands for what is committed
  pub alone : (it : Pager D g) → IsTrue (state it).is_open → log_frames it ≡ 0 → (left : Image) → (state it).may_leave left → Recovers (state it).page_size (record { log = []; db = left.db }) (state it).committed
  alone it is_open empty left may =
      let below = it.log in
      let ready = ready_of (log.state below) is_open in
      let none : length (log.durable below).numbers ≡ 0 = durable_frames below ready ∙ omega (arith, below.marked ready, empty) in
      let kept = (sound_of below is_open).db_safe left.db may.1.1 in
      record {
        frames = 0;
        replays = inl (inl (omega arith), refl);
        present = kept.present;
        gives = ap (λ (db : List ℕ). pages_after below.page_size [] db 0) (kept.all none) ∙ pages_without_frames below.page_size [] (g.seen below.log) (g.seen below.db)
            ∙ ap (pages_after below.page_size (g.seen below.log) (g.seen below.db)) (sym none);
      }

-- what holds of each outcome of some files holds of those of the same files
pub closed : {D : Type 0} (g : Ghosts D) (log db : D) (old : D × D) (P : List ℕ → Type 0) → (log, db) ≡ old → Leaves g old P → Leaves g (log, db) P
closed {D} g log db old P same all = subst (λ (pair : D × D). Leaves g pair P) (sym same) all
