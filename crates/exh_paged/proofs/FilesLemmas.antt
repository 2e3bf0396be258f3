-- What a crash leaves of files that were opened, asked and given back.
use Rattle.std.proofs.Common.{◌≡◌, ◌∙◌, ℕ, List, refl, sym, ap₂, subst, inl, inr}
use Rattle.std.proofs.lemmas.Bool.{and_from, and_parts}
use Rattle.sqlite_disk.specs.declared.Disk.{Ghosts}
use Rattle.sqlite_disk.specs.Disk.{Only}
use Rattle.sqlite_wal.specs.Files.{seen_image}
use Rattle.sqlite_wal.specs.Reads.{AreClean, OnlyReads}
use Rattle.sqlite_wal.specs.Recovery.{Image}
use Rattle.sqlite_wal.specs.declared.error.Error.{Error}
use Rattle.exh_commit.specs.declared.change_fault.ChangeFault.{ChangeFault}
use Rattle.exh_commit.specs.declared.change_fault.ChangeFault.TheVariants.{Open, Refused, Commit, LeftInLog}
use Rattle.exh_commit.specs.FilePages.{Leaves, LeavesAlone, LeavesAsFound, StandsFor, pages_of}
use Rattle.exh_paged.specs.declared.files_fault.FilesFault.{FilesFault}
use Rattle.exh_paged.specs.declared.files_fault.FilesFault.TheVariants.{OthersLog, NotAsOpened, Header, Read, Uncopied, Change}
use Rattle.exh_paged.specs.FilesFault.{ChangeFails, IsEarly}

-- of a fault that came before the change nothing is said but of an opening
pub early_fails : (Holds : ChangeFault → Type 0) → ((error : Error) → Holds (Open error)) → (fault : FilesFault) → IsEarly fault → ChangeFails Holds fault
early_fails Holds opened OthersLog early = tt
early_fails Holds opened NotAsOpened early = tt
early_fails Holds opened (Header fault) early = tt
early_fails Holds opened (Read error) early = tt
early_fails Holds opened (Uncopied error) early = tt
early_fails Holds opened (Change (Open error)) early = opened error
early_fails Holds opened (Change (Refused fault)) early = absurd early
early_fails Holds opened (Change (Commit fault)) early = absurd early
early_fails Holds opened (Change (LeftInLog error)) early = absurd early

-- of files that are given back it is left what is left of them, of the bytes that they stood for
pub leaves_as : {D : Type 0} (g : Ghosts D) (files back : D × D) (P : List ℕ → List ℕ → Type 0) (mid old : List ℕ) → back ≡ files → (AreClean g files.0 files.1 → mid ≡ old) → Leaves g files (P mid) → Leaves g back (P old)
leaves_as {D} g files back P mid old same is all =
    subst (λ (pair : D × D). Leaves g pair (P old)) (sym same) (λ left clean may.
    let (bytes, stands, holds) = all left clean may in
    (bytes, stands, subst (λ (was : List ℕ). P was bytes) (is clean) holds))

-- the same of the file alone
pub alone_as : {D : Type 0} (g : Ghosts D) (files back : D × D) (P : List ℕ → List ℕ → Type 0) (mid old : List ℕ) → back ≡ files → (AreClean g files.0 files.1 → mid ≡ old) → LeavesAlone g files (P mid) → LeavesAlone g back (P old)
alone_as {D} g files back P mid old same is all =
    subst (λ (pair : D × D). LeavesAlone g pair (P old)) (sym same) (λ left clean may.
    let (bytes, stands, holds) = all left clean may in
    (bytes, stands, subst (λ (was : List ℕ). P was bytes) (is clean) holds))

pub leaves_more : {D : Type 0} (g : Ghosts D) (files : D × D) (P Q : List ℕ → Type 0) → ((bytes : List ℕ) → P bytes → Q bytes) → Leaves g files P → Leaves g files Q
leaves_more g files P Q more all left clean may =
    let (bytes, stands, holds) = all left clean may in
    (bytes, stands, more bytes holds)

pub leaves_when : {D : Type 0} (g : Ghosts D) (files back : D × D) (P Q : List ℕ → Type 0) → back ≡ files → (AreClean g files.0 files.1 → (bytes : List ℕ) → P bytes → Q bytes) → Leaves g files P → Leaves g back Q
leaves_when {D} g files back P Q same more all =
    subst (λ (pair : D × D). Leaves g pair Q) (sym same) (λ left clean may.
    let (bytes, stands, holds) = all left clean may in
    (bytes, stands, more clean bytes holds))

pub alone_when : {D : Type 0} (g : Ghosts D) (files back : D × D) (P Q : List ℕ → Type 0) → back ≡ files → (AreClean g files.0 files.1 → (bytes : List ℕ) → P bytes → Q bytes) → LeavesAlone g files P → LeavesAlone g back Q
alone_when {D} g files back P Q same more all =
    subst (λ (pair : D × D). LeavesAlone g pair Q) (sym same) (λ left clean may.
    let (bytes, stands, holds) = all left clean may in
    (bytes, stands, more clean bytes holds))

pub clean_as : {D : Type 0} (g : Ghosts D) (files back : D × D) → back ≡ files → AreClean g back.0 back.1 → AreClean g files.0 files.1
clean_as {D} g files back same clean = subst (λ (pair : D × D). AreClean g pair.0 pair.1) same clean

-- files that couldn't be opened leave what they stood for
pub found_leaves : {D : Type 0} (g : Ghosts D) (old new : D × D) (was : List ℕ) → Only (g.seen old.0) (g.may_leave old.0) → Only (g.seen old.1) (g.may_leave old.1) → StandsFor (seen_image g old.0 old.1) was → LeavesAsFound g old new → Leaves g new (λ bytes. bytes ≡ was)
found_leaves {D} g old new was log_synced db_synced found kept left clean may =
    elim (kept left clean may) [
      | inl before ↦
          let of_two : List ℕ → List ℕ → Image = λ log db. record { log = log; db = db } in
          let is : left ≡ seen_image g old.0 old.1 = ap₂ of_two (log_synced left.log before.0) (db_synced left.db before.1) in
          (was, subst (λ (image : Image). StandsFor image was) (sym is) found, refl)
      | inr as_found ↦ (was, record { count = found.count; whole = found.whole; recovers = as_found (pages_of was) found.recovers }, refl)
    ]

-- what is left may be shown of files that are clean
pub leaves_if : {D : Type 0} (g : Ghosts D) (files : D × D) (P : List ℕ → Type 0) → (AreClean g files.0 files.1 → Leaves g files P) → Leaves g files P
leaves_if g files P all left clean may = all clean left clean may

pub alone_if : {D : Type 0} (g : Ghosts D) (files : D × D) (P : List ℕ → Type 0) → (AreClean g files.0 files.1 → LeavesAlone g files P) → LeavesAlone g files P
alone_if g files P all left clean may = all clean left clean may

-- ---- files that were only read

pub only_read : {D : Type 0} (g : Ghosts D) (old new : D) → OnlyReads g old new → Only (g.seen old) (g.may_leave old) → Only (g.seen new) (g.may_leave new)
only_read g old new reads synced left may = synced left (reads.crash left may) ∙ sym reads.seen

pub read_leaves : {D : Type 0} (g : Ghosts D) (old new : D × D) → OnlyReads g old.0 new.0 → OnlyReads g old.1 new.1 → LeavesAsFound g old new
read_leaves g old new log db left clean may = inl (log.crash left.log may.0, db.crash left.db may.1)

pub same_image : {D : Type 0} (g : Ghosts D) (old new : D × D) → OnlyReads g old.0 new.0 → OnlyReads g old.1 new.1 → seen_image g new.0 new.1 ≡ seen_image g old.0 old.1
same_image g old new log db =
    let of_two : List ℕ → List ℕ → Image = λ log db. record { log = log; db = db } in
    ap₂ of_two log.seen db.seen

pub read_clean : {D : Type 0} (g : Ghosts D) (old new : D × D) → OnlyReads g old.0 new.0 → OnlyReads g old.1 new.1 → AreClean g new.0 new.1 → AreClean g old.0 old.1
read_clean g old new log db clean =
    let parts = and_parts (g.is_clean new.0) (g.is_clean new.1) clean in
    and_from (g.is_clean old.0) (g.is_clean old.1) (log.clean parts.0) (db.clean parts.1)
