-- What a changer made of a file, and what a crash leaves of it.
use Rattle.std.proofs.Common.{◌≡◌, ℕ, ◌/◌, Bool, List, length, Option, IfSome, Result, Ok, Err, OnOk, IfOk, IfErr, IsTrue, refl, sym, ◌∙◌, ap₂, subst, inl, inr}
use Rattle.std.proofs.lemmas.Bool.{and_from, cond-true}
use Rattle.sqlite_disk.specs.declared.Disk.{Ghosts}
use Rattle.sqlite_disk.specs.Disk.{Only}
use Rattle.sqlite_wal.specs.Files.{seen_image}
use Rattle.sqlite_wal.specs.Reads.{AreClean}
use Rattle.sqlite_wal.specs.Recovery.{Image}
use Rattle.exh_edits.specs.declared.block_edit.BlockEdit.{BlockEdit}
use Rattle.exh_edits.specs.BlockEdits.{with_edits}
use Rattle.exh_edits.specs.declared.DirectFault.{DirectFault}
use Rattle.exh_commit.specs.declared.commit_fault.CommitFault.{CommitFault}
use Rattle.exh_commit.specs.declared.commit_fault.CommitFault.TheVariants.{Place, NotSaved, MaybeSaved}
use Rattle.exh_commit.specs.declared.change_fault.ChangeFault.{ChangeFault}
use Rattle.exh_commit.specs.declared.change_fault.ChangeFault.TheVariants.{Open, Refused, Commit, LeftInLog}
use Rattle.exh_commit.specs.declared.paged_file.PagedFile.{PagedFile}
use Rattle.exh_commit.specs.Change.{IsCause, IsChanged, IsSaved, IsUnchanged}
use Rattle.exh_commit.specs.CommitFault as commits
use Rattle.exh_commit.specs.FilePages.{Leaves, LeavesAlone, LeavesAsFound, StandsFor, pages_of}
use Rattle.exh_commit.specs.PagedFile.{IsReady, bytes_in, known_in, state_in}

pub leaves_more : {D : Type 0} (g : Ghosts D) (files : D × D) (P Q : List ℕ → Type 0) → (AreClean g files.0 files.1 → (bytes : List ℕ) → P bytes → Q bytes) → Leaves g files P → Leaves g files Q
leaves_more g files P Q more all left clean may =
    let (bytes, stands, holds) = all left clean may in
    (bytes, stands, more clean bytes holds)

pub alone_more : {D : Type 0} (g : Ghosts D) (files : D × D) (P Q : List ℕ → Type 0) → (AreClean g files.0 files.1 → (bytes : List ℕ) → P bytes → Q bytes) → LeavesAlone g files P → LeavesAlone g files Q
alone_more g files P Q more all left clean may =
    let (bytes, stands, holds) = all left clean may in
    (bytes, stands, more clean bytes holds)

-- files that couldn't be opened leave what they stood for
pub found_leaves : {D : Type 0} (g : Ghosts D) (old new : D × D) (was : List ℕ) → Only (g.seen old.0) (g.may_leave old.0) → Only (g.seen old.1) (g.may_leave old.1) → StandsFor (seen_image g old.0 old.1) was → LeavesAsFound g old new → Leaves g new (λ bytes. bytes ≡ was)
found_leaves {D} g old new was log_synced db_synced found kept left clean may =
    elim (kept left clean may) [
      | inl before ↦
          let of_two : List ℕ → List ℕ → Image = λ log db. record { log = log; db = db } in
          let is : left ≡ seen_image g old.0 old.1 = ap₂ of_two (log_synced left.log before.0) (db_synced left.db before.1) in
          (was, subst (λ (image : Image). StandsFor image was) (sym is) found, refl)
      | inr as_found ↦ (was, record { count = found.count; whole = found.whole; recovers = as_found (pages_of was) found.recovers }, refl)
    ]

pub if_ok_more : {T E : Type 0} (result : Result T E) (P Q : T → Type 0) → ((x : T) → P x → Q x) → IfOk result P → IfOk result Q
if_ok_more (Ok x) P Q more holds = more x holds
if_ok_more (Err error) P Q more holds = tt

pub on_ok_more : {T E : Type 0} (result : Result T E) (P Q : Type 0) → (P → Q) → OnOk result P → OnOk result Q
on_ok_more (Ok x) P Q more holds = more holds
on_ok_more (Err error) P Q more holds = tt

-- a fault tells one of both
pub not_both : (fault : ChangeFault) → IsUnchanged fault → IsSaved fault → ⊥
not_both (Open error) unchanged saved = saved
not_both (Refused cause) unchanged saved = saved
not_both (Commit cause) unchanged saved = saved
not_both (LeftInLog error) unchanged saved = unchanged

pub if_err_more : {T E : Type 0} (result : Result T E) (P Q : E → Type 0) → ((x : E) → P x → Q x) → IfErr result P → IfErr result Q
if_err_more (Ok x) P Q more holds = tt
if_err_more (Err error) P Q more holds = more error holds

-- edits that a changer allows stray where the commit of them says
pub commit_cause : {A : Type 0} (Allows : List ℕ → A → List BlockEdit → Type 0) (Refuses : List ℕ → DirectFault → Type 0) (bytes : List ℕ) (answer : A) (edits passed : List BlockEdit) (count : ℕ) (fault : CommitFault) → Allows bytes answer edits → passed ≡ edits
    → count ≡ length bytes / 4096 → commits.IsCause count passed fault → IsCause Allows Refuses bytes (Commit fault)
commit_cause Allows Refuses bytes answer edits passed count (Place place) allowed same counted astray = record {
  answer = answer;
  edits = edits;
  allowed = allowed;
  astray = subst (λ (n : ℕ). commits.IsFirstAstray n edits place) counted (subst (λ (all : List BlockEdit). commits.IsFirstAstray count all place) same astray);
}
commit_cause Allows Refuses bytes answer edits passed count (NotSaved error) allowed same counted astray = tt
commit_cause Allows Refuses bytes answer edits passed count (MaybeSaved error) allowed same counted astray = tt

module _ {D : Type 0} {g : Ghosts D} where
  pub known_gives : (truthful : Bool) (it : PagedFile D g) (P : List ℕ → Type 0) → IsTrue truthful → IsReady it → IfSome (known_in truthful it) P → P (bytes_in it)
  known_gives truthful it P truth ready holds = subst (λ (known : Option (List ℕ)). IfSome known P) (cond-true _ _ _ (and_from truthful (state_in it).is_ready truth ready)) holds

  pub changed : {A : Type 0} (truthful : Bool) (Allows : List ℕ → A → List BlockEdit → Type 0) (old mid : PagedFile D g) (answer : A) (edits passed : List BlockEdit) (new : List ℕ) → IsReady old → IfSome (known_in truthful old) (λ bytes. Allows bytes answer edits)
      → passed ≡ edits → bytes_in mid ≡ bytes_in old → new ≡ with_edits passed (bytes_in mid) → IsChanged truthful Allows answer (bytes_in old) new
  changed {A} truthful Allows old mid answer edits passed new ready allowed same_edits same_bytes is = record {
    edits = edits;
    allowed = λ truth. known_gives truthful old (λ bytes. Allows bytes answer edits) truth ready allowed;
    is = is ∙ ap₂ (λ (all : List BlockEdit) (bytes : List ℕ). with_edits all bytes) same_edits same_bytes;
  }
