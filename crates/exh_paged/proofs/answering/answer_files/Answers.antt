use Rattle.std.proofs.Common.{ℕ, List, IsTrue, refl}
use Rattle.sqlite_wal.specs.Files.{seen_image}
use Rattle.exh_commit.specs.Change.{IsCause, IsChanged, IsOldOrChanged, MayChange}
use Rattle.exh_commit.specs.FilePages.{Leaves, LeavesAlone, StandsFor}
use Rattle.exh_paged.specs.CallChange.{IsAnswered, IsCalled, IsOldOrCalled, MayMake, MayRefuse, OfLegal}
use Rattle.exh_paged.specs.FilesFault.{ChangeFails, IsOfDisk, IsSaved}
use Rattle.exh_paged.proofs.CallLemmas.{answered, fails_of_disk, if_err_more, if_ok_more, may_called, old_or_called}
use Rattle.exh_paged.proofs.FilesLemmas.{alone_when, leaves_when}
use Rattle.exh_paged.proofs.answering.answer_files.Goals as goal

pub returns-clause-crash : goal.returns-clause-crash
returns-clause-crash g c old found file tables bytes_are legal =
    let T = g.D.Truthful.is_truthful in
    let O = g.O.Operation in
    let it = c.args.operation.now in
    let back : _ × _ = (c.change_files.result.1.log, c.change_files.result.1.db) in
    leaves_when g.D.Disk back back (IsOldOrChanged T (MayMake (O.is_idle it) (O.leaves it) (O.answers it) c.args.stamp) old) (IsOldOrCalled T (O.is_idle it) file (O.leaves it file) c.args.stamp old) refl
    (λ clean. old_or_called T (O.is_idle it) (O.leaves it) (O.answers it) c.args.stamp file tables old bytes_are legal) (c.change_files.ensures.crash old found)

pub returns-clause-ok : goal.returns-clause-ok
returns-clause-ok g c =
    let T = g.D.Truthful.is_truthful in
    let O = g.O.Operation in
    let it = c.args.operation.now in
    let Allows = MayMake (O.is_idle it) (O.leaves it) (O.answers it) c.args.stamp in
    let seen = seen_image g.D.Disk c.args.files.log c.args.files.db in
    let back : _ × _ = (c.change_files.result.1.log, c.change_files.result.1.db) in
    if_ok_more c.change_files.result.0
    (λ answer. (old : List ℕ) → StandsFor seen old → LeavesAlone g.D.Disk back (IsChanged T Allows answer old))
    (λ answer. (old : List ℕ) → StandsFor seen old → OfLegal old (λ file. LeavesAlone g.D.Disk back (IsAnswered T (O.is_idle it) file (O.leaves it file) (O.answers it file) c.args.stamp answer old)))
    (λ answer alone old found file tables bytes_are legal.
    alone_when g.D.Disk back back (IsChanged T Allows answer old) (IsAnswered T (O.is_idle it) file (O.leaves it file) (O.answers it file) c.args.stamp answer old) refl
    (λ clean. answered T (O.is_idle it) (O.leaves it) (O.answers it) c.args.stamp file tables old bytes_are legal answer) (alone old found))
    c.change_files.ensures.ok

pub returns-clause-saved : goal.returns-clause-saved
returns-clause-saved g c =
    let T = g.D.Truthful.is_truthful in
    let O = g.O.Operation in
    let it = c.args.operation.now in
    let Allows = MayMake (O.is_idle it) (O.leaves it) (O.answers it) c.args.stamp in
    let seen = seen_image g.D.Disk c.args.files.log c.args.files.db in
    let back : _ × _ = (c.change_files.result.1.log, c.change_files.result.1.db) in
    if_err_more c.change_files.result.0
    (λ fault. IsSaved fault → (old : List ℕ) → StandsFor seen old → Leaves g.D.Disk back (MayChange T Allows old))
    (λ fault. IsSaved fault → (old : List ℕ) → StandsFor seen old → OfLegal old (λ file. Leaves g.D.Disk back (IsCalled T (O.is_idle it) file (O.leaves it file) c.args.stamp old)))
    (λ fault leaves saved old found file tables bytes_are legal.
    leaves_when g.D.Disk back back (MayChange T Allows old) (IsCalled T (O.is_idle it) file (O.leaves it file) c.args.stamp old) refl
    (λ clean. may_called T (O.is_idle it) (O.leaves it) (O.answers it) c.args.stamp file tables old bytes_are legal) (leaves saved old found))
    c.change_files.ensures.saved

pub returns-clause-legal : goal.returns-clause-legal
returns-clause-legal g c =
    let T = g.D.Truthful.is_truthful in
    let O = g.O.Operation in
    let it = c.args.operation.now in
    let Allows = MayMake (O.is_idle it) (O.leaves it) (O.answers it) c.args.stamp in
    let seen = seen_image g.D.Disk c.args.files.log c.args.files.db in
    if_err_more c.change_files.result.0
    (λ fault. IsTrue T → (old : List ℕ) → StandsFor seen old → ChangeFails (IsCause Allows MayRefuse old) fault)
    (λ fault. IsTrue T → (old : List ℕ) → StandsFor seen old → OfLegal old (λ file. ChangeFails IsOfDisk fault))
    (λ fault cause truth old found file tables bytes_are legal. fails_of_disk T (O.is_idle it) (O.leaves it) (O.answers it) c.args.stamp file tables old bytes_are legal fault (cause truth old found))
    c.change_files.ensures.cause
