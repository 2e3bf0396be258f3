use Rattle.std.proofs.Common.{◌≡◌, ℕ, List, IsTrue, sym, subst, inl}
use Rattle.sqlite_wal.specs.Files.{seen_image}
use Rattle.exh_commit.specs.Change.{IsCause, IsChanged, IsOldOrChanged, IsSaved, IsUnchanged, MayChange}
use Rattle.exh_commit.specs.FilePages.{Leaves, LeavesAlone, StandsFor}
use Rattle.exh_commit.specs.PagedFile.{bytes_in, files_in}
use Rattle.exh_commit.proofs.ChangeLemmas.{alone_more, found_leaves, if_err_more, if_ok_more, leaves_more}
use Rattle.exh_commit.proofs.ImageLemmas.{stands_once}
use Rattle.exh_commit.proofs.KnownLemmas.{honest}
use Rattle.exh_commit.proofs.changing.change_file.Goals as goal

pub returns-in-Err-clause-crash : goal.returns-in-Err-clause-crash
returns-in-Err-clause-crash g c old found =
    let back = c.in-Err.files in
    leaves_more g.D.Disk (back.log, back.db) (λ bytes. bytes ≡ old) (IsOldOrChanged g.D.Truthful.is_truthful (g.C.Changer.allows c.args.changer.now) old) (λ clean bytes same. inl same)
    (found_leaves g.D.Disk (c.args.files.log, c.args.files.db) (back.log, back.db) old c.requires.log_synced c.requires.db_synced found c.in-Err.ensures.given_back)

pub returns-clause-crash : goal.returns-clause-crash
returns-clause-crash g c old found =
    let end = c.change-answer.result.1 in
    let P : List ℕ → List ℕ → Type 0 = λ was. IsOldOrChanged g.D.Truthful.is_truthful (g.C.Changer.allows c.args.changer.now) was in
    subst (λ (pair : _ × _). Leaves g.D.Disk pair (P old)) (sym c.close.ensures)
    (leaves_more g.D.Disk (files_in end) (P (bytes_in c.in-Ok.file)) (P old)
    (λ clean bytes. subst (λ was. P was bytes) (stands_once (seen_image g.D.Disk c.args.files.log c.args.files.db) (bytes_in c.in-Ok.file) old (c.in-Ok.ensures.found (c.change-answer.ensures.honest clean)) found))
    c.change-answer.ensures.crash)

pub returns-clause-ok : goal.returns-clause-ok
returns-clause-ok g c =
    let end = c.change-answer.result.1 in
    let P : _ → List ℕ → List ℕ → Type 0 = λ answer was. IsChanged g.D.Truthful.is_truthful (g.C.Changer.allows c.args.changer.now) answer was in
    if_ok_more c.change-answer.result.0 (λ answer. LeavesAlone g.D.Disk (files_in end) (P answer (bytes_in c.in-Ok.file)))
    (λ answer. (old : List ℕ) → StandsFor (seen_image g.D.Disk c.args.files.log c.args.files.db) old → LeavesAlone g.D.Disk (c.close.result.log, c.close.result.db) (P answer old))
    (λ answer alone old found.
    subst (λ (pair : _ × _). LeavesAlone g.D.Disk pair (P answer old)) (sym c.close.ensures)
    (alone_more g.D.Disk (files_in end) (P answer (bytes_in c.in-Ok.file)) (P answer old)
    (λ clean bytes. subst (λ was. P answer was bytes) (stands_once (seen_image g.D.Disk c.args.files.log c.args.files.db) (bytes_in c.in-Ok.file) old (c.in-Ok.ensures.found (c.change-answer.ensures.honest clean)) found))
    alone))
    c.change-answer.ensures.alone

pub returns-clause-unchanged : goal.returns-clause-unchanged
returns-clause-unchanged g c =
    let end = c.change-answer.result.1 in
    let P : List ℕ → List ℕ → Type 0 = λ was bytes. bytes ≡ was in
    if_err_more c.change-answer.result.0 (λ fault. IsUnchanged fault → Leaves g.D.Disk (files_in end) (P (bytes_in c.in-Ok.file)))
    (λ fault. IsUnchanged fault → (old : List ℕ) → StandsFor (seen_image g.D.Disk c.args.files.log c.args.files.db) old → Leaves g.D.Disk (c.close.result.log, c.close.result.db) (P old))
    (λ fault leaves unchanged old found.
    subst (λ (pair : _ × _). Leaves g.D.Disk pair (P old)) (sym c.close.ensures)
    (leaves_more g.D.Disk (files_in end) (P (bytes_in c.in-Ok.file)) (P old)
    (λ clean bytes. subst (λ was. P was bytes) (stands_once (seen_image g.D.Disk c.args.files.log c.args.files.db) (bytes_in c.in-Ok.file) old (c.in-Ok.ensures.found (c.change-answer.ensures.honest clean)) found))
    (leaves unchanged)))
    c.change-answer.ensures.unchanged

pub returns-clause-saved : goal.returns-clause-saved
returns-clause-saved g c =
    let end = c.change-answer.result.1 in
    let P : List ℕ → List ℕ → Type 0 = λ was. MayChange g.D.Truthful.is_truthful (g.C.Changer.allows c.args.changer.now) was in
    if_err_more c.change-answer.result.0 (λ fault. IsSaved fault → Leaves g.D.Disk (files_in end) (P (bytes_in c.in-Ok.file)))
    (λ fault. IsSaved fault → (old : List ℕ) → StandsFor (seen_image g.D.Disk c.args.files.log c.args.files.db) old → Leaves g.D.Disk (c.close.result.log, c.close.result.db) (P old))
    (λ fault leaves saved old found.
    subst (λ (pair : _ × _). Leaves g.D.Disk pair (P old)) (sym c.close.ensures)
    (leaves_more g.D.Disk (files_in end) (P (bytes_in c.in-Ok.file)) (P old)
    (λ clean bytes. subst (λ was. P was bytes) (stands_once (seen_image g.D.Disk c.args.files.log c.args.files.db) (bytes_in c.in-Ok.file) old (c.in-Ok.ensures.found (c.change-answer.ensures.honest clean)) found))
    (leaves saved)))
    c.change-answer.ensures.saved

pub returns-clause-cause : goal.returns-clause-cause
returns-clause-cause g c =
    let it = c.in-Ok.file in
    let T = g.D.Truthful.is_truthful in
    let P : List ℕ → _ → Type 0 = IsCause (g.C.Changer.allows c.args.changer.now) (g.C.Changer.refuses c.args.changer.now) in
    if_err_more c.change-answer.result.0 (λ fault. IsTrue T → P (bytes_in it) fault)
    (λ fault. IsTrue T → (old : List ℕ) → StandsFor (seen_image g.D.Disk c.args.files.log c.args.files.db) old → P old fault)
    (λ fault cause truth old found. subst (λ (was : List ℕ). P was fault) (c.in-Ok.ensures.one (honest it (g.met.D.Truthful.tells_truth truth)) old found) (cause truth))
    c.change-answer.ensures.cause
