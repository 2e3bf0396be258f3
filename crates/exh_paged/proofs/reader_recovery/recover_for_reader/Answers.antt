use Rattle.std.proofs.Common.{◌↔◌, ◌∙◌, ℕ, List, IfErr, IsTrue, sym, subst}
use Rattle.std.proofs.lemmas.Bool.{false≢true}
use Rattle.std.proofs.lemmas.Result.{IfOk-weaker}
use Rattle.sqlite_wal.specs.Files.{seen_image}
use Rattle.sqlite_wal.specs.Reads.{AreClean}
use Rattle.sqlite_wal.specs.Recovery.{Image}
use Rattle.exh_commit.specs.FilePages.{StandsFor}
use Rattle.exh_paged.specs.FilesFault.{IsCauseIn}
use Rattle.exh_paged.specs.OwnLog.{MayBeCopied}
use Rattle.exh_paged.specs.declared.expected.Expected.TheVariants.{Own}
use Rattle.exh_paged.proofs.FilesLemmas.{clean_as, same_image}
use Rattle.exh_paged.proofs.reader_recovery.recover_for_reader.Goals as goal

pub returns-in-Ok-true-clause-may : goal.returns-in-Ok-true-clause-may
returns-in-Ok-true-clause-may g c =
    let files = c.args.files in
    let end = c.copied.result.1 in
    let read = c.may_be_copied.new.files in
    IfOk-weaker c.copied.result.0
    (λ copied. IsTrue copied × (AreClean g.D.Disk end.log end.db → AreClean g.D.Disk read.log read.db))
    (λ copied. AreClean g.D.Disk end.log end.db → (IsTrue copied ↔ MayBeCopied (seen_image g.D.Disk files.log files.db)))
    (λ copied done clean. (λ yes. (c.in-Ok-true.ensures.may (done.1 clean)).0 c.in-Ok-true.field-0-test, λ it. done.0))
    c.copied.ensures.done

pub returns-in-Ok-true-clause-refused : goal.returns-in-Ok-true-clause-refused
returns-in-Ok-true-clause-refused g c =
    let files = c.args.files in
    let end = c.copied.result.1 in
    let read = c.may_be_copied.new.files in
    let same = same_image g.D.Disk (files.log, files.db) (read.log, read.db) c.may_be_copied.ensures.same_log c.may_be_copied.ensures.same_db in
    subst (λ (image : Image). IfErr c.copied.result.0 (λ fault. AreClean g.D.Disk end.log end.db → (old : List ℕ) → StandsFor image old → IsCauseIn Own image old fault)) same c.copied.ensures.refused

-- ---- nothing is copied

pub returns-in-Ok-false-clause-may : goal.returns-in-Ok-false-clause-may
returns-in-Ok-false-clause-may g c clean =
    let read = c.may_be_copied.new.files in
    let end = c.into_files.result in
    let may = c.in-Ok-false.ensures.may (clean_as g.D.Disk (read.log, read.db) (end.log, end.db) c.into_files.ensures clean) in
    (λ no. absurd (false≢true no), λ holds. absurd (false≢true (sym c.in-Ok-false.field-0-test ∙ may.1 holds)))
