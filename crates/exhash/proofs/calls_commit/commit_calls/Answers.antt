use Rattle.std.proofs.Common.{ℕ, List, Result, IfOk, OnOk, subst}
use Rattle.std.proofs.lemmas.Bool.{and_from}
use Rattle.sqlite_wal.specs.Files.{seen_image}
use Rattle.sqlite_wal.specs.Reads.{AreClean}
use Rattle.exh_map.specs.FilePages.{LeavesAlone, StandsFor}
use Rattle.exhash.specs.OwnLog.{HasStamp}
use Rattle.exhash.specs.CallChange.{OfLegal}
use Rattle.exhash.specs.CallsChange.{AreReplied}
use Rattle.exh_map.specs.declared.Answered.{Answered}
use Rattle.exh_map.specs.declared.FilesFault.{FilesFault}
use Rattle.exhash.proofs.CallsLemmas.{calls_leave, calls_leave_alone}
use Rattle.exhash.proofs.FaultLemmas.{other_for, unchanged_for}
use Rattle.exhash.proofs.calls_commit.commit_calls.Goals as goal

pub returns-in-Ok-clause-crash : goal.returns-in-Ok-clause-crash
returns-in-Ok-clause-crash g c settings was own old stands of =
    let back = c.answer_over-answered.result.1 in
    calls_leave settings was own old of c.args.calls.now g.D.Truthful.is_truthful c.args.stamp g.D.Disk (back.log, back.db) (c.answer_over-answered.ensures.crash old stands)

pub returns-in-Err-clause-crash : goal.returns-in-Err-clause-crash
returns-in-Err-clause-crash g c settings was own old stands of =
    let back = c.answer_over-answered.result.1 in
    calls_leave settings was own old of c.args.calls.now g.D.Truthful.is_truthful c.args.stamp g.D.Disk (back.log, back.db) (c.answer_over-answered.ensures.crash old stands)

pub returns-in-Ok-clause-ok : goal.returns-in-Ok-clause-ok
returns-in-Ok-clause-ok g c settings was own old stands of =
    let back = c.answer_over-answered.result.1 in
    let all : (bytes : List ℕ) → StandsFor (seen_image g.D.Disk c.args.files.log c.args.files.db) bytes → OfLegal bytes (λ file. LeavesAlone g.D.Disk (back.log, back.db) (AreReplied g.D.Truthful.is_truthful file c.args.calls.now c.args.stamp c.in-Ok.answered bytes)) =
    subst (λ (said : Result Answered FilesFault). IfOk said (λ answered. (bytes : List ℕ) → StandsFor (seen_image g.D.Disk c.args.files.log c.args.files.db) bytes → OfLegal bytes (λ file. LeavesAlone g.D.Disk (back.log, back.db) (AreReplied g.D.Truthful.is_truthful file c.args.calls.now c.args.stamp answered bytes))))
    c.in-Ok.is c.answer_over-answered.ensures.ok in
    calls_leave_alone settings was own old of c.args.calls.now g.D.Truthful.is_truthful c.args.stamp g.D.Disk (back.log, back.db) c.in-Ok.answered (all old stands)

pub returns-in-Ok-clause-opened : goal.returns-in-Ok-clause-opened
returns-in-Ok-clause-opened g c =
    let back = c.answer_over-answered.result.1 in
    subst (λ (said : Result Answered FilesFault). OnOk said (AreClean g.D.Disk back.log back.db → (old : List ℕ) → StandsFor (seen_image g.D.Disk c.args.files.log c.args.files.db) old → HasStamp c.args.before old))
    c.in-Ok.is c.answer_over-answered.ensures.opened

-- ---- why it isn't answered

pub returns-in-Err-clause-changed : goal.returns-in-Err-clause-changed
returns-in-Err-clause-changed g c changed clean old stands =
    let cause = rw c.in-Err.is at c.answer_over-answered.ensures.refused in
    other_for c.args.before old c.in-Err.fault c.from.result c.from-in-Err.result c.from.ensures c.from-in-Err.ensures.2 changed (cause clean old stands)

pub returns-in-Err-clause-unchanged : goal.returns-in-Err-clause-unchanged
returns-in-Err-clause-unchanged g c sure old stands =
    let left = rw c.in-Err.is at c.answer_over-answered.ensures.unchanged in
    left (unchanged_for c.in-Err.fault c.from.result c.from-in-Err.result c.from.ensures c.from-in-Err.ensures.2 sure) old stands

pub returns-in-Err-clause-legal : goal.returns-in-Err-clause-legal
returns-in-Err-clause-legal g c content truth settings was own old stands of =
    let back = c.answer_over-answered.result.1 in
    let clean = and_from _ _ (g.met.D.Truthful.tells_truth truth back.log) (g.met.D.Truthful.tells_truth truth back.db) in
    let cause = rw c.in-Err.is at c.answer_over-answered.ensures.refused in
    let disk = rw c.in-Err.is at c.answer_over-answered.ensures.legal in
    c.legal_files_are_whole.ensures c.args.before of.file of.tables old of.legal c.in-Err.fault c.from.result c.from.ensures
    (cause clean old stands) (disk truth old stands of.file of.tables of.are_bytes of.legal) (c.from-in-Err.ensures.2.whole content)
