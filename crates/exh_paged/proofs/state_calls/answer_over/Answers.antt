use Rattle.std.proofs.Common.{◌≡◌, ℕ, Bool, List, [], refl, sym, ◌∙◌}
use Rattle.sqlite_wal.specs.Files.{seen_image}
use Rattle.sqlite_wal.specs.Reads.{AreClean}
use Rattle.exh_calls.specs.declared.call.Call.{Call}
use Rattle.exh_cells.specs.PlacedFile.{PlacedFile}
use Rattle.exh_change.specs.Batch.{map_then_all}
use Rattle.exh_commit.specs.FilePages.{LeavesAlone, StandsFor}
use Rattle.exh_paged.specs.declared.expected.Expected.TheVariants.{Stamp}
use Rattle.exh_paged.specs.declared.answered.Answered.{Answered}
use Rattle.exh_paged.specs.CallChange.{IsAnswered, OfLegal}
use Rattle.exh_paged.specs.FilesFault.{IsCause, IsCauseIn}
use Rattle.exh_paged.specs.CallsChange.{AreReplied, IsAnswerOfAll}
use Rattle.exh_paged.proofs.CallLemmas.{if_err_more, if_ok_more}
use Rattle.exh_paged.proofs.FilesLemmas.{alone_when}
use Rattle.exh_paged.proofs.state_calls.answer_over.Goals as goal

replied : (truthful : Bool) (file : PlacedFile) (calls : List Call) (stamp : ℕ) (answered : Answered) (old new : List ℕ)
    → IsAnswered truthful (calls ≡ []) file (map_then_all file calls) (IsAnswerOfAll file calls) stamp answered old new → AreReplied truthful file calls stamp answered old new
replied truthful file calls stamp answered old new it = record {
  called = it.called;
  replies_are = λ truth. (it.answer_is truth).is.replies_are;
  state = λ truth.
      let has = it.answer_is truth in
      record { file = has.state.file; tables = has.state.tables; legal = has.state.legal; is = has.state.is; stamp_is = has.state.stamp_is ∙ sym has.is.stamp_is };
}

pub returns-clause-ok : goal.returns-clause-ok
returns-clause-ok g c =
    let T = g.D.Truthful.is_truthful in
    let calls = c.args.calls.now in
    let stamp = c.args.stamp in
    let seen = seen_image g.D.Disk c.args.files.log c.args.files.db in
    let back : _ × _ = (c.answer_files.result.1.log, c.answer_files.result.1.db) in
    if_ok_more c.answer_files.result.0
    (λ answered. (old : List ℕ) → StandsFor seen old → OfLegal old (λ file. LeavesAlone g.D.Disk back (IsAnswered T (calls ≡ []) file (map_then_all file calls) (IsAnswerOfAll file calls) stamp answered old)))
    (λ answered. (old : List ℕ) → StandsFor seen old → OfLegal old (λ file. LeavesAlone g.D.Disk back (AreReplied T file calls stamp answered old)))
    (λ answered alone old found file tables bytes_are legal.
    alone_when g.D.Disk back back (IsAnswered T (calls ≡ []) file (map_then_all file calls) (IsAnswerOfAll file calls) stamp answered old) (AreReplied T file calls stamp answered old) refl
    (λ clean new. replied T file calls stamp answered old new) (alone old found file tables bytes_are legal))
    c.answer_files.ensures.ok

pub returns-clause-refused : goal.returns-clause-refused
returns-clause-refused g c =
    let image = seen_image g.D.Disk c.args.files.log c.args.files.db in
    let back : _ × _ = (c.answer_files.result.1.log, c.answer_files.result.1.db) in
    if_err_more c.answer_files.result.0
    (λ fault. AreClean g.D.Disk back.0 back.1 → (old : List ℕ) → StandsFor image old → IsCauseIn (Stamp c.args.before) image old fault)
    (λ fault. AreClean g.D.Disk back.0 back.1 → (old : List ℕ) → StandsFor image old → IsCause (Stamp c.args.before) old fault)
    (λ fault refused clean old found. (refused clean old found).cause)
    c.answer_files.ensures.refused
