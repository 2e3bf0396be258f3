-- What an operation makes of a page file.
use Rattle.std.proofs.Common.{◌≡◌, ◌/◌, Bool, ℕ, List, ◌∷◌, ◌++◌, length, Option, None, Some, IfSome, Result, Ok, Err, OnOk, IfOk, IfErr, refl, sym, ◌∙◌, ap, subst, inl, inr, arith}
use Rattle.std.specs.Prelude.{MatchResult}
use Rattle.exh_table.specs.Table.{TableMap}
use Rattle.exh_page.specs.KeyMap.{KeyMap}
use Rattle.exh_format.specs.Reading.{AreBytes}
use Rattle.exh_cells.specs.LegalPlaced.{IsLegalPlacedFile}
use Rattle.exh_cells.specs.PlacedFile.{PlacedFile}
use Rattle.exh_commit.specs.declared.BlockEdit.{BlockEdit}
use Rattle.exh_commit.specs.BlockEdits.{with_edits}
use Rattle.exh_commit.specs.EditsInTurn.{AreInTurn}
use Rattle.exh_commit.specs.declared.change_fault.ChangeFault.{ChangeFault}
use Rattle.exh_commit.specs.declared.change_fault.ChangeFault.TheVariants.{Open, Refused, Commit, LeftInLog}
use Rattle.exh_commit.specs.declared.commit_fault.CommitFault.TheVariants.{Place, NotSaved, MaybeSaved}
use Rattle.exh_commit.specs.Change.{IsCause, IsChanged, IsOldOrChanged, MayChange}
use Rattle.exh_paged.specs.CallChange.{IsAnswered, IsCalled, IsMade, IsOldOrCalled, IsStampedOver, MayMake, MayRefuse, OfLegal}
use Rattle.exh_paged.specs.declared.files_fault.FilesFault.{FilesFault}
use Rattle.exh_paged.specs.declared.files_fault.FilesFault.TheVariants.{OthersLog, NotAsOpened, Header, Read, Uncopied, Change}
use Rattle.exh_paged.specs.FilesFault.{ChangeFails, IsOfDisk}
use Rattle.exh_paged.proofs.EditLemmas.{turn_at}

pub each_known : (known : Option (List ℕ)) (P : List ℕ → Type 0) → ((bytes : List ℕ) → known ≡ Some bytes → P bytes) → IfSome known P
each_known None P holds = tt
each_known (Some bytes) P holds = holds bytes refl

pub if_ok_more : {T E : Type 0} (result : Result T E) (P Q : T → Type 0) → ((x : T) → P x → Q x) → IfOk result P → IfOk result Q
if_ok_more (Ok x) P Q more holds = more x holds
if_ok_more (Err error) P Q more holds = tt

pub if_err_more : {T E : Type 0} (result : Result T E) (P Q : E → Type 0) → ((x : E) → P x → Q x) → IfErr result P → IfErr result Q
if_err_more (Ok x) P Q more holds = tt
if_err_more (Err error) P Q more holds = more error holds

pub on_ok_more : {T E : Type 0} (result : Result T E) (P Q : Type 0) → (P → Q) → OnOk result P → OnOk result Q
on_ok_more (Ok x) P Q more holds = more holds
on_ok_more (Err error) P Q more holds = tt

-- what is said of known bytes of a legal page file, of what is made of them and of why nothing is
pub made_known : {T E : Type 0} (result : Result T E) (known : Option (List ℕ)) (P : PlacedFile → List ℕ → T → Type 0) (Q : E → Type 0)
    → ((file : PlacedFile) (tables : List TableMap) (bytes : List ℕ) → known ≡ Some bytes → AreBytes bytes → IsLegalPlacedFile file tables bytes → MatchResult result (P file bytes) Q)
    → IfOk result (λ made. IfSome known (λ bytes. OfLegal bytes (λ file. P file bytes made)))
made_known (Ok made) known P Q holds = each_known known (λ bytes. OfLegal bytes (λ file. P file bytes made)) (λ bytes is file tables bytes_are legal. holds file tables bytes is bytes_are legal)
made_known (Err fault) known P Q holds = tt

pub refused_known : {T E : Type 0} (result : Result T E) (known : Option (List ℕ)) (P : PlacedFile → List ℕ → T → Type 0) (Q : E → Type 0)
    → ((file : PlacedFile) (tables : List TableMap) (bytes : List ℕ) → known ≡ Some bytes → AreBytes bytes → IsLegalPlacedFile file tables bytes → MatchResult result (P file bytes) Q)
    → IfErr result (λ fault. IfSome known (λ bytes. OfLegal bytes (λ file. Q fault)))
refused_known (Ok made) known P Q holds = tt
refused_known (Err fault) known P Q holds = each_known known (λ bytes. OfLegal bytes (λ file. Q fault)) (λ bytes is file tables bytes_are legal. holds file tables bytes is bytes_are legal)

-- what is left by the operation of a legal page file
module _ {A : Type 0} (truthful : Bool) (Idle : Type 0) (pairs_after : PlacedFile → KeyMap) (Answers : PlacedFile → ℕ → A → Type 0) (stamp : ℕ) (file : PlacedFile) (tables : List TableMap) (old : List ℕ) (bytes_are : AreBytes old) (legal : IsLegalPlacedFile file tables old) where
  abbrev Allows : List ℕ → A → List BlockEdit → Type 0
  Allows = MayMake Idle pairs_after Answers stamp

  stamped_over : (answer : A) (new : List ℕ) (edits : List BlockEdit) → new ≡ with_edits edits old → IsMade Idle file old (pairs_after file) (Answers file) stamp answer edits → IsStampedOver file stamp old new
  stamped_over answer new edits is made = elim made.stamped [
    | inl none ↦ inl (is ∙ ap (λ (edits : List BlockEdit). with_edits edits old) none)
    | inr both ↦ inr (record { file = made.new; tables = made.tables; legal = subst (IsLegalPlacedFile made.new made.tables) (sym is) made.legal; own_is = both.0; before_is = both.1 })
  ]

  pub called : (answer : A) (new : List ℕ) → IsChanged truthful Allows answer old new → IsCalled truthful Idle file (pairs_after file) stamp old new
  called answer new changed = record {
    edits = changed.edits;
    is = changed.is;
    within = λ truth. (changed.allowed truth file tables bytes_are legal).within;
    pairs = λ truth.
        let made = changed.allowed truth file tables bytes_are legal in
        record { file = made.new; tables = made.tables; legal = subst (IsLegalPlacedFile made.new made.tables) (sym changed.is) made.legal; is = made.pairs_are };
    stamped = λ truth. stamped_over answer new changed.edits changed.is (changed.allowed truth file tables bytes_are legal);
    idle = λ truth idle. changed.is ∙ ap (λ (edits : List BlockEdit). with_edits edits old) ((changed.allowed truth file tables bytes_are legal).idle idle);
  }

  pub answered : (answer : A) (new : List ℕ) → IsChanged truthful Allows answer old new → IsAnswered truthful Idle file (pairs_after file) (Answers file) stamp answer old new
  answered answer new changed = record {
    called = called answer new changed;
    answer_is = λ truth.
        let made = changed.allowed truth file tables bytes_are legal in
        record {
          stamp = made.new.header.stamp;
          state = record { file = made.new; tables = made.tables; legal = subst (IsLegalPlacedFile made.new made.tables) (sym changed.is) made.legal; is = made.pairs_are; stamp_is = refl };
          is = made.answer_is;
        };
  }

  pub may_called : (new : List ℕ) → MayChange truthful Allows old new → IsCalled truthful Idle file (pairs_after file) stamp old new
  may_called new made = called made.0 new made.1

  pub old_or_called : (new : List ℕ) → IsOldOrChanged truthful Allows old new → IsOldOrCalled truthful Idle file (pairs_after file) stamp old new
  old_or_called new = elim [
    | inl same ↦ inl same
    | inr made ↦ inr (may_called new made)
  ]

  -- and why it fails
  pub of_disk : (fault : ChangeFault) → IsCause Allows MayRefuse old fault → IsOfDisk fault
  of_disk (Open error) cause = tt
  of_disk (Refused fault) cause = cause file tables bytes_are legal
  of_disk (Commit (Place place)) cause =
      let made = cause.allowed file tables bytes_are legal in
      let astray = cause.astray in
      let turn : AreInTurn (length old / 4096) (astray.before ++ astray.edit ∷ astray.after) made.within.count = subst (λ (edits : List BlockEdit). AreInTurn (length old / 4096) edits made.within.count) astray.are made.within.turn in
      absurd (omega (arith, turn_at astray.before astray.edit astray.after (length old / 4096) astray.end made.within.count turn astray.turn, astray.place_is, astray.behind))
  of_disk (Commit (NotSaved error)) cause = tt
  of_disk (Commit (MaybeSaved error)) cause = tt
  of_disk (LeftInLog error) cause = tt

  pub fails_of_disk : (fault : FilesFault) → ChangeFails (IsCause Allows MayRefuse old) fault → ChangeFails IsOfDisk fault
  fails_of_disk OthersLog cause = tt
  fails_of_disk NotAsOpened cause = tt
  fails_of_disk (Header fault) cause = tt
  fails_of_disk (Read error) cause = tt
  fails_of_disk (Uncopied error) cause = tt
  fails_of_disk (Change fault) cause = of_disk fault cause
