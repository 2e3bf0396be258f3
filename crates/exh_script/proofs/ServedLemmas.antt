-- What is printed of a script, and of a reader that failed.
use Rattle.std.proofs.Common.{◌≡◌, ◌≢◌, ℕ, ◌<◌, ◌≤◌, List, [], ◌∷◌, length, Option, Some, None, IfSome, Bool, true, false, cond, leb, IsFalse, Result, Ok, Err, IfOk, IfErr, OnOk, OnErr, refl, sym, ap, ◌∙◌, subst, append-nil, inl, inr}
use Rattle.std.specs.Prelude.{◌⊎◌, IsErr, IsErrAnd, MatchBool}
use Rattle.std.proofs.lemmas.Bool.{le-leb, lt-leb}
use Rattle.std.specs.Io.KnownBytes.{Appends}
use Rattle.exh_stream.specs.Output.{AppendsBeginning, Takes, TakesBeginning, WriterUntouched, held, pending}
use Rattle.exh_stream.specs.OutputLemmas.{AppendsBeginning-from, AppendsBeginning-of_more, Takes-finished, Takes-cut, TakesBeginning-left}
use Rattle.exh_stream.specs.declared.output.Output.{Output}
use Rattle.exh_text.specs.TextLines.{lines_of}
use Rattle.exh_script.specs.Served.{PrintsText, PrintsWhole, PrintsUnread, PrintsFront, PrintsLines, fault_of, unread_text}
use Rattle.exh_line.specs.RefusalText.{refusal_text}
use Rattle.exh_script.specs.Text.{Beginning, text_of_lines, text_of}
use Rattle.exh_load.specs.Opened.{OpenedState}
use Rattle.exh_script.specs.Left.{left_of_lines, left_of}
use Rattle.exh_line.specs.declared.refusal.Refusal.TheVariants.{TooLong}
use Rattle.exh_script.specs.declared.response_fault.ResponseFault.{ResponseFault}
use Rattle.exh_script.specs.declared.response_fault.ResponseFault.TheVariants as line
use Rattle.exh_script.specs.declared.serve_fault.ServeFault.{ServeFault}
use Rattle.exh_script.specs.declared.serve_fault.ServeFault.TheVariants.{Write, Memory, Page}
use Rattle.exh_text.specs.declared.script.TheConstants.{SCRIPT_LIMIT}
use Rattle.exh_script.proofs.Responded.{front_begins}

-- what a run leaves
abbrev Left : Type 0
Left = Option OpenedState

-- ---- what holds of a run that was cut off, and not by its writer

abbrev pub IfCut : {T : Type 0} → Result T ServeFault → Type 0 → Type 0
IfCut result P = IfErr result (λ fault. fault ≢ Write → P)

pub IfCut-from : {T P : Type 0} (result : Result T ServeFault) → P → IfCut result P
IfCut-from (Ok value) holds = tt
IfCut-from (Err fault) holds = λ differs. holds

pub IfCut-map : {T P Q : Type 0} (result : Result T ServeFault) → (P → Q) → IfCut result P → IfCut result Q
IfCut-map (Ok value) more holds = tt
IfCut-map (Err fault) more holds = λ differs. more (holds differs)

-- of a fault that is handed on
pub IfCut-handed : {T P : Type 0} (result : Result T ServeFault) (fault : ServeFault) → IsErr result × IsErrAnd result (λ f. f ≡ fault) → (fault ≢ Write → P) → IfCut result P
IfCut-handed (Ok value) fault is holds = tt
IfCut-handed (Err other) fault is holds = λ differs. holds (λ same. differs (is.1 ∙ same))

-- a line without a response isn't the writer's fault
pub fault_differs : (fault : ResponseFault) → fault_of fault ≢ Write
fault_differs line.Memory = λ is. cc
fault_differs line.Page = λ is. cc

-- only a page out of reach is told as one
pub page_of : (fault : ResponseFault) → fault_of fault ≡ Page → fault ≡ line.Page
page_of line.Memory is = cc
page_of line.Page is = refl

-- what holds where it is told, of a fault that is handed on
pub page_handed : {T P : Type 0} (result : Result T ServeFault) (fault : ServeFault) → IsErr result × IsErrAnd result (λ f. f ≡ fault) → (fault ≡ Page → P) → IfErr result (λ f. f ≡ Page → P)
page_handed (Ok value) fault is holds = tt
page_handed (Err other) fault is holds = λ page. holds (sym is.1 ∙ page)

-- ---- the test of the length, where it is decided

text_at : (begin : Beginning) (script : List ℕ) (b : Bool) → leb (length script) SCRIPT_LIMIT ≡ b
    → text_of begin script ≡ cond b (text_of_lines begin (lines_of script)) (refusal_text TooLong)
unfolding text_of
text_at begin script b is = ap (λ b. cond b (text_of_lines begin (lines_of script)) (refusal_text TooLong)) is

left_at : (begin : Beginning) (script : List ℕ) (b : Bool) → leb (length script) SCRIPT_LIMIT ≡ b
    → left_of begin script ≡ cond b (left_of_lines begin (lines_of script)) None
unfolding left_of
left_at begin script b is = ap (λ b. cond b (left_of_lines begin (lines_of script)) None) is

text_within : (begin : Beginning) (script : List ℕ) → length script ≤ SCRIPT_LIMIT → text_of begin script ≡ text_of_lines begin (lines_of script)
text_within begin script fits = text_at begin script true (le-leb (length script) SCRIPT_LIMIT fits)

-- ---- a script is read, or its reader fails

abbrev IsReadAs : Option (List ℕ) → List ℕ → Type 0
IsReadAs known script = IfSome known (λ bytes. script ≡ bytes)

-- there is a script, where the bytes are unknown too
abbrev script_in : Option (List ℕ) → List ℕ → List ℕ
script_in None other = other
script_in (Some bytes) other = bytes

script_in_is : (known : Option (List ℕ)) (other : List ℕ) → IsReadAs known (script_in known other)
script_in_is None other = tt
script_in_is (Some bytes) other = refl

long_in : (known : Option (List ℕ)) (other : List ℕ) → SCRIPT_LIMIT < length other → IfSome known (λ bytes. SCRIPT_LIMIT < length bytes) → SCRIPT_LIMIT < length (script_in known other)
long_in None other long had = long
long_in (Some bytes) other long had = had

-- what is said under a test that came out
by_false : (P Q : Type 0) (b : Bool) → IsFalse b → Q → MatchBool b P Q
by_false P Q b is q = subst (λ b. MatchBool b P Q) (sym is) q

by_true : (P Q : Type 0) (b : Bool) → b ≡ true → P → MatchBool b P Q
by_true P Q b is p = subst (λ b. MatchBool b P Q) (sym is) p

-- ---- what an output takes of a script that was read

module _ (begin : Beginning) (P : List ℕ → Type 0) (known : Option (List ℕ)) (b : Bool) (is_open : IsFalse b) where
  -- read whole
  module _ (items given : List ℕ) (read : IsReadAs known items) (is : given ≡ items) (fits : length items ≤ SCRIPT_LIMIT) where
    whole_fits : length given ≤ SCRIPT_LIMIT
    whole_fits = subst (λ l. length l ≤ SCRIPT_LIMIT) (sym is) fits

    whole_read : IsReadAs known given
    whole_read = subst (IsReadAs known) (sym is) read

    abbrev whole_text : P (text_of_lines begin (lines_of given)) → PrintsText begin P known
    whole_text text = record { script = given; read = whole_read; text = subst P (sym (text_within begin given whole_fits)) text }

    pub whole_ok : (result : Result Left ServeFault) → OnOk result (P (text_of_lines begin (lines_of given))) → IfOk result (λ outcome. outcome ≡ left_of_lines begin (lines_of given))
        → IfOk result (λ outcome. MatchBool b (PrintsUnread P outcome) (PrintsWhole begin P known outcome))
    whole_ok (Err fault) text end = tt
    whole_ok (Ok outcome) text end =
        by_false _ _ b is_open (record { whole = whole_text text; left_is = end ∙ sym (left_at begin given true (le-leb (length given) SCRIPT_LIMIT whole_fits)) })

    pub whole_err : (result : Result Left ServeFault) (unread : Type 0) → OnErr result (P (text_of_lines begin (lines_of given))) → OnErr result (MatchBool b unread (PrintsText begin P known))
    whole_err (Ok outcome) unread text = tt
    whole_err (Err fault) unread text = by_false _ _ b is_open (whole_text text)

    pub whole_front : (unread : Type 0) → P [] ⊎ PrintsFront begin P (lines_of given) → MatchBool b unread (PrintsLines begin P known)
    whole_front unread (inl none) = by_false _ _ b is_open (record { script = given; read = whole_read; lines = inl none })
    whole_front unread (inr front) = by_false _ _ b is_open (record { script = given; read = whole_read; lines = inr (whole_fits, front) })

  -- or too long
  module _ (front : List ℕ) (long : SCRIPT_LIMIT < length front) (had : IfSome known (λ bytes. SCRIPT_LIMIT < length bytes)) where
    long_at : leb (length (script_in known front)) SCRIPT_LIMIT ≡ false
    long_at = lt-leb (length (script_in known front)) SCRIPT_LIMIT (long_in known front long had)

    abbrev long_text : P (refusal_text TooLong) → PrintsText begin P known
    long_text text = record { script = script_in known front; read = script_in_is known front; text = subst P (sym (text_at begin (script_in known front) false long_at)) text }

    pub long_ok : (result : Result Left ServeFault) → OnOk result (P (refusal_text TooLong)) → IfOk result (λ outcome. outcome ≡ None)
        → IfOk result (λ outcome. MatchBool b (PrintsUnread P outcome) (PrintsWhole begin P known outcome))
    long_ok (Err fault) text end = tt
    long_ok (Ok outcome) text end = by_false _ _ b is_open (record { whole = long_text text; left_is = end ∙ sym (left_at begin (script_in known front) false long_at) })

    pub long_err : (result : Result Left ServeFault) (unread : Type 0) → OnErr result (P (refusal_text TooLong)) → OnErr result (MatchBool b unread (PrintsText begin P known))
    long_err (Ok outcome) unread text = tt
    long_err (Err fault) unread text = by_false _ _ b is_open (long_text text)

  -- or not, for want of memory
  pub none_front : (unread : Type 0) → P [] → MatchBool b unread (PrintsLines begin P known)
  none_front unread none = by_false _ _ b is_open (record { script = script_in known []; read = script_in_is known []; lines = inl none })

  pub none_text : (result : Result Left ServeFault) (unread : Type 0) → ((bytes : List ℕ) → P bytes) → OnErr result (MatchBool b unread (PrintsText begin P known))
  none_text (Ok outcome) unread none = tt
  none_text (Err fault) unread none = by_false _ _ b is_open (record { script = script_in known []; read = script_in_is known []; text = none (text_of begin (script_in known [])) })

-- ---- or of a reader that failed

module _ (P : List ℕ → Type 0) (b : Bool) (failed : b ≡ true) where
  pub unread_ok : (result : Result Left ServeFault) (Q : Left → Type 0) → OnOk result (P unread_text) → IfOk result (λ outcome. outcome ≡ None)
      → IfOk result (λ outcome. MatchBool b (PrintsUnread P outcome) (Q outcome))
  unread_ok (Err fault) Q text end = tt
  unread_ok (Ok outcome) Q text end = by_true _ _ b failed (text, end)

  pub unread_err : (result : Result Left ServeFault) (Q : Type 0) → OnErr result (P unread_text) → OnErr result (MatchBool b (P unread_text) Q)
  unread_err (Ok outcome) Q text = tt
  unread_err (Err fault) Q text = by_true _ _ b failed text

-- ---- at the end what waits is written, or a beginning of it

module _ (begin : Beginning) {W : Type 0} (contents : W → Option (List ℕ)) (old mid new : Output W) (start : pending old ≡ []) (known : Option (List ℕ)) where
  abbrev Taken : List ℕ → Type 0
  Taken bytes = Takes contents old mid bytes

  abbrev Written : List ℕ → Type 0
  Written bytes = Appends (held contents old) (held contents new) bytes

  abbrev Begun : List ℕ → Type 0
  Begun bytes = AppendsBeginning (held contents old) (held contents new) bytes

  module _ (f : (bytes : List ℕ) → Taken bytes → Begun bytes) where
    lines_begin_text : (script : List ℕ) → Taken [] ⊎ ((length script ≤ SCRIPT_LIMIT) × PrintsFront begin Taken (lines_of script)) → Begun (text_of begin script)
    lines_begin_text script (inl none) = AppendsBeginning-of_more (text_of begin script) (f [] none)
    lines_begin_text script (inr (fits, printed)) =
        let more = front_begins begin printed.first printed.front printed.rest in
        subst Begun (sym (text_within begin script fits ∙ ap (text_of_lines begin) printed.split ∙ more.1)) (AppendsBeginning-of_more more.0 (f (text_of_lines begin (printed.first ∷ printed.front)) printed.text))

    -- a beginning of the lines is a beginning of the text
    lines_text : (b : Bool) → MatchBool b (Taken []) (PrintsLines begin Taken known) → MatchBool b (Begun unread_text) (PrintsText begin Begun known)
    lines_text true none = AppendsBeginning-of_more unread_text (f [] none)
    lines_text false lines = record { script = lines.script; read = lines.read; text = lines_begin_text lines.script lines.lines }

    whole_begins : (b : Bool) (outcome : Left) → MatchBool b (PrintsUnread Taken outcome) (PrintsWhole begin Taken known outcome) → MatchBool b (Begun unread_text) (PrintsText begin Begun known)
    whole_begins true outcome taken = f unread_text taken.0
    whole_begins false outcome taken = record { script = taken.whole.script; read = taken.whole.read; text = f (text_of begin taken.whole.script) taken.whole.text }

  -- all of it was written
  module _ (gone : Appends (held contents mid) (held contents new) (pending mid)) where
    written : (bytes : List ℕ) → Taken bytes → Written bytes
    written bytes taken = Takes-finished contents old mid new start bytes taken gone

    begun : (bytes : List ℕ) → Taken bytes → Begun bytes
    begun bytes taken = Takes-cut contents old mid new start bytes taken (AppendsBeginning-from (record { front = pending mid; gone = gone; split = sym (append-nil (pending mid)) }))

    pub finished_ok : (result : Result Left ServeFault) (b : Bool) → IfOk result (λ outcome. MatchBool b (PrintsUnread Taken outcome) (PrintsWhole begin Taken known outcome))
        → IfOk result (λ outcome. MatchBool b (PrintsUnread Written outcome) (PrintsWhole begin Written known outcome))
    finished_ok (Err fault) b taken = tt
    finished_ok (Ok outcome) true taken = (written unread_text taken.0, taken.1)
    finished_ok (Ok outcome) false taken =
        record { whole = record { script = taken.whole.script; read = taken.whole.read; text = written (text_of begin taken.whole.script) taken.whole.text }; left_is = taken.left_is }

    pub finished_err : (result : Result Left ServeFault) (b : Bool) → IfCut result (MatchBool b (Taken []) (PrintsLines begin Taken known)) → (result ≡ Err Write → ⊥)
        → OnErr result (MatchBool b (Begun unread_text) (PrintsText begin Begun known))
    finished_err (Ok outcome) b lines never = tt
    finished_err (Err fault) b lines never = lines_text begun b (lines (λ is. never (ap Err is)))

    written_lines : (script : List ℕ) → Taken [] ⊎ ((length script ≤ SCRIPT_LIMIT) × PrintsFront begin Taken (lines_of script)) → Written [] ⊎ ((length script ≤ SCRIPT_LIMIT) × PrintsFront begin Written (lines_of script))
    written_lines script (inl none) = inl (written [] none)
    written_lines script (inr (fits, printed)) =
        inr (fits, record { first = printed.first; front = printed.front; rest = printed.rest; split = printed.split; text = written (text_of_lines begin (printed.first ∷ printed.front)) printed.text })

    pub finished_front : (b : Bool) → MatchBool b (Taken []) (PrintsLines begin Taken known) → PrintsLines begin Written known
    finished_front true none = record { script = script_in known []; read = script_in_is known []; lines = inl (written [] none) }
    finished_front false lines = record { script = lines.script; read = lines.read; lines = written_lines lines.script lines.lines }

  -- or a beginning was
  module _ (gone : AppendsBeginning (held contents mid) (held contents new) (pending mid)) where
    pub cut_err : (result : Result Left ServeFault) (b : Bool) → IfOk result (λ outcome. MatchBool b (PrintsUnread Taken outcome) (PrintsWhole begin Taken known outcome))
        → IfCut result (MatchBool b (Taken []) (PrintsLines begin Taken known))
        → OnErr result (MatchBool b (TakesBeginning contents old mid unread_text) (PrintsText begin (TakesBeginning contents old mid) known))
        → (result ≡ Err Write → WriterUntouched mid new)
        → MatchBool b (Begun unread_text) (PrintsText begin Begun known)
    cut_err (Ok outcome) b taken lines text left = whole_begins (λ bytes taken. Takes-cut contents old mid new start bytes taken gone) b outcome taken
    cut_err (Err Memory) b taken lines text left = lines_text (λ bytes taken. Takes-cut contents old mid new start bytes taken gone) b (lines (λ is. cc))
    cut_err (Err Page) b taken lines text left = lines_text (λ bytes taken. Takes-cut contents old mid new start bytes taken gone) b (lines (λ is. cc))
    cut_err (Err Write) true taken lines text left = TakesBeginning-left contents old mid new start unread_text text (left refl)
    cut_err (Err Write) false taken lines text left =
        record { script = text.script; read = text.read; text = TakesBeginning-left contents old mid new start (text_of begin text.script) text.text (left refl) }
