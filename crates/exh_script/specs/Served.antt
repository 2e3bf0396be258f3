-- What the server prints and leaves, for the bytes that its reader has left.
use Rattle.std.specs.Prelude.{◌≡◌, ◌⊎◌, ◌<◌, ◌≤◌, ℕ, List, [], ◌∷◌, ◌++◌, Option, None, Some, IfErr, IfSome, Result, length, slice_get}
use Rattle.exh_keyer.specs.declared.any_keyer.AnyKeyer.{AnyKeyer}
use Rattle.exh_text.specs.TextLines.{lines_of}
use Rattle.exh_ward.specs.WardState.{WardState}
use Rattle.exh_load.specs.Opened.{OpenedState}
use Rattle.exh_load.specs.LoadFault.{HasCountedFrom}
use Rattle.exh_line.specs.RefusalText.{refusal_text}
use Rattle.exh_script.specs.Text.{Beginning, ScriptWorld, Start, ended_of, text_after, text_of_lines, text_of}
use Rattle.exh_line.specs.declared.refusal.Refusal.{Refusal}
use Rattle.exh_line.specs.declared.refusal.Refusal.TheVariants.{Read}
use Rattle.exh_script.specs.declared.response_fault.ResponseFault.{ResponseFault}
use Rattle.exh_script.specs.declared.response_fault.ResponseFault.TheVariants as line
use Rattle.exh_text.specs.declared.script.TheConstants.{SCRIPT_LIMIT}
use Rattle.exh_script.specs.Left.{left_of}
use Rattle.exh_script.specs.declared.ended.Ended.{Ended}
use Rattle.exh_script.specs.declared.ended.Ended.TheVariants.{Refused}
use Rattle.exh_script.specs.declared.serve_fault.ServeFault.{ServeFault}
use Rattle.exh_script.specs.declared.serve_fault.ServeFault.TheVariants.{Memory, Page}

-- how a run ends at a line that has no response
abbrev pub fault_of : ResponseFault → ServeFault
fault_of line.Memory = Memory
fault_of line.Page = Page

-- a page out of reach is told only where a store of these failures has counted more than a ward of the opened file had; of a new file, one
abbrev pub IsServeCounted : {P T : Type 0} → (P → ℕ) → Option OpenedState → Result T ServeFault → Type 0
IsServeCounted failures from result = IfErr result (λ fault. fault ≡ Page → HasCountedFrom failures from)

-- the only line where the reader failed
unfoldable pub unread_text : List ℕ
unread_text = refusal_text Read

-- `prints bytes` says how bytes go out: that a writer holds them, or a beginning of them, or that an output took them.
module _ (prints : List ℕ → Type 0) where
  -- the line of a reader that failed, and no wards
  abbrev pub PrintsUnread : Option OpenedState → Type 0
  PrintsUnread left = prints unread_text × (left ≡ None)

  -- and a run that is refused
  abbrev pub EndsUnread : Ended → Type 0
  EndsUnread ended = prints unread_text × (ended ≡ Refused)

  -- the text of a beginning of the lines behind the first, by where that starts the run
  pub record PrintsFrontFrom (begun : Result Start Refusal) (lines : List (List ℕ)) : Type 0 where
    pub front : List (List ℕ)
    pub rest : List (List ℕ)
    pub split : lines ≡ front ++ rest
    pub text : prints (text_after begun front)

-- and `begin` what world a first line begins.
module _ (begin : Beginning) (prints : List ℕ → Type 0) where
  -- the text of a script, which is the reader's bytes where they are known
  pub record PrintsText (known : Option (List ℕ)) : Type 0 where
    pub script : List ℕ
    pub read : IfSome known (λ bytes. script ≡ bytes)
    pub text : prints (text_of begin script)

  -- and the wards are those that the script's run leaves
  pub record PrintsWhole (known : Option (List ℕ)) (left : Option OpenedState) : Type 0 where
    pub whole : PrintsText known
    pub left_is : left ≡ left_of begin whole.script

  -- and so the script's run ends
  pub record PrintsToEnd (known : Option (List ℕ)) (ended : Ended) : Type 0 where
    pub whole : PrintsText known
    pub ended_is : ended ≡ ended_of begin whole.script

  -- the text of a beginning of these lines
  pub record PrintsFront (lines : List (List ℕ)) : Type 0 where
    pub first : List ℕ
    pub front : List (List ℕ)
    pub rest : List (List ℕ)
    pub split : lines ≡ first ∷ (front ++ rest)
    pub text : prints (text_of_lines begin (first ∷ front))

  -- nothing, or the text of a beginning of the script's lines
  pub record PrintsLines (known : Option (List ℕ)) : Type 0 where
    pub script : List ℕ
    pub read : IfSome known (λ bytes. script ≡ bytes)
    pub lines : prints [] ⊎ ((length script ≤ SCRIPT_LIMIT) × PrintsFront (lines_of script))

-- ---- of private functions

-- a store of these failures has counted more than a ward of the world had
abbrev pub HasCountedMore : {P : Type 0} → (P → ℕ) → ScriptWorld → Type 0
HasCountedMore {P} failures world = (store : P) × (number : ℕ) × (ward : WardState AnyKeyer) × (slice_get world.wards number ≡ Some ward) × (ward.failures < failures store)

-- for each ward that has met a page out of reach a store has counted as many
abbrev pub HaveCounted : {P : Type 0} → (P → ℕ) → ScriptWorld → Type 0
HaveCounted {P} failures world = (number : ℕ) (ward : WardState AnyKeyer) → slice_get world.wards number ≡ Some ward → 0 < ward.failures → (store : P) × (ward.failures ≤ failures store)

-- the count of no ward is less than it was
abbrev pub FallsNowhere : ScriptWorld → ScriptWorld → Type 0
FallsNowhere old new = (number : ℕ) (after : WardState AnyKeyer) → slice_get new.wards number ≡ Some after → (ward : WardState AnyKeyer) × (slice_get old.wards number ≡ Some ward) × (ward.failures ≤ after.failures)
