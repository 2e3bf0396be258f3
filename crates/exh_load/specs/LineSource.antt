-- The lines of a text that comes from a reader: contracts of private functions.
use Rattle.std.specs.Prelude.{◌≡◌, ◌⊎◌, ◌+◌, ◌==◌, ℕ, Bool, true, false, List, [], ◌∷◌, ◌++◌, drop, map, take, Option, IfSome, IsTrue, Result, Ok, Err}
use Rattle.std.specs.Io.KnownBytes.{Consumes, IsAtEnd, prepend_known}
use Rattle.exh_stream.specs.Output.{Takes, TakesBeginning}
use Rattle.exh_stream.specs.Source.{unread}
use Rattle.exh_stream.specs.declared.input_fault.InputFault.{InputFault}
use Rattle.exh_stream.specs.declared.input_fault.InputFault.TheVariants.{TooLong}
use Rattle.exh_stream.specs.declared.output.Output.{Output}
use Rattle.exh_text.specs.TextLines.{is_empty, lines_of, newline}
use Rattle.exh_load.specs.Load.{AreWholeLines, TakesFront, record_count}
use Rattle.exh_load.specs.Loading.{Loading, load_text_from, loaded_from}
use Rattle.exh_load.specs.LongLoad.{short_lines}
use Rattle.exh_load.specs.declared.line_source.LineSource.{LineSource}
use Rattle.exh_load.specs.declared.line_source.TheConstants.{LINE_LEN}
use Rattle.exh_load.specs.declared.load_fault.LoadFault.{LoadFault}
use Rattle.exh_load.specs.declared.load_fault.LoadFault.TheVariants.{Write}

-- what of the block isn't taken yet
abbrev pub waiting : {R : Type 0} → LineSource R → List ℕ
waiting lines = drop lines.at lines.block.items

-- what of the text isn't taken yet, where it is known
abbrev pub text_left : {R : Type 0} → (R → Option (List ℕ)) → LineSource R → Option (List ℕ)
text_left remaining lines = prepend_known (waiting lines) (unread remaining lines.source)

-- the reader is at its end where that was seen
abbrev pub EndsRight : {R : Type 0} → (R → Option (List ℕ)) → LineSource R → Type 0
EndsRight remaining lines = IsTrue lines.ended → IsAtEnd (unread remaining lines.source)

-- all of the text is taken
pub record IsOver {R : Type 0} (lines : LineSource R) : Type 0 where
  pub ended : IsTrue lines.ended
  pub taken : waiting lines ≡ []

-- these bytes of the text were taken, none where all were
pub record AreTaken {R : Type 0} (remaining : R → Option (List ℕ)) (old new : LineSource R) (given : List ℕ) : Type 0 where
  pub consumed : Consumes (text_left remaining old) (text_left remaining new) given
  pub none : IsOver old → given ≡ []
  pub still : IsOver old → IsOver new

-- a byte came behind these of a line, and ended the line or not: a newline ends one that has a byte, and of another only the first bytes stay
abbrev pub IsAdded : List ℕ → ℕ → List ℕ → Bool → Type 0
IsAdded old byte new true = (byte ≡ newline) × (is_empty old ≡ false) × (new ≡ old)
IsAdded old byte new false = ((byte ≡ newline) × (is_empty old ≡ true) × (new ≡ old)) ⊎ (((byte == newline) ≡ false) × (new ≡ take LINE_LEN (old ++ byte ∷ [])))

-- of a text that was known the lines up to here are taken, of which these are what is looked at
pub record HasPassed {R : Type 0} (remaining : R → Option (List ℕ)) (known : Option (List ℕ)) (lines : LineSource R) (answered : List (List ℕ)) : Type 0 where
  pub given : List ℕ
  pub consumed : Consumes known (text_left remaining lines) given
  pub whole : List (List ℕ)
  pub short : answered ≡ map (take LINE_LEN) whole
  pub goes_on : (more : List ℕ) → (IsOver lines → more ≡ []) → lines_of (given ++ more) ≡ whole ++ lines_of more
  pub closed : IsOver lines ⊎ AreWholeLines given

-- these lines more are taken
abbrev pub Passes : {R : Type 0} → (R → Option (List ℕ)) → LineSource R → LineSource R → List (List ℕ) → Type 0
Passes remaining old new more = (known : Option (List ℕ)) (answered : List (List ℕ)) → HasPassed remaining known old answered → HasPassed remaining known new (answered ++ more)

-- the text was taken up to the end of its next line, or to its own end where there is none
abbrev pub GoesOn : {R : Type 0} → (R → Option (List ℕ)) → LineSource R → LineSource R → Bool → Type 0
GoesOn remaining old new true = Passes remaining old new (new.line.items ∷ [])
GoesOn remaining old new false = Passes remaining old new [] × IsOver new

-- ---- all lines of a text, or those of its beginning

pub record AreAllLines (known : Option (List ℕ)) (answered : List (List ℕ)) : Type 0 where
  pub text : List ℕ
  pub read : IfSome known (λ bytes. text ≡ bytes)
  pub lines : short_lines text ≡ answered

-- each whole, where that is to be
pub record AreFirstLines (known : Option (List ℕ)) (answered : List (List ℕ)) (number : ℕ) : Type 0 where
  pub front : List ℕ
  pub read : IfSome known (λ bytes. (rest : List ℕ) × (bytes ≡ front ++ rest))
  pub fault : ((number ≡ 41) × AreWholeLines front) ⊎ (number ≡ 62)
  pub lines : short_lines front ≡ answered

abbrev pub AreSomeLines : Option (List ℕ) → List (List ℕ) → Type 0
AreSomeLines known answered = AreAllLines known answered ⊎ AreFirstLines known answered 41

-- ---- pairs that are put line by line

-- why lines aren't read on, as it is told
abbrev pub break_number : InputFault → ℕ
break_number TooLong = 62
break_number fault = 41

module _ {R W : Type 0} (remaining : R → Option (List ℕ)) (contents : W → Option (List ℕ)) (lines : LineSource R) (old new : Output W) (first : Loading) where
  -- all lines that were left were put, and how many records there are more is counted
  pub record PutsAll (last : Loading) (records : ℕ) : Type 0 where
    pub put : List (List ℕ)
    pub all : (known : Option (List ℕ)) (answered : List (List ℕ)) → HasPassed remaining known lines answered → AreAllLines known (answered ++ put)
    pub text : Takes contents old new (load_text_from first put)
    pub left : last ≡ loaded_from first put
    pub counted : records + record_count first ≡ record_count last

  -- lines were put up to where reading broke off
  pub record PutsSome (number : ℕ) : Type 0 where
    pub put : List (List ℕ)
    pub some : (known : Option (List ℕ)) (answered : List (List ℕ)) → HasPassed remaining known lines answered → AreFirstLines known (answered ++ put) number
    pub text : Takes contents old new (load_text_from first put)

  abbrev pub PutsLines : Loading → Result ℕ InputFault → Type 0
  PutsLines last (Ok records) = PutsAll last records
  PutsLines last (Err fault) = PutsSome (break_number fault)

  -- or up to one that couldn't be put, or told
  pub record StopsAt (taken : List ℕ → Type 0) : Type 0 where
    pub put : List (List ℕ)
    pub some : (known : Option (List ℕ)) (answered : List (List ℕ)) → HasPassed remaining known lines answered → AreSomeLines known (answered ++ put)
    pub text : taken (load_text_from first put)

  abbrev pub BreaksOff : LoadFault → Type 0
  BreaksOff Write = StopsAt (TakesBeginning contents old new)
  BreaksOff fault = StopsAt (TakesFront contents old new)
