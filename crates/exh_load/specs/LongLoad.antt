-- The load of a text that is read line by line.
use Rattle.std.specs.Prelude.{◌≡◌, ◌⊎◌, ℕ, List, ◌++◌, map, take, Option, IfSome, Result, Ok, Err}
use Rattle.exh_stream.specs.Output.{Takes, TakesBeginning}
use Rattle.exh_stream.specs.declared.output.Output.{Output}
use Rattle.exh_text.specs.TextLines.{lines_of}
use Rattle.exh_file.specs.Opened.{OpenedState}
use Rattle.exh_load.specs.Load.{AreWholeLines, Beginning, Ending, IsOfText, Load, Loads, Prints, TakesFront, at_end, load_of_lines, refused}
use Rattle.exh_load.specs.declared.line_source.TheConstants.{LINE_LEN}
use Rattle.exh_load.specs.declared.load_fault.LoadFault.{LoadFault}
use Rattle.exh_load.specs.declared.load_fault.LoadFault.TheVariants.{Write}

-- what is looked at of the lines of a text: the first bytes of each
abbrev pub short_lines : List ℕ → List (List ℕ)
short_lines text = map (take LINE_LEN) (lines_of text)

-- of a text that is read to its end
abbrev pub long_load_of : Beginning → List ℕ → Load
long_load_of begin text = load_of_lines at_end begin (short_lines text)

-- where reading breaks off: the number of the fault alone
abbrev pub broken_off : ℕ → Ending
broken_off number = record { none = refused number; after = λ first last. refused number }

-- of the beginning of a text: of whole lines, behind which the reader failed, or of what has no end within 2^64 - 1 lines, or bytes of a line
pub record IsOfFront (begin : Beginning) (known : Option (List ℕ)) (load : Load) : Type 0 where
  pub front : List ℕ
  pub read : IfSome known (λ bytes. (rest : List ℕ) × (bytes ≡ front ++ rest))
  pub number : ℕ
  pub fault : ((number ≡ 41) × AreWholeLines front) ⊎ (number ≡ 62)
  pub is : load ≡ load_of_lines (broken_off number) begin (short_lines front)

-- the load of a reader, whose bytes are `known`
abbrev pub IsLongLoad : Beginning → Option (List ℕ) → Load → Type 0
IsLongLoad begin known load = IsOfText (long_load_of begin) known load ⊎ IsOfFront begin known load

-- ---- of private functions

-- an output takes the load's text, and the load's file comes out; or whole lines of the text, or after a fault of the writer a beginning of it
abbrev pub LoadTakes : {W : Type 0} → (W → Option (List ℕ)) → (Load → Type 0) → Output W → Output W → Result (Option OpenedState) LoadFault → Type 0
LoadTakes contents Is old new (Ok file) = Loads Is (Takes contents old new) file
LoadTakes contents Is old new (Err Write) = Prints Is (TakesBeginning contents old new)
LoadTakes contents Is old new (Err fault) = Prints Is (TakesFront contents old new)
