-- The word of a line that is wrong.
use Rattle.std.specs.Prelude.{ℕ, List, [], ◌∷◌, Option, Some, None}
use Rattle.exh_text.specs.declared.line_fault.LineFault.{LineFault}
use Rattle.exh_text.specs.declared.line_fault.LineFault.TheVariants.{Syntax, Range}
use Rattle.exh_text.specs.Expect.{fault_of_word, next_word}
use Rattle.exh_text.specs.declared.expect.Expect.{Expect}

-- of a word with this fault, or none
abbrev pub first_of : LineFault → Option LineFault → Option (List ℕ) → Option (List ℕ) → Option (List ℕ)
first_of fault None this others = others
first_of Syntax (Some Syntax) this others = this
first_of Syntax (Some Range) this others = others
first_of Range (Some Syntax) this others = others
first_of Range (Some Range) this others = this

-- the first word that has this fault where it stands
abbrev pub first_wrong : LineFault → Expect → List (List ℕ) → Option (List ℕ)
first_wrong fault next [] = None
first_wrong fault next (word ∷ words) = first_of fault (fault_of_word next word) (Some word) (first_wrong fault (next_word next word) words)
