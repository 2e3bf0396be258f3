-- The lines of a text that comes from a reader: contracts of private functions.
use Rattle.std.specs.Prelude.{◌≡◌, ◌≢◌, ◌⊎◌, ℕ, Bool, true, false, List, [], ◌∷◌, ◌++◌, drop, nat_eq, Option, option_map, IsTrue, if◌then◌else◌}
use Rattle.std.specs.List.{starts_with}
use Rattle.std.specs.Io.KnownBytes.{Consumes, IsAtEnd, prepend_known}
use Rattle.exh_stream.specs.Source.{unread}
use Rattle.exh_text.specs.TextLines.{newline}
use Rattle.exh_pair_text.specs.Records.{IsEnded, IsOneLine}
use Rattle.exh_pair_text.specs.declared.pair_format.PairFormat.{PairFormat}
use Rattle.exh_import.specs.declared.line_reader.LineReader.{LineReader}

-- what of the block isn't taken yet
abbrev pub waiting : {R : Type 0} → LineReader R → List ℕ
waiting lines = drop lines.at lines.block.items

-- what of the text isn't taken yet, where it is known
abbrev pub text_left : {R : Type 0} → (R → Option (List ℕ)) → LineReader R → Option (List ℕ)
text_left remaining lines = prepend_known (waiting lines) (unread remaining lines.source)

-- the reader is at its end where that was seen
abbrev pub EndsRight : {R : Type 0} → (R → Option (List ℕ)) → LineReader R → Type 0
EndsRight remaining lines = IsTrue lines.ended → IsAtEnd (unread remaining lines.source)

-- all of the text is taken
pub record IsOver {R : Type 0} (lines : LineReader R) : Type 0 where
  pub ended : IsTrue lines.ended
  pub taken : waiting lines ≡ []

-- these bytes of the text were taken
abbrev pub AreTaken : {R : Type 0} → (R → Option (List ℕ)) → LineReader R → LineReader R → List ℕ → Type 0
AreTaken remaining old new given = Consumes (text_left remaining old) (text_left remaining new) given

-- ---- the byte order mark of UTF-8

abbrev pub mark : List ℕ
mark = 239 ∷ 187 ∷ 191 ∷ []

-- how many bytes of a text are one with which it begins
abbrev pub mark_len : List ℕ → ℕ
mark_len text = if starts_with nat_eq text mark then 3 else 0

abbrev pub without_mark : List ℕ → List ℕ
without_mark text = drop (mark_len text) text

-- of a text, where it is known, what stands behind one
abbrev pub unmarked : Option (List ℕ) → Option (List ℕ)
unmarked known = option_map without_mark known

-- ---- lines

-- a line was taken, and the newline that ends it
abbrev pub IsLineTaken : {R : Type 0} → PairFormat → (R → Option (List ℕ)) → LineReader R → LineReader R → List ℕ → Type 0
IsLineTaken format remaining old new line = IsEnded format line × AreTaken remaining old new (line ++ newline ∷ [])

-- so, or all that was left, which has none
abbrev pub TakesNext : {R : Type 0} → PairFormat → (R → Option (List ℕ)) → LineReader R → LineReader R → Type 0
TakesNext format remaining old new =
    IsOneLine format new.line.items × (IsLineTaken format remaining old new new.line.items ⊎ (AreTaken remaining old new new.line.items × (new.line.items ≢ []) × IsOver new))

-- which of the two it was
abbrev pub TellsWhole : {R : Type 0} → Bool → PairFormat → (R → Option (List ℕ)) → LineReader R → LineReader R → Type 0
TellsWhole whole format remaining old new =
    ((whole ≡ true) × IsLineTaken format remaining old new new.line.items) ⊎ ((whole ≡ false) × (AreTaken remaining old new new.line.items × (new.line.items ≢ []) × IsOver new))
