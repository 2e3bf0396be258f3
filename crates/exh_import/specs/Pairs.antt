-- The pairs of a text that are put, and the store behind them.
use Rattle.std.specs.Prelude.{◌≡◌, ◌⊎◌, ◌==◌, ℕ, zero, suc, Bool, List, [], ◌∷◌, true, if◌then◌else◌, flat_map, is_some}
use Rattle.exh_pair_text.specs.declared.line.Line.{Line}
use Rattle.exh_pair_text.specs.declared.line.Line.TheVariants.{Pair}
use Rattle.exh_pair_text.specs.Parts.{parts_of}
use Rattle.exh_pair_text.specs.Reading.{line_read}
use Rattle.exh_import.specs.declared.imported_store.Added.{Added}
use Rattle.exh_import.specs.declared.options.ImportOptions.{ImportOptions}
use Rattle.exh_import.specs.Counting.{first_opening, lines_begun}

-- the pair that a line is, if it is one
abbrev pub pair_of : Line → List (List ℕ × List ℕ)
pair_of (Pair key value) = (key, value) ∷ []
pair_of read = []

abbrev pub read_of : ImportOptions → List ℕ → Line
read_of options line = line_read options.format options.is_hex (parts_of options.layout) line

abbrev pub pairs_of : ImportOptions → List (List ℕ) → List (List ℕ × List ℕ)
pairs_of options lines = flat_map (λ line. pair_of (read_of options line)) lines

abbrev pub all_but_last : List (List ℕ) → List (List ℕ)
all_but_last [] = []
all_but_last (line ∷ []) = []
all_but_last (line ∷ next ∷ lines) = line ∷ all_but_last (next ∷ lines)

-- the pairs of all lines, but for the last one of an export
abbrev pub pairs_of_text : ImportOptions → Bool → List (List ℕ) → List (List ℕ × List ℕ)
pairs_of_text options is_export lines = if is_export then pairs_of options (all_but_last lines) else pairs_of options lines

-- so of a text whose first line may be an opening
abbrev pub pairs_of_whole : ImportOptions → List (List ℕ) → List (List ℕ × List ℕ)
pairs_of_whole options [] = []
pairs_of_whole options (line ∷ lines) = if is_some (first_opening true (read_of options line)) then pairs_of options (all_but_last lines) else pairs_of options (line ∷ lines)

-- the pairs that are put: those of all lines, but for the last one of a text that begins with an opening
abbrev pub pairs_put : ImportOptions → List (List ℕ) → List (List ℕ × List ℕ)
pairs_put options lines = if lines_begun options.begun == 0 then pairs_of_whole options lines else pairs_of_text options options.begun.is_opened lines

module _ {S : Type 0} (gives : S → List ℕ → List ℕ → Added → S → Type 0) (saves rests : S → S → Type 0) where
  -- so many commits and rests, one behind the other
  abbrev pub AreSaved : ℕ → S → S → Type 0
  AreSaved zero old new = new ≡ old
  AreSaved (suc count) old new = (next : S) × ((saves old next ⊎ rests old next) × AreSaved count next new)

  -- the pairs are put in order, each with an answer of the store, with commits and rests between
  abbrev pub ArePut : List (List ℕ × List ℕ) → S → S → Type 0
  ArePut [] old new = (count : ℕ) × AreSaved count old new
  ArePut (pair ∷ pairs) old new = (count : ℕ) × ((before : S) × ((answer : Added) × ((next : S) × (AreSaved count old before × (gives before pair.0 pair.1 answer next × ArePut pairs next new)))))
