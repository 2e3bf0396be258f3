-- What a load comes to where one map answers all pairs, whichever ward they are put into.
use Rattle.std.specs.Prelude.{◌≡◌, ℕ, ◌≤◌, List, [], ◌∷◌, ◌++◌, Result, Ok, Err, codes}
use Rattle.std.specs.FinMap as fin
use Rattle.exh_prefix.specs.declared.prefix.TheConstants.{WARD_BITS_LIMIT}
use Rattle.exh_keyer.specs.declared.any_keyer.AnyKeyer.{AnyKeyer}
use Rattle.exh_keyer.specs.Pseudokey.{any_pseudokey}
use Rattle.exh_page.specs.KeyMap.{KeyMap}
use Rattle.exh_text.specs.LineFault.{line_fault_number}
use Rattle.exh_text.specs.Printing.{refused_text}
use Rattle.exh_text.specs.declared.line_fault.LineFault.{LineFault}
use Rattle.exh_calls.specs.MapMachine.{reply_of, map_after}
use Rattle.exh_calls.specs.declared.call.Call.TheVariants.{Put}
use Rattle.exh_file.specs.FileChange.{AreParts}
use Rattle.exh_load.specs.Load.{empty_loading}
use Rattle.exh_load.specs.Loading.{Loading, load_text_from, loaded_from, pair_told, put_text}

-- ---- one map

-- the pairs that lines spell, in order; a line that spells none has none
abbrev pub pair_in : Result (List ℕ × List ℕ) LineFault → List (List ℕ × List ℕ)
pair_in (Ok pair) = pair ∷ []
pair_in (Err fault) = []

abbrev pub pairs_of : List (List ℕ) → List (List ℕ × List ℕ)
pairs_of [] = []
pairs_of (line ∷ lines) = pair_in (pair_told line) ++ pairs_of lines

-- the map machine's map after a put of each pair, in order: one that is answered Full is left out
abbrev pub puts_left : ℕ → (List ℕ → ℕ) → KeyMap → List (List ℕ × List ℕ) → KeyMap
puts_left cap pseudo whole [] = whole
puts_left cap pseudo whole (pair ∷ pairs) = puts_left cap pseudo (map_after cap pseudo whole (Put pair.0 pair.1)) pairs

-- what is printed of a line whose pair the one map answers, and of lines
abbrev pub told_by_one : ℕ → (List ℕ → ℕ) → KeyMap → Result (List ℕ × List ℕ) LineFault → List ℕ
told_by_one cap pseudo whole (Ok pair) = put_text pair.0 (reply_of cap pseudo whole (Put pair.0 pair.1))
told_by_one cap pseudo whole (Err fault) = refused_text (line_fault_number fault) ++ codes "\n"

abbrev pub text_by_one : ℕ → (List ℕ → ℕ) → KeyMap → List (List ℕ) → List ℕ
text_by_one cap pseudo whole [] = []
text_by_one cap pseudo whole (line ∷ lines) = told_by_one cap pseudo whole (pair_told line) ++ text_by_one cap pseudo (puts_left cap pseudo whole (pair_in (pair_told line))) lines

-- ---- the law

-- of lines that are loaded over maps of wards that are together one map: the maps that they leave are together the map machine's over all pairs, and the text is what it answers
pub record AreLoadedAsOne (first : Loading) (whole : KeyMap) (lines : List (List ℕ)) : Type 0 where
  pub maps : AreParts first.ward_bits (any_pseudokey first.keyer) (puts_left first.cap (any_pseudokey first.keyer) whole (pairs_of lines)) (loaded_from first lines).maps
  pub text : load_text_from first lines ≡ text_by_one first.cap (any_pseudokey first.keyer) whole lines

abbrev pub LoadsAreOneMaps : Type 0
LoadsAreOneMaps = (first : Loading) (whole : KeyMap) (lines : List (List ℕ)) → first.ward_bits ≤ WARD_BITS_LIMIT → AreParts first.ward_bits (any_pseudokey first.keyer) whole first.maps → AreLoadedAsOne first whole lines

-- the maps of a new file are together the empty map
abbrev pub NewMapsAreNone : Type 0
NewMapsAreNone = (cap ward_bits : ℕ) (keyer : AnyKeyer) → AreParts ward_bits (any_pseudokey keyer) fin.empty (empty_loading cap ward_bits keyer).maps
