-- What pairs come to, over the map of each ward, and what is printed of their lines.
use Rattle.std.specs.Prelude.{ℕ, List, [], ◌∷◌, ◌++◌, get_or, slice_set, Option, None, Result, Ok, Err, codes}
use Rattle.std.specs.FinMap as fin
use Rattle.exh_prefix.specs.Leading.{ward_of}
use Rattle.exh_keyer.specs.declared.any_keyer.AnyKeyer.{AnyKeyer}
use Rattle.exh_keyer.specs.Pseudokey.{any_pseudokey}
use Rattle.exh_page.specs.KeyMap.{KeyMap}
use Rattle.exh_text.specs.ByteWord.{pair_in_range, spelled_pair}
use Rattle.exh_text.specs.LineFault.{line_fault_number, ranged}
use Rattle.exh_text.specs.TextLines.{words_of}
use Rattle.exh_text.specs.Numbers.{◌>>=◌}
use Rattle.exh_text.specs.Printing.{printed, refused_text}
use Rattle.exh_text.specs.declared.line_fault.LineFault.{LineFault}
use Rattle.exh_calls.specs.MapMachine.{reply_of, map_after}
use Rattle.exh_calls.specs.declared.call.Call.TheVariants.{Put}
use Rattle.exh_calls.specs.declared.reply.Reply.{Reply}
use Rattle.exh_calls.specs.declared.reply.Reply.TheVariants.{Full}
use Rattle.exh_file.specs.Opened.{OpenedState}
use Rattle.exh_file.specs.FileChange.{maps_in}
use Rattle.exh_load.specs.Loader.{LoaderState, file_in}

-- a file's settings, and the map of each ward, in the order of their numbers
pub record Loading : Type 0 where
  pub cap : ℕ
  pub ward_bits : ℕ
  pub keyer : AnyKeyer
  pub maps : List KeyMap

-- what the wards of a file have, and those that a loader puts into
abbrev pub loading_in : OpenedState → Loading
loading_in file = record { cap = file.cap; ward_bits = file.ward_bits; keyer = file.keyer; maps = maps_in file }

abbrev pub loading_of : LoaderState → Loading
loading_of loader = loading_in (file_in loader)

-- ---- a pair

-- the ward of a key, and that ward's map
abbrev pub ward_at : Loading → List ℕ → ℕ
ward_at loading key = ward_of loading.ward_bits (any_pseudokey loading.keyer key)

abbrev pub map_at : Loading → List ℕ → KeyMap
map_at loading key = get_or loading.maps (ward_at loading key) fin.empty

-- a pair is answered as the map machine answers its Put over the map of its ward, and leaves there the map machine's
abbrev pub pair_reply : Loading → List ℕ → List ℕ → Reply
pair_reply loading key value = reply_of loading.cap (any_pseudokey loading.keyer) (map_at loading key) (Put key value)

abbrev pub after_pair : Loading → List ℕ → List ℕ → Loading
after_pair loading key value = record loading { maps = slice_set loading.maps (ward_at loading key) (map_after loading.cap (any_pseudokey loading.keyer) (map_at loading key) (Put key value)) }

-- ---- a line

-- `KEY VALUE`
abbrev pub spelled_words : List (List ℕ) → Option (List ℕ × List ℕ)
spelled_words (key ∷ value ∷ []) = spelled_pair key value
spelled_words words = None

unfoldable pub pair_told : List ℕ → Result (List ℕ × List ℕ) LineFault
pair_told line = ranged pair_in_range (words_of line >>= spelled_words)

-- a pair is told only where it is turned away
abbrev pub put_text : List ℕ → Reply → List ℕ
put_text key Full = codes "full " ++ (printed key ++ codes "\n")
put_text key reply = []

abbrev pub parsed_text : Loading → Result (List ℕ × List ℕ) LineFault → List ℕ
parsed_text loading (Ok pair) = put_text pair.0 (pair_reply loading pair.0 pair.1)
parsed_text loading (Err fault) = refused_text (line_fault_number fault) ++ codes "\n"

abbrev pub after_read_pair : Loading → Result (List ℕ × List ℕ) LineFault → Loading
after_read_pair loading (Ok pair) = after_pair loading pair.0 pair.1
after_read_pair loading (Err fault) = loading

unfoldable pub line_text : Loading → List ℕ → List ℕ
line_text loading line = parsed_text loading (pair_told line)

unfoldable pub after_pair_line : Loading → List ℕ → Loading
after_pair_line loading line = after_read_pair loading (pair_told line)

-- ---- lines

abbrev pub load_text_from : Loading → List (List ℕ) → List ℕ
load_text_from loading [] = []
load_text_from loading (line ∷ lines) = line_text loading line ++ load_text_from (after_pair_line loading line) lines

-- what they leave
abbrev pub loaded_from : Loading → List (List ℕ) → Loading
loaded_from loading [] = loading
loaded_from loading (line ∷ lines) = loaded_from (after_pair_line loading line) lines
