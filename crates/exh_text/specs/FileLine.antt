-- The first line of a script, by cases on whole words, and the ranges of its settings. The code that reads it scans bytes.
use Rattle.std.specs.Prelude.{ℕ, List, [], ◌∷◌, Bool, true, false, ◌&&◌, if◌then◌else◌, Option, Some, None, Result, codes}
use Rattle.std.specs.Int.{is_in_range}
use Rattle.std.specs.Str.{bytes_eq}
use Rattle.exh_keyer.specs.declared.any_keyer.AnyKeyer.{AnyKeyer}
use Rattle.exh_page.specs.Keyers.{keyer_named}
use Rattle.exh_page.specs.declared.page.TheConstants.{CAP_LIMIT}
use Rattle.exh_prefix.specs.declared.prefix.TheConstants.{WARD_BITS_LIMIT}
use Rattle.exh_text.specs.LineFault.{ranged}
use Rattle.exh_text.specs.TextLines.{words_of}
use Rattle.exh_text.specs.Numbers.{◌>>=◌, after_prefix, number_after}
use Rattle.exh_text.specs.declared.line_fault.LineFault.{LineFault}
use Rattle.exh_page.specs.declared.config.Config.{Config}
use Rattle.exh_text.specs.declared.file_line.TheConstants.{COPIES_LIMIT}
use Rattle.exh_text.specs.declared.settings.Settings.{Settings}

-- ---- the settings that words spell, whatever their numbers are

-- the keyer of a word `keyer=sha` or `keyer=plain`
unfoldable pub keyer_of : List ℕ → Option AnyKeyer
keyer_of word = after_prefix (codes "keyer=") word >>= keyer_named

-- the word `moves=yes` or none: whether the moves of a reply's request are told
unfoldable pub telling_of : List (List ℕ) → Option Bool
telling_of [] = Some false
telling_of (word ∷ []) = if bytes_eq word (codes "moves=yes") then Some true else None
telling_of words = None

-- `cap=N wards=N copies=N keyer=K`, and `moves=yes` behind it or nothing
unfoldable pub spelled_settings : List (List ℕ) → Option Settings
spelled_settings (cap ∷ wards ∷ copies ∷ keyer ∷ moves) = do
  cap ← number_after (codes "cap=") cap
  ward_bits ← number_after (codes "wards=") wards
  copies ← number_after (codes "copies=") copies
  keyer ← keyer_of keyer
  tells_moves ← telling_of moves
  Some (record { file = record { cap = cap; ward_bits = ward_bits; copies = copies; keyer = keyer }; tells_moves = tells_moves })
spelled_settings words = None

-- `file` and the settings
unfoldable pub spelled_file : List (List ℕ) → Option Settings
spelled_file [] = None
spelled_file (keyword ∷ words) = if bytes_eq keyword (codes "file") then spelled_settings words else None

-- ---- ranges

abbrev pub file_in_range : Config AnyKeyer → Bool
file_in_range file = is_in_range 1 CAP_LIMIT file.cap && is_in_range 0 WARD_BITS_LIMIT file.ward_bits && is_in_range 1 COPIES_LIMIT file.copies

abbrev pub settings_in_range : Settings → Bool
settings_in_range settings = file_in_range settings.file

-- ---- the line

-- the first line of a script
unfoldable pub file_line_of : List ℕ → Result Settings LineFault
file_line_of line = ranged settings_in_range (words_of line >>= spelled_file)
