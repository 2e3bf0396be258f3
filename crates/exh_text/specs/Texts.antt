-- The texts that standard error has of a run, each a line, as functions of what is told.
use Rattle.std.specs.Prelude.{ℕ, List, ◌++◌, Option, Some, None, codes, decimal}
use Rattle.exh_keyer.specs.declared.any_keyer.AnyKeyer.{AnyKeyer}
use Rattle.exh_keyer.specs.declared.any_keyer.AnyKeyer.TheVariants.{Plain, Sha}
use Rattle.exh_text.specs.Note.{shown}
use Rattle.exh_text.specs.declared.kind.Kind.{Kind}
use Rattle.exh_text.specs.declared.kind.Kind.TheVariants.{Syntax, Range, Full}

abbrev pub kind_words : Kind → List ℕ
kind_words Syntax = codes "refused 60"
kind_words Range = codes "refused 61"
kind_words Full = codes "full"

-- where in its line something is wrong: at a word, or behind the last one
abbrev pub place_text : Option (List ℕ) → List ℕ
place_text (Some word) = codes " at '" ++ (shown word ++ codes "'\n")
place_text None = codes " at its end\n"

-- a line of this number and kind
abbrev pub wrong_line_text : ℕ → Kind → Option (List ℕ) → List ℕ
wrong_line_text number kind word = codes "exhash: line " ++ (decimal number ++ (codes ": " ++ (kind_words kind ++ place_text word)))

-- the end of a line that tells how many
abbrev pub counted_text : ℕ → List ℕ
counted_text count = codes ": " ++ (decimal count ++ codes "\n")

abbrev pub more_text : Kind → ℕ → List ℕ
more_text kind count = codes "exhash: further lines that are " ++ (kind_words kind ++ counted_text count)

abbrev pub unanswered_text : ℕ → List ℕ
unanswered_text count = codes "exhash: requests begun and not answered" ++ counted_text count

-- of pairs that found no room, and why
abbrev pub turned_away_text : ℕ → ℕ → List ℕ
turned_away_text count cap = codes "exhash: pairs that aren't in the file, a page having room for cap=" ++ (decimal cap ++ counted_text count)

abbrev pub spread_text : AnyKeyer → List ℕ
spread_text Plain = codes "exhash: keyer=plain parts keys by their first two and a half bytes alone\n"
spread_text Sha = codes "exhash: keyer=sha parts keys by two and a half bytes of a digest of theirs\n"

-- a number of the settings; its name has the `=` behind it
unfoldable pub setting_text : List ℕ → ℕ → List ℕ
setting_text name number = name ++ decimal number

-- the end of a line of a setting in the script: the opened file's
abbrev pub other_number_text : List ℕ → ℕ → List ℕ
other_number_text name opened = codes " in the script, " ++ (setting_text name opened ++ codes " in the opened file\n")

-- a setting that is another in the script than in the opened file
abbrev pub number_differs_text : List ℕ → ℕ → ℕ → List ℕ
number_differs_text name script opened = codes "exhash: " ++ (setting_text name script ++ other_number_text name opened)

abbrev pub keyer_words : AnyKeyer → List ℕ
keyer_words Plain = codes "keyer=plain"
keyer_words Sha = codes "keyer=sha"

abbrev pub keyer_differs_text : AnyKeyer → AnyKeyer → List ℕ
keyer_differs_text script opened = codes "exhash: " ++ (keyer_words script ++ (codes " in the script, " ++ (keyer_words opened ++ codes " in the opened file\n")))
