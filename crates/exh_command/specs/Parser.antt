-- What the parser of the command line does with words.
use Rattle.std.specs.Prelude.{◌≡◌, ◌↔◌, ⊤, ℕ, Bool, List, [], ◌∷◌, map, Some, IsSome, codes, true, false}
use Rattle.clap.specs.Words.{App, Row, Rule, Shape, fault_of, first_of, first_value, one_of, one_text, is_simple_and_free, new_rule, subcommand_of, subcommand_rows_of}
use Rattle.clap.specs.Simple.{new_shape}
use Rattle.clap.specs.declared.builder.action.ArgAction.TheVariants.{SetTrue}
use Rattle.clap.specs.declared.builder.command.Command.{Command}
use Rattle.clap.specs.declared.builder.command.Command.TheViews.{out-Command}
use Rattle.clap.specs.declared.parser.matches.ArgMatches.{ArgMatches}
use Rattle.clap.specs.declared.parser.matches.Found.{Found}
use Rattle.clap.specs.declared.error.kind.ErrorKind.TheVariants.{DisplayVersion}
use Rattle.exh_command.specs.Job.{Asked, Check, Convert, Dump, Load, Manual, Pairs, PairsTexts, Serve, Storm, StormTexts, Version, asked_by, callers_name, calls_name, cap_name, command_of, copies_name, into_name, keyer_name, long_name, open_name, save_name, version_name, wards_name}
use Rattle.exh_command.specs.Words.{flag_set}

-- ---- arguments

-- the word by which a path is called
abbrev pub path_id : List ℕ
path_id = codes "PATH"

abbrev pub path_rule : Rule
path_rule = record (new_rule path_id) { required = true }

-- the word by which a new path is called
abbrev pub new_id : List ℕ
new_id = codes "NEW"

-- the word by which the command is called of which the manual tells
abbrev pub command_id : List ℕ
command_id = codes "COMMAND"

-- a word that has to be there
abbrev pub word_rule : List ℕ → Rule
word_rule name = record (new_rule name) { required = true }

-- an option with one value
abbrev pub option_rule : List ℕ → Rule
option_rule name = record (new_rule name) { long = Some name; value_names = 1 }

-- a flag
abbrev pub flag_rule : List ℕ → Rule
flag_rule name = record (new_rule name) { long = Some name; action = Some SetTrue }

-- a command about one path
abbrev pub about_path : List ℕ → Shape
about_path name = record (new_shape name) { rules = path_rule ∷ [] }

-- a command with such options
abbrev pub with_options : List ℕ → List (List ℕ) → Shape
with_options name options = record (new_shape name) { rules = map option_rule options }

-- a command about a path, with such options
abbrev pub about_path_with : List ℕ → List (List ℕ) → Shape
about_path_with name options = record (new_shape name) { rules = path_rule ∷ map option_rule options }

-- and with such flags
abbrev pub about_path_flagged : List ℕ → List (List ℕ) → Shape
about_path_flagged name flags = record (new_shape name) { rules = path_rule ∷ map flag_rule flags }

-- a command about a path and a new one, with such options
abbrev pub about_two_paths_with : List ℕ → List (List ℕ) → Shape
about_two_paths_with name options = record (new_shape name) { rules = path_rule ∷ word_rule new_id ∷ map option_rule options }

-- a command about a word that need not be there
abbrev pub about_word_perhaps : List ℕ → List ℕ → Shape
about_word_perhaps name word = record (new_shape name) { rules = new_rule word ∷ [] }

-- a command without subcommands
abbrev pub only : Shape → App
only command = record { top = command; subs = [] }

-- no argument of the command is one of the commands below it
abbrev pub HasOwnArgs : Command → Type 0
HasOwnArgs command = (out-Command command).has_globals ≡ false

-- ---- the parser

-- what was met of a storm gives these texts
pub record HasTexts (texts : StormTexts) (rows : List Row) : Type 0 where
  pub callers : first_of callers_name rows ≡ texts.callers
  pub calls : first_of calls_name rows ≡ texts.calls
  pub cap : first_of cap_name rows ≡ texts.cap
  pub wards : first_of wards_name rows ≡ texts.wards
  pub copies : first_of copies_name rows ≡ texts.copies

-- what was met of pairs gives these texts
pub record HasPairsTexts (texts : PairsTexts) (rows : List Row) : Type 0 where
  pub cap : first_of cap_name rows ≡ texts.cap
  pub wards : first_of wards_name rows ≡ texts.wards
  pub keyer : first_of keyer_name rows ≡ texts.keyer

-- the text of a flag that is there, or isn't
abbrev pub flag_text : Bool → List ℕ
flag_text true = flag_set
flag_text false = codes "false"

-- what was met of a command gives these values
abbrev pub HasValues : Asked → List Row → Type 0
HasValues (Serve opened saved) rows = (first_of open_name rows ≡ opened) × (first_of save_name rows ≡ saved)
HasValues (Check path) rows = first_of path_id rows ≡ Some path
HasValues (Dump path) rows = first_of path_id rows ≡ Some path
HasValues (Load path long into) rows = (first_of path_id rows ≡ Some path) × (one_of long_name rows ≡ Some (flag_text long)) × (one_of into_name rows ≡ Some (flag_text into))
HasValues (Storm texts) rows = HasTexts texts rows
HasValues (Pairs path texts) rows = (first_of path_id rows ≡ Some path) × HasPairsTexts texts rows
HasValues (Convert path new version) rows = (first_of path_id rows ≡ Some path) × (first_of new_id rows ≡ Some new) × (first_of version_name rows ≡ version)
HasValues Version rows = ⊤
HasValues (Manual command) rows = first_of command_id rows ≡ command

-- the parser meets a command, and its values
pub record Meets (parser : App) (words : List (List ℕ)) (asked : Asked) : Type 0 where
  pub rows : List Row
  pub met : subcommand_of parser words ≡ Some (command_of asked, rows)
  pub values : HasValues asked rows

-- a parser that takes just the words that ask for a command, and there meets that command
pub record ReadsJobs (parser : App) : Type 0 where
  -- it is of the form of which clap says exactly when a parse fails and what it finds
  pub exact : is_simple_and_free parser ≡ true
  pub takes : (words : List (List ℕ)) → (fault_of parser words ≡ []) ↔ IsSome (asked_by words)
  pub meets : (words : List (List ℕ)) (asked : Asked) → asked_by words ≡ Some asked → Meets parser words asked
  -- `--version` alone asks for the version
  pub version : (name : List ℕ) → fault_of parser (name ∷ codes "--version" ∷ []) ≡ DisplayVersion ∷ []

-- a parse met a command, and its values
pub record IsJobMet (matches : ArgMatches) (asked : Asked) : Type 0 where
  pub rows : List Row
  pub met : subcommand_rows_of matches ≡ Some (command_of asked, rows)
  pub values : HasValues asked rows

-- and so of some command
abbrev pub IsSomeJobMet : ArgMatches → Type 0
IsSomeJobMet matches = (asked : Asked) × IsJobMet matches asked

-- the flags of a load were found, or not
abbrev pub HasFlags : Found → Bool → Bool → Type 0
HasFlags found long into = (one_text found long_name ≡ Some (flag_text long)) × (one_text found into_name ≡ Some (flag_text into))

-- the texts that were found for a storm's numbers
abbrev pub texts_of : Found → StormTexts
texts_of found = record {
  callers = first_value found callers_name;
  calls = first_value found calls_name;
  cap = first_value found cap_name;
  wards = first_value found wards_name;
  copies = first_value found copies_name;
}

-- and for the settings of a text of pairs
abbrev pub pairs_texts_of : Found → PairsTexts
pairs_texts_of found = record { cap = first_value found cap_name; wards = first_value found wards_name; keyer = first_value found keyer_name }
