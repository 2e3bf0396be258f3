-- The request that the words of a command line ask for.
use Rattle.std.specs.Prelude.{◌≡◌, ◌&&◌, ◌||◌, ⊤, ℕ, Bool, true, false, not, List, [], ◌∷◌, length, nat_lt, Option, Some, None, is_some, option_map, Result, Ok, Err, codes, if◌then◌else◌}
use Rattle.std.specs.Str.{bytes_eq, is_utf8}
use Rattle.exh_keyer.specs.declared.any_keyer.AnyKeyer.{AnyKeyer}
use Rattle.exh_page.specs.declared.file_settings.FileSettings.{FileSettings}
use Rattle.exh_request.specs.declared.action.Action.{Action}
use Rattle.exh_request.specs.declared.action.Action.TheVariants as actions
use Rattle.exh_request.specs.declared.everyday_command.EverydayCommand.{EverydayCommand}
use Rattle.exh_request.specs.declared.everyday_command.EverydayCommand.TheVariants.{Create, Get, Put, Del, Swap, Backup, Import, Export, Compact, Stats, Salvage}
use Rattle.exh_request.specs.declared.command_option.CommandOption.{CommandOption}
use Rattle.exh_request.specs.declared.command_option.CommandOption.TheVariants as option
use Rattle.exh_request.specs.declared.form.Form.{Form}
use Rattle.exh_request.specs.declared.given_settings.GivenSettings.{GivenSettings}
use Rattle.exh_request.specs.declared.import_words.ImportWords.{ImportWords}
use Rattle.exh_request.specs.declared.given_texts.GivenTexts.{GivenTexts}
use Rattle.exh_pair_text.specs.declared.pair_format.PairFormat.{PairFormat}
use Rattle.exh_pair_text.specs.declared.pair_format.PairFormat.TheVariants.{Csv, Jsonl}
use Rattle.exh_request.specs.declared.keys.Keys.{Keys}
use Rattle.exh_request.specs.declared.keys.Keys.TheVariants as keys
use Rattle.exh_request.specs.declared.new_value.NewValue.{NewValue}
use Rattle.exh_request.specs.declared.new_value.NewValue.TheVariants as values
use Rattle.exh_request.specs.declared.options.Options.{Options}
use Rattle.exh_request.specs.declared.place.Place.{Place}
use Rattle.exh_request.specs.declared.place.Place.TheVariants as at
use Rattle.exh_request.specs.declared.put_when.PutWhen.{PutWhen}
use Rattle.exh_request.specs.declared.request.Request.{Request}
use Rattle.exh_request.specs.declared.fault.RequestFault.{RequestFault}
use Rattle.exh_request.specs.declared.fault.RequestFault.TheVariants as faults
use Rattle.exh_request.specs.declared.wrong_request.WrongCause.{WrongCause}
use Rattle.exh_request.specs.declared.wrong_request.WrongCause.TheVariants.{BadValue, HeaderOfNone, Missing, NamesOfNone, OneName, PathNotText, RawKeys, SettingsOfNone, TooMany}
use Rattle.exh_request.specs.Arguments.{key_asked, value_asked}
use Rattle.exh_request.specs.Causes.{◌>>=◌}
use Rattle.exh_request.specs.Commands.{command_named}
use Rattle.exh_request.specs.Line.{PlacedWord, UsedOption, line_asked}
use Rattle.exh_request.specs.Options.{is_given, new_settings, options_asked}
use Rattle.exh_request.specs.Uses.{value_given}

-- ---- what is asked for, with the texts of its paths

pub data KeysText : Type 0 where
  OneKey : List ℕ → KeysText
  SeveralKeys : List (List ℕ) → KeysText
  InputKeys : KeysText

-- the path of the file that names lines, and the names of a key's column and a value's
pub record TextsGiven : Type 0 where
  pub rejects : Option (List ℕ)
  pub key : Option (List ℕ)
  pub value : Option (List ℕ)

pub data ActionText : Type 0 where
  Creating : FileSettings AnyKeyer → ActionText
  Getting : KeysText → ActionText
  Putting : List ℕ → NewValue → PutWhen → ActionText
  Deleting : KeysText → ActionText
  Swapping : List ℕ → List ℕ → List ℕ → ActionText
  Copying : List ℕ → ActionText
  Importing : ImportWords → TextsGiven → ActionText
  Exporting : PairFormat → Bool → ActionText
  Compacting : GivenSettings → ActionText
  Counting : Bool → ActionText
  Salvaging : PairFormat → Bool → ActionText

pub record RequestText : Type 0 where
  pub path : List ℕ
  pub action : ActionText
  pub wait : ℕ
  pub form : Form

-- the same of a request as the program has it
abbrev pub keys_text : Keys → KeysText
keys_text (keys.One key) = OneKey key
keys_text (keys.Several several) = SeveralKeys several.items
keys_text keys.Input = InputKeys

abbrev pub texts_text : GivenTexts → TextsGiven
texts_text texts = record {
  rejects = option_map (λ path. path.now) texts.rejects;
  key = option_map (λ name. name.now) texts.key;
  value = option_map (λ name. name.now) texts.value;
}

abbrev pub action_text : Action → ActionText
action_text (actions.Create settings) = Creating settings
action_text (actions.Get which) = Getting (keys_text which)
action_text (actions.Put key value when) = Putting key value when
action_text (actions.Del which) = Deleting (keys_text which)
action_text (actions.Swap key old new) = Swapping key old new
action_text (actions.Backup new) = Copying new.now
action_text (actions.Import words texts) = Importing words (texts_text texts)
action_text (actions.Export format bare) = Exporting format bare
action_text (actions.Compact given) = Compacting given
action_text (actions.Stats json) = Counting json
action_text (actions.Salvage format bare) = Salvaging format bare

abbrev pub request_text : Request → RequestText
request_text request = record { path = request.path.now; action = action_text request.action; wait = request.wait; form = request.form }

-- ---- the words at the places of each command

-- a path is UTF-8
abbrev pub path_asked : Place → List ℕ → Result (List ℕ) WrongCause
path_asked place word = if is_utf8 word then Ok word else Err (PathNotText place)

-- each key in its order
abbrev pub several_asked : Bool → List PlacedWord → Result (List (List ℕ)) WrongCause
several_asked is_hex [] = Ok []
several_asked is_hex (one ∷ rest) = key_asked is_hex one.word >>= λ key. several_asked is_hex rest >>= λ others. Ok (key ∷ others)

-- the keys of a get or a del: one, or several, or those on standard input, where there is none among the words
abbrev pub keys_named : Bool → List PlacedWord → Result KeysText WrongCause
keys_named is_hex [] = Err (Missing at.Key)
keys_named is_hex (one ∷ []) = key_asked is_hex one.word >>= λ key. Ok (OneKey key)
keys_named is_hex (one ∷ next ∷ rest) = several_asked is_hex (one ∷ next ∷ rest) >>= λ several. Ok (SeveralKeys several)

abbrev pub keys_on_input : List PlacedWord → Result KeysText WrongCause
keys_on_input [] = Ok InputKeys
keys_on_input (one ∷ rest) = Err TooMany

-- `--raw` is of one key
abbrev pub keys_asked : Options → List PlacedWord → Result KeysText WrongCause
keys_asked options places =
    if options.form.is_raw && (options.is_from || nat_lt 1 (length places)) then Err RawKeys
    else (if options.is_from then keys_on_input places else keys_named options.form.is_hex places)

-- a value is standard input's where it is `-`, and doesn't stand behind `--`
abbrev pub new_value_asked : Bool → PlacedWord → Result NewValue WrongCause
new_value_asked is_hex one =
    if bytes_eq one.word (codes "-") && not one.is_behind then Ok values.Input
    else value_asked at.Value is_hex one.word >>= λ value. Ok (values.Word value)

abbrev pub put_of : Options → PlacedWord → PlacedWord → Result ActionText WrongCause
put_of options key value = do
  k ← key_asked options.form.is_hex key.word
  v ← new_value_asked options.form.is_hex value
  Ok (Putting k v options.when)

abbrev pub put_asked : Options → List PlacedWord → Result ActionText WrongCause
put_asked options [] = Err (Missing at.Key)
put_asked options (key ∷ []) = Err (Missing at.Value)
put_asked options (key ∷ value ∷ []) = put_of options key value
put_asked options (key ∷ value ∷ next ∷ rest) = Err TooMany

abbrev pub swap_of : Bool → PlacedWord → PlacedWord → PlacedWord → Result ActionText WrongCause
swap_of is_hex key old new = do
  k ← key_asked is_hex key.word
  o ← value_asked at.Old is_hex old.word
  n ← value_asked at.New is_hex new.word
  Ok (Swapping k o n)

abbrev pub swap_asked : Bool → List PlacedWord → Result ActionText WrongCause
swap_asked is_hex [] = Err (Missing at.Key)
swap_asked is_hex (key ∷ []) = Err (Missing at.Old)
swap_asked is_hex (key ∷ old ∷ []) = Err (Missing at.New)
swap_asked is_hex (key ∷ old ∷ new ∷ []) = swap_of is_hex key old new
swap_asked is_hex (key ∷ old ∷ new ∷ next ∷ rest) = Err TooMany

abbrev pub create_asked : Options → List PlacedWord → Result ActionText WrongCause
create_asked options [] = Ok (Creating (new_settings options.given))
create_asked options (one ∷ rest) = Err TooMany

abbrev pub backup_asked : List PlacedWord → Result ActionText WrongCause
backup_asked [] = Err (Missing at.NewPath)
backup_asked (new ∷ []) = path_asked at.NewPath new.word >>= λ path. Ok (Copying path)
backup_asked (new ∷ next ∷ rest) = Err TooMany

-- settings are those of a file that is made
abbrev pub made_by : Options → Option (FileSettings AnyKeyer)
made_by options = if options.is_create then Some (new_settings options.given) else None

abbrev pub words_of : Options → ImportWords
words_of options = record { format = options.format; has_header = options.has_header; is_atomic = options.is_atomic; create = made_by options }

-- What is wrong with a header and with names, by whether these are given: a header is one of comma-separated fields, and names are
-- those of its columns, of both or of none, or of the fields of objects.
abbrev pub names_wrong : PairFormat → Bool → Bool → Bool → Option WrongCause
names_wrong Jsonl false key value = None
names_wrong Csv true true true = None
names_wrong Csv true false false = None
names_wrong Csv true key value = Some OneName
names_wrong format true key value = Some HeaderOfNone
names_wrong format false false false = None
names_wrong format false key value = Some NamesOfNone

abbrev pub unless : Option WrongCause → Result ActionText WrongCause → Result ActionText WrongCause
unless None asked = asked
unless (Some cause) asked = Err cause

abbrev pub import_of : Options → TextsGiven → Result ActionText WrongCause
import_of options texts =
    if is_given options.given && not options.is_create then Err SettingsOfNone
    else unless (names_wrong options.format options.has_header (is_some texts.key) (is_some texts.value)) (Ok (Importing (words_of options) texts))

abbrev pub import_asked : Options → TextsGiven → List PlacedWord → Result ActionText WrongCause
import_asked options texts [] = import_of options texts
import_asked options texts (one ∷ rest) = Err TooMany

-- the text that is an option's value
abbrev pub text_by : CommandOption → Result (List ℕ) WrongCause → Result (Option (List ℕ)) WrongCause
text_by option (Ok text) = Ok (Some text)
text_by option (Err cause) = Err (BadValue option)

abbrev pub text_asked : CommandOption → Option (List ℕ) → Result (Option (List ℕ)) WrongCause
text_asked option None = Ok None
text_asked option (Some word) = text_by option (path_asked at.Path word)

abbrev pub texts_asked : List UsedOption → Result TextsGiven WrongCause
texts_asked uses = do
  rejects ← text_asked option.Rejects (value_given option.Rejects uses)
  key ← text_asked option.Key (value_given option.Key uses)
  value ← text_asked option.Value (value_given option.Value uses)
  Ok (record { rejects = rejects; key = key; value = value })

abbrev pub export_asked : Options → List PlacedWord → Result ActionText WrongCause
export_asked options [] = Ok (Exporting options.format options.is_bare)
export_asked options (one ∷ rest) = Err TooMany

abbrev pub compact_asked : Options → List PlacedWord → Result ActionText WrongCause
compact_asked options [] = Ok (Compacting options.given)
compact_asked options (one ∷ rest) = Err TooMany

abbrev pub stats_asked : Options → List PlacedWord → Result ActionText WrongCause
stats_asked options [] = Ok (Counting options.is_json)
stats_asked options (one ∷ rest) = Err TooMany

abbrev pub salvage_asked : Options → List PlacedWord → Result ActionText WrongCause
salvage_asked options [] = Ok (Salvaging options.format options.is_bare)
salvage_asked options (one ∷ rest) = Err TooMany

-- what the command does, by the texts that options give, and the words behind its path
abbrev pub action_asked : EverydayCommand → Options → TextsGiven → List PlacedWord → Result ActionText WrongCause
action_asked Create options texts places = create_asked options places
action_asked Get options texts places = keys_asked options places >>= λ which. Ok (Getting which)
action_asked Put options texts places = put_asked options places
action_asked Del options texts places = keys_asked options places >>= λ which. Ok (Deleting which)
action_asked Swap options texts places = swap_asked options.form.is_hex places
action_asked Backup options texts places = backup_asked places
action_asked Import options texts places = import_asked options texts places
action_asked Export options texts places = export_asked options places
action_asked Compact options texts places = compact_asked options places
action_asked Stats options texts places = stats_asked options places
action_asked Salvage options texts places = salvage_asked options places

-- ---- the words behind a command

-- the path is the first word at a place
abbrev pub request_at : EverydayCommand → Options → List UsedOption → List PlacedWord → Result RequestText WrongCause
request_at command options uses [] = Err (Missing at.Path)
request_at command options uses (path ∷ places) = do
  name ← path_asked at.Path path.word
  texts ← texts_asked uses
  action ← action_asked command options texts places
  Ok (record { path = name; action = action; wait = options.wait; form = options.form })

unfoldable pub request_behind : EverydayCommand → List (List ℕ) → Result RequestText WrongCause
request_behind command words = do
  line ← line_asked command words
  options ← options_asked line.uses
  request_at command options line.uses line.places

-- `--help` or `-h` before a `--` asks for help
abbrev pub is_help : List ℕ → Bool
is_help word = bytes_eq word (codes "--help") || bytes_eq word (codes "-h")

abbrev pub ask_for_help : List (List ℕ) → Bool
ask_for_help [] = false
ask_for_help (word ∷ rest) =
    if bytes_eq word (codes "--") then false
    else (if is_help word then true else ask_for_help rest)

-- ---- a whole command line

-- the everyday command that is called, and the words behind it, where these don't ask for help
abbrev pub called_by : Option EverydayCommand → List (List ℕ) → Option (EverydayCommand × List (List ℕ))
called_by None rest = None
called_by (Some command) rest = if ask_for_help rest then None else Some (command, rest)

-- the program's name, a command, and the words behind it
abbrev pub called : List (List ℕ) → Option (EverydayCommand × List (List ℕ))
called [] = None
called (program ∷ []) = None
called (program ∷ word ∷ rest) = called_by (command_named word) rest

-- the command of which help is asked
abbrev pub help_by : Option EverydayCommand → List (List ℕ) → Option EverydayCommand
help_by None rest = None
help_by (Some command) rest = if ask_for_help rest then Some command else None

abbrev pub help_of : List (List ℕ) → Option EverydayCommand
help_of [] = None
help_of (program ∷ []) = None
help_of (program ∷ word ∷ rest) = help_by (command_named word) rest

-- none is answered where no everyday command is called; else the request that is asked for, or what is wrong with the words, want of memory aside
abbrev pub IsAnswered : Option (EverydayCommand × List (List ℕ)) → Option (Result Request RequestFault) → Type 0
IsAnswered None None = ⊤
IsAnswered None (Some answer) = ⊥
IsAnswered (Some call) None = ⊥
IsAnswered (Some call) (Some (Ok request)) = request_behind call.0 call.1 ≡ Ok (request_text request)
IsAnswered (Some call) (Some (Err (faults.Wrong wrong))) = (wrong.command ≡ call.0) × (request_behind call.0 call.1 ≡ Err wrong.cause)
IsAnswered (Some call) (Some (Err faults.Memory)) = ⊤
