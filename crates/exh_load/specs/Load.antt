-- What a load of a whole text prints, and the maps that it leaves.
use Rattle.std.specs.Prelude.{◌≡◌, ◌⊎◌, ◌^◌, ◌-◌, ℕ, Bool, true, false, List, [], ◌∷◌, ◌++◌, length, replicate, nat_le, if◌then◌else◌, decimal, codes, Option, Some, None, IfSome, Result, Ok, Err}
use Rattle.std.specs.List.{sum_by}
use Rattle.std.specs.Option.{option_map}
use Rattle.std.specs.FinMap as fin
use Rattle.exh_keyer.specs.declared.any_keyer.AnyKeyer.{AnyKeyer}
use Rattle.exh_calls.specs.declared.reply.Reply.{Reply}
use Rattle.exh_calls.specs.declared.reply.Reply.TheVariants.{New}
use Rattle.exh_text.specs.LineFault.{line_fault_number}
use Rattle.exh_text.specs.TextLines.{lines_of}
use Rattle.exh_text.specs.declared.line_fault.LineFault.{LineFault}
use Rattle.exh_stream.specs.Output.{Takes}
use Rattle.exh_stream.specs.declared.output.Output.{Output}
use Rattle.exh_page.specs.Config.{file_settings}
use Rattle.exh_page.specs.declared.config.Config.{Config}
use Rattle.exh_text.specs.FileLine.{file_line_of}
use Rattle.exh_text.specs.declared.settings.Settings.{Settings}
use Rattle.exh_page.specs.FileSettings.{are_same}
use Rattle.exh_file.specs.Opened.{OpenedState, settings_in}
use Rattle.exh_load.specs.Loader.{IsLoading, LoaderState}
use Rattle.exh_load.specs.Loading.{Loading, loaded_from, loading_in, loading_of, load_text_from}

-- a new file, where no ward has a record
abbrev pub empty_loading : ℕ → ℕ → AnyKeyer → Loading
empty_loading cap ward_bits keyer = record { cap = cap; ward_bits = ward_bits; keyer = keyer; maps = replicate (2 ^ ward_bits) fin.empty }

abbrev pub new_loading : Config AnyKeyer → Loading
new_loading file = empty_loading file.cap file.ward_bits file.keyer

-- how many records there are
abbrev pub record_count : Loading → ℕ
record_count loading = sum_by fin.len loading.maps

-- ---- what a first line begins

-- the maps that are there before the pairs, by the settings of the first line; or the number of its refusal
abbrev pub Beginning : Type 0
Beginning = Config AnyKeyer → Result Loading ℕ

abbrev pub new_file : Beginning
new_file file = Ok (new_loading file)

-- the maps of an opened file where the settings are its own, with any number of copies
abbrev pub opened_file : OpenedState → Beginning
opened_file opened file = if are_same (settings_in opened) (file_settings file) then Ok (loading_in opened) else Err 63

-- over an opened file, or over a new one
abbrev pub beginning : Option OpenedState → Beginning
beginning None = new_file
beginning (Some opened) = opened_file opened

-- ---- a load

-- what is printed, and what the file has that comes out, if one does
pub record Load : Type 0 where
  pub printed : List ℕ
  pub left : Option Loading

-- a line of a word and a number
abbrev pub number_line : List ℕ → ℕ → List ℕ
number_line word number = word ++ (decimal number ++ codes "\n")

-- the number of a refusal alone
abbrev pub refused : ℕ → Load
refused number = record { printed = number_line (codes "refused ") number; left = None }

-- a load, and a text before what it prints
abbrev pub behind : List ℕ → Load → Load
behind text load = record { printed = text ++ load.printed; left = load.left }

-- what comes behind the text of lines, by the maps before them and after them, and in place of all where there is no line
pub record Ending : Type 0 where
  pub none : Load
  pub after : Loading → Loading → Load

-- at the end of a text: how many records there are more, and the file; without a line the first is wrong
abbrev pub at_end : Ending
at_end = record { none = refused 60; after = λ first last. record { printed = number_line (codes "loaded ") (record_count last - record_count first); left = Some last } }

module _ (ending : Ending) where
  -- lines that are put over maps
  abbrev pub loaded : Loading → List (List ℕ) → Load
  loaded first lines = behind (load_text_from first lines) (ending.after first (loaded_from first lines))

  abbrev pub load_begun : Result Loading ℕ → List (List ℕ) → Load
  load_begun (Ok first) lines = loaded first lines
  load_begun (Err number) lines = refused number

  module _ (begin : Beginning) where
    abbrev pub load_after : Result Settings LineFault → List (List ℕ) → Load
    load_after (Ok settings) lines = load_begun (begin settings.file) lines
    load_after (Err fault) lines = refused (line_fault_number fault)

    abbrev pub load_of_lines : List (List ℕ) → Load
    load_of_lines [] = ending.none
    load_of_lines (first ∷ lines) = load_after (file_line_of first) lines

-- of a text of at most so many bytes: a longer one is refused
unfoldable pub load_of : Beginning → ℕ → List ℕ → Load
load_of begin limit text = if nat_le (length text) limit then load_of_lines at_end begin (lines_of text) else refused 62

-- ---- a load of a reader

-- `of text` is the load of a text. `known` are the reader's bytes, where these are known.
module _ (of : List ℕ → Load) (known : Option (List ℕ)) where
  -- the load of a text, which is the reader's bytes
  pub record IsOfText (load : Load) : Type 0 where
    pub text : List ℕ
    pub read : IfSome known (λ bytes. text ≡ bytes)
    pub is : load ≡ of text

  -- that, or the load of a reader that failed
  abbrev pub IsLoadOf : Load → Type 0
  IsLoadOf load = IsOfText load ⊎ (load ≡ refused 41)

-- nothing, or bytes that end with a newline
abbrev pub AreWholeLines : List ℕ → Type 0
AreWholeLines bytes = (bytes ≡ []) ⊎ ((front : List ℕ) × (bytes ≡ front ++ codes "\n"))

-- `Is load` says that it is the load of what is read, `prints bytes` how bytes go out: that a writer holds them, or a beginning of them, or that an output took them.
module _ (Is : Load → Type 0) (prints : List ℕ → Type 0) where
  -- a load's text goes out
  pub record Prints : Type 0 where
    pub load : Load
    pub of_reader : Is load
    pub text : prints load.printed

  -- or a front of it, of whole lines
  pub record PrintsFront : Type 0 where
    pub load : Load
    pub of_reader : Is load
    pub front : List ℕ
    pub rest : List ℕ
    pub split : load.printed ≡ front ++ rest
    pub lines : AreWholeLines front
    pub text : prints front

  -- the text goes out, and the load's file comes out
  pub record Loads (file : Option OpenedState) : Type 0 where
    pub whole : Prints
    pub left : option_map loading_in file ≡ whole.load.left

-- ---- of private functions

-- the load of a reader, which failed or didn't: `refused 41` where it did, else the load of its text
abbrev pub IsLoadBy : (List ℕ → Load) → Option (List ℕ) → Bool → Load → Type 0
IsLoadBy of known true load = load ≡ refused 41
IsLoadBy of known false load = IsOfText of known load

-- the output takes a front of these bytes, of whole lines
pub record TakesFront {W : Type 0} (contents : W → Option (List ℕ)) (old new : Output W) (bytes : List ℕ) : Type 0 where
  pub front : List ℕ
  pub rest : List ℕ
  pub split : bytes ≡ front ++ rest
  pub lines : AreWholeLines front
  pub taken : Takes contents old new front

-- how many records more a reply tells of
abbrev pub new_count : Reply → ℕ
new_count New = 1
new_count reply = 0

-- the loader of what a first line begins, or none where it is refused
abbrev pub IsBegun : Result Loading ℕ → Option LoaderState → Type 0
IsBegun begun (Some loader) = (begun ≡ Ok (loading_of loader)) × IsLoading loader
IsBegun begun None = begun ≡ Err 63
