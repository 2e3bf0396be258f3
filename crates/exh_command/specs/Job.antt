-- The job that a command line names.
use Rattle.std.specs.Prelude.{◌≡◌, ◌≤◌, ◌==◌, ⊤, ℕ, Bool, true, false, ◌&&◌, ◌||◌, leb, List, [], ◌∷◌, Option, Some, None, IfSome, is_some, option_map, option_and_then, unwrap_or, codes, if◌then◌else◌}
use Rattle.std.specs.Str.{bytes_eq}
use Rattle.exh_page.specs.declared.page.TheConstants.{CAP_LIMIT}
use Rattle.exh_prefix.specs.declared.prefix.TheConstants.{WARD_BITS_LIMIT}
use Rattle.exh_keyer.specs.declared.any_keyer.AnyKeyer.{AnyKeyer}
use Rattle.exh_page.specs.Keyers.{keyer_named}
use Rattle.exh_text.specs.Numbers.{number_spelled}
use Rattle.exh_page.specs.StormConfig.{IsStormConfig}
use Rattle.exh_page.specs.declared.storm_config.StormConfig.{StormConfig}
use Rattle.exh_page.specs.declared.storm_config.TheConstants.{CALLERS_LIMIT, CALLS_LIMIT, COPIES_LIMIT}
use Rattle.exh_request.specs.declared.command_words.TheConstants.{BACKUP, COMPACT, CREATE, DEL, EXPORT, GET, IMPORT, PUT, SALVAGE, STATS, SWAP}
use Rattle.exh_command.specs.Words.{Use, flags_and_path, new_path_name, path_name, path_named, uses_and_path, uses_and_two_paths, uses_named, option_given, word_perhaps}
use Rattle.exh_command.specs.declared.job.Job.{Job}
use Rattle.exh_command.specs.declared.load_way.LoadWay.{LoadWay}
use Rattle.exh_command.specs.declared.load_way.LoadWay.TheVariants.{Short, Long, Into}
use Rattle.exh_command.specs.declared.page_file_version.PageFileVersion.{PageFileVersion}
use Rattle.exh_command.specs.declared.page_file_version.PageFileVersion.TheVariants.{Second, Third}
use Rattle.exh_command.specs.declared.job.Job.TheVariants as jobs

-- the texts of a storm's numbers, where they were given
pub record StormTexts : Type 0 where
  pub callers : Option (List ℕ)
  pub calls : Option (List ℕ)
  pub cap : Option (List ℕ)
  pub wards : Option (List ℕ)
  pub copies : Option (List ℕ)

-- the texts of the settings of a text of pairs, where they were given
pub record PairsTexts : Type 0 where
  pub cap : Option (List ℕ)
  pub wards : Option (List ℕ)
  pub keyer : Option (List ℕ)

-- a command, with the texts of its paths and numbers
pub data Asked : Type 0 where
  -- the file to open, and where to save
  Serve : Option (List ℕ) → Option (List ℕ) → Asked
  Check : List ℕ → Asked
  Dump : List ℕ → Asked
  -- the file, and whether each of the two flags is there
  Load : List ℕ → Bool → Bool → Asked
  Storm : StormTexts → Asked
  -- the file, and the settings that its text is to begin with
  Pairs : List ℕ → PairsTexts → Asked
  -- the file, the new one, and the number of its version
  Convert : List ℕ → List ℕ → Option (List ℕ) → Asked
  Version : Asked
  -- the command that the manual is to tell of
  Manual : Option (List ℕ) → Asked

-- a job, with the texts of its paths and its numbers
pub data Named : Type 0 where
  Serving : Option (List ℕ) → Option (List ℕ) → Named
  Checking : List ℕ → Named
  Dumping : List ℕ → Named
  Loading : List ℕ → LoadWay → Named
  Storming : StormConfig → Named
  -- the cap, the ward bits and the keyer that were given
  Pairing : List ℕ → Option ℕ → Option ℕ → Option AnyKeyer → Named
  Converting : List ℕ → List ℕ → PageFileVersion → Named
  TellingVersion : Named
  TellingManual : Option (List ℕ) → Named

abbrev pub named_of : Job → Named
named_of (jobs.Serve opened saved) = Serving (option_map (λ path. path.now) opened) (option_map (λ path. path.now) saved)
named_of (jobs.Check path) = Checking path.now
named_of (jobs.Dump path) = Dumping path.now
named_of (jobs.Load path way) = Loading path.now way
named_of (jobs.Storm config) = Storming config
named_of (jobs.Pairs path cap ward_bits keyer) = Pairing path.now cap ward_bits keyer
named_of (jobs.Convert path new version) = Converting path.now new.now version
named_of jobs.Version = TellingVersion
named_of (jobs.Manual command) = TellingManual (option_map (λ word. word.now) command)

-- the numbers of a storm and those of a text of pairs are within the limits
abbrev pub IsWithinLimits : Job → Type 0
IsWithinLimits (jobs.Serve opened saved) = ⊤
IsWithinLimits (jobs.Check path) = ⊤
IsWithinLimits (jobs.Dump path) = ⊤
IsWithinLimits (jobs.Load path way) = ⊤
IsWithinLimits (jobs.Storm config) = IsStormConfig config
IsWithinLimits (jobs.Pairs path cap ward_bits keyer) = IfSome cap (λ cap. (1 ≤ cap) × (cap ≤ CAP_LIMIT)) × IfSome ward_bits (λ bits. bits ≤ WARD_BITS_LIMIT)
IsWithinLimits (jobs.Convert path new version) = ⊤
IsWithinLimits jobs.Version = ⊤
IsWithinLimits (jobs.Manual command) = ⊤

-- ---- the words behind a command

-- `serve` takes two options
abbrev pub open_name : List ℕ
open_name = codes "open"

abbrev pub save_name : List ℕ
save_name = codes "save"

abbrev pub serve_names : List (List ℕ)
serve_names = open_name ∷ save_name ∷ []

abbrev pub served_by : List Use → Asked
served_by uses = Serve (option_given open_name uses) (option_given save_name uses)

abbrev pub serve_asked : List (List ℕ) → Option Asked
serve_asked words = option_map served_by (uses_named serve_names words)

-- `load` takes a path, and two flags
abbrev pub long_name : List ℕ
long_name = codes "long"

abbrev pub into_name : List ℕ
into_name = codes "into"

abbrev pub load_flags : List (List ℕ)
load_flags = long_name ∷ into_name ∷ []

abbrev pub loaded_by : List Use → Asked
loaded_by uses = Load (unwrap_or (option_given path_name uses) []) (is_some (option_given long_name uses)) (is_some (option_given into_name uses))

abbrev pub load_asked : List (List ℕ) → Option Asked
load_asked words = option_map loaded_by (flags_and_path load_flags words)

-- `storm` takes five
abbrev pub callers_name : List ℕ
callers_name = codes "callers"

abbrev pub calls_name : List ℕ
calls_name = codes "calls"

abbrev pub cap_name : List ℕ
cap_name = codes "cap"

abbrev pub wards_name : List ℕ
wards_name = codes "wards"

abbrev pub copies_name : List ℕ
copies_name = codes "copies"

abbrev pub storm_names : List (List ℕ)
storm_names = callers_name ∷ calls_name ∷ cap_name ∷ wards_name ∷ copies_name ∷ []

abbrev pub stormed_by : List Use → Asked
stormed_by uses = Storm (record {
  callers = option_given callers_name uses;
  calls = option_given calls_name uses;
  cap = option_given cap_name uses;
  wards = option_given wards_name uses;
  copies = option_given copies_name uses;
})

abbrev pub storm_asked : List (List ℕ) → Option Asked
storm_asked words = option_map stormed_by (uses_named storm_names words)

-- `pairs` takes a path, and three options
abbrev pub keyer_name : List ℕ
keyer_name = codes "keyer"

abbrev pub pairs_names : List (List ℕ)
pairs_names = cap_name ∷ wards_name ∷ keyer_name ∷ []

abbrev pub paired_by : List Use → Asked
paired_by uses = Pairs (unwrap_or (option_given path_name uses) []) (record {
  cap = option_given cap_name uses;
  wards = option_given wards_name uses;
  keyer = option_given keyer_name uses;
})

abbrev pub pairs_asked : List (List ℕ) → Option Asked
pairs_asked words = option_map paired_by (uses_and_path pairs_names words)

-- `convert` takes a path, a new one, and an option
abbrev pub version_name : List ℕ
version_name = codes "version"

abbrev pub convert_names : List (List ℕ)
convert_names = version_name ∷ []

abbrev pub converted_by : List Use → Asked
converted_by uses = Convert (unwrap_or (option_given path_name uses) []) (unwrap_or (option_given new_path_name uses) []) (option_given version_name uses)

abbrev pub convert_asked : List (List ℕ) → Option Asked
convert_asked words = option_map converted_by (uses_and_two_paths convert_names words)

-- `version` takes nothing
abbrev pub versioned_by : List Use → Asked
versioned_by uses = Version

abbrev pub version_asked : List (List ℕ) → Option Asked
version_asked words = option_map versioned_by (uses_named [] words)

-- `manual` takes a word, or none
abbrev pub manual_asked : List (List ℕ) → Option Asked
manual_asked words = option_map Manual (word_perhaps words)

-- ---- a whole command line

-- the program's name, a command, and the command's own words
abbrev pub asked_by : List (List ℕ) → Option Asked
asked_by [] = None
asked_by (program ∷ []) = None
asked_by (program ∷ command ∷ rest) =
    if bytes_eq (codes "serve") command then serve_asked rest
    else (if bytes_eq (codes "check") command then option_map Check (path_named rest)
    else (if bytes_eq (codes "dump") command then option_map Dump (path_named rest)
    else (if bytes_eq (codes "load") command then load_asked rest
    else (if bytes_eq (codes "storm") command then storm_asked rest
    else (if bytes_eq (codes "pairs") command then pairs_asked rest
    else (if bytes_eq (codes "convert") command then convert_asked rest
    else (if bytes_eq (codes "version") command then version_asked rest
    else (if bytes_eq (codes "manual") command then manual_asked rest else None))))))))

-- ---- the numbers of a storm

-- from the least to the greatest
abbrev pub within : ℕ → ℕ → ℕ → Option ℕ
within least greatest number = if leb least number && leb number greatest then Some number else None

-- the number that a text spells, within its range; or the usual one, where there is no text
abbrev pub number_of : ℕ → ℕ → ℕ → Option (List ℕ) → Option ℕ
number_of usual least greatest None = Some usual
number_of usual least greatest (Some word) = option_and_then (within least greatest) (number_spelled word)

abbrev pub storm_of : StormTexts → Option StormConfig
storm_of texts =
    option_and_then (λ callers.
    option_and_then (λ calls.
    option_and_then (λ cap.
    option_and_then (λ wards.
    option_and_then (λ copies. Some (record { callers = callers; calls = calls; cap = cap; ward_bits = wards; copies = copies }))
    (number_of 2 1 COPIES_LIMIT texts.copies))
    (number_of 0 0 WARD_BITS_LIMIT texts.wards))
    (number_of 2 1 CAP_LIMIT texts.cap))
    (number_of 100 1 CALLS_LIMIT texts.calls))
    (number_of 2 1 CALLERS_LIMIT texts.callers)

-- ---- the settings of a text of pairs

-- a number within its range, or none, where there is no text
abbrev pub number_given : ℕ → ℕ → Option (List ℕ) → Option (Option ℕ)
number_given least greatest None = Some None
number_given least greatest (Some word) = option_map (λ number. Some number) (option_and_then (within least greatest) (number_spelled word))

abbrev pub keyer_given : Option (List ℕ) → Option (Option AnyKeyer)
keyer_given None = Some None
keyer_given (Some word) = option_map (λ keyer. Some keyer) (keyer_named word)

abbrev pub pairing_of : List ℕ → PairsTexts → Option Named
pairing_of path texts =
    option_and_then (λ cap.
    option_and_then (λ bits.
    option_and_then (λ keyer. Some (Pairing path cap bits keyer))
    (keyer_given texts.keyer))
    (number_given 0 WARD_BITS_LIMIT texts.wards))
    (number_given 1 CAP_LIMIT texts.cap)

-- ---- the commands of which the manual tells

abbrev pub is_command_name : List ℕ → Bool
is_command_name word =
    bytes_eq word (codes "serve") || bytes_eq word (codes "check") || bytes_eq word (codes "dump") || bytes_eq word (codes "load")
    || bytes_eq word (codes "storm") || bytes_eq word GET.now || bytes_eq word PUT.now || bytes_eq word DEL.now
    || bytes_eq word SWAP.now || bytes_eq word (codes "pairs") || bytes_eq word (codes "convert") || bytes_eq word CREATE.now
    || bytes_eq word BACKUP.now || bytes_eq word IMPORT.now || bytes_eq word EXPORT.now || bytes_eq word COMPACT.now
    || bytes_eq word STATS.now || bytes_eq word SALVAGE.now || bytes_eq word (codes "version") || bytes_eq word (codes "manual")

abbrev pub manual_of : Option (List ℕ) → Option Named
manual_of None = Some (TellingManual None)
manual_of (Some word) = if is_command_name word then Some (TellingManual (Some word)) else None

-- ---- the version of a new page file

abbrev pub version_numbered : ℕ → Option PageFileVersion
version_numbered number = if number == 2 then Some Second else (if number == 3 then Some Third else None)

-- that of the number that a text spells, or the third, where there is no text
abbrev pub version_of : Option (List ℕ) → Option PageFileVersion
version_of None = Some Third
version_of (Some word) = option_and_then version_numbered (number_spelled word)

-- ---- the way of a load

-- as one of the flags says, or neither; both of them say none
abbrev pub way_of : Bool → Bool → Option LoadWay
way_of false false = Some Short
way_of true false = Some Long
way_of false true = Some Into
way_of true true = None

-- the job that a command comes to: of a load where its flags say a way, of a storm and of pairs where all their numbers and keyers are some, of a conversion where its version is one, of the manual where its word is a command
abbrev pub job_asked : Asked → Option Named
job_asked (Serve opened saved) = Some (Serving opened saved)
job_asked (Check path) = Some (Checking path)
job_asked (Dump path) = Some (Dumping path)
job_asked (Load path long into) = option_map (Loading path) (way_of long into)
job_asked (Storm texts) = option_map Storming (storm_of texts)
job_asked (Pairs path texts) = pairing_of path texts
job_asked (Convert path new version) = option_map (Converting path new) (version_of version)
job_asked Version = Some TellingVersion
job_asked (Manual command) = manual_of command

-- the job that the words of a command line name
abbrev pub job_named : List (List ℕ) → Option Named
job_named words = option_and_then job_asked (asked_by words)

-- words that ask for the program's version and name no job: `--version` alone behind its name
abbrev pub AskForVersion : List (List ℕ) → Type 0
AskForVersion words = (program : List ℕ) × (words ≡ program ∷ codes "--version" ∷ [])

-- the command that is asked for
abbrev pub command_of : Asked → List ℕ
command_of (Serve opened saved) = codes "serve"
command_of (Check path) = codes "check"
command_of (Dump path) = codes "dump"
command_of (Load path long into) = codes "load"
command_of (Storm texts) = codes "storm"
command_of (Pairs path texts) = codes "pairs"
command_of (Convert path new version) = codes "convert"
command_of Version = codes "version"
command_of (Manual command) = codes "manual"
