-- The everyday commands, and their options.
use Rattle.std.specs.Prelude.{ℕ, Bool, true, false, List, Option, Some, None, codes, if◌then◌else◌}
use Rattle.std.specs.Str.{bytes_eq}
use Rattle.exh_request.specs.declared.command_words.TheConstants.{CREATE, GET, PUT, DEL, SWAP, BACKUP, IMPORT, EXPORT, COMPACT, STATS, SALVAGE}
use Rattle.exh_request.specs.declared.everyday_command.EverydayCommand.{EverydayCommand}
use Rattle.exh_request.specs.declared.everyday_command.EverydayCommand.TheVariants.{Create, Get, Put, Del, Swap, Backup, Import, Export, Compact, Stats, Salvage}
use Rattle.exh_request.specs.declared.command_option.CommandOption.{CommandOption}
use Rattle.exh_request.specs.declared.command_option.CommandOption.TheVariants as option

-- the command that a word calls
unfoldable pub command_named : List ℕ → Option EverydayCommand
command_named word =
    if bytes_eq word CREATE.now then Some Create
    else (if bytes_eq word BACKUP.now then Some Backup
    else (if bytes_eq word IMPORT.now then Some Import
    else (if bytes_eq word EXPORT.now then Some Export
    else (if bytes_eq word COMPACT.now then Some Compact
    else (if bytes_eq word STATS.now then Some Stats
    else (if bytes_eq word SALVAGE.now then Some Salvage
    else (if bytes_eq word GET.now then Some Get
    else (if bytes_eq word PUT.now then Some Put
    else (if bytes_eq word DEL.now then Some Del
    else (if bytes_eq word SWAP.now then Some Swap else None))))))))))

-- the option of a name, of those of texts and counts of pairs
unfoldable pub text_option_named : List ℕ → Option CommandOption
text_option_named name =
    if bytes_eq name (codes "format") then Some option.Format
    else (if bytes_eq name (codes "create") then Some option.Create
    else (if bytes_eq name (codes "atomic") then Some option.Atomic
    else (if bytes_eq name (codes "rejects") then Some option.Rejects
    else (if bytes_eq name (codes "header") then Some option.Header
    else (if bytes_eq name (codes "key") then Some option.Key
    else (if bytes_eq name (codes "value") then Some option.Value
    else (if bytes_eq name (codes "bare") then Some option.Bare
    else (if bytes_eq name (codes "json") then Some option.Json else None))))))))

-- of those of files, keys and values
unfoldable pub file_option_named : List ℕ → Option CommandOption
file_option_named name =
    if bytes_eq name (codes "replace") then Some option.Replace
    else (if bytes_eq name (codes "wait") then Some option.Wait
    else (if bytes_eq name (codes "hex") then Some option.Hex
    else (if bytes_eq name (codes "raw") then Some option.Raw
    else (if bytes_eq name (codes "new") then Some option.New
    else (if bytes_eq name (codes "from") then Some option.From
    else (if bytes_eq name (codes "cap") then Some option.Cap
    else (if bytes_eq name (codes "wards") then Some option.Wards
    else (if bytes_eq name (codes "keyer") then Some option.Keyer else None))))))))

-- the option of a name, without its two dashes
abbrev pub first_named : Option CommandOption → Option CommandOption → Option CommandOption
first_named None other = other
first_named (Some option) other = Some option

abbrev pub option_named : List ℕ → Option CommandOption
option_named name = first_named (text_option_named name) (file_option_named name)

abbrev pub is_same_option : CommandOption → CommandOption → Bool
is_same_option option.Wait option.Wait = true
is_same_option option.Hex option.Hex = true
is_same_option option.Raw option.Raw = true
is_same_option option.New option.New = true
is_same_option option.Replace option.Replace = true
is_same_option option.From option.From = true
is_same_option option.Cap option.Cap = true
is_same_option option.Wards option.Wards = true
is_same_option option.Keyer option.Keyer = true
is_same_option option.Format option.Format = true
is_same_option option.Create option.Create = true
is_same_option option.Atomic option.Atomic = true
is_same_option option.Rejects option.Rejects = true
is_same_option option.Header option.Header = true
is_same_option option.Key option.Key = true
is_same_option option.Value option.Value = true
is_same_option option.Bare option.Bare = true
is_same_option option.Json option.Json = true
is_same_option option other = false

-- a value belongs to the option
abbrev pub has_value : CommandOption → Bool
has_value option.Wait = true
has_value option.Hex = false
has_value option.Raw = false
has_value option.New = false
has_value option.Replace = false
has_value option.From = true
has_value option.Cap = true
has_value option.Wards = true
has_value option.Keyer = true
has_value option.Format = true
has_value option.Create = false
has_value option.Atomic = false
has_value option.Rejects = true
has_value option.Header = false
has_value option.Key = true
has_value option.Value = true
has_value option.Bare = false
has_value option.Json = false

-- the options of a command
abbrev pub takes : EverydayCommand → CommandOption → Bool
takes Salvage option.Wait = false
takes command option.Wait = true
takes Create option.Cap = true
takes Create option.Wards = true
takes Create option.Keyer = true
takes Get option.Hex = true
takes Get option.Raw = true
takes Get option.From = true
takes Put option.Hex = true
takes Put option.Raw = true
takes Put option.New = true
takes Put option.Replace = true
takes Del option.Hex = true
takes Del option.From = true
takes Swap option.Hex = true
takes Import option.Format = true
takes Import option.Hex = true
takes Import option.Create = true
takes Import option.Atomic = true
takes Import option.Rejects = true
takes Import option.Header = true
takes Import option.Key = true
takes Import option.Value = true
takes Import option.Cap = true
takes Import option.Wards = true
takes Import option.Keyer = true
takes Export option.Format = true
takes Export option.Hex = true
takes Export option.Bare = true
takes Salvage option.Format = true
takes Salvage option.Hex = true
takes Salvage option.Bare = true
takes Compact option.Cap = true
takes Compact option.Wards = true
takes Compact option.Keyer = true
takes Stats option.Json = true
takes command other = false

-- an everyday command's name, as its usage has it
abbrev pub command_word : EverydayCommand → List ℕ
command_word Create = CREATE.now
command_word Get = GET.now
command_word Put = PUT.now
command_word Del = DEL.now
command_word Swap = SWAP.now
command_word Backup = BACKUP.now
command_word Import = IMPORT.now
command_word Export = EXPORT.now
command_word Compact = COMPACT.now
command_word Stats = STATS.now
command_word Salvage = SALVAGE.now
