-- The words behind a command, parted into those that stand at places and options.
use Rattle.std.specs.Prelude.{◌+◌, ◌==◌, ℕ, Bool, true, false, List, [], ◌∷◌, ◌++◌, map, take, drop, position, Option, Some, None, option_and_then, Result, Ok, Err, codes, if◌then◌else◌}
use Rattle.std.specs.Str.{bytes_eq}
use Rattle.exh_pair_text.specs.Numbers.{after_prefix}
use Rattle.exh_request.specs.declared.everyday_command.EverydayCommand.{EverydayCommand}
use Rattle.exh_request.specs.declared.command_option.CommandOption.{CommandOption}
use Rattle.exh_request.specs.declared.wrong_request.WrongCause.{WrongCause}
use Rattle.exh_request.specs.declared.wrong_request.WrongCause.TheVariants.{NoValue}
use Rattle.exh_request.specs.declared.line.Reading.{Reading}
use Rattle.exh_request.specs.declared.line.Reading.TheVariants.{Between, Wanting, Ended}
use Rattle.exh_request.specs.declared.line.Met.{Met}
use Rattle.exh_request.specs.declared.line.Met.TheVariants as met
use Rattle.exh_request.specs.declared.line.Placed.{Placed}
use Rattle.exh_request.specs.declared.line.Use.{Use}
use Rattle.exh_request.specs.declared.line.Line.{Line}
use Rattle.exh_request.specs.Commands.{has_value, option_named, takes}

-- a word at a place, and whether it stands behind `--`
pub record PlacedWord : Type 0 where
  pub word : List ℕ
  pub is_behind : Bool

-- an option that is used, and its value, which is empty for a flag
pub record UsedOption : Type 0 where
  pub option : CommandOption
  pub value : List ℕ

-- what a word is: `--` that ends the options, or an option whose value is the next word; or a word at a place; or an option
pub data MetWord : Type 0 where
  Nothing : MetWord
  Place : PlacedWord → MetWord
  Uses : UsedOption → MetWord

-- ---- one word

-- `--` ends the options
abbrev pub ends_options : List ℕ → Bool
ends_options word = bytes_eq word (codes "--")

-- the option of the command that a word names, with its two dashes
abbrev pub named_option : EverydayCommand → List ℕ → Option CommandOption
named_option command word =
    option_and_then (λ option. if takes command option then Some option else None) (option_and_then option_named (after_prefix (codes "--") word))

-- the word before its first `=`, and what stands behind that
abbrev pub split_by : List ℕ → Option ℕ → List ℕ × Option (List ℕ)
split_by word None = (word, None)
split_by word (Some at) = (take at word, Some (drop (at + 1) word))

abbrev pub split_at_equals : List ℕ → List ℕ × Option (List ℕ)
split_at_equals word = split_by word (position (λ byte. byte == 61) word)

abbrev pub at_place : List ℕ → Reading × MetWord
at_place word = (Between, Place (record { word = word; is_behind = false }))

abbrev pub used : CommandOption → List ℕ → Reading × MetWord
used option value = (Between, Uses (record { option = option; value = value }))

-- an option that has a value finds it behind `=`, or as the next word; a flag has none; each other word stands at a place
abbrev pub met_option : List ℕ → CommandOption → Bool → Option (List ℕ) → Reading × MetWord
met_option word option true (Some value) = used option value
met_option word option true None = (Wanting option, Nothing)
met_option word option false None = used option []
met_option word option false (Some value) = at_place word

abbrev pub met_by : List ℕ → Option (List ℕ) → Option CommandOption → Reading × MetWord
met_by word value None = at_place word
met_by word value (Some option) = met_option word option (has_value option) value

abbrev pub free_word : EverydayCommand → List ℕ → Reading × MetWord
free_word command word = met_by word (split_at_equals word).1 (named_option command (split_at_equals word).0)

-- what a word is, and how far words are read behind it
abbrev pub after_word : EverydayCommand → Reading → List ℕ → Reading × MetWord
after_word command Ended word = (Ended, Place (record { word = word; is_behind = true }))
after_word command (Wanting option) word = used option word
after_word command Between word = if ends_options word then (Ended, Nothing) else free_word command word

-- ---- all words

-- the words at places and the options that are used, each in its order, and how far the words are read
pub record Parted : Type 0 where
  pub places : List PlacedWord
  pub uses : List UsedOption
  pub reading : Reading

abbrev pub with_met : MetWord → Parted → Parted
with_met Nothing behind = behind
with_met (Place one) behind = record behind { places = one ∷ behind.places }
with_met (Uses one) behind = record behind { uses = one ∷ behind.uses }

abbrev pub parted : EverydayCommand → Reading → List (List ℕ) → Parted
parted command reading [] = record { places = []; uses = []; reading = reading }
parted command reading (word ∷ rest) = with_met (after_word command reading word).1 (parted command (after_word command reading word).0 rest)

-- the words behind a command, of which the last may be no option without its value
pub record LineText : Type 0 where
  pub places : List PlacedWord
  pub uses : List UsedOption

-- the same with one more word at its end
abbrev pub with_last : MetWord → LineText → LineText
with_last Nothing line = line
with_last (Place one) line = record line { places = line.places ++ one ∷ [] }
with_last (Uses one) line = record line { uses = line.uses ++ one ∷ [] }

abbrev pub line_by : Parted → Reading → Result LineText WrongCause
line_by parts (Wanting option) = Err (NoValue option)
line_by parts Between = Ok (record { places = parts.places; uses = parts.uses })
line_by parts Ended = Ok (record { places = parts.places; uses = parts.uses })

abbrev pub line_asked : EverydayCommand → List (List ℕ) → Result LineText WrongCause
line_asked command words = line_by (parted command Between words) (parted command Between words).reading

-- ---- the same as the program has it

abbrev pub placed_word : Placed → PlacedWord
placed_word one = record { word = one.word.now; is_behind = one.is_behind }

abbrev pub used_option : Use → UsedOption
used_option one = record { option = one.option; value = one.value.now }

abbrev pub met_word : Met → MetWord
met_word met.Nothing = Nothing
met_word (met.Place one) = Place (placed_word one)
met_word (met.Use one) = Uses (used_option one)

abbrev pub line_text : Line → LineText
line_text line = record { places = map placed_word line.places.items; uses = map used_option line.uses.items }
