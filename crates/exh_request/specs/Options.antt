-- What the options of a command say.
use Rattle.std.specs.Prelude.{◌&&◌, ◌||◌, ℕ, Bool, true, false, List, leb, Option, Some, None, is_some, unwrap_or, Result, Ok, Err, codes, if◌then◌else◌}
use Rattle.std.specs.Str.{bytes_eq}
use Rattle.exh_keyer.specs.declared.any_keyer.AnyKeyer.{AnyKeyer}
use Rattle.exh_keyer.specs.declared.any_keyer.AnyKeyer.TheVariants.{Sha}
use Rattle.exh_page.specs.declared.page.TheConstants.{CAP_LIMIT}
use Rattle.exh_prefix.specs.declared.prefix.TheConstants.{WARD_BITS_LIMIT}
use Rattle.exh_page.specs.Keyers.{keyer_named}
use Rattle.exh_page.specs.declared.file_settings.FileSettings.{FileSettings}
use Rattle.exh_pair_text.specs.Numbers.{number_spelled}
use Rattle.exh_pair_text.specs.Formats.{format_named}
use Rattle.exh_pair_text.specs.declared.pair_format.PairFormat.{PairFormat}
use Rattle.exh_pair_text.specs.declared.pair_format.PairFormat.TheVariants.{Words}
use Rattle.exh_request.specs.declared.command_option.CommandOption.{CommandOption}
use Rattle.exh_request.specs.declared.command_option.CommandOption.TheVariants.{Atomic, Bare, Cap, Create, Format, From, Header, Hex, Json, Keyer, New, Raw, Replace, Wait, Wards}
use Rattle.exh_request.specs.declared.given_settings.GivenSettings.{GivenSettings}
use Rattle.exh_request.specs.declared.options.Options.{Options}
use Rattle.exh_request.specs.declared.options.TheConstants.{USUAL_WAIT, WAIT_LIMIT}
use Rattle.exh_request.specs.declared.put_when.PutWhen.{PutWhen}
use Rattle.exh_request.specs.declared.put_when.PutWhen.TheVariants as put
use Rattle.exh_request.specs.declared.wrong_request.WrongCause.{WrongCause}
use Rattle.exh_request.specs.declared.wrong_request.WrongCause.TheVariants.{BadValue, NewAndReplace, Twice}
use Rattle.exh_request.specs.Causes.{◌>>=◌}
use Rattle.exh_request.specs.Line.{UsedOption}
use Rattle.exh_request.specs.Uses.{is_used, repeated, value_given}

-- ---- what one says, or what holds where it isn't used

-- a number from the least to the greatest
abbrev pub number_by : CommandOption → ℕ → ℕ → Option ℕ → Result (Option ℕ) WrongCause
number_by option least greatest None = Err (BadValue option)
number_by option least greatest (Some number) = if leb least number && leb number greatest then Ok (Some number) else Err (BadValue option)

abbrev pub number_of_word : CommandOption → ℕ → ℕ → Option (List ℕ) → Result (Option ℕ) WrongCause
number_of_word option least greatest None = Ok None
number_of_word option least greatest (Some word) = number_by option least greatest (number_spelled word)

abbrev pub number_given : CommandOption → ℕ → ℕ → List UsedOption → Result (Option ℕ) WrongCause
number_given option least greatest uses = number_of_word option least greatest (value_given option uses)

-- or the usual number
abbrev pub number_asked : CommandOption → ℕ → ℕ → ℕ → List UsedOption → Result ℕ WrongCause
number_asked option usual least greatest uses = number_given option least greatest uses >>= λ given. Ok (unwrap_or given usual)

abbrev pub keyer_by : Option AnyKeyer → Result (Option AnyKeyer) WrongCause
keyer_by None = Err (BadValue Keyer)
keyer_by (Some keyer) = Ok (Some keyer)

abbrev pub keyer_of_word : Option (List ℕ) → Result (Option AnyKeyer) WrongCause
keyer_of_word None = Ok None
keyer_of_word (Some word) = keyer_by (keyer_named word)

abbrev pub given_asked : List UsedOption → Result GivenSettings WrongCause
given_asked uses = do
  cap ← number_given Cap 1 CAP_LIMIT uses
  wards ← number_given Wards 0 WARD_BITS_LIMIT uses
  keyer ← keyer_of_word (value_given Keyer uses)
  Ok (record { cap = cap; ward_bits = wards; keyer = keyer })

-- one is named
abbrev pub is_given : GivenSettings → Bool
is_given given = is_some given.cap || is_some given.ward_bits || is_some given.keyer

-- those of a new file
abbrev pub new_settings : GivenSettings → FileSettings AnyKeyer
new_settings given = record { cap = unwrap_or given.cap 16; ward_bits = unwrap_or given.ward_bits 0; keyer = unwrap_or given.keyer Sha }

-- pairs stand as words where no format is named
abbrev pub format_by : Option PairFormat → Result PairFormat WrongCause
format_by None = Err (BadValue Format)
format_by (Some format) = Ok format

abbrev pub format_of_word : Option (List ℕ) → Result PairFormat WrongCause
format_of_word None = Ok Words
format_of_word (Some word) = format_by (format_named word)

-- the keys stand on standard input, which is named `-`
abbrev pub from_word : Option (List ℕ) → Result Bool WrongCause
from_word None = Ok false
from_word (Some word) = if bytes_eq word (codes "-") then Ok true else Err (BadValue From)

-- where a put is done
abbrev pub when_by : Bool → Bool → Result PutWhen WrongCause
when_by false false = Ok put.Always
when_by true false = Ok put.New
when_by false true = Ok put.There
when_by true true = Err NewAndReplace

-- ---- all of them

abbrev pub options_by : List UsedOption → Result Options WrongCause
options_by uses = do
  wait ← number_asked Wait USUAL_WAIT 0 WAIT_LIMIT uses
  given ← given_asked uses
  is_from ← from_word (value_given From uses)
  when ← when_by (is_used New uses) (is_used Replace uses)
  format ← format_of_word (value_given Format uses)
  Ok (record { wait = wait; form = record { is_hex = is_used Hex uses; is_raw = is_used Raw uses }; when = when; is_from = is_from; given = given; format = format; has_header = is_used Header uses; is_create = is_used Create uses; is_atomic = is_used Atomic uses; is_bare = is_used Bare uses; is_json = is_used Json uses })

-- each option is used at most once
abbrev pub once : Option CommandOption → Result Options WrongCause → Result Options WrongCause
once None options = options
once (Some option) options = Err (Twice option)

abbrev pub options_asked : List UsedOption → Result Options WrongCause
options_asked uses = once (repeated uses) (options_by uses)
