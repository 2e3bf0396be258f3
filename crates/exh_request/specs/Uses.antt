-- The uses of an option among all.
use Rattle.std.specs.Prelude.{ℕ, Bool, List, [], ◌∷◌, nat_lt, count_by, Option, Some, None, is_some, if◌then◌else◌}
use Rattle.exh_request.specs.declared.command_option.CommandOption.{CommandOption}
use Rattle.exh_request.specs.Commands.{is_same_option}
use Rattle.exh_request.specs.Line.{UsedOption}

abbrev pub is_of : CommandOption → UsedOption → Bool
is_of option one = is_same_option one.option option

-- the value of its first use
abbrev pub value_given : CommandOption → List UsedOption → Option (List ℕ)
value_given option [] = None
value_given option (one ∷ rest) = if is_of option one then Some one.value else value_given option rest

abbrev pub is_used : CommandOption → List UsedOption → Bool
is_used option uses = is_some (value_given option uses)

-- the first of some options that is used twice among all
abbrev pub repeated_of : List UsedOption → List UsedOption → Option CommandOption
repeated_of all [] = None
repeated_of all (one ∷ rest) = if nat_lt 1 (count_by (is_of one.option) all) then Some one.option else repeated_of all rest

abbrev pub repeated : List UsedOption → Option CommandOption
repeated uses = repeated_of uses uses
