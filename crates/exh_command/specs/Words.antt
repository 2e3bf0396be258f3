-- The words behind a command: options with their values, and paths.
use Rattle.std.specs.Prelude.{◌&&◌, ◌==◌, ◌++◌, ℕ, Bool, false, not, List, [], ◌∷◌, fold, find, length, nat_lt, Option, Some, None, option_map, codes, if◌then◌else◌}
use Rattle.std.specs.List.{list_any}
use Rattle.std.specs.Str.{bytes_eq, chars}
use Rattle.clap.specs.Lexer.{long_of}

-- `--` ends the options of any command, and asks for nothing
abbrev pub ends_options : List ℕ → Bool
ends_options word = bytes_eq word (codes "--")

-- the word is an option: a hyphen, and a character behind it
abbrev pub is_option : List ℕ → Bool
is_option [] = false
is_option (first ∷ rest) = first == 45 && nat_lt 0 (length (chars rest))

-- ---- a path

-- behind `--` any word is a path, and there is just one
abbrev pub only_word : List (List ℕ) → Option (List ℕ)
only_word [] = None
only_word (path ∷ []) = Some path
only_word (path ∷ next ∷ rest) = None

-- behind a path there is nothing, but for `--`
abbrev pub alone : List ℕ → List (List ℕ) → Option (List ℕ)
alone path [] = Some path
alone path (word ∷ []) = if ends_options word then Some path else None
alone path (word ∷ next ∷ rest) = None

-- the one path that the words name, which is no option
abbrev pub path_named : List (List ℕ) → Option (List ℕ)
path_named [] = None
path_named (word ∷ rest) =
    if ends_options word then only_word rest
    else (if is_option word then None else alone word rest)

-- ---- perhaps a word

-- behind `--` there is a word, or nothing
abbrev pub word_or_none : List (List ℕ) → Option (Option (List ℕ))
word_or_none [] = Some None
word_or_none (word ∷ []) = Some (Some word)
word_or_none (word ∷ next ∷ rest) = None

-- the one word, which is told as a path would be, or none
abbrev pub word_perhaps : List (List ℕ) → Option (Option (List ℕ))
word_perhaps [] = Some None
word_perhaps (word ∷ rest) =
    if ends_options word then word_or_none rest
    else (if is_option word then None else option_map (λ word. Some word) (alone word rest))

-- ---- options, each with a value

-- an option's name, and its value
pub record Use : Type 0 where
  pub name : List ℕ
  pub value : List ℕ

abbrev pub is_use_of : List ℕ → Use → Bool
is_use_of name one = bytes_eq one.name name

-- the value that was given to a name
abbrev pub option_given : List ℕ → List Use → Option (List ℕ)
option_given name uses = option_map (λ one. one.value) (find (is_use_of name) uses)

-- how far words were read, and the options so far: between two options, behind an option whose value is yet to come, or
-- behind `--`; or they are wrong
pub data Reading : Type 0 where
  Between : List Use → Reading
  Wanting : List ℕ → List Use → Reading
  Ended : List Use → Reading
  Wrong : Reading

-- an option is used once
abbrev pub with_use : List ℕ → List ℕ → List Use → Reading
with_use name value uses =
    if list_any (is_use_of name) uses then Wrong else Between (uses ++ record { name = name; value = value } ∷ [])

-- its value stands behind `=`, or is the next word
abbrev pub used_by : List ℕ → Option (List ℕ) → List Use → Reading
used_by name None uses = Wanting name uses
used_by name (Some value) uses = with_use name value uses

-- ---- places among them

abbrev pub path_name : List ℕ
path_name = codes "PATH"

abbrev pub new_path_name : List ℕ
new_path_name = codes "NEW"

-- a value is given to the name
abbrev pub gives : List Use → List ℕ → Bool
gives uses name = list_any (is_use_of name) uses

-- the first place that has no word yet
abbrev pub next_place : List (List ℕ) → List Use → Option (List ℕ)
next_place places uses = find (λ place. not (gives uses place)) places

-- a word that is no option stands at the next place
abbrev pub placed_at : (List Use → Reading) → List ℕ → List Use → Option (List ℕ) → Reading
placed_at read word uses None = Wrong
placed_at read word uses (Some place) = read (uses ++ record { name = place; value = word } ∷ [])

-- each place has a word
abbrev pub whole_at : List Use → Option (List ℕ) → Option (List Use)
whole_at uses None = Some uses
whole_at uses (Some place) = None

module _ (places : List (List ℕ)) where
  abbrev pub after_place : (List Use → Reading) → List ℕ → List Use → Reading
  after_place read word uses = placed_at read word uses (next_place places uses)

  abbrev pub whole : List Use → Option (List Use)
  whole uses = whole_at uses (next_place places uses)

  -- the uses, where the words may end so
  abbrev pub uses_read : Reading → Option (List Use)
  uses_read (Between uses) = whole uses
  uses_read (Wanting name uses) = None
  uses_read (Ended uses) = whole uses
  uses_read Wrong = None

-- ---- flags among them

-- what a flag that stands there says
abbrev pub flag_set : List ℕ
flag_set = codes "true"

-- a flag is used once, and has no value behind it
abbrev pub flagged_by : List ℕ → Option (List ℕ) → List Use → Reading
flagged_by name None uses = with_use name flag_set uses
flagged_by name (Some value) uses = Wrong

-- ---- all words behind a command with options and flags

abbrev pub is_named : List (List ℕ) → List ℕ → Bool
is_named names name = list_any (λ own. bytes_eq own name) names

module _ (names flags : List (List ℕ)) where
  -- by the name and value of `--name` or `--name=value`
  abbrev pub after_option : Option (List ℕ × Option (List ℕ)) → List Use → Reading
  after_option None uses = Wrong
  after_option (Some long) uses =
      if is_named names long.0 then used_by long.0 long.1 uses
      else (if is_named flags long.0 then flagged_by long.0 long.1 uses else Wrong)

module _ (places names flags : List (List ℕ)) where
  abbrev pub after_word : Reading → List ℕ → Reading
  after_word (Between uses) word =
      if ends_options word then Ended uses
      else (if is_option word then after_option names flags (long_of word) uses else after_place places Between word uses)
  after_word (Wanting name uses) word = if is_option word then Wrong else with_use name word uses
  after_word (Ended uses) word = after_place places Ended word uses
  after_word Wrong word = Wrong

  abbrev pub uses_taken : List (List ℕ) → Option (List Use)
  uses_taken words = uses_read places (fold after_word (Between []) words)

-- the options that the words use, each of these names at most once, in any order; `--` may stand behind them
abbrev pub uses_named : List (List ℕ) → List (List ℕ) → Option (List Use)
uses_named names = uses_taken [] names []

-- the same, and a path, before them, between them, or behind them and `--`
abbrev pub uses_and_path : List (List ℕ) → List (List ℕ) → Option (List Use)
uses_and_path names = uses_taken (path_name ∷ []) names []

-- the flags that the words use, each of these at most once, in any order, and a path, as among options
abbrev pub flags_and_path : List (List ℕ) → List (List ℕ) → Option (List Use)
flags_and_path = uses_taken (path_name ∷ []) []

-- the options that the words use, as among options, and a path and a new one behind it
abbrev pub uses_and_two_paths : List (List ℕ) → List (List ℕ) → Option (List Use)
uses_and_two_paths names = uses_taken (path_name ∷ new_path_name ∷ []) names []
