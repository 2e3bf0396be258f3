-- A command whose arguments are options with a value, and perhaps a path or two: which words it takes, and what it then holds.
use Rattle.std.proofs.Common.{◌≡◌, ◌∙◌, ℕ, ◌+◌, Bool, true, false, List, [], ◌∷◌, ◌++◌, Option, Some, None, refl, sym, ap, subst, codes, cond, is_some, inl, inr, ap₂}
use Rattle.std.specs.Prelude.{not, ◌&&◌, ◌||◌, find, fold, map, min, option_map}
use Rattle.std.specs.List.{list_any}
use Rattle.std.specs.Option.{option_map_or}
use Rattle.std.specs.Str.{bytes_eq}
use Rattle.std.proofs.lemmas.Slice.Eq.{bytes_eq-Decides}
use Rattle.clap.specs.Lexer.{usize_max}
use Rattle.clap.proofs.OnLiterals.{clap_on_literals}
use Rattle.clap.specs.Words.{Kinds, Row, Rule, Text}
use Rattle.clap.specs.Walk.{arg_by_id, arg_by_index, arg_by_long, arg_by_short, has_long, has_row, has_short, nothing_held, rows_after, walk_from, with_default}
use Rattle.clap.specs.Facts.{explicit_source}
use Rattle.clap.specs.Kinds.{check_kinds, or_else}
use Rattle.clap.specs.Takes.{is_given}
use Rattle.clap.specs.Faults.{check_fault, defaults_fault, level_fault}
use Rattle.exh_command.specs.Words.{Between, Ended, Reading, Use, Wanting, Wrong, after_word, gives, is_named, is_use_of, new_path_name, next_place, path_name, uses_read, uses_taken, whole_at}
use Rattle.exh_command.specs.Job.{Asked}
use Rattle.exh_command.specs.Parser.{HasValues}
use Rattle.exh_command.proofs.OptionLemmas.{FailsWhere, IsOptionLeaf, Reads, leaf_of, option_built, options_read, path_built, place_built, row_of_use, rows_of_uses}
use Rattle.exh_command.proofs.PlaceLemmas.{or-false, or-true}
use Rattle.exh_command.proofs.WordLemmas.{Agrees, IsAsking, help, is_name, some_is}

-- ---- what is said of a flag by one test

pub help_asking : (is_help : Bool) → IsAsking (cond is_help (Some help) None)
help_asking true = inr (inl refl)
help_asking false = inl refl

pub default_kept : (b : Bool) (rows : List Row) → cond b rows rows ≡ rows
default_kept true rows = refl
default_kept false rows = refl

-- the first of some options, or one of the others
first_or : (is others : Bool) → (is || others) ≡ true → (first name : Text) → (is ≡ true → first ≡ name) → (found : Option Rule) → (others ≡ true → found ≡ Some (option_built name))
    → cond is (Some (option_built first)) found ≡ Some (option_built name)
first_or true others named first name same found further = ap (λ name. Some (option_built name)) (same refl)
first_or false others named first name same found further = further named

neither : (is others : Bool) → (is || others) ≡ false → (first : Text) (found : Option Rule) → (others ≡ false → IsAsking found) → IsAsking (cond is (Some (option_built first)) found)
neither true others other first found further = cc
neither false others other first found further = further other

-- ---- the options of these names, and the flag that asks for help

abbrev pub option_flags : List Text → List Rule
option_flags names = map option_built names ++ help ∷ []

flag_by_long : (names : List Text) (name : Text) → is_named names name ≡ true → arg_by_long (option_flags names) name ≡ Some (option_built name)
flag_by_long [] name named = cc
flag_by_long (first ∷ names) name named =
    rw (or-false (bytes_eq first name)) (first_or (bytes_eq first name) (is_named names name) named first name (is_name first name) (arg_by_long (option_flags names) name) (flag_by_long names name))

flag_by_id : (names : List Text) (name : Text) → is_named names name ≡ true → arg_by_id (option_flags names) name ≡ Some (option_built name)
flag_by_id [] name named = cc
flag_by_id (first ∷ names) name named = first_or (bytes_eq first name) (is_named names name) named first name (is_name first name) (arg_by_id (option_flags names) name) (flag_by_id names name)

flag_asks : (names : List Text) (name : Text) → is_named names name ≡ false → IsAsking (arg_by_long (option_flags names) name)
flag_asks [] name other = help_asking (not (is_some help.index) && has_long help name)
flag_asks (first ∷ names) name other = rw (or-false (bytes_eq first name)) (neither (bytes_eq first name) (is_named names name) other first (arg_by_long (option_flags names) name) (flag_asks names name))

flag_asks_short : (names : List Text) (c : ℕ) → IsAsking (arg_by_short (option_flags names) c)
flag_asks_short [] c = help_asking (not (is_some help.index) && has_short help c)
flag_asks_short (first ∷ names) c = flag_asks_short names c

none_placed : (names : List Text) (position : ℕ) → arg_by_index (option_flags names) position ≡ None
none_placed [] position = refl
none_placed (first ∷ names) position = none_placed names position

pub keeps_rows : (names : List Text) (rows : List Row) → fold with_default rows (option_flags names) ≡ rows
keeps_rows [] rows = default_kept (has_row (codes "help") rows) rows
keeps_rows (first ∷ names) rows = ap (λ rows. fold with_default rows (option_flags names)) (default_kept (has_row first rows) rows) ∙ keeps_rows names rows

pub no_defaults : (names : List Text) (rows : List Row) → defaults_fault rows (option_flags names) ≡ []
unfolding defaults_fault
no_defaults [] rows = rw (or-true (has_row (codes "help") rows)) refl
no_defaults (first ∷ names) rows = rw (or-true (has_row first rows), default_kept (has_row first rows) rows) (no_defaults names rows)

-- a command with them, which asks for nothing else
pub option_leaf : (command : Text) (names : List Text) → ((rows : List Row) → or_else (defaults_fault rows (option_flags names)) (check_fault (leaf_of command (option_flags names)) (fold with_default rows (option_flags names)) false) ≡ []) → IsOptionLeaf [] command (option_flags names) names []
option_leaf command names ends = record {
  by_long_name = flag_by_long names;
  by_id = flag_by_id names;
  by_long_flag = λ name other never. cc;
  asks = λ name other unset. flag_asks names name other;
  asks_short = flag_asks_short names;
  place_by_id = λ place never. cc;
  placed = λ uses. none_placed names 1;
  moves = λ uses. refl;
  distinct = refl;
  no_option = refl;
  no_flag = refl;
  ends = λ uses. ends (rows_of_uses uses);
}

-- ---- places before them

module _ (place : Text) (rules : List Rule) where
  -- another name isn't the place's
  pub place_apart : (i : ℕ) (name : Text) → bytes_eq place name ≡ false → arg_by_id (place_built i place ∷ rules) name ≡ arg_by_id rules name
  place_apart i name apart = rw apart refl

  pub place_is : (i : ℕ) → arg_by_id (place_built i place ∷ rules) place ≡ Some (place_built i place)
  place_is i = rw ((bytes_eq-Decides place place).1 refl) refl

  -- nothing is held of a place without a word
  pub place_defaults : (i : ℕ) (rows : List Row) → defaults_fault rows (place_built i place ∷ rules) ≡ defaults_fault rows rules
  unfolding defaults_fault
  place_defaults i rows = rw (or-true (has_row place rows), default_kept (has_row place rows) rows) refl

  pub place_keeps : (i : ℕ) (rows : List Row) → fold with_default rows (place_built i place ∷ rules) ≡ fold with_default rows rules
  place_keeps i rows = ap (λ rows. fold with_default rows rules) (default_kept (has_row place rows) rows)

-- an option has no place's name
pub named_apart : (names : List Text) (place : Text) → is_named names place ≡ false → (name : Text) → is_named names name ≡ true → bytes_eq place name ≡ false
named_apart names place none name named = go (bytes_eq place name) refl
  where
    go : (same : Bool) → bytes_eq place name ≡ same → bytes_eq place name ≡ false
    go true e = absurd (let never : true ≡ false = sym named ∙ ap (is_named names) (sym (is_name place name e)) ∙ none in cc)
    go false e = e

pub given_place : (place : Text) (uses : List Use) → is_given place (rows_of_uses uses) ≡ gives uses place
given_place place [] = refl
given_place place (one ∷ uses) = go (is_use_of place one) (given_place place uses)
  where
    go : (b : Bool) → is_given place (rows_of_uses uses) ≡ gives uses place
        → option_map_or (λ (r : Row). explicit_source r.source) (cond b (Some (row_of_use one)) (find (λ (r : Row). bytes_eq r.id place) (rows_of_uses uses))) false ≡ (b || gives uses place)
    go true others = refl
    go false others = others

-- a place is required
abbrev pub lacks : List Row → Rule → Bool
lacks rows a = a.required && not (is_given a.id rows)

pub none_required : (names : List Text) (rows : List Row) → list_any (lacks rows) (option_flags names) ≡ false
none_required [] rows = refl
none_required (first ∷ names) rows = none_required names rows

pub fails_where : (wants : Bool) → FailsWhere wants (check_kinds false false wants)
fails_where true = tt
fails_where false = refl

-- ---- a path

abbrev pub path_flags_of : List Text → List Rule
path_flags_of names = path_built ∷ option_flags names

abbrev pub one_path : List Text
one_path = path_name ∷ []

pub path_moves : (used : Bool) → min (cond used (1 + 1) 1 + 1) usize_max ≡ 1 + cond used (1 + 1) 1
path_moves true = refl
path_moves false = refl

-- the path is wanted where none is given
pub path_wanted : (used : Bool) → is_some (cond (not used) (Some path_name) None) ≡ not used
path_wanted true = refl
path_wanted false = refl

pub is_path : (place : Text) → is_named one_path place ≡ true → path_name ≡ place
is_path place named = is_name path_name place (sym (or-false (bytes_eq path_name place)) ∙ named)

path_place : (names : List Text) (used : Bool) → arg_by_index (path_flags_of names) (cond used (1 + 1) 1) ≡ option_map (place_built (cond used (1 + 1) 1)) (cond (not used) (Some path_name) None)
path_place names true = none_placed names 2
path_place names false = refl

pub path_keeps : (names : List Text) (rows : List Row) → fold with_default rows (path_flags_of names) ≡ rows
path_keeps names rows = place_keeps path_name (option_flags names) 1 rows ∙ keeps_rows names rows

path_ends : (command : Text) (names : List Text) (uses : List Use)
    → FailsWhere (is_some (next_place one_path uses)) (or_else (defaults_fault (rows_of_uses uses) (path_flags_of names)) (check_fault (leaf_of command (path_flags_of names)) (fold with_default (rows_of_uses uses) (path_flags_of names)) false))
path_ends command names uses =
    let rows = rows_of_uses uses in
    let leaf = leaf_of command (path_flags_of names) in
    let wanted = not (gives uses path_name) in
    let is : list_any (lacks rows) (path_flags_of names) ≡ wanted = ap₂ (λ a b. not a || b) (given_place path_name uses) (none_required names rows) ∙ or-false wanted in
    subst (λ wants. FailsWhere wants (or_else (defaults_fault rows (path_flags_of names)) (check_fault leaf (fold with_default rows (path_flags_of names)) false))) (sym (path_wanted (gives uses path_name)))
    (subst (λ kinds. FailsWhere wanted (or_else kinds (check_fault leaf (fold with_default rows (path_flags_of names)) false))) (sym (place_defaults path_name (option_flags names) 1 rows ∙ no_defaults names rows))
    (subst (λ rows. FailsWhere wanted (check_fault leaf rows false)) (sym (path_keeps names rows))
    (subst (λ wants. FailsWhere wanted (check_kinds false false wants)) (sym is) (fails_where wanted))))

pub path_leaf_of : (command : Text) (names : List Text) → is_named names path_name ≡ false → IsOptionLeaf one_path command (path_flags_of names) names []
path_leaf_of command names no_path = record {
  by_long_name = flag_by_long names;
  by_id = λ name named. place_apart path_name (option_flags names) 1 name (named_apart names path_name no_path name named) ∙ flag_by_id names name named;
  by_long_flag = λ name other never. cc;
  asks = λ name other unset. flag_asks names name other;
  asks_short = flag_asks_short names;
  place_by_id = λ place named. (1, subst (λ place. arg_by_id (path_flags_of names) place ≡ Some (place_built 1 place)) (is_path place named) (place_is path_name (option_flags names) 1));
  placed = λ uses. path_place names (gives uses path_name);
  moves = λ uses. path_moves (gives uses path_name);
  distinct = refl;
  no_option = or-false (is_named names path_name) ∙ no_path;
  no_flag = refl;
  ends = path_ends command names;
}

-- ---- a path and a new one

abbrev pub two_paths : List Text
two_paths = path_name ∷ new_path_name ∷ []

abbrev pub two_path_flags_of : List Text → List Rule
two_path_flags_of names = path_built ∷ place_built 2 new_path_name ∷ option_flags names

abbrev after_path : List Text → List Rule
after_path names = place_built 2 new_path_name ∷ option_flags names

abbrev second_position : Bool → Bool → ℕ
second_position used used' = cond used (1 + cond used' (1 + 1) 1) 1

two_moves : (used used' : Bool) → min (second_position used used' + 1) usize_max ≡ 1 + second_position used used'
two_moves true true = refl
two_moves true false = refl
two_moves false used' = refl

abbrev next_of_two : Bool → Bool → Option Text
next_of_two used used' = cond (not used) (Some path_name) (cond (not used') (Some new_path_name) None)

two_places : (names : List Text) (used used' : Bool) → arg_by_index (two_path_flags_of names) (second_position used used') ≡ option_map (place_built (second_position used used')) (next_of_two used used')
two_places names true true = none_placed names 3
two_places names true false = refl
two_places names false used' = refl

two_wanted : (used used' : Bool) → is_some (next_of_two used used') ≡ (not used || not used')
two_wanted true true = refl
two_wanted true false = refl
two_wanted false used' = refl

pub both_given : (used used' : Bool) → next_of_two used used' ≡ None → (used ≡ true) × (used' ≡ true)
both_given true true none = (refl, refl)
both_given true false none = cc
both_given false used' none = cc

paths_apart : bytes_eq path_name new_path_name ≡ false
unfolding clap_on_literals
paths_apart = refl

two_by_id : (names : List Text) (place : Text) → is_named two_paths place ≡ true → (i : ℕ) × (arg_by_id (two_path_flags_of names) place ≡ Some (place_built i place))
two_by_id names place named = go (bytes_eq path_name place) refl named
  where
    at_new : new_path_name ≡ place → arg_by_id (two_path_flags_of names) place ≡ Some (place_built 2 place)
    at_new is =
        subst (λ place. arg_by_id (two_path_flags_of names) place ≡ Some (place_built 2 place)) is
        (place_apart path_name (after_path names) 1 new_path_name paths_apart ∙ place_is new_path_name (option_flags names) 2)

    go : (first : Bool) → bytes_eq path_name place ≡ first → (first || (bytes_eq new_path_name place || false)) ≡ true → (i : ℕ) × (arg_by_id (two_path_flags_of names) place ≡ Some (place_built i place))
    go true e named = (1, subst (λ place. arg_by_id (two_path_flags_of names) place ≡ Some (place_built 1 place)) (is_name path_name place e) (place_is path_name (after_path names) 1))
    go false e named = (2, at_new (is_name new_path_name place (sym (or-false (bytes_eq new_path_name place)) ∙ named)))

pub two_paths_keep : (names : List Text) (rows : List Row) → fold with_default rows (two_path_flags_of names) ≡ rows
two_paths_keep names rows = place_keeps path_name (after_path names) 1 rows ∙ place_keeps new_path_name (option_flags names) 2 rows ∙ keeps_rows names rows

two_ends : (command : Text) (names : List Text) (uses : List Use)
    → FailsWhere (is_some (next_place two_paths uses)) (or_else (defaults_fault (rows_of_uses uses) (two_path_flags_of names)) (check_fault (leaf_of command (two_path_flags_of names)) (fold with_default (rows_of_uses uses) (two_path_flags_of names)) false))
two_ends command names uses =
    let rows = rows_of_uses uses in
    let leaf = leaf_of command (two_path_flags_of names) in
    let used = gives uses path_name in
    let used' = gives uses new_path_name in
    let wanted = not used || not used' in
    let second : list_any (lacks rows) (after_path names) ≡ not used' = ap₂ (λ a b. not a || b) (given_place new_path_name uses) (none_required names rows) ∙ or-false (not used') in
    let is : list_any (lacks rows) (two_path_flags_of names) ≡ wanted = ap₂ (λ a b. not a || b) (given_place path_name uses) second in
    let none : defaults_fault rows (two_path_flags_of names) ≡ [] = place_defaults path_name (after_path names) 1 rows ∙ place_defaults new_path_name (option_flags names) 2 rows ∙ no_defaults names rows in
    subst (λ wants. FailsWhere wants (or_else (defaults_fault rows (two_path_flags_of names)) (check_fault leaf (fold with_default rows (two_path_flags_of names)) false))) (sym (two_wanted used used'))
    (subst (λ kinds. FailsWhere wanted (or_else kinds (check_fault leaf (fold with_default rows (two_path_flags_of names)) false))) (sym none)
    (subst (λ rows. FailsWhere wanted (check_fault leaf rows false)) (sym (two_paths_keep names rows))
    (subst (λ wants. FailsWhere wanted (check_kinds false false wants)) (sym is) (fails_where wanted))))

pub two_paths_leaf_of : (command : Text) (names : List Text) → is_named names path_name ≡ false → is_named names new_path_name ≡ false → IsOptionLeaf two_paths command (two_path_flags_of names) names []
two_paths_leaf_of command names no_path no_new = record {
  by_long_name = flag_by_long names;
  by_id = λ name named.
      place_apart path_name (after_path names) 1 name (named_apart names path_name no_path name named)
      ∙ place_apart new_path_name (option_flags names) 2 name (named_apart names new_path_name no_new name named) ∙ flag_by_id names name named;
  by_long_flag = λ name other never. cc;
  asks = λ name other unset. flag_asks names name other;
  asks_short = flag_asks_short names;
  place_by_id = two_by_id names;
  placed = λ uses. two_places names (gives uses path_name) (gives uses new_path_name);
  moves = λ uses. two_moves (gives uses path_name) (gives uses new_path_name);
  distinct = refl;
  no_option = ap₂ (λ a b. a || (b || false)) no_path no_new;
  no_flag = refl;
  ends = two_ends command names;
}

-- ---- of uses that are read each place has a word

module _ (places : List Text) where
  whole_has : (uses found : List Use) (next : Option Text) → next_place places uses ≡ next → whole_at uses next ≡ Some found → next_place places found ≡ None
  whole_has uses found (Some place) e same = cc
  whole_has uses found None e same = subst (λ uses. next_place places uses ≡ None) (some_is same) e

  read_has : (reading : Reading) (found : List Use) → uses_read places reading ≡ Some found → next_place places found ≡ None
  read_has (Between uses) found same = whole_has uses found (next_place places uses) refl same
  read_has (Wanting name uses) found same = cc
  read_has (Ended uses) found same = whole_has uses found (next_place places uses) refl same
  read_has Wrong found same = cc

-- ---- the words behind such a command

module _ (places : List Text) (command : Text) (rules : List Rule) (names flags : List Text) (is : IsOptionLeaf places command rules names flags) (by : List Use → Asked) where
  abbrev pub flag_kinds : List Text → Kinds
  flag_kinds words = level_fault (leaf_of command rules) [] nothing_held words false []

  abbrev ReadsWords : List Text → Option (List Use) → Type 0
  ReadsWords words read = Reads places command rules names flags is (walk_from nothing_held) words read

  reads : (words : List Text) → ReadsWords words (uses_taken places names flags words)
  reads words = options_read places command rules names flags is words

  pub flags_agree : (words : List Text) → Agrees (option_map by (uses_taken places names flags words)) (flag_kinds words)
  flags_agree words = go (uses_taken places names flags words) (reads words)
    where
      go : (read : Option (List Use)) → ReadsWords words read → Agrees (option_map by read) (flag_kinds words)
      go None fails = fails
      go (Some uses) reads = reads.0

  -- it meets their values
  pub flags_met : ((words : List Text) (uses : List Use) → uses_taken places names flags words ≡ Some uses → next_place places uses ≡ None → HasValues (by uses) (fold with_default (rows_of_uses uses) rules)) → (words : List Text) (asked : Asked) → option_map by (uses_taken places names flags words) ≡ Some asked
      → HasValues asked (rows_after rules [] words)
  flags_met has words asked named = go (uses_taken places names flags words) refl (reads words) named
    where
      go : (read : Option (List Use)) → uses_taken places names flags words ≡ read → ReadsWords words read → option_map by read ≡ Some asked → HasValues asked (rows_after rules [] words)
      go None is fails named = cc
      go (Some uses) is reads named =
          let whole = read_has places (fold (after_word places names flags) (Between []) words) uses is in
          subst (λ asked. HasValues asked (rows_after rules [] words)) (some_is named) (subst (HasValues (by uses)) (sym reads.1) (has words uses is whole))
