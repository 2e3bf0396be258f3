-- A command whose arguments are a path and flags: which words it takes, and what it then holds.
use Rattle.std.proofs.Common.{◌≡◌, ◌∙◌, ℕ, ◌+◌, Bool, true, false, List, [], ◌∷◌, ◌++◌, Option, Some, None, refl, sym, ap, ap₂, subst, codes, cond, is_some}
use Rattle.std.specs.Prelude.{not, ◌&&◌, ◌||◌, find, fold, map, option_and_then, option_map, slice_get, unwrap_or}
use Rattle.std.specs.List.{list_all, list_any}
use Rattle.std.specs.Option.{option_map_or}
use Rattle.std.specs.Str.{bytes_eq}
use Rattle.std.proofs.lemmas.Bool.{and_parts}
use Rattle.std.proofs.lemmas.Slice.Eq.{bytes_eq-Decides}
use Rattle.clap.specs.Words.{Row, Rule, Text, first_of, one_of}
use Rattle.clap.specs.Lexer.{long_of}
use Rattle.clap.specs.Walk.{arg_by_id, arg_by_index, arg_by_long, arg_by_short, at_row, has_long, has_row, has_short, more_values, reading_by, row_text, with_default}
use Rattle.clap.specs.Facts.{explicit_source}
use Rattle.clap.specs.Kinds.{check_kinds, or_else}
use Rattle.clap.specs.Takes.{is_given}
use Rattle.clap.specs.Faults.{check_fault, default_fault, defaults_fault, given_default_fault}
use Rattle.clap.specs.declared.parser.matches.ValueSource.TheVariants.{DefaultValue}
use Rattle.clap.proofs.OnLiterals.{clap_on_literals}
use Rattle.clap.proofs.WalkLemmas.{find-map}
use Rattle.exh_command.specs.Words.{Between, Ended, Reading, Use, Wanting, Wrong, after_option, after_place, after_word, ends_options, flag_set, flagged_by, gives, is_named, is_option, is_use_of, next_place, option_given, path_name, placed_at, uses_read, uses_taken, whole_at}
use Rattle.exh_command.specs.Parser.{flag_text}
use Rattle.exh_command.proofs.OptionFlags.{default_kept, fails_where, given_place, help_asking, is_path, lacks, one_path, path_moves, path_wanted, place_is}
use Rattle.exh_command.proofs.OptionLemmas.{FailsWhere, IsOptionLeaf, flag_built, leaf_of, path_built, place_built, row_of_use, rows_of_uses}
use Rattle.exh_command.proofs.PlaceLemmas.{or-false, or-true}
use Rattle.exh_command.proofs.WordLemmas.{IsAsking, help, is_name, some_is}

-- ---- the flags of these names, and the one that asks for help

abbrev pub set_flags : List Text → List Rule
set_flags flags = map flag_built flags ++ help ∷ []

abbrev pub path_and_flags : List Text → List Rule
path_and_flags flags = path_built ∷ set_flags flags

first_set : (is others : Bool) → (is || others) ≡ true → (first name : Text) → (is ≡ true → first ≡ name) → (found : Option Rule) → (others ≡ true → found ≡ Some (flag_built name))
    → cond is (Some (flag_built first)) found ≡ Some (flag_built name)
first_set true others named first name same found further = ap (λ name. Some (flag_built name)) (same refl)
first_set false others named first name same found further = further named

neither_set : (is others : Bool) → (is || others) ≡ false → (first : Text) (found : Option Rule) → (others ≡ false → IsAsking found) → IsAsking (cond is (Some (flag_built first)) found)
neither_set true others other first found further = cc
neither_set false others other first found further = further other

set_by_long : (flags : List Text) (name : Text) → is_named flags name ≡ true → arg_by_long (set_flags flags) name ≡ Some (flag_built name)
set_by_long [] name named = cc
set_by_long (first ∷ flags) name named =
    rw (or-false (bytes_eq first name)) (first_set (bytes_eq first name) (is_named flags name) named first name (is_name first name) (arg_by_long (set_flags flags) name) (set_by_long flags name))

set_asks : (flags : List Text) (name : Text) → is_named flags name ≡ false → IsAsking (arg_by_long (set_flags flags) name)
set_asks [] name other = help_asking (not (is_some help.index) && has_long help name)
set_asks (first ∷ flags) name other = rw (or-false (bytes_eq first name)) (neither_set (bytes_eq first name) (is_named flags name) other first (arg_by_long (set_flags flags) name) (set_asks flags name))

set_asks_short : (flags : List Text) (c : ℕ) → IsAsking (arg_by_short (set_flags flags) c)
set_asks_short [] c = help_asking (not (is_some help.index) && has_short help c)
set_asks_short (first ∷ flags) c = set_asks_short flags c

none_placed : (flags : List Text) (position : ℕ) → arg_by_index (set_flags flags) position ≡ None
none_placed [] position = refl
none_placed (first ∷ flags) position = none_placed flags position

path_place : (flags : List Text) (used : Bool) → arg_by_index (path_and_flags flags) (cond used (1 + 1) 1) ≡ option_map (place_built (cond used (1 + 1) 1)) (cond (not used) (Some path_name) None)
path_place flags true = none_placed flags 2
path_place flags false = refl

-- ---- what a flag says that isn't there

abbrev default_row : Text → Row
default_row flag = record { id = flag; values = flag_text false ∷ []; count = None; source = Some DefaultValue; reading = reading_by (flag_built flag) }

default_passes : (flag : Text) (rows : List Row) → default_fault rows (flag_built flag) ≡ []
unfolding clap_on_literals
default_passes flag rows = go (has_row flag rows)
  where
    go : (b : Bool) → cond (b || false) [] (given_default_fault (flag_built flag) (flag_built flag).defaults) ≡ []
    go true = refl
    go false = refl

set_defaults : (flags : List Text) (rows : List Row) → defaults_fault rows (set_flags flags) ≡ []
unfolding defaults_fault
set_defaults [] rows = rw (or-true (has_row (codes "help") rows)) refl
set_defaults (first ∷ flags) rows = ap₂ or_else (default_passes first rows) (set_defaults flags (with_default rows (flag_built first)))

path_defaults : (flags : List Text) (rows : List Row) → defaults_fault rows (path_and_flags flags) ≡ []
unfolding defaults_fault
path_defaults flags rows = rw (or-true (has_row path_name rows), default_kept (has_row path_name rows) rows) (set_defaults flags rows)

abbrev found_at : Text → List Row → Option Row
found_at name rows = find (λ (r : Row). bytes_eq r.id name) rows

-- it stands behind the others
added : (flag : Text) (change : Row → List Row) (rows : List Row) → has_row flag rows ≡ false → at_row flag change (default_row flag ∷ []) rows ≡ rows ++ default_row flag ∷ []
added flag change [] missing = refl
added flag change (r ∷ rows) missing = go (bytes_eq r.id flag) missing (added flag change rows)
  where
    go : (is : Bool) → (is || has_row flag rows) ≡ false → (has_row flag rows ≡ false → at_row flag change (default_row flag ∷ []) rows ≡ rows ++ default_row flag ∷ [])
        → cond is (change r ++ rows) (r ∷ at_row flag change (default_row flag ∷ []) rows) ≡ r ∷ rows ++ default_row flag ∷ []
    go true missing more = cc
    go false missing more = ap (λ rows. r ∷ rows) (more missing)

found_behind : (name : Text) (last : Row) (rows : List Row) → found_at name (rows ++ last ∷ []) ≡ option_map_or (λ (r : Row). Some r) (found_at name rows) (cond (bytes_eq last.id name) (Some last) None)
found_behind name last [] = refl
found_behind name last (r ∷ rows) = go (bytes_eq r.id name) (found_behind name last rows)
  where
    go : (is : Bool) → found_at name (rows ++ last ∷ []) ≡ option_map_or (λ (r : Row). Some r) (found_at name rows) (cond (bytes_eq last.id name) (Some last) None)
        → cond is (Some r) (found_at name (rows ++ last ∷ [])) ≡ option_map_or (λ (r : Row). Some r) (cond is (Some r) (found_at name rows)) (cond (bytes_eq last.id name) (Some last) None)
    go true more = refl
    go false more = more

has_found : (name : Text) (rows : List Row) → has_row name rows ≡ is_some (found_at name rows)
has_found name [] = refl
has_found name (r ∷ rows) = go (bytes_eq r.id name) (has_found name rows)
  where
    go : (is : Bool) → has_row name rows ≡ is_some (found_at name rows) → (is || has_row name rows) ≡ is_some (cond is (Some r) (found_at name rows))
    go true more = refl
    go false more = more

or_itself : (found : Option Row) → option_map_or (λ (r : Row). Some r) found None ≡ found
or_itself None = refl
or_itself (Some r) = refl

module _ (flag : Text) (rows : List Row) where
  abbrev told : List Row
  told = at_row flag (more_values DefaultValue (flag_text false ∷ [])) (default_row flag ∷ []) rows

  -- of another name nothing changes
  other_found : (name : Text) → bytes_eq flag name ≡ false → found_at name (with_default rows (flag_built flag)) ≡ found_at name rows
  other_found name apart = go (has_row flag rows) refl
    where
      go : (has : Bool) → has_row flag rows ≡ has → found_at name (cond has rows told) ≡ found_at name rows
      go true e = refl
      go false e = ap (found_at name) (added flag (more_values DefaultValue (flag_text false ∷ [])) rows e) ∙ found_behind name (default_row flag) rows ∙ ap (λ is. option_map_or (λ (r : Row). Some r) (found_at name rows) (cond is (Some (default_row flag)) None)) apart ∙ or_itself (found_at name rows)

  -- and it says that it isn't there, where it isn't
  own_found : found_at flag (with_default rows (flag_built flag)) ≡ Some (unwrap_or (found_at flag rows) (default_row flag))
  own_found = go (found_at flag rows) refl
    where
      same : bytes_eq flag flag ≡ true
      same = (bytes_eq-Decides flag flag).1 refl

      go : (found : Option Row) → found_at flag rows ≡ found → found_at flag (with_default rows (flag_built flag)) ≡ Some (unwrap_or found (default_row flag))
      go (Some r) e = ap (λ has. found_at flag (cond has rows told)) (has_found flag rows ∙ ap is_some e) ∙ e
      go None e =
          let missing : has_row flag rows ≡ false = has_found flag rows ∙ ap is_some e in
          ap (λ has. found_at flag (cond has rows told)) missing ∙ ap (found_at flag) (added flag (more_values DefaultValue (flag_text false ∷ [])) rows missing) ∙ found_behind flag (default_row flag) rows
          ∙ ap₂ (λ found is. option_map_or (λ (r : Row). Some r) found (cond is (Some (default_row flag)) None)) e same

-- ---- the path alone is required

path_kept : (flags : List Text) → is_named flags path_name ≡ false → (rows : List Row) → found_at path_name (fold with_default rows (set_flags flags)) ≡ found_at path_name rows
path_kept [] apart rows = ap (found_at path_name) (default_kept (has_row (codes "help") rows) rows)
path_kept (first ∷ flags) apart rows = go (bytes_eq first path_name) refl apart (λ apart. path_kept flags apart (with_default rows (flag_built first)))
  where
    go : (is : Bool) → bytes_eq first path_name ≡ is → (is || is_named flags path_name) ≡ false
        → (is_named flags path_name ≡ false → found_at path_name (fold with_default (with_default rows (flag_built first)) (set_flags flags)) ≡ found_at path_name (with_default rows (flag_built first)))
        → found_at path_name (fold with_default (with_default rows (flag_built first)) (set_flags flags)) ≡ found_at path_name rows
    go true e apart more = cc
    go false e apart more = more apart ∙ other_found first rows path_name e

none_required : (flags : List Text) (rows : List Row) → list_any (lacks rows) (set_flags flags) ≡ false
none_required [] rows = refl
none_required (first ∷ flags) rows = none_required flags rows

path_first : (flags : List Text) (rows : List Row) → fold with_default rows (path_and_flags flags) ≡ fold with_default rows (set_flags flags)
path_first flags rows = ap (λ rows. fold with_default rows (set_flags flags)) (default_kept (has_row path_name rows) rows)

abbrev is_told : Option Row → Bool
is_told found = option_map_or (λ (r : Row). explicit_source r.source) found false

path_ends : (command : Text) (flags : List Text) → is_named flags path_name ≡ false → (uses : List Use)
    → FailsWhere (is_some (next_place one_path uses)) (or_else (defaults_fault (rows_of_uses uses) (path_and_flags flags)) (check_fault (leaf_of command (path_and_flags flags)) (fold with_default (rows_of_uses uses) (path_and_flags flags)) false))
path_ends command flags apart uses =
    let rows = fold with_default (rows_of_uses uses) (path_and_flags flags) in
    let leaf = leaf_of command (path_and_flags flags) in
    let wanted = not (gives uses path_name) in
    let given : is_given path_name rows ≡ gives uses path_name = ap is_told (ap (found_at path_name) (path_first flags (rows_of_uses uses)) ∙ path_kept flags apart (rows_of_uses uses)) ∙ given_place path_name uses in
    let is : list_any (lacks rows) (path_and_flags flags) ≡ wanted = ap₂ (λ a b. not a || b) given (none_required flags rows) ∙ or-false wanted in
    subst (λ wants. FailsWhere wants (or_else (defaults_fault (rows_of_uses uses) (path_and_flags flags)) (check_fault leaf rows false))) (sym (path_wanted (gives uses path_name)))
    (subst (λ kinds. FailsWhere wanted (or_else kinds (check_fault leaf rows false))) (sym (path_defaults flags (rows_of_uses uses)))
    (subst (λ wants. FailsWhere wanted (check_kinds false false wants)) (sym is) (fails_where wanted)))

pub flags_leaf_of : (command : Text) (flags : List Text) → is_named flags path_name ≡ false → IsOptionLeaf one_path command (path_and_flags flags) [] flags
flags_leaf_of command flags apart = record {
  by_long_name = λ name never. cc;
  by_id = λ name never. cc;
  by_long_flag = λ name other named. set_by_long flags name named;
  asks = λ name other unset. set_asks flags name unset;
  asks_short = set_asks_short flags;
  place_by_id = λ place named. (1, subst (λ place. arg_by_id (path_and_flags flags) place ≡ Some (place_built 1 place)) (is_path place named) (place_is path_name (set_flags flags) 1));
  placed = λ uses. path_place flags (gives uses path_name);
  moves = λ uses. path_moves (gives uses path_name);
  distinct = refl;
  no_option = refl;
  no_flag = or-false (is_named flags path_name) ∙ apart;
  ends = path_ends command flags apart;
}

pub path_value_kept : (flags : List Text) → is_named flags path_name ≡ false → (uses : List Use) → first_of path_name (fold with_default (rows_of_uses uses) (path_and_flags flags)) ≡ first_of path_name (rows_of_uses uses)
path_value_kept flags apart uses =
    ap (option_and_then (λ (r : Row). slice_get r.values 0)) (ap (found_at path_name) (path_first flags (rows_of_uses uses)) ∙ path_kept flags apart (rows_of_uses uses))

-- ---- a flag that was read says that it is there

module _ (flags : List Text) where
  abbrev is_set : Use → Bool
  is_set one = not (is_named flags one.name) || bytes_eq one.value flag_set

  abbrev pub AllSet : List Use → Type 0
  AllSet uses = list_all is_set uses ≡ true

  one_more : (uses : List Use) (one : Use) → AllSet uses → is_set one ≡ true → AllSet (uses ++ one ∷ [])
  one_more [] one all is = rw is refl
  one_more (first ∷ uses) one all is = let parts = and_parts (is_set first) (list_all is_set uses) all in rw parts.0 (one_more uses one parts.1 is)

  abbrev ReadsSet : Reading → Type 0
  ReadsSet (Between uses) = AllSet uses
  ReadsSet (Wanting name uses) = ⊥
  ReadsSet (Ended uses) = AllSet uses
  ReadsSet Wrong = Unit {0}

  module _ (apart : is_named flags path_name ≡ false) where
    path_set : (read : List Use → Reading) → ((uses : List Use) → AllSet uses → ReadsSet (read uses)) → (word : Text) (uses : List Use) → AllSet uses → ReadsSet (after_place one_path read word uses)
    path_set read keeps word uses all = go (gives uses path_name)
      where
        go : (given : Bool) → ReadsSet (placed_at read word uses (cond (not given) (Some path_name) None))
        go true = tt
        go false = keeps _ (one_more uses (record { name = path_name; value = word }) all (rw apart refl))

    flag_is_set : (name : Text) → is_set (record { name = name; value = flag_set }) ≡ true
    unfolding clap_on_literals
    flag_is_set name = or-true (not (is_named flags name))

    once : (name : Text) (uses : List Use) → AllSet uses → (again : Bool) → ReadsSet (cond again Wrong (Between (uses ++ record { name = name; value = flag_set } ∷ [])))
    once name uses all true = tt
    once name uses all false = one_more uses (record { name = name; value = flag_set }) all (flag_is_set name)

    sets : (name : Text) (v : Option Text) (uses : List Use) → AllSet uses → ReadsSet (flagged_by name v uses)
    sets name None uses all = once name uses all (list_any (is_use_of name) uses)
    sets name (Some v) uses all = tt

    option_set : (long : Option (Text × Option Text)) (uses : List Use) → AllSet uses → ReadsSet (after_option [] flags long uses)
    option_set None uses all = tt
    option_set (Some p) uses all = go (is_named flags p.0)
      where
        go : (is : Bool) → ReadsSet (cond is (flagged_by p.0 p.1 uses) Wrong)
        go true = sets p.0 p.1 uses all
        go false = tt

    word_set : (reading : Reading) (word : Text) → ReadsSet reading → ReadsSet (after_word one_path [] flags reading word)
    word_set (Between uses) word all = go (ends_options word) (is_option word)
      where
        go : (ends option : Bool) → ReadsSet (cond ends (Ended uses) (cond option (after_option [] flags (long_of word) uses) (after_place one_path Between word uses)))
        go true option = all
        go false true = option_set (long_of word) uses all
        go false false = path_set Between (λ uses all. all) word uses all
    word_set (Wanting name uses) word all = absurd all
    word_set (Ended uses) word all = path_set Ended (λ uses all. all) word uses all
    word_set Wrong word all = tt

    words_set : (words : List Text) (reading : Reading) → ReadsSet reading → ReadsSet (fold (after_word one_path [] flags) reading words)
    words_set [] reading all = all
    words_set (word ∷ words) reading all = words_set words (after_word one_path [] flags reading word) (word_set reading word all)

    whole_set : (uses found : List Use) → AllSet uses → (next : Option Text) → whole_at uses next ≡ Some found → AllSet found
    whole_set uses found all (Some place) same = cc
    whole_set uses found all None same = subst AllSet (some_is same) all

    read_set : (reading : Reading) (uses : List Use) → ReadsSet reading → uses_read one_path reading ≡ Some uses → AllSet uses
    read_set (Between uses) found all same = whole_set uses found all (next_place one_path uses) same
    read_set (Wanting name uses) found all same = absurd all
    read_set (Ended uses) found all same = whole_set uses found all (next_place one_path uses) same
    read_set Wrong found all same = cc

    pub uses_set : (words : List Text) (uses : List Use) → uses_taken one_path [] flags words ≡ Some uses → AllSet uses
    uses_set words uses same = read_set (fold (after_word one_path [] flags) (Between []) words) uses (words_set words (Between []) refl) same

  -- the use that is found of a flag
  found_set : (name : Text) → is_named flags name ≡ true → (uses : List Use) (one : Use) → AllSet uses → find (is_use_of name) uses ≡ Some one → one.value ≡ flag_set
  found_set name named [] one all same = cc
  found_set name named (first ∷ uses) one all same = go (bytes_eq first.name name) refl same (found_set name named uses one)
    where
      parts : (is_set first ≡ true) × AllSet uses
      parts = and_parts (is_set first) (list_all is_set uses) all

      value_set : first.name ≡ name → first.value ≡ flag_set
      value_set is = (bytes_eq-Decides first.value flag_set).0 (subst (λ b. (not b || bytes_eq first.value flag_set) ≡ true) (ap (is_named flags) is ∙ named) parts.0)

      go : (is : Bool) → bytes_eq first.name name ≡ is → cond is (Some first) (find (is_use_of name) uses) ≡ Some one → (AllSet uses → find (is_use_of name) uses ≡ Some one → one.value ≡ flag_set) → one.value ≡ flag_set
      go true e same more = ap (λ (one : Use). one.value) (sym (some_is same)) ∙ value_set (is_name first.name name e)
      go false e same more = more parts.1 same

  -- what is then held of it
  pub flag_text_of : (name : Text) → is_named flags name ≡ true → (uses : List Use) → AllSet uses
      → option_and_then row_text (Some (unwrap_or (found_at name (rows_of_uses uses)) (default_row name))) ≡ Some (flag_text (is_some (option_given name uses)))
  flag_text_of name named uses all =
      ap (λ found. row_text (unwrap_or found (default_row name))) (sym (find-map (λ (r : Row). bytes_eq r.id name) row_of_use uses)) ∙ go (find (is_use_of name) uses) refl
    where
      go : (found : Option Use) → find (is_use_of name) uses ≡ found → row_text (unwrap_or (option_map row_of_use found) (default_row name)) ≡ Some (flag_text (is_some (option_map (λ (one : Use). one.value) found)))
      go None e = refl
      go (Some one) e = ap (λ text. Some text) (found_set name named uses one all e)

-- ---- a path and two flags

module _ (first second : Text) (apart : bytes_eq second first ≡ false) (other : bytes_eq first second ≡ false) (uses : List Use) (all : AllSet (first ∷ second ∷ []) uses) (named : is_named (first ∷ second ∷ []) first ≡ true) (named' : is_named (first ∷ second ∷ []) second ≡ true) where
  abbrev rows : List Row
  rows = rows_of_uses uses

  abbrev flags : List Text
  flags = first ∷ second ∷ []

  abbrev end : List Row
  end = fold with_default rows (path_and_flags flags)

  end_is : (name : Text) → found_at name end ≡ found_at name (with_default (with_default rows (flag_built first)) (flag_built second))
  end_is name = ap (found_at name) (path_first flags rows ∙ default_kept (has_row (codes "help") (with_default (with_default rows (flag_built first)) (flag_built second))) _)

  pub first_text : one_of first end ≡ Some (flag_text (is_some (option_given first uses)))
  first_text = ap (option_and_then row_text) (end_is first ∙ other_found second (with_default rows (flag_built first)) first apart ∙ own_found first rows) ∙ flag_text_of flags first named uses all

  pub second_text : one_of second end ≡ Some (flag_text (is_some (option_given second uses)))
  second_text =
      ap (option_and_then row_text) (end_is second ∙ own_found second (with_default rows (flag_built first)) ∙ ap (λ found. Some (unwrap_or found (default_row second))) (other_found first rows second other))
      ∙ flag_text_of flags second named' uses all
