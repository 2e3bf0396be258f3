-- Which words the program's parser takes, and which command and values it then meets.
use Rattle.std.proofs.Common.{◌≡◌, ◌∙◌, ℕ, Bool, true, false, List, [], ◌∷◌, Option, Some, None, Result, Ok, Err, IfErr, refl, sym, ap, ap₂, subst, codes, cond, slice_index_or, is_some, inl, inr, arith, Global}
use Rattle.std.proofs.lemmas.Option.{none-some}
use Rattle.std.specs.Prelude.{not, ◌&&◌, ◌||◌, unwrap_or, ◌⊎◌, ◌≢◌, Box, IsErrAnd, find, fold, option_map, option_and_then, IsSome}
use Rattle.std.specs.Box.{box_value}
use Rattle.std.specs.Str.{bytes_eq}
use Rattle.clap.specs.declared.parser.matches.ArgMatches.{ArgMatches}
use Rattle.clap.specs.declared.parser.matches.SubCommand.{SubCommand}
use Rattle.clap.specs.declared.parser.matches.ArgMatches.TheViews.{out-ArgMatches, out-SubCommand}
use Rattle.clap.specs.Words.{App, HasKind, found_of, rows_of, subcommand_name_of, HasMatchesOf, IsAmong, Kinds, Row, Rule, Shape, Text, fault_of, first_of, first_value, is_simple, is_simple_and_free, kind_of, subcommand_of, subcommand_rows, subcommand_rows_of}
use Rattle.clap.specs.Kinds.{or_else}
use Rattle.clap.specs.Lexer.{long_of}
use Rattle.clap.specs.Simple.{built, entered, filled_from, help_rule, names_of}
use Rattle.clap.specs.Walk.{Names, Walk, after_step, arg_by_long, arg_by_short, finished, has_long, has_short, idle, nothing_held, rows_after, settled, subcommand_met, walk_from, walked, with_default}
use Rattle.clap.specs.Faults.{built_fault, check_fault, defaults_fault, entered_fault, level_fault, settle_fault, step_fault, turn_fault, walk_fault}
use Rattle.clap.specs.declared.error.Error.{Error}
use Rattle.clap.specs.declared.error.kind.ErrorKind.TheVariants as kind
use Rattle.clap.proofs.OnLiterals.{clap_on_literals}
use Rattle.clap.proofs.WalkLemmas.{both, first_value-rows, one_text-rows, walk_stopped}
use Rattle.clap.proofs.FaultLemmas.{stopped_fault}
use Rattle.exh_command.specs.CommandFault.{IsFaultOf, IsWrong, TellsVersion}
use Rattle.exh_command.specs.Words.{Use, alone, ends_options, flags_and_path, gives, is_option, is_use_of, new_path_name, next_place, only_word, option_given, path_name, path_named, uses_and_path, uses_and_two_paths, uses_named, word_perhaps}
use Rattle.exh_command.specs.Job.{AskForVersion, Asked, Serve, Check, Dump, Load, Storm, Pairs, PairsTexts, Convert, Version, Manual, asked_by, callers_name, calls_name, cap_name, command_of, convert_asked, convert_names, converted_by, copies_name, job_asked, job_named, into_name, keyer_name, load_asked, load_flags, loaded_by, long_name, manual_asked, open_name, paired_by, pairs_asked, pairs_names, save_name, serve_asked, serve_names, served_by, storm_asked, storm_names, stormed_by, version_asked, version_name, versioned_by, wards_name}
use Rattle.exh_command.specs.Parser.{HasFlags, HasPairsTexts, HasTexts, HasValues, IsJobMet, Meets, ReadsJobs, command_id, new_id, pairs_texts_of, path_id, path_rule, texts_of}
use Rattle.exh_command.proofs.TheProgram.{program, serve}
use Rattle.exh_command.proofs.ManualWords.{manual_agrees, manual_flags, manual_kinds, manual_met}
use Rattle.exh_command.specs.declared.fault.CliFault.{CliFault}
use Rattle.exh_command.proofs.OptionLemmas.{IsOptionLeaf, first_of-rows_of_uses, rows_of_uses}
use Rattle.exh_command.proofs.OptionFlags.{both_given, flags_agree, flags_met, help_asking, keeps_rows, no_defaults, one_path, option_flags, option_leaf, path_flags_of, path_keeps, path_leaf_of, two_path_flags_of, two_paths, two_paths_keep, two_paths_leaf_of}
use Rattle.exh_command.proofs.SetFlags.{first_text, flags_leaf_of, path_and_flags, path_value_kept, second_text, uses_set}
use Rattle.exh_command.proofs.WordLemmas.{Agrees, Fails, IsAsking, IsValue, agreed, agrees_as, all_ask, first_fails, flags, help, is_end, is_name, is_plain_word, is_value, option_fails, or_nothing, some_is, version, word_fails}

-- ---- the parser, as clap's clauses see it

is_exact : is_simple_and_free program ≡ true
unfolding clap_on_literals
is_exact = refl

-- the arguments of `serve` and of `storm`, and those of a command about a path
abbrev serve_flags : List Rule
serve_flags = option_flags serve_names

abbrev storm_flags : List Rule
storm_flags = option_flags storm_names

abbrev path_flags : List Rule
path_flags = filled_from 1 (path_rule ∷ help_rule ∷ [])

-- ---- the words after `serve`, and after `storm`

serve_leaf : IsOptionLeaf [] (codes "serve") serve_flags serve_names []
unfolding clap_on_literals
serve_leaf = option_leaf (codes "serve") serve_names (λ rows. ap₂ or_else (no_defaults serve_names rows) refl)

storm_leaf : IsOptionLeaf [] (codes "storm") storm_flags storm_names []
unfolding clap_on_literals
storm_leaf = option_leaf (codes "storm") storm_names (λ rows. ap₂ or_else (no_defaults storm_names rows) refl)

abbrev leaf_kinds : List Text → Kinds
leaf_kinds words = level_fault (slice_index_or (built program).subs 0 serve) [] nothing_held words false []

abbrev storm_kinds : List Text → Kinds
storm_kinds words = level_fault (slice_index_or (built program).subs 4 serve) [] nothing_held words false []

leaf_agrees : (words : List Text) → Agrees (serve_asked words) (leaf_kinds words)
leaf_agrees words = flags_agree [] (codes "serve") serve_flags serve_names [] serve_leaf served_by words

storm_agrees : (words : List Text) → Agrees (storm_asked words) (storm_kinds words)
storm_agrees words = flags_agree [] (codes "storm") storm_flags storm_names [] storm_leaf stormed_by words

served_values : (uses : List Use) → next_place [] uses ≡ None → HasValues (served_by uses) (rows_of_uses uses)
served_values uses whole = (first_of-rows_of_uses open_name uses, first_of-rows_of_uses save_name uses)

stormed_values : (uses : List Use) → next_place [] uses ≡ None → HasValues (stormed_by uses) (rows_of_uses uses)
stormed_values uses whole = record {
  callers = first_of-rows_of_uses callers_name uses;
  calls = first_of-rows_of_uses calls_name uses;
  cap = first_of-rows_of_uses cap_name uses;
  wards = first_of-rows_of_uses wards_name uses;
  copies = first_of-rows_of_uses copies_name uses;
}

-- they meet their values
leaf_met : (words : List Text) (asked : Asked) → serve_asked words ≡ Some asked → HasValues asked (rows_after serve_flags [] words)
leaf_met words asked named = flags_met [] (codes "serve") serve_flags serve_names [] serve_leaf served_by (λ words uses is whole. subst (HasValues (served_by uses)) (sym (keeps_rows serve_names (rows_of_uses uses))) (served_values uses whole)) words asked named

storm_leaf_met : (words : List Text) (asked : Asked) → storm_asked words ≡ Some asked → HasValues asked (rows_after storm_flags [] words)
storm_leaf_met words asked named = flags_met [] (codes "storm") storm_flags storm_names [] storm_leaf stormed_by (λ words uses is whole. subst (HasValues (stormed_by uses)) (sym (keeps_rows storm_names (rows_of_uses uses))) (stormed_values uses whole)) words asked named

-- ---- the words after `pairs`

abbrev pairs_flags : List Rule
pairs_flags = path_flags_of pairs_names

pairs_leaf : IsOptionLeaf one_path (codes "pairs") pairs_flags pairs_names []
unfolding clap_on_literals
pairs_leaf = path_leaf_of (codes "pairs") pairs_names refl

abbrev pairs_kinds : List Text → Kinds
pairs_kinds words = level_fault (slice_index_or (built program).subs 5 serve) [] nothing_held words false []

pairs_agree : (words : List Text) → Agrees (pairs_asked words) (pairs_kinds words)
pairs_agree words = flags_agree one_path (codes "pairs") pairs_flags pairs_names [] pairs_leaf paired_by words

given_is : (place : Text) (uses : List Use) → is_some (option_given place uses) ≡ gives uses place
given_is place [] = refl
given_is place (one ∷ uses) = go (is_use_of place one) (given_is place uses)
  where
    go : (b : Bool) → is_some (option_given place uses) ≡ gives uses place → is_some (option_map (λ (one : Use). one.value) (cond b (Some one) (find (is_use_of place) uses))) ≡ (b || gives uses place)
    go true others = refl
    go false others = others

path_there : (given : Bool) → cond (not given) (Some path_name) None ≡ None → given ≡ true
path_there true none = refl
path_there false none = cc

some_or : (given : Option Text) → is_some given ≡ true → given ≡ Some (unwrap_or given [])
some_or None some = cc
some_or (Some path) some = refl

paired_values : (uses : List Use) → next_place one_path uses ≡ None → HasValues (paired_by uses) (rows_of_uses uses)
paired_values uses whole =
    let given = given_is path_name uses ∙ path_there (gives uses path_name) whole in (
      first_of-rows_of_uses path_name uses ∙ some_or (option_given path_name uses) given,
      record {
        cap = first_of-rows_of_uses cap_name uses;
        wards = first_of-rows_of_uses wards_name uses;
        keyer = first_of-rows_of_uses keyer_name uses;
      },
    )

pairs_met : (words : List Text) (asked : Asked) → pairs_asked words ≡ Some asked → HasValues asked (rows_after pairs_flags [] words)
pairs_met words asked named = flags_met one_path (codes "pairs") pairs_flags pairs_names [] pairs_leaf paired_by (λ words uses is whole. subst (HasValues (paired_by uses)) (sym (path_keeps pairs_names (rows_of_uses uses))) (paired_values uses whole)) words asked named

-- ---- the words after `convert`

abbrev convert_flags : List Rule
convert_flags = two_path_flags_of convert_names

convert_leaf : IsOptionLeaf two_paths (codes "convert") convert_flags convert_names []
unfolding clap_on_literals
convert_leaf = two_paths_leaf_of (codes "convert") convert_names refl refl

abbrev convert_kinds : List Text → Kinds
convert_kinds words = level_fault (slice_index_or (built program).subs 6 serve) [] nothing_held words false []

convert_agrees : (words : List Text) → Agrees (convert_asked words) (convert_kinds words)
convert_agrees words = flags_agree two_paths (codes "convert") convert_flags convert_names [] convert_leaf converted_by words

converted_values : (uses : List Use) → next_place two_paths uses ≡ None → HasValues (converted_by uses) (rows_of_uses uses)
converted_values uses whole =
    let both = both_given (gives uses path_name) (gives uses new_path_name) whole in (
      first_of-rows_of_uses path_name uses ∙ some_or (option_given path_name uses) (given_is path_name uses ∙ both.0),
      first_of-rows_of_uses new_path_name uses ∙ some_or (option_given new_path_name uses) (given_is new_path_name uses ∙ both.1),
      first_of-rows_of_uses version_name uses,
    )

convert_met : (words : List Text) (asked : Asked) → convert_asked words ≡ Some asked → HasValues asked (rows_after convert_flags [] words)
convert_met words asked named =
    flags_met two_paths (codes "convert") convert_flags convert_names [] convert_leaf converted_by (λ words uses is whole. subst (HasValues (converted_by uses)) (sym (two_paths_keep convert_names (rows_of_uses uses))) (converted_values uses whole)) words asked named

-- ---- the words after `version`

abbrev version_flags : List Rule
version_flags = option_flags []

version_leaf : IsOptionLeaf [] (codes "version") version_flags [] []
unfolding clap_on_literals
version_leaf = option_leaf (codes "version") [] (λ rows. ap₂ or_else (no_defaults [] rows) refl)

abbrev version_kinds : List Text → Kinds
version_kinds words = level_fault (slice_index_or (built program).subs 7 serve) [] nothing_held words false []

version_agrees : (words : List Text) → Agrees (version_asked words) (version_kinds words)
version_agrees words = flags_agree [] (codes "version") version_flags [] [] version_leaf versioned_by words

version_met : (words : List Text) (asked : Asked) → version_asked words ≡ Some asked → HasValues asked (rows_after version_flags [] words)
version_met words asked named = flags_met [] (codes "version") version_flags [] [] version_leaf versioned_by (λ words uses is whole. tt) words asked named

-- ---- the words after `load`

abbrev load_rules : List Rule
load_rules = path_and_flags load_flags

load_leaf : IsOptionLeaf one_path (codes "load") load_rules [] load_flags
unfolding clap_on_literals
load_leaf = flags_leaf_of (codes "load") load_flags refl

abbrev load_kinds : List Text → Kinds
load_kinds words = level_fault (slice_index_or (built program).subs 3 serve) [] nothing_held words false []

load_agrees : (words : List Text) → Agrees (load_asked words) (load_kinds words)
load_agrees words = flags_agree one_path (codes "load") load_rules [] load_flags load_leaf loaded_by words

loaded_values : (words : List Text) (uses : List Use) → flags_and_path load_flags words ≡ Some uses → next_place one_path uses ≡ None → HasValues (loaded_by uses) (fold with_default (rows_of_uses uses) load_rules)
unfolding clap_on_literals
loaded_values words uses is whole =
    let all = uses_set load_flags refl words uses is in
    let given = given_is path_name uses ∙ path_there (gives uses path_name) whole in (
      path_value_kept load_flags refl uses ∙ first_of-rows_of_uses path_name uses ∙ some_or (option_given path_name uses) given,
      first_text long_name into_name refl refl uses all refl refl,
      second_text long_name into_name refl refl uses all refl refl,
    )

load_met : (words : List Text) (asked : Asked) → load_asked words ≡ Some asked → HasValues asked (rows_after load_rules [] words)
load_met words asked named = flags_met one_path (codes "load") load_rules [] load_flags load_leaf loaded_by loaded_values words asked named

-- ---- the words after a command about a path

abbrev path_leaf : Shape
path_leaf = slice_index_or (built program).subs 1 serve

long_help : (name : Text) → IsAsking (arg_by_long path_flags name)
long_help name = help_asking (not (is_some help.index) && has_long help name)

short_help : (c : ℕ) → IsAsking (arg_by_short path_flags c)
short_help c = help_asking (not (is_some help.index) && has_short help c)

abbrev path_kinds : List Text → Kinds
path_kinds words = level_fault path_leaf [] nothing_held words false []

abbrev path_rows : List Text → Option Text
path_rows words = first_of path_id (rows_after path_flags [] words)

-- the walk behind a path
abbrev behind_path : Text → Walk
behind_path path = record (walk_from (record nothing_held { pending = Some (path_id, path ∷ []) })) { position = 2 }

-- the errors of a word and of those behind it, by its own and by the walk behind it
abbrev kinds_from : List Text → Kinds → Walk → Kinds
kinds_from rest own behind =
    let end = fold (walked path_flags []) behind rest in
    or_else (or_else own (walk_fault path_leaf [] behind rest))
    (or_else (settle_fault path_flags path_leaf.args_override_self end.held)
    (or_else (defaults_fault (settled path_flags end.held).rows path_flags) (check_fault path_leaf (finished path_flags end.held) false)))

abbrev rows_from : List Text → Walk → Option Text
rows_from rest behind = first_of path_id (finished path_flags (fold (walked path_flags []) behind rest).held)

module _ (path : Text) (no_end : ends_options path ≡ false) (no_option : is_option path ≡ false) where
  path_value : IsValue path_leaf path_flags short_help [] None 1 path idle
  path_value = is_value path_leaf path_flags short_help [] None 1 path idle no_end (is_plain_word path no_option)

  path_walked : walked path_flags [] (walk_from nothing_held) path ≡ behind_path path
  unfolding walked
  path_walked = ap (λ met. after_step path_flags path (walk_from nothing_held) met.0 met.1) path_value.0

  path_passes : turn_fault path_leaf [] (walk_from nothing_held) path ≡ []
  path_passes = ap₂ (λ fault met. or_else fault (step_fault path_leaf 1 met.0 met.1)) path_value.1 path_value.0

  path_then : (rest : List Text) → path_kinds (path ∷ rest) ≡ kinds_from rest [] (behind_path path)
  unfolding walk_fault
  path_then rest = ap₂ (kinds_from rest) path_passes path_walked

  more_fails : (word : Text) → ends_options word ≡ false → Fails (turn_fault path_leaf [] (behind_path path) word)
  more_fails word no_end = word_fails path_leaf path_flags short_help [] (Some (path_id, path ∷ [])) 2 word refl (all_ask path_flags long_help (long_of word)) [] refl no_end

  alone_agrees : (word : Text) (ends : Bool) → ends_options word ≡ ends → Agrees (cond ends (Some path) None) (kinds_from (word ∷ []) [] (behind_path path))
  unfolding clap_on_literals
  alone_agrees word true e = subst (λ w. kinds_from (w ∷ []) [] (behind_path path) ≡ []) (is_end word e) refl
  alone_agrees word false e = first_fails _ _ (first_fails _ _ (more_fails word e))

  many_fail : (word next : Text) (rest : List Text) (ends : Bool) → ends_options word ≡ ends → Fails (kinds_from (word ∷ next ∷ rest) [] (behind_path path))
  unfolding clap_on_literals
  many_fail word next rest true e = subst (λ w. Fails (kinds_from (w ∷ next ∷ rest) [] (behind_path path))) (is_end word e) tt
  many_fail word next rest false e = first_fails _ _ (first_fails _ _ (more_fails word e))

  rest_agrees : (rest : List Text) → Agrees (alone path rest) (kinds_from rest [] (behind_path path))
  unfolding clap_on_literals
  rest_agrees [] = refl
  rest_agrees (word ∷ []) = alone_agrees word (ends_options word) refl
  rest_agrees (word ∷ next ∷ rest) = many_fail word next rest (ends_options word) refl

  alone_met : (word found : Text) (ends : Bool) → ends_options word ≡ ends → cond ends (Some path) None ≡ Some found → rows_from (word ∷ []) (behind_path path) ≡ Some found
  unfolding clap_on_literals
  alone_met word found true e named = subst (λ w. rows_from (w ∷ []) (behind_path path) ≡ Some path) (is_end word e) refl ∙ named
  alone_met word found false e named = absurd (none-some found named)

  rest_met : (rest : List Text) (found : Text) → alone path rest ≡ Some found → rows_from rest (behind_path path) ≡ Some found
  unfolding clap_on_literals
  rest_met [] found named = named
  rest_met (word ∷ []) found named = alone_met word found (ends_options word) refl named
  rest_met (word ∷ next ∷ rest) found named = absurd (none-some found named)

end_agrees : (rest : List Text) → Agrees (only_word rest) (path_kinds (codes "--" ∷ rest))
unfolding clap_on_literals
end_agrees [] = tt
end_agrees (path ∷ []) = refl
end_agrees (path ∷ next ∷ rest) = tt

end_met : (rest : List Text) (found : Text) → only_word rest ≡ Some found → path_rows (codes "--" ∷ rest) ≡ Some found
unfolding clap_on_literals
end_met [] found named = absurd (none-some found named)
end_met (path ∷ []) found named = named
end_met (path ∷ next ∷ rest) found named = absurd (none-some found named)

first_agrees : (word : Text) (rest : List Text) (ends option : Bool) → ends_options word ≡ ends → is_option word ≡ option
    → Agrees (cond ends (only_word rest) (cond option None (alone word rest))) (path_kinds (word ∷ rest))
unfolding walk_fault
first_agrees word rest true option e o = subst (λ w. Agrees (only_word rest) (path_kinds (w ∷ rest))) (is_end word e) (end_agrees rest)
first_agrees word rest false true e o =
    first_fails _ _ (first_fails _ _ (option_fails path_leaf path_flags short_help [] None 1 word (all_ask path_flags long_help (long_of word)) [] refl e o))
first_agrees word rest false false e o = subst (Agrees (alone word rest)) (sym (path_then word e o rest)) (rest_agrees word e o rest)

path_agrees : (words : List Text) → Agrees (path_named words) (path_kinds words)
unfolding clap_on_literals
path_agrees [] = tt
path_agrees (word ∷ rest) = first_agrees word rest (ends_options word) (is_option word) refl refl

first_met : (word : Text) (rest : List Text) (found : Text) (ends option : Bool) → ends_options word ≡ ends → is_option word ≡ option
    → cond ends (only_word rest) (cond option None (alone word rest)) ≡ Some found → path_rows (word ∷ rest) ≡ Some found
first_met word rest found true option e o named = subst (λ w. path_rows (w ∷ rest) ≡ Some found) (is_end word e) (end_met rest found named)
first_met word rest found false true e o named = absurd (none-some found named)
first_met word rest found false false e o named = ap (rows_from rest) (path_walked word e o) ∙ rest_met word e o rest found named

path_met : (words : List Text) (found : Text) → path_named words ≡ Some found → path_rows words ≡ Some found
path_met [] found named = absurd (none-some found named)
path_met (word ∷ rest) found named = first_met word rest found (ends_options word) (is_option word) refl refl named

-- ---- the words after the program's name

abbrev top : Shape
top = (built program).top

abbrev names : Names
names = names_of (built program)

asking : (p : Rule → Bool) → IsAsking (find p flags)
asking p = go (p help) (p version)
  where
    go : (is_help is_version : Bool) → IsAsking (cond is_help (Some help) (cond is_version (Some version) None))
    go true is_version = inr (inl refl)
    go false true = inr (inr refl)
    go false false = inl refl

long_asking : (name : Text) → IsAsking (arg_by_long flags name)
long_asking name = asking (λ a. not (is_some a.index) && has_long a name)

short_asking : (c : ℕ) → IsAsking (arg_by_short flags c)
short_asking c = asking (λ a. not (is_some a.index) && has_short a c)

abbrev top_kinds : List Text → Kinds
top_kinds words = built_fault (built program) nothing_held words

-- the errors of words of which the walk refused these, and which it left so
abbrev ended : Kinds → Walk → Kinds
ended refused end =
    let stop = end.stopped in
    or_else refused (or_else (entered_fault (built program) stop) (or_else (settle_fault flags false end.held)
    (or_else (defaults_fault (settled flags end.held).rows flags) (check_fault top (finished flags end.held) (is_some (entered (built program) stop))))))

-- the walk when it has met a command
abbrev at_command : Text → Walk
at_command name = record (walk_from nothing_held) { stopped = Some (name, []) }

abbrev stopped_kinds : Text → List Text → Kinds
stopped_kinds name words = ended (walk_fault top names (at_command name) words) (fold (walked flags names) (at_command name) words)

-- a command leaves the words after it to itself
stopped_is : (name : Text) (words : List Text) → stopped_kinds name words ≡ ended [] (record (walk_from nothing_held) { stopped = Some (name, words) })
stopped_is name words =
    let refused = stopped_fault top names (at_command name) (name, []) words in
    let end = walk_stopped flags names (at_command name) name [] words in
    ap (λ kinds. ended kinds (fold (walked flags names) (at_command name) words)) refused ∙ ap (ended []) (sym end)

serve_leaves : (words : List Text) → top_kinds (codes "serve" ∷ words) ≡ leaf_kinds words
unfolding clap_on_literals
serve_leaves words = stopped_is (codes "serve") words ∙ or_nothing (leaf_kinds words)

check_leaves : (words : List Text) → top_kinds (codes "check" ∷ words) ≡ path_kinds words
unfolding clap_on_literals
check_leaves words = stopped_is (codes "check") words ∙ or_nothing (path_kinds words)

dump_leaves : (words : List Text) → top_kinds (codes "dump" ∷ words) ≡ path_kinds words
unfolding clap_on_literals
dump_leaves words = stopped_is (codes "dump") words ∙ or_nothing (path_kinds words)

load_leaves : (words : List Text) → top_kinds (codes "load" ∷ words) ≡ load_kinds words
unfolding clap_on_literals
load_leaves words = stopped_is (codes "load") words ∙ or_nothing (load_kinds words)

storm_leaves : (words : List Text) → top_kinds (codes "storm" ∷ words) ≡ storm_kinds words
unfolding clap_on_literals
storm_leaves words = stopped_is (codes "storm") words ∙ or_nothing (storm_kinds words)

pairs_leaves : (words : List Text) → top_kinds (codes "pairs" ∷ words) ≡ pairs_kinds words
unfolding clap_on_literals
pairs_leaves words = stopped_is (codes "pairs") words ∙ or_nothing (pairs_kinds words)

convert_leaves : (words : List Text) → top_kinds (codes "convert" ∷ words) ≡ convert_kinds words
unfolding clap_on_literals
convert_leaves words = stopped_is (codes "convert") words ∙ or_nothing (convert_kinds words)

version_leaves : (words : List Text) → top_kinds (codes "version" ∷ words) ≡ version_kinds words
unfolding clap_on_literals
version_leaves words = stopped_is (codes "version") words ∙ or_nothing (version_kinds words)

manual_leaves : (words : List Text) → top_kinds (codes "manual" ∷ words) ≡ manual_kinds words
unfolding clap_on_literals
manual_leaves words = stopped_is (codes "manual") words ∙ or_nothing (manual_kinds words)

help_fails : (words : List Text) → Fails (top_kinds (codes "help" ∷ words))
unfolding clap_on_literals
help_fails words = tt

end_fails : (words : List Text) → Fails (top_kinds (codes "--" ∷ words))
unfolding clap_on_literals
end_fails [] = tt
end_fails (word ∷ rest) = tt

-- a word that names no command
module _ (word : Text) (no_serve : bytes_eq (codes "serve") word ≡ false) (no_check : bytes_eq (codes "check") word ≡ false) (no_dump : bytes_eq (codes "dump") word ≡ false) (no_load : bytes_eq (codes "load") word ≡ false) (no_storm : bytes_eq (codes "storm") word ≡ false) (no_pairs : bytes_eq (codes "pairs") word ≡ false) (no_convert : bytes_eq (codes "convert") word ≡ false) (no_version : bytes_eq (codes "version") word ≡ false) (no_manual : bytes_eq (codes "manual") word ≡ false) where
  unnamed : bytes_eq (codes "help") word ≡ false → subcommand_met names idle word ≡ None
  unnamed no_help = rw (no_serve, no_check, no_dump, no_load, no_storm, no_pairs, no_convert, no_version, no_manual, no_help) refl

  other_fails : (rest : List Text) (helps ends : Bool) → bytes_eq (codes "help") word ≡ helps → ends_options word ≡ ends → Fails (top_kinds (word ∷ rest))
  unfolding clap_on_literals
  other_fails rest true ends help end = subst (λ w. Fails (top_kinds (w ∷ rest))) (is_name (codes "help") word help) (help_fails rest)
  other_fails rest false true no_help end = subst (λ w. Fails (top_kinds (w ∷ rest))) (is_end word end) (end_fails rest)
  other_fails rest false false no_help no_end =
      first_fails _ _ (first_fails _ _ (word_fails top flags short_asking [] None 1 word refl (all_ask flags long_asking (long_of word)) names (unnamed no_help) no_end))

command_agrees : (word : Text) (rest : List Text) (serves checks dumps loads storms pairs converts versions manuals : Bool) → bytes_eq (codes "serve") word ≡ serves → bytes_eq (codes "check") word ≡ checks → bytes_eq (codes "dump") word ≡ dumps → bytes_eq (codes "load") word ≡ loads → bytes_eq (codes "storm") word ≡ storms → bytes_eq (codes "pairs") word ≡ pairs → bytes_eq (codes "convert") word ≡ converts → bytes_eq (codes "version") word ≡ versions → bytes_eq (codes "manual") word ≡ manuals
    → Agrees (cond serves (serve_asked rest) (cond checks (option_map Check (path_named rest)) (cond dumps (option_map Dump (path_named rest)) (cond loads (load_asked rest) (cond storms (storm_asked rest) (cond pairs (pairs_asked rest) (cond converts (convert_asked rest) (cond versions (version_asked rest) (cond manuals (manual_asked rest) None)))))))))
    (top_kinds (word ∷ rest))
command_agrees word rest true checks dumps loads storms pairs converts versions manuals s c d l o i v n m =
    let left = subst (Agrees (serve_asked rest)) (sym (serve_leaves rest)) (leaf_agrees rest) in
    subst (λ w. Agrees (serve_asked rest) (top_kinds (w ∷ rest))) (is_name (codes "serve") word s) left
command_agrees word rest false true dumps loads storms pairs converts versions manuals s c d l o i v n m =
    let left = subst (Agrees (option_map Check (path_named rest))) (sym (check_leaves rest)) (agrees_as Check _ _ (path_agrees rest)) in
    subst (λ w. Agrees (option_map Check (path_named rest)) (top_kinds (w ∷ rest))) (is_name (codes "check") word c) left
command_agrees word rest false false true loads storms pairs converts versions manuals s c d l o i v n m =
    let left = subst (Agrees (option_map Dump (path_named rest))) (sym (dump_leaves rest)) (agrees_as Dump _ _ (path_agrees rest)) in
    subst (λ w. Agrees (option_map Dump (path_named rest)) (top_kinds (w ∷ rest))) (is_name (codes "dump") word d) left
command_agrees word rest false false false true storms pairs converts versions manuals s c d l o i v n m =
    let left = subst (Agrees (load_asked rest)) (sym (load_leaves rest)) (load_agrees rest) in
    subst (λ w. Agrees (load_asked rest) (top_kinds (w ∷ rest))) (is_name (codes "load") word l) left
command_agrees word rest false false false false true pairs converts versions manuals s c d l o i v n m =
    let left = subst (Agrees (storm_asked rest)) (sym (storm_leaves rest)) (storm_agrees rest) in
    subst (λ w. Agrees (storm_asked rest) (top_kinds (w ∷ rest))) (is_name (codes "storm") word o) left
command_agrees word rest false false false false false true converts versions manuals s c d l o i v n m =
    let left = subst (Agrees (pairs_asked rest)) (sym (pairs_leaves rest)) (pairs_agree rest) in
    subst (λ w. Agrees (pairs_asked rest) (top_kinds (w ∷ rest))) (is_name (codes "pairs") word i) left
command_agrees word rest false false false false false false true versions manuals s c d l o i v n m =
    let left = subst (Agrees (convert_asked rest)) (sym (convert_leaves rest)) (convert_agrees rest) in
    subst (λ w. Agrees (convert_asked rest) (top_kinds (w ∷ rest))) (is_name (codes "convert") word v) left
command_agrees word rest false false false false false false false true manuals s c d l o i v n m =
    let left = subst (Agrees (version_asked rest)) (sym (version_leaves rest)) (version_agrees rest) in
    subst (λ w. Agrees (version_asked rest) (top_kinds (w ∷ rest))) (is_name (codes "version") word n) left
command_agrees word rest false false false false false false false false true s c d l o i v n m =
    let left = subst (Agrees (manual_asked rest)) (sym (manual_leaves rest)) (agrees_as Manual _ _ (manual_agrees rest)) in
    subst (λ w. Agrees (manual_asked rest) (top_kinds (w ∷ rest))) (is_name (codes "manual") word m) left
command_agrees word rest false false false false false false false false false s c d l o i v n m = other_fails word s c d l o i v n m rest (bytes_eq (codes "help") word) (ends_options word) refl refl

words_agree : (words : List Text) → Agrees (asked_by words) (fault_of program words)
unfolding clap_on_literals
words_agree [] = tt
words_agree (name ∷ []) = tt
words_agree (name ∷ command ∷ rest) =
    command_agrees command rest (bytes_eq (codes "serve") command) (bytes_eq (codes "check") command) (bytes_eq (codes "dump") command) (bytes_eq (codes "load") command) (bytes_eq (codes "storm") command) (bytes_eq (codes "pairs") command) (bytes_eq (codes "convert") command) (bytes_eq (codes "version") command) (bytes_eq (codes "manual") command) refl refl refl refl refl refl refl refl refl

-- ---- the command that is met, and its values

-- what is met at a command is what it leaves to itself
met_at : (name : Text) (words : List Text) → entered (built program) (fold (walked flags names) (at_command name) words).stopped ≡ entered (built program) (Some (name, words))
met_at name words = ap (λ (end : Walk). entered (built program) end.stopped) (sym (walk_stopped flags names (at_command name) name [] words))

serve_met : (name : Text) (words : List Text) → subcommand_of program (name ∷ codes "serve" ∷ words) ≡ Some (codes "serve", rows_after serve_flags [] words)
unfolding clap_on_literals
serve_met name words = met_at (codes "serve") words

check_met : (name : Text) (words : List Text) → subcommand_of program (name ∷ codes "check" ∷ words) ≡ Some (codes "check", rows_after path_flags [] words)
unfolding clap_on_literals
check_met name words = met_at (codes "check") words

dump_met : (name : Text) (words : List Text) → subcommand_of program (name ∷ codes "dump" ∷ words) ≡ Some (codes "dump", rows_after path_flags [] words)
unfolding clap_on_literals
dump_met name words = met_at (codes "dump") words

load_command_met : (name : Text) (words : List Text) → subcommand_of program (name ∷ codes "load" ∷ words) ≡ Some (codes "load", rows_after load_rules [] words)
unfolding clap_on_literals
load_command_met name words = met_at (codes "load") words

storm_met : (name : Text) (words : List Text) → subcommand_of program (name ∷ codes "storm" ∷ words) ≡ Some (codes "storm", rows_after storm_flags [] words)
unfolding clap_on_literals
storm_met name words = met_at (codes "storm") words

pairs_command_met : (name : Text) (words : List Text) → subcommand_of program (name ∷ codes "pairs" ∷ words) ≡ Some (codes "pairs", rows_after pairs_flags [] words)
unfolding clap_on_literals
pairs_command_met name words = met_at (codes "pairs") words

convert_command_met : (name : Text) (words : List Text) → subcommand_of program (name ∷ codes "convert" ∷ words) ≡ Some (codes "convert", rows_after convert_flags [] words)
unfolding clap_on_literals
convert_command_met name words = met_at (codes "convert") words

version_command_met : (name : Text) (words : List Text) → subcommand_of program (name ∷ codes "version" ∷ words) ≡ Some (codes "version", rows_after version_flags [] words)
unfolding clap_on_literals
version_command_met name words = met_at (codes "version") words

manual_command_met : (name : Text) (words : List Text) → subcommand_of program (name ∷ codes "manual" ∷ words) ≡ Some (codes "manual", rows_after manual_flags [] words)
unfolding clap_on_literals
manual_command_met name words = met_at (codes "manual") words

-- the words behind a command with options ask for no other command
is_by : (by : List Use → Asked) (command : Text) → ((uses : List Use) → command ≡ command_of (by uses)) → (read : Option (List Use)) (asked : Asked) → option_map by read ≡ Some asked → command ≡ command_of asked
is_by by command is None asked named = absurd (none-some asked named)
is_by by command is (Some uses) asked named = is uses ∙ ap command_of (some_is named)

serve_is_met : (name : Text) (rest : List Text) (asked : Asked) → serve_asked rest ≡ Some asked → Meets program (name ∷ codes "serve" ∷ rest) asked
serve_is_met name rest asked named = record {
  rows = rows_after serve_flags [] rest;
  met = serve_met name rest ∙ ap (λ command. Some (command, rows_after serve_flags [] rest)) (is_by served_by (codes "serve") (λ uses. refl) (uses_named serve_names rest) asked named);
  values = leaf_met rest asked named;
}

storm_is_met : (name : Text) (rest : List Text) (asked : Asked) → storm_asked rest ≡ Some asked → Meets program (name ∷ codes "storm" ∷ rest) asked
storm_is_met name rest asked named = record {
  rows = rows_after storm_flags [] rest;
  met = storm_met name rest ∙ ap (λ command. Some (command, rows_after storm_flags [] rest)) (is_by stormed_by (codes "storm") (λ uses. refl) (uses_named storm_names rest) asked named);
  values = storm_leaf_met rest asked named;
}

pairs_is_met : (name : Text) (rest : List Text) (asked : Asked) → pairs_asked rest ≡ Some asked → Meets program (name ∷ codes "pairs" ∷ rest) asked
pairs_is_met name rest asked named = record {
  rows = rows_after pairs_flags [] rest;
  met = pairs_command_met name rest ∙ ap (λ command. Some (command, rows_after pairs_flags [] rest)) (is_by paired_by (codes "pairs") (λ uses. refl) (uses_and_path pairs_names rest) asked named);
  values = pairs_met rest asked named;
}

convert_is_met : (name : Text) (rest : List Text) (asked : Asked) → convert_asked rest ≡ Some asked → Meets program (name ∷ codes "convert" ∷ rest) asked
convert_is_met name rest asked named = record {
  rows = rows_after convert_flags [] rest;
  met = convert_command_met name rest ∙ ap (λ command. Some (command, rows_after convert_flags [] rest)) (is_by converted_by (codes "convert") (λ uses. refl) (uses_and_two_paths convert_names rest) asked named);
  values = convert_met rest asked named;
}

version_is_met : (name : Text) (rest : List Text) (asked : Asked) → version_asked rest ≡ Some asked → Meets program (name ∷ codes "version" ∷ rest) asked
version_is_met name rest asked named = record {
  rows = rows_after version_flags [] rest;
  met = version_command_met name rest ∙ ap (λ command. Some (command, rows_after version_flags [] rest)) (is_by versioned_by (codes "version") (λ uses. refl) (uses_named [] rest) asked named);
  values = version_met rest asked named;
}

load_is_met : (name : Text) (rest : List Text) (asked : Asked) → load_asked rest ≡ Some asked → Meets program (name ∷ codes "load" ∷ rest) asked
load_is_met name rest asked named = record {
  rows = rows_after load_rules [] rest;
  met = load_command_met name rest ∙ ap (λ command. Some (command, rows_after load_rules [] rest)) (is_by loaded_by (codes "load") (λ uses. refl) (flags_and_path load_flags rest) asked named);
  values = load_met rest asked named;
}

-- and so of a command about a path
path_is_met : (name command : Text) (of : Text → Asked) → ((path : Text) → command_of (of path) ≡ command) → ((path : Text) (rows : List Row) → first_of path_id rows ≡ Some path → HasValues (of path) rows)
    → (rest : List Text) → subcommand_of program (name ∷ command ∷ rest) ≡ Some (command, rows_after path_flags [] rest)
    → (found : Option Text) (asked : Asked) → path_named rest ≡ found → option_map of found ≡ Some asked → Meets program (name ∷ command ∷ rest) asked
path_is_met name command of is values rest met None asked named same = absurd (none-some asked same)
path_is_met name command of is values rest met (Some path) asked named same = subst (Meets program (name ∷ command ∷ rest)) (some_is same) (record {
  rows = rows_after path_flags [] rest;
  met = met ∙ ap (λ command. Some (command, rows_after path_flags [] rest)) (sym (is path));
  values = values path (rows_after path_flags [] rest) (path_met rest path named);
})

manual_is_met : (name : Text) (rest : List Text) (found : Option (Option Text)) (asked : Asked) → word_perhaps rest ≡ found → option_map Manual found ≡ Some asked → Meets program (name ∷ codes "manual" ∷ rest) asked
manual_is_met name rest None asked named same = absurd (none-some asked same)
manual_is_met name rest (Some word) asked named same = subst (Meets program (name ∷ codes "manual" ∷ rest)) (some_is same) (record {
  rows = rows_after manual_flags [] rest;
  met = manual_command_met name rest;
  values = manual_met rest word named;
})

command_met : (name word : Text) (rest : List Text) (serves checks dumps loads storms pairs converts versions manuals : Bool) (asked : Asked) → bytes_eq (codes "serve") word ≡ serves → bytes_eq (codes "check") word ≡ checks → bytes_eq (codes "dump") word ≡ dumps → bytes_eq (codes "load") word ≡ loads → bytes_eq (codes "storm") word ≡ storms → bytes_eq (codes "pairs") word ≡ pairs → bytes_eq (codes "convert") word ≡ converts → bytes_eq (codes "version") word ≡ versions → bytes_eq (codes "manual") word ≡ manuals
    → (cond serves (serve_asked rest) (cond checks (option_map Check (path_named rest)) (cond dumps (option_map Dump (path_named rest)) (cond loads (load_asked rest) (cond storms (storm_asked rest) (cond pairs (pairs_asked rest) (cond converts (convert_asked rest) (cond versions (version_asked rest) (cond manuals (manual_asked rest) None))))))))) ≡ Some asked
    → Meets program (name ∷ word ∷ rest) asked
command_met name word rest true checks dumps loads storms pairs converts versions manuals asked s c d l o i v n m named =
    subst (λ w. Meets program (name ∷ w ∷ rest) asked) (is_name (codes "serve") word s) (serve_is_met name rest asked named)
command_met name word rest false true dumps loads storms pairs converts versions manuals asked s c d l o i v n m named =
    subst (λ w. Meets program (name ∷ w ∷ rest) asked) (is_name (codes "check") word c) (path_is_met name (codes "check") Check (λ path. refl) (λ path rows is. is) rest (check_met name rest) (path_named rest) asked refl named)
command_met name word rest false false true loads storms pairs converts versions manuals asked s c d l o i v n m named =
    subst (λ w. Meets program (name ∷ w ∷ rest) asked) (is_name (codes "dump") word d) (path_is_met name (codes "dump") Dump (λ path. refl) (λ path rows is. is) rest (dump_met name rest) (path_named rest) asked refl named)
command_met name word rest false false false true storms pairs converts versions manuals asked s c d l o i v n m named =
    subst (λ w. Meets program (name ∷ w ∷ rest) asked) (is_name (codes "load") word l) (load_is_met name rest asked named)
command_met name word rest false false false false true pairs converts versions manuals asked s c d l o i v n m named =
    subst (λ w. Meets program (name ∷ w ∷ rest) asked) (is_name (codes "storm") word o) (storm_is_met name rest asked named)
command_met name word rest false false false false false true converts versions manuals asked s c d l o i v n m named =
    subst (λ w. Meets program (name ∷ w ∷ rest) asked) (is_name (codes "pairs") word i) (pairs_is_met name rest asked named)
command_met name word rest false false false false false false true versions manuals asked s c d l o i v n m named =
    subst (λ w. Meets program (name ∷ w ∷ rest) asked) (is_name (codes "convert") word v) (convert_is_met name rest asked named)
command_met name word rest false false false false false false false true manuals asked s c d l o i v n m named =
    subst (λ w. Meets program (name ∷ w ∷ rest) asked) (is_name (codes "version") word n) (version_is_met name rest asked named)
command_met name word rest false false false false false false false false true asked s c d l o i v n m named =
    subst (λ w. Meets program (name ∷ w ∷ rest) asked) (is_name (codes "manual") word m) (manual_is_met name rest (word_perhaps rest) asked refl named)
command_met name word rest false false false false false false false false false asked s c d l o i v n m named = absurd (none-some asked named)

asked_met : (words : List Text) (asked : Asked) → asked_by words ≡ Some asked → Meets program words asked
asked_met [] asked named = absurd (none-some asked named)
asked_met (name ∷ []) asked named = absurd (none-some asked named)
asked_met (name ∷ command ∷ rest) asked named =
    command_met name command rest (bytes_eq (codes "serve") command) (bytes_eq (codes "check") command) (bytes_eq (codes "dump") command) (bytes_eq (codes "load") command) (bytes_eq (codes "storm") command) (bytes_eq (codes "pairs") command) (bytes_eq (codes "convert") command) (bytes_eq (codes "version") command) (bytes_eq (codes "manual") command) asked refl refl refl refl refl refl refl refl refl named

-- ---- the version

version_shown : (name : Text) → fault_of program (name ∷ codes "--version" ∷ []) ≡ kind.DisplayVersion ∷ []
unfolding clap_on_literals
version_shown name = refl

-- the program's parser takes just the words that ask for a command
pub program_reads : ReadsJobs program
program_reads = record {
  exact = is_exact;
  takes = λ words. agreed (asked_by words) (fault_of program words) (words_agree words);
  meets = asked_met;
  version = version_shown;
}

-- ---- a parse that succeeds

pub parse_meets : (parser : App) (words : List Text) (m : ArgMatches) → ReadsJobs parser → fault_of parser words ≡ []
    → HasMatchesOf parser words m → (asked : Asked) × (asked_by words ≡ Some asked) × IsJobMet m asked
parse_meets parser words m reads passed matches = go (asked_by words) refl ((reads.takes words).0 passed)
  where
    simple : is_simple parser ≡ true
    simple = (both (is_simple parser) _ reads.exact).0

    go : (asked : Option Asked) → asked_by words ≡ asked → IsSome asked → (asked : Asked) × (asked_by words ≡ Some asked) × IsJobMet m asked
    go None named some = cc
    go (Some asked) named some =
        let meets = reads.meets words asked named in
        (asked, named, record { rows = meets.rows; met = (matches simple).1 ∙ meets.met; values = meets.values })

-- a command is met
pub some_met : (m : ArgMatches) (asked : Asked) → None ≡ subcommand_name_of m → IsJobMet m asked → ⊥
some_met m asked unnamed is = go (out-ArgMatches m).subcommand unnamed is.met
  where
    go : (sub : Option (Box SubCommand Global)) → None ≡ option_map (λ b. (out-SubCommand (box_value b)).name.now) sub → subcommand_rows sub ≡ Some (command_of asked, is.rows) → ⊥
    go None unnamed met = cc
    go (Some b) unnamed met = cc

-- a command and its own matches, as the parse tells them, are those that are asked for
pub record IsOwn (command : Text) (own : ArgMatches) (asked : Asked) : Type 0 where
  pub command_is : command ≡ command_of asked
  pub values : HasValues asked (rows_of (found_of own))

pub own_is : (m : ArgMatches) (command : Text) (own : ArgMatches) (asked : Asked) → Some command ≡ subcommand_name_of m
    → Some (rows_of (found_of own)) ≡ option_map (λ p. p.1) (subcommand_rows_of m) → IsJobMet m asked → IsOwn command own asked
own_is m command own asked named behind is = go (out-ArgMatches m).subcommand named behind is.met
  where
    go : (sub : Option (Box SubCommand Global)) → Some command ≡ option_map (λ b. (out-SubCommand (box_value b)).name.now) sub
        → Some (rows_of (found_of own)) ≡ option_map (λ p. p.1) (subcommand_rows sub)
        → subcommand_rows sub ≡ Some (command_of asked, is.rows) → IsOwn command own asked
    go None named behind met = cc
    go (Some b) named behind met =
        let rows : Some (rows_of (found_of own)) ≡ Some (rows_of (found_of (out-SubCommand (box_value b)).matches)) = behind in record {
          command_is = some_is named ∙ ap (λ (p : Text × List Row). p.0) (some_is met);
          values = subst (HasValues asked) (sym (some_is rows ∙ ap (λ (p : Text × List Row). p.1) (some_is met))) is.values;
        }

-- and so of a command of a known name
pub own_of : (m : ArgMatches) (command : Text) (own : ArgMatches) (known : Text) → Some command ≡ subcommand_name_of m
    → Some (rows_of (found_of own)) ≡ option_map (λ p. p.1) (subcommand_rows_of m) → command ≡ known → (asked : Asked) → IsJobMet m asked → IsOwn known own asked
own_of m command own known named behind same asked is = subst (λ command. IsOwn command own asked) same (own_is m command own asked named behind is)

-- ---- the command, by its name and its values

pub serves : (asked : Asked) (own : ArgMatches) (opened saved : Option Text) → IsOwn (codes "serve") own asked → opened ≡ first_value (found_of own) open_name → saved ≡ first_value (found_of own) save_name
    → Some asked ≡ Some (Serve opened saved)
serves Version own opened saved is opens saves = absurd (let never : 115 ≡ 118 = ap (λ (word : Text). slice_index_or word 0 0) is.command_is in omega arith)
serves (Manual command) own opened saved is opens saves = absurd (let never : 115 ≡ 109 = ap (λ (word : Text). slice_index_or word 0 0) is.command_is in omega arith)
serves (Serve opening saving) own opened saved is opens saves =
    ap₂ (λ opened saved. Some (Serve opened saved)) (sym (opens ∙ first_value-rows (found_of own) open_name ∙ is.values.0)) (sym (saves ∙ first_value-rows (found_of own) save_name ∙ is.values.1))
serves (Check path) own opened saved is opens saves = absurd (let never : 115 ≡ 99 = ap (λ (word : Text). slice_index_or word 0 0) is.command_is in omega arith)
serves (Dump path) own opened saved is opens saves = absurd (let never : 115 ≡ 100 = ap (λ (word : Text). slice_index_or word 0 0) is.command_is in omega arith)
serves (Load path long into) own opened saved is opens saves = absurd (let never : 115 ≡ 108 = ap (λ (word : Text). slice_index_or word 0 0) is.command_is in omega arith)
serves (Storm texts) own opened saved is opens saves = absurd (let never : 101 ≡ 116 = ap (λ (word : Text). slice_index_or word 1 0) is.command_is in omega arith)
serves (Convert path new version) own opened saved is opens saves = absurd (let never : 115 ≡ 99 = ap (λ (word : Text). slice_index_or word 0 0) is.command_is in omega arith)
serves (Pairs path texts) own opened saved is opens saves = absurd (let never : 115 ≡ 112 = ap (λ (word : Text). slice_index_or word 0 0) is.command_is in omega arith)

-- a path, as it was read
same_path : (own : ArgMatches) (path found : Text) → first_of path_id (rows_of (found_of own)) ≡ Some path → Some found ≡ first_value (found_of own) path_id → path ≡ found
same_path own path found is read = some_is (sym (read ∙ first_value-rows (found_of own) path_id ∙ is))

has_path : (own : ArgMatches) (path : Text) → first_of path_id (rows_of (found_of own)) ≡ Some path → IsSome (first_value (found_of own) path_id)
has_path own path is = subst IsSome (sym (first_value-rows (found_of own) path_id ∙ is)) refl

pub checks : (asked : Asked) (own : ArgMatches) → IsOwn (codes "check") own asked → (path : Text) → Some path ≡ first_value (found_of own) path_id → Some asked ≡ Some (Check path)
checks Version own is path read = absurd (let never : 99 ≡ 118 = ap (λ (word : Text). slice_index_or word 0 0) is.command_is in omega arith)
checks (Manual command) own is path read = absurd (let never : 99 ≡ 109 = ap (λ (word : Text). slice_index_or word 0 0) is.command_is in omega arith)
checks (Serve opening saving) own is path read = absurd (let never : 99 ≡ 115 = ap (λ (word : Text). slice_index_or word 0 0) is.command_is in omega arith)
checks (Check other) own is path read = ap (λ path. Some (Check path)) (same_path own other path is.values read)
checks (Dump other) own is path read = absurd (let never : 99 ≡ 100 = ap (λ (word : Text). slice_index_or word 0 0) is.command_is in omega arith)
checks (Load other long into) own is path read = absurd (let never : 99 ≡ 108 = ap (λ (word : Text). slice_index_or word 0 0) is.command_is in omega arith)
checks (Storm texts) own is path read = absurd (let never : 99 ≡ 115 = ap (λ (word : Text). slice_index_or word 0 0) is.command_is in omega arith)
checks (Convert file new version) own is path read = absurd (let never : 104 ≡ 111 = ap (λ (word : Text). slice_index_or word 1 0) is.command_is in omega arith)
checks (Pairs file texts) own is path read = absurd (let never : 99 ≡ 112 = ap (λ (word : Text). slice_index_or word 0 0) is.command_is in omega arith)

pub dumps : (asked : Asked) (own : ArgMatches) → IsOwn (codes "dump") own asked → (path : Text) → Some path ≡ first_value (found_of own) path_id → Some asked ≡ Some (Dump path)
dumps Version own is path read = absurd (let never : 100 ≡ 118 = ap (λ (word : Text). slice_index_or word 0 0) is.command_is in omega arith)
dumps (Manual command) own is path read = absurd (let never : 100 ≡ 109 = ap (λ (word : Text). slice_index_or word 0 0) is.command_is in omega arith)
dumps (Serve opening saving) own is path read = absurd (let never : 100 ≡ 115 = ap (λ (word : Text). slice_index_or word 0 0) is.command_is in omega arith)
dumps (Check other) own is path read = absurd (let never : 100 ≡ 99 = ap (λ (word : Text). slice_index_or word 0 0) is.command_is in omega arith)
dumps (Dump other) own is path read = ap (λ path. Some (Dump path)) (same_path own other path is.values read)
dumps (Load other long into) own is path read = absurd (let never : 100 ≡ 108 = ap (λ (word : Text). slice_index_or word 0 0) is.command_is in omega arith)
dumps (Storm texts) own is path read = absurd (let never : 100 ≡ 115 = ap (λ (word : Text). slice_index_or word 0 0) is.command_is in omega arith)
dumps (Convert file new version) own is path read = absurd (let never : 100 ≡ 99 = ap (λ (word : Text). slice_index_or word 0 0) is.command_is in omega arith)
dumps (Pairs file texts) own is path read = absurd (let never : 100 ≡ 112 = ap (λ (word : Text). slice_index_or word 0 0) is.command_is in omega arith)

-- the path and the flags of a load, as they were read
pub record GivesLoad (asked : Asked) (own : ArgMatches) : Type 0 where
  pub path : Text
  pub long : Bool
  pub into : Bool
  pub asked_is : Some asked ≡ Some (Load path long into)
  pub path_is : Some path ≡ first_value (found_of own) path_id
  pub flags : HasFlags (found_of own) long into

pub loads : (asked : Asked) (own : ArgMatches) → IsOwn (codes "load") own asked → GivesLoad asked own
loads Version own is = absurd (let never : 108 ≡ 118 = ap (λ (word : Text). slice_index_or word 0 0) is.command_is in omega arith)
loads (Manual command) own is = absurd (let never : 108 ≡ 109 = ap (λ (word : Text). slice_index_or word 0 0) is.command_is in omega arith)
loads (Serve opening saving) own is = absurd (let never : 108 ≡ 115 = ap (λ (word : Text). slice_index_or word 0 0) is.command_is in omega arith)
loads (Check path) own is = absurd (let never : 108 ≡ 99 = ap (λ (word : Text). slice_index_or word 0 0) is.command_is in omega arith)
loads (Dump path) own is = absurd (let never : 108 ≡ 100 = ap (λ (word : Text). slice_index_or word 0 0) is.command_is in omega arith)
loads (Storm texts) own is = absurd (let never : 108 ≡ 115 = ap (λ (word : Text). slice_index_or word 0 0) is.command_is in omega arith)
loads (Convert path new version) own is = absurd (let never : 108 ≡ 99 = ap (λ (word : Text). slice_index_or word 0 0) is.command_is in omega arith)
loads (Pairs path texts) own is = absurd (let never : 108 ≡ 112 = ap (λ (word : Text). slice_index_or word 0 0) is.command_is in omega arith)
loads (Load path long into) own is = record {
  path = path;
  long = long;
  into = into;
  asked_is = refl;
  path_is = sym (first_value-rows (found_of own) path_id ∙ is.values.0);
  flags = (one_text-rows (found_of own) long_name ∙ is.values.1, one_text-rows (found_of own) into_name ∙ is.values.2);
}

-- a text, as it was read
same_text : (own : ArgMatches) (name : Text) (text : Option Text) → first_of name (rows_of (found_of own)) ≡ text → text ≡ first_value (found_of own) name
same_text own name text is = sym (first_value-rows (found_of own) name ∙ is)

pub storms : (asked : Asked) (own : ArgMatches) → IsOwn (codes "storm") own asked → Some asked ≡ Some (Storm (texts_of (found_of own)))
storms Version own is = absurd (let never : 115 ≡ 118 = ap (λ (word : Text). slice_index_or word 0 0) is.command_is in omega arith)
storms (Manual command) own is = absurd (let never : 115 ≡ 109 = ap (λ (word : Text). slice_index_or word 0 0) is.command_is in omega arith)
storms (Serve opening saving) own is = absurd (let never : 116 ≡ 101 = ap (λ (word : Text). slice_index_or word 1 0) is.command_is in omega arith)
storms (Check path) own is = absurd (let never : 115 ≡ 99 = ap (λ (word : Text). slice_index_or word 0 0) is.command_is in omega arith)
storms (Dump path) own is = absurd (let never : 115 ≡ 100 = ap (λ (word : Text). slice_index_or word 0 0) is.command_is in omega arith)
storms (Load path long into) own is = absurd (let never : 115 ≡ 108 = ap (λ (word : Text). slice_index_or word 0 0) is.command_is in omega arith)
storms (Convert path new version) own is = absurd (let never : 115 ≡ 99 = ap (λ (word : Text). slice_index_or word 0 0) is.command_is in omega arith)
storms (Pairs path texts) own is = absurd (let never : 115 ≡ 112 = ap (λ (word : Text). slice_index_or word 0 0) is.command_is in omega arith)
storms (Storm texts) own is = ap (λ texts. Some (Storm texts)) (same_texts is.values)
  where
    same_texts : HasTexts texts (rows_of (found_of own)) → texts ≡ texts_of (found_of own)
    same_texts has =
        let callers = same_text own callers_name texts.callers has.callers in
        let calls = same_text own calls_name texts.calls has.calls in
        let cap = same_text own cap_name texts.cap has.cap in
        let wards = same_text own wards_name texts.wards has.wards in
        let copies = same_text own copies_name texts.copies has.copies in
        ap₂ (λ (p : Option Text × Option Text) (q : Option Text × Option Text × Option Text). record { callers = p.0; calls = p.1; cap = q.0; wards = q.1; copies = q.2 })
        (ap₂ (λ a b. (a, b)) callers calls) (ap₂ (λ a (b : Option Text × Option Text). (a, b.0, b.1)) cap (ap₂ (λ a b. (a, b)) wards copies))

-- a command but `serve`, `storm`, `version` and `manual` is given a path
pub path_given : (asked : Asked) (command : Text) (own : ArgMatches) → IsOwn command own asked → (command ≡ codes "serve" → ⊥) × (command ≡ codes "storm" → ⊥) × (command ≡ codes "version" → ⊥) × (command ≡ codes "manual" → ⊥) → IsSome (first_value (found_of own) path_id)
path_given (Serve opening saving) command own is other = absurd (other.0 is.command_is)
path_given (Check path) command own is other = has_path own path is.values
path_given (Dump path) command own is other = has_path own path is.values
path_given (Load path long into) command own is other = has_path own path is.values.0
path_given (Storm texts) command own is other = absurd (other.1 is.command_is)
path_given (Convert path new version) command own is other = has_path own path is.values.0
path_given (Pairs path texts) command own is other = has_path own path is.values.0
path_given Version command own is other = absurd (other.2 is.command_is)
path_given (Manual word) command own is other = absurd (other.3 is.command_is)

same_texts : (own : ArgMatches) (texts : PairsTexts) → HasPairsTexts texts (rows_of (found_of own)) → texts ≡ pairs_texts_of (found_of own)
same_texts own texts has =
    ap₂ (λ cap (p : Option Text × Option Text). record { cap = cap; wards = p.0; keyer = p.1 }) (same_text own cap_name texts.cap has.cap)
    (ap₂ (λ a b. (a, b)) (same_text own wards_name texts.wards has.wards) (same_text own keyer_name texts.keyer has.keyer))

-- the path of pairs, and its texts, as they were read
pub record GivesPairs (asked : Asked) (own : ArgMatches) : Type 0 where
  pub path : Text
  pub asked_is : Some asked ≡ Some (Pairs path (pairs_texts_of (found_of own)))
  pub path_is : Some path ≡ first_value (found_of own) path_id

pub pairs : (asked : Asked) (own : ArgMatches) → IsOwn (codes "pairs") own asked → GivesPairs asked own
pairs Version own is = absurd (let never : 112 ≡ 118 = ap (λ (word : Text). slice_index_or word 0 0) is.command_is in omega arith)
pairs (Manual command) own is = absurd (let never : 112 ≡ 109 = ap (λ (word : Text). slice_index_or word 0 0) is.command_is in omega arith)
pairs (Serve opening saving) own is = absurd (let never : 112 ≡ 115 = ap (λ (word : Text). slice_index_or word 0 0) is.command_is in omega arith)
pairs (Check path) own is = absurd (let never : 112 ≡ 99 = ap (λ (word : Text). slice_index_or word 0 0) is.command_is in omega arith)
pairs (Dump path) own is = absurd (let never : 112 ≡ 100 = ap (λ (word : Text). slice_index_or word 0 0) is.command_is in omega arith)
pairs (Load path long into) own is = absurd (let never : 112 ≡ 108 = ap (λ (word : Text). slice_index_or word 0 0) is.command_is in omega arith)
pairs (Storm texts) own is = absurd (let never : 112 ≡ 115 = ap (λ (word : Text). slice_index_or word 0 0) is.command_is in omega arith)
pairs (Convert path new version) own is = absurd (let never : 112 ≡ 99 = ap (λ (word : Text). slice_index_or word 0 0) is.command_is in omega arith)
pairs (Pairs path texts) own is = record {
  path = path;
  asked_is = ap (λ texts. Some (Pairs path texts)) (same_texts own texts is.values.1);
  path_is = sym (first_value-rows (found_of own) path_id ∙ is.values.0);
}

-- the paths of a conversion, and the text of its version, as they were read
pub record GivesConvert (asked : Asked) (own : ArgMatches) : Type 0 where
  pub path : Text
  pub new : Text
  pub asked_is : Some asked ≡ Some (Convert path new (first_value (found_of own) version_name))
  pub path_is : Some path ≡ first_value (found_of own) path_id
  pub new_is : Some new ≡ first_value (found_of own) new_id

pub converts : (asked : Asked) (own : ArgMatches) → IsOwn (codes "convert") own asked → GivesConvert asked own
converts Version own is = absurd (let never : 99 ≡ 118 = ap (λ (word : Text). slice_index_or word 0 0) is.command_is in omega arith)
converts (Manual command) own is = absurd (let never : 99 ≡ 109 = ap (λ (word : Text). slice_index_or word 0 0) is.command_is in omega arith)
converts (Serve opening saving) own is = absurd (let never : 99 ≡ 115 = ap (λ (word : Text). slice_index_or word 0 0) is.command_is in omega arith)
converts (Check path) own is = absurd (let never : 111 ≡ 104 = ap (λ (word : Text). slice_index_or word 1 0) is.command_is in omega arith)
converts (Dump path) own is = absurd (let never : 99 ≡ 100 = ap (λ (word : Text). slice_index_or word 0 0) is.command_is in omega arith)
converts (Load path long into) own is = absurd (let never : 99 ≡ 108 = ap (λ (word : Text). slice_index_or word 0 0) is.command_is in omega arith)
converts (Storm texts) own is = absurd (let never : 99 ≡ 115 = ap (λ (word : Text). slice_index_or word 0 0) is.command_is in omega arith)
converts (Pairs path texts) own is = absurd (let never : 99 ≡ 112 = ap (λ (word : Text). slice_index_or word 0 0) is.command_is in omega arith)
converts (Convert path new version) own is = record {
  path = path;
  new = new;
  asked_is = ap (λ version. Some (Convert path new version)) (same_text own version_name version is.values.2);
  path_is = sym (first_value-rows (found_of own) path_id ∙ is.values.0);
  new_is = sym (first_value-rows (found_of own) new_id ∙ is.values.1);
}

pub versions : (asked : Asked) (own : ArgMatches) → IsOwn (codes "version") own asked → Some asked ≡ Some Version
versions (Serve opening saving) own is = absurd (let never : 118 ≡ 115 = ap (λ (word : Text). slice_index_or word 0 0) is.command_is in omega arith)
versions (Check path) own is = absurd (let never : 118 ≡ 99 = ap (λ (word : Text). slice_index_or word 0 0) is.command_is in omega arith)
versions (Dump path) own is = absurd (let never : 118 ≡ 100 = ap (λ (word : Text). slice_index_or word 0 0) is.command_is in omega arith)
versions (Load path long into) own is = absurd (let never : 118 ≡ 108 = ap (λ (word : Text). slice_index_or word 0 0) is.command_is in omega arith)
versions (Storm texts) own is = absurd (let never : 118 ≡ 115 = ap (λ (word : Text). slice_index_or word 0 0) is.command_is in omega arith)
versions (Convert path new version) own is = absurd (let never : 118 ≡ 99 = ap (λ (word : Text). slice_index_or word 0 0) is.command_is in omega arith)
versions (Pairs path texts) own is = absurd (let never : 118 ≡ 112 = ap (λ (word : Text). slice_index_or word 0 0) is.command_is in omega arith)
versions (Manual command) own is = absurd (let never : 118 ≡ 109 = ap (λ (word : Text). slice_index_or word 0 0) is.command_is in omega arith)
versions Version own is = refl

pub manuals : (asked : Asked) (own : ArgMatches) → IsOwn (codes "manual") own asked → Some asked ≡ Some (Manual (first_value (found_of own) command_id))
manuals (Serve opening saving) own is = absurd (let never : 109 ≡ 115 = ap (λ (word : Text). slice_index_or word 0 0) is.command_is in omega arith)
manuals (Check path) own is = absurd (let never : 109 ≡ 99 = ap (λ (word : Text). slice_index_or word 0 0) is.command_is in omega arith)
manuals (Dump path) own is = absurd (let never : 109 ≡ 100 = ap (λ (word : Text). slice_index_or word 0 0) is.command_is in omega arith)
manuals (Load path long into) own is = absurd (let never : 109 ≡ 108 = ap (λ (word : Text). slice_index_or word 0 0) is.command_is in omega arith)
manuals (Storm texts) own is = absurd (let never : 109 ≡ 115 = ap (λ (word : Text). slice_index_or word 0 0) is.command_is in omega arith)
manuals (Convert path new version) own is = absurd (let never : 109 ≡ 99 = ap (λ (word : Text). slice_index_or word 0 0) is.command_is in omega arith)
manuals (Pairs path texts) own is = absurd (let never : 109 ≡ 112 = ap (λ (word : Text). slice_index_or word 0 0) is.command_is in omega arith)
manuals Version own is = absurd (let never : 109 ≡ 118 = ap (λ (word : Text). slice_index_or word 0 0) is.command_is in omega arith)
manuals (Manual command) own is = ap (λ command. Some (Manual command)) (sym (first_value-rows (found_of own) command_id ∙ is.values))

pub no_options : (command : Text) → (command ≡ codes "check") ⊎ (command ≡ codes "dump") ⊎ (command ≡ codes "load") → (command ≡ codes "serve" → ⊥) × (command ≡ codes "storm" → ⊥) × (command ≡ codes "version" → ⊥) × (command ≡ codes "manual" → ⊥)
no_options command is = (
  λ same. begins_apart 115 is (ap (λ (word : Text). slice_index_or word 0 0) same) (omega arith) (omega arith) (omega arith),
  λ same. begins_apart 115 is (ap (λ (word : Text). slice_index_or word 0 0) same) (omega arith) (omega arith) (omega arith),
  λ same. begins_apart 118 is (ap (λ (word : Text). slice_index_or word 0 0) same) (omega arith) (omega arith) (omega arith),
  λ same. begins_apart 109 is (ap (λ (word : Text). slice_index_or word 0 0) same) (omega arith) (omega arith) (omega arith),
)
  where
    begins_apart : (c : ℕ) → (command ≡ codes "check") ⊎ (command ≡ codes "dump") ⊎ (command ≡ codes "load") → slice_index_or command 0 0 ≡ c → (99 ≡ c → ⊥) → (100 ≡ c → ⊥) → (108 ≡ c → ⊥) → ⊥
    begins_apart c (inl is) begins check dump load = check (ap (λ (word : Text). slice_index_or word 0 0) (sym is) ∙ begins)
    begins_apart c (inr (inl is)) begins check dump load = dump (ap (λ (word : Text). slice_index_or word 0 0) (sym is) ∙ begins)
    begins_apart c (inr (inr is)) begins check dump load = load (ap (λ (word : Text). slice_index_or word 0 0) (sym is) ∙ begins)

-- there is no other command
pub is_command : (asked : Asked) (command : Text) (own : ArgMatches) → IsOwn command own asked → (command ≡ codes "serve" → ⊥) → (command ≡ codes "check" → ⊥) → (command ≡ codes "dump" → ⊥) → (command ≡ codes "load" → ⊥) → (command ≡ codes "storm" → ⊥) → (command ≡ codes "pairs" → ⊥) → (command ≡ codes "convert" → ⊥) → (command ≡ codes "version" → ⊥) → (command ≡ codes "manual" → ⊥) → ⊥
is_command (Serve opening saving) command own is no_serve no_check no_dump no_load no_storm no_pairs no_convert no_version no_manual = no_serve is.command_is
is_command (Check path) command own is no_serve no_check no_dump no_load no_storm no_pairs no_convert no_version no_manual = no_check is.command_is
is_command (Dump path) command own is no_serve no_check no_dump no_load no_storm no_pairs no_convert no_version no_manual = no_dump is.command_is
is_command (Load path long into) command own is no_serve no_check no_dump no_load no_storm no_pairs no_convert no_version no_manual = no_load is.command_is
is_command (Storm texts) command own is no_serve no_check no_dump no_load no_storm no_pairs no_convert no_version no_manual = no_storm is.command_is
is_command (Pairs path texts) command own is no_serve no_check no_dump no_load no_storm no_pairs no_convert no_version no_manual = no_pairs is.command_is
is_command (Convert path new version) command own is no_serve no_check no_dump no_load no_storm no_pairs no_convert no_version no_manual = no_convert is.command_is
is_command Version command own is no_serve no_check no_dump no_load no_storm no_pairs no_convert no_version no_manual = no_version is.command_is
is_command (Manual word) command own is no_serve no_check no_dump no_load no_storm no_pairs no_convert no_version no_manual = no_manual is.command_is

-- ---- the job of a command

pub job_is : (asked wanted : Asked) → Some asked ≡ Some wanted → job_asked asked ≡ job_asked wanted
job_is asked wanted same = ap (option_and_then job_asked) same

pub job_of_words : (words : List Text) (asked : Asked) → asked_by words ≡ Some asked → job_named words ≡ job_asked asked
job_of_words words asked named = ap (option_and_then job_asked) named

-- words that are taken don't ask for the version
pub no_version : (parser : App) (words : List Text) → ReadsJobs parser → fault_of parser words ≡ [] → AskForVersion words → ⊥
no_version parser words reads none asked = let never : [] ≡ kind.DisplayVersion ∷ [] = sym none ∙ ap (fault_of parser) asked.1 ∙ reads.version asked.0 in cc

-- ---- a parse that fails

module _ (parser : App) (words : List Text) (error : Error) (reads : ReadsJobs parser) (kinds : HasKind (fault_of parser words) error) where
  is_told : IsAmong (kind_of error) (fault_of parser words) → AskForVersion words → kind_of error ≡ kind.DisplayVersion
  is_told among asked = elim (subst (IsAmong (kind_of error)) (ap (fault_of parser) asked.1 ∙ reads.version asked.0) among) [ inl same ↦ same | inr none ↦ absurd none ]

  fault_tells : (fault : CliFault) → IsFaultOf error fault → AskForVersion words → TellsVersion fault
  fault_tells fault is asked = go kinds
    where
      apart : kind.DisplayVersion ≢ kind.OutOfMemory
      apart same = cc

      go : HasKind (fault_of parser words) error → TellsVersion fault
      go (inl memory) = subst TellsVersion (sym (is.memory memory)) tt
      go (inr among) =
          let told = is_told among asked in
          subst TellsVersion (sym (is.wrong (λ memory. apart (sym told ∙ memory)))) told

  names_none : IsAmong (kind_of error) (fault_of parser words) → job_named words ≡ None
  names_none among = go (asked_by words) refl
    where
      go : (asked : Option Asked) → asked_by words ≡ asked → job_named words ≡ None
      go None named = ap (option_and_then job_asked) named
      go (Some asked) named =
          let none : fault_of parser words ≡ [] = (reads.takes words).1 (subst IsSome (sym named) refl) in
          absurd (subst (IsAmong (kind_of error)) none among)

  fault_is_wrong : (fault : CliFault) → IsFaultOf error fault → IsWrong fault → job_named words ≡ None
  fault_is_wrong fault is wrong = go kinds
    where
      go : HasKind (fault_of parser words) error → job_named words ≡ None
      go (inl memory) = absurd (subst IsWrong (is.memory memory) wrong)
      go (inr among) = names_none among

  -- wrong words name no job
  pub wrong_words : {T : Type 0} (result : Result T CliFault) → IsErrAnd result (IsFaultOf error) → IfErr result (λ fault. IsWrong fault → job_named words ≡ None)
  wrong_words (Ok x) is = tt
  wrong_words (Err fault) is = fault_is_wrong fault is

  -- words that ask for the version are told it
  pub version_told : {T : Type 0} (result : Result T CliFault) → IsErrAnd result (IsFaultOf error) → IfErr result (λ fault. AskForVersion words → TellsVersion fault)
  version_told (Ok x) is = tt
  version_told (Err fault) is = fault_tells fault is
