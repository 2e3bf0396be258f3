-- The words after `manual`: a word, or none.
use Rattle.std.proofs.Common.{◌≡◌, ◌∙◌, ℕ, Bool, true, false, List, [], ◌∷◌, Option, Some, None, refl, sym, ap, ap₂, subst, codes, cond, slice_index_or, is_some}
use Rattle.std.proofs.lemmas.Option.{none-some}
use Rattle.std.specs.Prelude.{not, ◌&&◌, fold, option_map}
use Rattle.clap.specs.Words.{Kinds, Rule, Shape, Text, first_of, new_rule}
use Rattle.clap.specs.Kinds.{or_else}
use Rattle.clap.specs.Lexer.{long_of}
use Rattle.clap.specs.Simple.{built, filled_from, help_rule}
use Rattle.clap.specs.Walk.{Walk, after_step, arg_by_long, arg_by_short, finished, has_long, has_short, idle, nothing_held, rows_after, settled, walk_from, walked}
use Rattle.clap.specs.Faults.{check_fault, defaults_fault, level_fault, settle_fault, step_fault, turn_fault, walk_fault}
use Rattle.clap.proofs.OnLiterals.{clap_on_literals}
use Rattle.exh_command.specs.Words.{alone, ends_options, is_option, word_or_none, word_perhaps}
use Rattle.exh_command.specs.Parser.{command_id}
use Rattle.exh_command.proofs.OptionFlags.{help_asking}
use Rattle.exh_command.proofs.TheProgram.{program, serve}
use Rattle.exh_command.proofs.WordLemmas.{Agrees, Fails, IsAsking, IsValue, agrees_as, all_ask, first_fails, help, is_end, is_plain_word, is_value, option_fails, some_is, word_fails}

abbrev manual_leaf : Shape
manual_leaf = slice_index_or (built program).subs 8 serve

abbrev pub manual_flags : List Rule
manual_flags = filled_from 1 (new_rule command_id ∷ help_rule ∷ [])

long_help : (name : Text) → IsAsking (arg_by_long manual_flags name)
long_help name = help_asking (not (is_some help.index) && has_long help name)

short_help : (c : ℕ) → IsAsking (arg_by_short manual_flags c)
short_help c = help_asking (not (is_some help.index) && has_short help c)

abbrev pub manual_kinds : List Text → Kinds
manual_kinds words = level_fault manual_leaf [] nothing_held words false []

-- the word that was met
abbrev pub manual_word : List Text → Option Text
manual_word words = first_of command_id (rows_after manual_flags [] words)

-- the walk behind a word
abbrev behind : Text → Walk
behind word = record (walk_from (record nothing_held { pending = Some (command_id, word ∷ []) })) { position = 2 }

-- the errors of a word and of those behind it, by its own and by the walk behind it
abbrev kinds_from : List Text → Kinds → Walk → Kinds
kinds_from rest own behind =
    let end = fold (walked manual_flags []) behind rest in
    or_else (or_else own (walk_fault manual_leaf [] behind rest))
    (or_else (settle_fault manual_flags manual_leaf.args_override_self end.held)
    (or_else (defaults_fault (settled manual_flags end.held).rows manual_flags) (check_fault manual_leaf (finished manual_flags end.held) false)))

abbrev word_from : List Text → Walk → Option Text
word_from rest behind = first_of command_id (finished manual_flags (fold (walked manual_flags []) behind rest).held)

module _ (word : Text) (no_end : ends_options word ≡ false) (no_option : is_option word ≡ false) where
  own_value : IsValue manual_leaf manual_flags short_help [] None 1 word idle
  own_value = is_value manual_leaf manual_flags short_help [] None 1 word idle no_end (is_plain_word word no_option)

  own_walked : walked manual_flags [] (walk_from nothing_held) word ≡ behind word
  unfolding walked
  own_walked = ap (λ met. after_step manual_flags word (walk_from nothing_held) met.0 met.1) own_value.0

  own_passes : turn_fault manual_leaf [] (walk_from nothing_held) word ≡ []
  own_passes = ap₂ (λ fault met. or_else fault (step_fault manual_leaf 1 met.0 met.1)) own_value.1 own_value.0

  own_then : (rest : List Text) → manual_kinds (word ∷ rest) ≡ kinds_from rest [] (behind word)
  unfolding walk_fault
  own_then rest = ap₂ (kinds_from rest) own_passes own_walked

module _ (own : Text) where
  more_fails : (word : Text) → ends_options word ≡ false → Fails (turn_fault manual_leaf [] (behind own) word)
  more_fails word no_end = word_fails manual_leaf manual_flags short_help [] (Some (command_id, own ∷ [])) 2 word refl (all_ask manual_flags long_help (long_of word)) [] refl no_end

  alone_agrees : (word : Text) (ends : Bool) → ends_options word ≡ ends → Agrees (cond ends (Some own) None) (kinds_from (word ∷ []) [] (behind own))
  unfolding clap_on_literals
  alone_agrees word true e = subst (λ w. kinds_from (w ∷ []) [] (behind own) ≡ []) (is_end word e) refl
  alone_agrees word false e = first_fails _ _ (first_fails _ _ (more_fails word e))

  many_fail : (word next : Text) (rest : List Text) (ends : Bool) → ends_options word ≡ ends → Fails (kinds_from (word ∷ next ∷ rest) [] (behind own))
  unfolding clap_on_literals
  many_fail word next rest true e = subst (λ w. Fails (kinds_from (w ∷ next ∷ rest) [] (behind own))) (is_end word e) tt
  many_fail word next rest false e = first_fails _ _ (first_fails _ _ (more_fails word e))

  rest_agrees : (rest : List Text) → Agrees (alone own rest) (kinds_from rest [] (behind own))
  unfolding clap_on_literals
  rest_agrees [] = refl
  rest_agrees (word ∷ []) = alone_agrees word (ends_options word) refl
  rest_agrees (word ∷ next ∷ rest) = many_fail word next rest (ends_options word) refl

  alone_met : (word found : Text) (ends : Bool) → ends_options word ≡ ends → cond ends (Some own) None ≡ Some found → word_from (word ∷ []) (behind own) ≡ Some found
  unfolding clap_on_literals
  alone_met word found true e named = subst (λ w. word_from (w ∷ []) (behind own) ≡ Some own) (is_end word e) refl ∙ named
  alone_met word found false e named = absurd (none-some found named)

  rest_met : (rest : List Text) (found : Text) → alone own rest ≡ Some found → word_from rest (behind own) ≡ Some found
  unfolding clap_on_literals
  rest_met [] found named = named
  rest_met (word ∷ []) found named = alone_met word found (ends_options word) refl named
  rest_met (word ∷ next ∷ rest) found named = absurd (none-some found named)

  some_met : (rest : List Text) (found : Option Text) (read : Option Text) → alone own rest ≡ read → option_map (λ word. Some word) read ≡ Some found → word_from rest (behind own) ≡ found
  some_met rest found None is named = absurd (none-some found named)
  some_met rest found (Some word) is named = rest_met rest word is ∙ some_is named

end_agrees : (rest : List Text) → Agrees (word_or_none rest) (manual_kinds (codes "--" ∷ rest))
unfolding clap_on_literals
end_agrees [] = refl
end_agrees (word ∷ []) = refl
end_agrees (word ∷ next ∷ rest) = tt

end_met : (rest : List Text) (found : Option Text) → word_or_none rest ≡ Some found → manual_word (codes "--" ∷ rest) ≡ found
unfolding clap_on_literals
end_met [] found named = some_is named
end_met (word ∷ []) found named = some_is named
end_met (word ∷ next ∷ rest) found named = absurd (none-some found named)

first_agrees : (word : Text) (rest : List Text) (ends option : Bool) → ends_options word ≡ ends → is_option word ≡ option
    → Agrees (cond ends (word_or_none rest) (cond option None (option_map (λ word. Some word) (alone word rest)))) (manual_kinds (word ∷ rest))
unfolding walk_fault
first_agrees word rest true option e o = subst (λ w. Agrees (word_or_none rest) (manual_kinds (w ∷ rest))) (is_end word e) (end_agrees rest)
first_agrees word rest false true e o =
    first_fails _ _ (first_fails _ _ (option_fails manual_leaf manual_flags short_help [] None 1 word (all_ask manual_flags long_help (long_of word)) [] refl e o))
first_agrees word rest false false e o =
    subst (Agrees (option_map (λ word. Some word) (alone word rest))) (sym (own_then word e o rest)) (agrees_as (λ word. Some word) (alone word rest) _ (rest_agrees word rest))

pub manual_agrees : (words : List Text) → Agrees (word_perhaps words) (manual_kinds words)
unfolding clap_on_literals
manual_agrees [] = refl
manual_agrees (word ∷ rest) = first_agrees word rest (ends_options word) (is_option word) refl refl

first_met : (word : Text) (rest : List Text) (found : Option Text) (ends option : Bool) → ends_options word ≡ ends → is_option word ≡ option
    → cond ends (word_or_none rest) (cond option None (option_map (λ word. Some word) (alone word rest))) ≡ Some found → manual_word (word ∷ rest) ≡ found
first_met word rest found true option e o named = subst (λ w. manual_word (w ∷ rest) ≡ found) (is_end word e) (end_met rest found named)
first_met word rest found false true e o named = absurd (none-some found named)
first_met word rest found false false e o named = ap (word_from rest) (own_walked word e o) ∙ some_met word rest found (alone word rest) refl named

pub manual_met : (words : List Text) (found : Option Text) → word_perhaps words ≡ Some found → manual_word words ≡ found
unfolding clap_on_literals
manual_met [] found named = some_is named
manual_met (word ∷ rest) found named = first_met word rest found (ends_options word) (is_option word) refl refl named
