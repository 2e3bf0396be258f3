-- The parser of the program, as clap's clauses see it.
use Rattle.std.proofs.Common.{◌≡◌, ◌∙◌, [], Bool, false, ap₂, codes}
use Rattle.std.specs.Prelude.{◌||◌}
use Rattle.clap.specs.Words.{App, Rule, Shape, with_rule, with_subcommand}
use Rattle.exh_command.specs.Job.{convert_names, load_flags, pairs_names, serve_names, storm_names}
use Rattle.exh_command.specs.Parser.{about_path, about_path_flagged, about_path_with, about_two_paths_with, about_word_perhaps, command_id, with_options}
use Rattle.exh_command.specs.Program.{bare_program}

abbrev pub serve : Shape
serve = with_options (codes "serve") serve_names

abbrev pub load : Shape
load = about_path_flagged (codes "load") load_flags

abbrev pub storm : Shape
storm = with_options (codes "storm") storm_names

abbrev pub pairs : Shape
pairs = about_path_with (codes "pairs") pairs_names

abbrev pub convert : Shape
convert = about_two_paths_with (codes "convert") convert_names

abbrev pub version : Shape
version = with_options (codes "version") []

abbrev pub manual : Shape
manual = about_word_perhaps (codes "manual") command_id

abbrev pub program : App
program = with_subcommand (with_subcommand (with_subcommand (with_subcommand (with_subcommand (with_subcommand (with_subcommand (with_subcommand (with_subcommand bare_program serve) (about_path (codes "check"))) (about_path (codes "dump"))) load) storm) pairs) convert) version) manual

-- rules added one behind the other, none of them of the commands below
pub own_still : {was global now : Bool} → was ≡ false → global ≡ false → now ≡ (was || global) → now ≡ false
own_still same own more = more ∙ ap₂ (λ (a b : Bool). a || b) same own

pub one_rule : {a b : App} {r : Rule} (base : App) (v : Rule) → a ≡ base → r ≡ v → b ≡ with_rule a r → b ≡ with_rule base v
one_rule base v was is more = more ∙ ap₂ with_rule was is

pub two_rules : {a b c : App} {r s : Rule} (base : App) (v w : Rule) → a ≡ base → r ≡ v → b ≡ with_rule a r → s ≡ w → c ≡ with_rule b s → c ≡ with_rule (with_rule base v) w
two_rules base v w was is more is' more' = one_rule (with_rule base v) w (one_rule base v was is more) is' more'

pub three_rules : {a b c d : App} {r s t : Rule} (base : App) (v w x : Rule) → a ≡ base → r ≡ v → b ≡ with_rule a r → s ≡ w → c ≡ with_rule b s → t ≡ x → d ≡ with_rule c t
    → d ≡ with_rule (with_rule (with_rule base v) w) x
three_rules base v w x was is more is' more' is'' more'' = one_rule (with_rule (with_rule base v) w) x (two_rules base v w was is more is' more') is'' more''

pub five_rules : {a b c d e f : App} {r s t u o : Rule} (base : App) (v w x y z : Rule) → a ≡ base → r ≡ v → b ≡ with_rule a r → s ≡ w → c ≡ with_rule b s → t ≡ x → d ≡ with_rule c t
    → u ≡ y → e ≡ with_rule d u → o ≡ z → f ≡ with_rule e o → f ≡ with_rule (with_rule (with_rule (with_rule (with_rule base v) w) x) y) z
five_rules base v w x y z was is more is' more' is'' more'' is''' more''' is'''' more'''' =
    two_rules (with_rule (with_rule (with_rule base v) w) x) y z (three_rules base v w x was is more is' more' is'' more'') is''' more''' is'''' more''''
