use Rattle.std.proofs.Common.{◌≡◌, ◌∙◌, ap, subst, sym, codes}
use Rattle.std.proofs.lemmas.Result.{IfOk-from_err, IfOk-weaker}
use Rattle.clap.specs.Words.{App, Shape, with_subcommand}
use Rattle.exh_command.specs.Parser.{ReadsJobs, about_path}
use Rattle.exh_command.specs.Program.{bare_program}
use Rattle.exh_command.proofs.ParserLemmas.{program_reads}
use Rattle.exh_command.proofs.TheProgram.{convert, load, manual, pairs, serve, storm, version}
use Rattle.exh_command.proofs.parser.parser.Goals as goal

below : (command : Shape) {one other : App} → one ≡ other → with_subcommand one command ≡ with_subcommand other command
below command same = ap (λ (app : App). with_subcommand app command) same

-- the commands one behind the other
stacked : {bare serving checking dumping loading storming pairing converting telling whole : App} → bare ≡ bare_program → serving ≡ with_subcommand bare serve → checking ≡ with_subcommand serving (about_path (codes "check"))
    → dumping ≡ with_subcommand checking (about_path (codes "dump")) → loading ≡ with_subcommand dumping load → storming ≡ with_subcommand loading storm
    → pairing ≡ with_subcommand storming pairs → converting ≡ with_subcommand pairing convert → telling ≡ with_subcommand converting version → whole ≡ with_subcommand telling manual → ReadsJobs whole
stacked is with_serve with_check with_dump with_load with_storm with_pairs with_convert with_version with_manual =
    subst ReadsJobs (sym (with_manual ∙ below manual (with_version ∙ below version (with_convert ∙ below convert (with_pairs ∙ below pairs (with_storm ∙ below storm (with_load ∙ below load (with_dump ∙ below (about_path (codes "dump")) (with_check ∙ below (about_path (codes "check")) (with_serve ∙ below serve is)))))))))) program_reads

pub returns : goal.returns
returns c =
    IfOk-weaker c.with_command-9.result _ _ (λ command whole. stacked c.in_ok-bare_program.ensures
    (c.in_ok-serving.ensures serve c.serve.ensures.is) (c.in_ok-checking.ensures (about_path (codes "check")) c.check.ensures.is) (c.in_ok-dumping.ensures (about_path (codes "dump")) c.dump.ensures.is)
    (c.in_ok-loading.ensures load c.load.ensures.is) (c.in_ok-storming.ensures storm c.storm.ensures.is) (c.in_ok-pairing.ensures pairs c.pairs.ensures.is)
    (c.in_ok-converting.ensures convert c.convert.ensures.is) (c.in_ok-telling.ensures version c.version.ensures.is) whole) (c.with_command-9.ensures manual c.manual.ensures.is)

pub with_command-requires : goal.with_command-requires
with_command-requires c = c.serve.ensures.own

pub with_command-requires-2 : goal.with_command-requires-2
with_command-requires-2 c = c.check.ensures.own

pub with_command-requires-3 : goal.with_command-requires-3
with_command-requires-3 c = c.dump.ensures.own

pub with_command-requires-4 : goal.with_command-requires-4
with_command-requires-4 c = c.load.ensures.own

pub with_command-requires-5 : goal.with_command-requires-5
with_command-requires-5 c = c.storm.ensures.own

pub with_command-requires-6 : goal.with_command-requires-6
with_command-requires-6 c = c.pairs.ensures.own

pub with_command-requires-7 : goal.with_command-requires-7
with_command-requires-7 c = c.convert.ensures.own

pub with_command-requires-8 : goal.with_command-requires-8
with_command-requires-8 c = c.version.ensures.own

pub with_command-requires-9 : goal.with_command-requires-9
with_command-requires-9 c = c.manual.ensures.own

pub returns-in_err-bare_program : goal.returns-in_err-bare_program
returns-in_err-bare_program c = IfOk-from_err c.from_residual.result _ c.from_residual.ensures.0

pub returns-in_err-serving : goal.returns-in_err-serving
returns-in_err-serving c = IfOk-from_err c.from_residual-in_err-serving.result _ c.from_residual-in_err-serving.ensures.0

pub returns-in_err-checking : goal.returns-in_err-checking
returns-in_err-checking c = IfOk-from_err c.from_residual-in_err-checking.result _ c.from_residual-in_err-checking.ensures.0

pub returns-in_err-dumping : goal.returns-in_err-dumping
returns-in_err-dumping c = IfOk-from_err c.from_residual-in_err-dumping.result _ c.from_residual-in_err-dumping.ensures.0

pub returns-in_err-loading : goal.returns-in_err-loading
returns-in_err-loading c = IfOk-from_err c.from_residual-in_err-loading.result _ c.from_residual-in_err-loading.ensures.0

pub returns-in_err-storming : goal.returns-in_err-storming
returns-in_err-storming c = IfOk-from_err c.from_residual-in_err-storming.result _ c.from_residual-in_err-storming.ensures.0

pub returns-in_err-pairing : goal.returns-in_err-pairing
returns-in_err-pairing c = IfOk-from_err c.from_residual-in_err-pairing.result _ c.from_residual-in_err-pairing.ensures.0

pub returns-in_err-converting : goal.returns-in_err-converting
returns-in_err-converting c = IfOk-from_err c.from_residual-in_err-converting.result _ c.from_residual-in_err-converting.ensures.0

pub returns-in_err-telling : goal.returns-in_err-telling
returns-in_err-telling c = IfOk-from_err c.from_residual-in_err-telling.result _ c.from_residual-in_err-telling.ensures.0
