use Rattle.std.specs.Prelude.{IsSome, Some}
use Rattle.std.proofs.Common.{ap₂, inl, inr, refl, subst, sym, ◌∙◌}
use Rattle.std.proofs.lemmas.Result.{IfErr-weaker, IfOk-weaker}
use Rattle.exh_command.proofs.WordLemmas.{some_is}
use Rattle.exh_command.proofs.ParserLemmas.{checks, converts, dumps, is_command, job_is, loads, manuals, no_options, own_is, own_of, pairs, path_given, serves, some_met, storms, versions}
use Rattle.exh_command.proofs.job.job_met.Goals as goal

pub unreachable-requires : goal.unreachable-requires
unreachable-requires c = some_met c.args.matches.now c.requires.0 c.in_default.ensures.name c.requires.1

pub returns-in-serve-clause-named : goal.returns-in-serve-clause-named
returns-in-serve-clause-named c = λ asked met.
    job_is asked _ (serves asked c.in-Some.own.now _ _ (own_of c.args.matches.now c.in-Some.command.now c.in-Some.own.now _ c.in-Some.ensures.name c.in-Some.ensures.rows c.in-serve.is asked met) c.get_str.ensures c.get_str-in-serve.ensures)

pub path_in-requires : goal.path_in-requires
path_in-requires c =
    let own = own_is c.args.matches.now c.in-Some.command.now c.in-Some.own.now c.requires.0 c.in-Some.ensures.name c.in-Some.ensures.rows c.requires.1 in
    path_given c.requires.0 c.in-Some.command.now c.in-Some.own.now own (no_options c.in-Some.command.now (inl c.in-check.is))

pub returns-in-check-clause-named : goal.returns-in-check-clause-named
returns-in-check-clause-named c = λ asked met.
    job_is asked _ (checks asked c.in-Some.own.now (own_of c.args.matches.now c.in-Some.command.now c.in-Some.own.now _ c.in-Some.ensures.name c.in-Some.ensures.rows c.in-check.is asked met) _ c.path_in.ensures)

pub path_in-requires-in-dump : goal.path_in-requires-in-dump
path_in-requires-in-dump c =
    let own = own_is c.args.matches.now c.in-Some.command.now c.in-Some.own.now c.requires.0 c.in-Some.ensures.name c.in-Some.ensures.rows c.requires.1 in
    path_given c.requires.0 c.in-Some.command.now c.in-Some.own.now own (no_options c.in-Some.command.now (inr (inl c.in-dump.is)))

pub returns-in-dump-clause-named : goal.returns-in-dump-clause-named
returns-in-dump-clause-named c = λ asked met.
    job_is asked _ (dumps asked c.in-Some.own.now (own_of c.args.matches.now c.in-Some.command.now c.in-Some.own.now _ c.in-Some.ensures.name c.in-Some.ensures.rows c.in-dump.is asked met) _ c.path_in-in-dump.ensures)

pub load_job-requires : goal.load_job-requires
load_job-requires c =
    let given = loads c.requires.0 c.in-Some.own.now (own_of c.args.matches.now c.in-Some.command.now c.in-Some.own.now _ c.in-Some.ensures.name c.in-Some.ensures.rows c.in-load.is c.requires.0 c.requires.1) in
    record { path = subst IsSome given.path_is refl }

pub returns-in-load-clause-named : goal.returns-in-load-clause-named
returns-in-load-clause-named c =
    IfOk-weaker c.load_job.result _ _ (λ job is asked met.
    let given = loads asked c.in-Some.own.now (own_of c.args.matches.now c.in-Some.command.now c.in-Some.own.now _ c.in-Some.ensures.name c.in-Some.ensures.rows c.in-load.is asked met) in
    job_is asked _ given.asked_is ∙ is given.path given.long given.into given.path_is given.flags) c.load_job.ensures.named

pub returns-in-load-clause-wrong : goal.returns-in-load-clause-wrong
returns-in-load-clause-wrong c =
    IfErr-weaker c.load_job.result _ _ (λ fault none wrong asked met.
    let given = loads asked c.in-Some.own.now (own_of c.args.matches.now c.in-Some.command.now c.in-Some.own.now _ c.in-Some.ensures.name c.in-Some.ensures.rows c.in-load.is asked met) in
    job_is asked _ given.asked_is ∙ none wrong given.path given.long given.into given.flags) c.load_job.ensures.wrong

pub returns-in-storm-clause-named : goal.returns-in-storm-clause-named
returns-in-storm-clause-named c =
    IfOk-weaker c.storm_job.result _ _ (λ job is asked met. job_is asked _ (storms asked c.in-Some.own.now (own_of c.args.matches.now c.in-Some.command.now c.in-Some.own.now _ c.in-Some.ensures.name c.in-Some.ensures.rows c.in-storm.is asked met)) ∙ is) c.storm_job.ensures.named

pub returns-in-storm-clause-wrong : goal.returns-in-storm-clause-wrong
returns-in-storm-clause-wrong c =
    IfErr-weaker c.storm_job.result _ _ (λ fault none wrong asked met. job_is asked _ (storms asked c.in-Some.own.now (own_of c.args.matches.now c.in-Some.command.now c.in-Some.own.now _ c.in-Some.ensures.name c.in-Some.ensures.rows c.in-storm.is asked met)) ∙ none wrong) c.storm_job.ensures.wrong

pub unreachable-requires-in_default-command : goal.unreachable-requires-in_default-command
unreachable-requires-in_default-command c =
    let own = own_is c.args.matches.now c.in-Some.command.now c.in-Some.own.now c.requires.0 c.in-Some.ensures.name c.in-Some.ensures.rows c.requires.1 in
    is_command c.requires.0 c.in-Some.command.now c.in-Some.own.now own c.in_default-command.not-serve c.in_default-command.not-check c.in_default-command.not-dump c.in_default-command.not-load c.in_default-command.not-storm c.in_default-command.not-pairs c.in_default-command.not-convert c.in_default-command.not-version c.in_default-command.not-manual

pub pairs_job-requires : goal.pairs_job-requires
pairs_job-requires c =
    let given = pairs c.requires.0 c.in-Some.own.now (own_of c.args.matches.now c.in-Some.command.now c.in-Some.own.now _ c.in-Some.ensures.name c.in-Some.ensures.rows c.in-pairs.is c.requires.0 c.requires.1) in
    record { path = subst IsSome given.path_is refl }

pub returns-in-pairs-clause-named : goal.returns-in-pairs-clause-named
returns-in-pairs-clause-named c =
    IfOk-weaker c.pairs_job.result _ _ (λ job is asked met.
    let given = pairs asked c.in-Some.own.now (own_of c.args.matches.now c.in-Some.command.now c.in-Some.own.now _ c.in-Some.ensures.name c.in-Some.ensures.rows c.in-pairs.is asked met) in
    job_is asked _ given.asked_is ∙ is given.path given.path_is) c.pairs_job.ensures.named

pub returns-in-pairs-clause-wrong : goal.returns-in-pairs-clause-wrong
returns-in-pairs-clause-wrong c =
    IfErr-weaker c.pairs_job.result _ _ (λ fault none wrong asked met.
    let given = pairs asked c.in-Some.own.now (own_of c.args.matches.now c.in-Some.command.now c.in-Some.own.now _ c.in-Some.ensures.name c.in-Some.ensures.rows c.in-pairs.is asked met) in
    job_is asked _ given.asked_is ∙ none wrong given.path) c.pairs_job.ensures.wrong

pub convert_job-requires : goal.convert_job-requires
convert_job-requires c =
    let given = converts c.requires.0 c.in-Some.own.now (own_of c.args.matches.now c.in-Some.command.now c.in-Some.own.now _ c.in-Some.ensures.name c.in-Some.ensures.rows c.in-convert.is c.requires.0 c.requires.1) in
    record { path = subst IsSome given.path_is refl; new = subst IsSome given.new_is refl }

pub returns-in-convert-clause-named : goal.returns-in-convert-clause-named
returns-in-convert-clause-named c =
    IfOk-weaker c.convert_job.result _ _ (λ job is asked met.
    let given = converts asked c.in-Some.own.now (own_of c.args.matches.now c.in-Some.command.now c.in-Some.own.now _ c.in-Some.ensures.name c.in-Some.ensures.rows c.in-convert.is asked met) in
    job_is asked _ given.asked_is ∙ is given.path given.new given.path_is given.new_is) c.convert_job.ensures.named

pub returns-in-convert-clause-wrong : goal.returns-in-convert-clause-wrong
returns-in-convert-clause-wrong c =
    IfErr-weaker c.convert_job.result _ _ (λ fault none wrong asked met.
    let given = converts asked c.in-Some.own.now (own_of c.args.matches.now c.in-Some.command.now c.in-Some.own.now _ c.in-Some.ensures.name c.in-Some.ensures.rows c.in-convert.is asked met) in
    job_is asked _ given.asked_is ∙ none wrong given.path given.new) c.convert_job.ensures.wrong

pub returns-in-serve-clause-limits : goal.returns-in-serve-clause-limits
returns-in-serve-clause-limits c = tt

pub returns-in-serve-clause-wrong : goal.returns-in-serve-clause-wrong
returns-in-serve-clause-wrong c = tt

pub returns-in-check-clause-limits : goal.returns-in-check-clause-limits
returns-in-check-clause-limits c = tt

pub returns-in-check-clause-wrong : goal.returns-in-check-clause-wrong
returns-in-check-clause-wrong c = tt

pub returns-in-dump-clause-limits : goal.returns-in-dump-clause-limits
returns-in-dump-clause-limits c = tt

pub returns-in-dump-clause-wrong : goal.returns-in-dump-clause-wrong
returns-in-dump-clause-wrong c = tt

pub returns-in-load-clause-limits : goal.returns-in-load-clause-limits
returns-in-load-clause-limits c = c.load_job.ensures.limits

pub returns-in-storm-clause-limits : goal.returns-in-storm-clause-limits
returns-in-storm-clause-limits c = c.storm_job.ensures.limits

pub returns-in-pairs-clause-limits : goal.returns-in-pairs-clause-limits
returns-in-pairs-clause-limits c = c.pairs_job.ensures.limits

pub returns-in-convert-clause-limits : goal.returns-in-convert-clause-limits
returns-in-convert-clause-limits c = c.convert_job.ensures.limits

pub returns-in-version-clause-named : goal.returns-in-version-clause-named
returns-in-version-clause-named c = λ asked met. job_is asked _ (versions asked c.in-Some.own.now (own_of c.args.matches.now c.in-Some.command.now c.in-Some.own.now _ c.in-Some.ensures.name c.in-Some.ensures.rows c.in-version.is asked met))

pub returns-in-version-clause-limits : goal.returns-in-version-clause-limits
returns-in-version-clause-limits c = tt

pub returns-in-version-clause-wrong : goal.returns-in-version-clause-wrong
returns-in-version-clause-wrong c = tt

pub returns-in-manual-clause-named : goal.returns-in-manual-clause-named
returns-in-manual-clause-named c =
    IfOk-weaker c.manual_job.result _ _ (λ job is asked met. job_is asked _ (manuals asked c.in-Some.own.now (own_of c.args.matches.now c.in-Some.command.now c.in-Some.own.now _ c.in-Some.ensures.name c.in-Some.ensures.rows c.in-manual.is asked met)) ∙ is) c.manual_job.ensures.named

pub returns-in-manual-clause-wrong : goal.returns-in-manual-clause-wrong
returns-in-manual-clause-wrong c =
    IfErr-weaker c.manual_job.result _ _ (λ fault none wrong asked met. job_is asked _ (manuals asked c.in-Some.own.now (own_of c.args.matches.now c.in-Some.command.now c.in-Some.own.now _ c.in-Some.ensures.name c.in-Some.ensures.rows c.in-manual.is asked met)) ∙ none wrong) c.manual_job.ensures.wrong

pub returns-in-manual-clause-limits : goal.returns-in-manual-clause-limits
returns-in-manual-clause-limits c = c.manual_job.ensures.limits
