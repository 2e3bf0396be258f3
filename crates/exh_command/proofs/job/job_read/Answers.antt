use Rattle.std.proofs.Common.{map, ◌∙◌}
use Rattle.std.proofs.lemmas.Result.{IfErr-weaker, IfOk-from_err, IfOk-weaker}
use Rattle.clap.specs.Words.{app_of}
use Rattle.exh_command.proofs.ParserLemmas.{job_of_words, no_version, parse_meets, version_told, wrong_words}
use Rattle.exh_command.proofs.job.job_read.Goals as goal

pub returns-in_err-matches-clause-wrong : goal.returns-in_err-matches-clause-wrong
returns-in_err-matches-clause-wrong g c =
    let parser = c.in_ok-parser.field-0 in
    let words = map g.S.AsStr.text c.args.words.now in
    wrong_words (app_of parser) words c.in_err-matches.field-0.0 c.in_ok-parser.ensures (c.in_err-matches.ensures.kinds c.in_ok-parser.ensures.exact)
    c.from_residual-in_err-matches.result c.from_residual-in_err-matches.ensures.1

pub returns-in_err-matches-clause-version : goal.returns-in_err-matches-clause-version
returns-in_err-matches-clause-version g c =
    let parser = c.in_ok-parser.field-0 in
    let words = map g.S.AsStr.text c.args.words.now in
    version_told (app_of parser) words c.in_err-matches.field-0.0 c.in_ok-parser.ensures (c.in_err-matches.ensures.kinds c.in_ok-parser.ensures.exact)
    c.from_residual-in_err-matches.result c.from_residual-in_err-matches.ensures.1

pub job_met-requires : goal.job_met-requires
job_met-requires g c =
    let parse = c.in_ok-matches.ensures in
    let met = parse_meets (app_of c.in_ok-parser.field-0) (map g.S.AsStr.text c.args.words.now) c.in_ok-matches.matches c.in_ok-parser.ensures (parse.kinds c.in_ok-parser.ensures.exact) parse.matches in
    (met.0, met.2)

pub returns-clause-named : goal.returns-clause-named
returns-clause-named g c =
    let words = map g.S.AsStr.text c.args.words.now in
    let parse = c.in_ok-matches.ensures in
    let met = parse_meets (app_of c.in_ok-parser.field-0) words c.in_ok-matches.matches c.in_ok-parser.ensures (parse.kinds c.in_ok-parser.ensures.exact) parse.matches in
    IfOk-weaker c.job_met.result _ _ (λ job is. job_of_words words met.0 met.1 ∙ is met.0 met.2) c.job_met.ensures.named

pub returns-clause-wrong : goal.returns-clause-wrong
returns-clause-wrong g c =
    let words = map g.S.AsStr.text c.args.words.now in
    let parse = c.in_ok-matches.ensures in
    let met = parse_meets (app_of c.in_ok-parser.field-0) words c.in_ok-matches.matches c.in_ok-parser.ensures (parse.kinds c.in_ok-parser.ensures.exact) parse.matches in
    IfErr-weaker c.job_met.result _ _ (λ fault none wrong. job_of_words words met.0 met.1 ∙ none wrong met.0 met.2) c.job_met.ensures.wrong

pub returns-clause-version : goal.returns-clause-version
returns-clause-version g c =
    let none = c.in_ok-matches.ensures.kinds c.in_ok-parser.ensures.exact in
    IfErr-weaker c.job_met.result _ _ (λ fault is asks. absurd (no_version (app_of c.in_ok-parser.field-0) (map g.S.AsStr.text c.args.words.now) c.in_ok-parser.ensures none asks)) c.job_met.ensures.wrong

pub returns-clause-limits : goal.returns-clause-limits
returns-clause-limits g c = c.job_met.ensures.limits

pub returns-in_err-parser-clause-named : goal.returns-in_err-parser-clause-named
returns-in_err-parser-clause-named g c = IfOk-from_err c.from_residual.result _ c.from_residual.ensures.0

pub returns-in_err-parser-clause-limits : goal.returns-in_err-parser-clause-limits
returns-in_err-parser-clause-limits g c = IfOk-from_err c.from_residual.result _ c.from_residual.ensures.0

pub returns-in_err-matches-clause-named : goal.returns-in_err-matches-clause-named
returns-in_err-matches-clause-named g c = IfOk-from_err c.from_residual-in_err-matches.result _ c.from_residual-in_err-matches.ensures.0

pub returns-in_err-matches-clause-limits : goal.returns-in_err-matches-clause-limits
returns-in_err-matches-clause-limits g c = IfOk-from_err c.from_residual-in_err-matches.result _ c.from_residual-in_err-matches.ensures.0
