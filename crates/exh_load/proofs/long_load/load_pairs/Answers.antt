use Rattle.std.proofs.Common.{[], ◌∷◌, sym, ap, ◌∙◌, subst, refl}
use Rattle.std.proofs.lemmas.Result.{IfErr-weaker}
use Rattle.std.specs.Prelude.{IfSome}
use Rattle.exh_load.specs.LoadFault.{BeginsFrom}
use Rattle.exh_load.specs.Loader.{file_in}
use Rattle.exh_load.proofs.Counted.{from_begun}
use Rattle.exh_load.specs.Load.{IsBegun, at_end, beginning, load_after, load_begun, refused}
use Rattle.exh_load.specs.LongLoad.{IsLongLoad, broken_off}
use Rattle.exh_load.proofs.Loads.{front_none}
use Rattle.exh_load.proofs.LongLoads.{long_either, long_some, takes_load, takes_memory}
use Rattle.exh_load.proofs.TextLines.{some_taken}
use Rattle.exh_load.proofs.long_load.load_pairs.Goals as goal

pub returns-in_err-loader-clause-loads : goal.returns-in_err-loader-clause-loads
returns-in_err-loader-clause-loads g c = λ known line read passed.
    let some = long_some (beginning c.args.from) known (line ∷ []) (some_taken g.R.Read.remaining known c.args.lines.now (line ∷ []) passed c.requires.ends) in
    takes_memory g.W.Write.contents (IsLongLoad (beginning c.args.from) known) c.args.output.now c.args.output.now c.from_residual.result c.from_residual.ensures
    (record { load = some.0; of_reader = some.1; text = front_none g.W.Write.contents c.args.output.now some.0.printed })

pub returns-in-Some-clause-loads : goal.returns-in-Some-clause-loads
returns-in-Some-clause-loads g c = λ known line read passed.
    let begun = (subst (IsBegun (beginning c.args.from c.args.settings.now.file)) c.in-Some.is c.in_ok-loader.ensures.begun).0 in
    c.put_pairs.ensures.loads known (beginning c.args.from) line c.args.settings.now read begun passed

pub returns-in-None-clause-loads : goal.returns-in-None-clause-loads
returns-in-None-clause-loads g c = λ known line read passed.
    let begun = subst (IsBegun (beginning c.args.from c.args.settings.now.file)) c.in-None.is c.in_ok-loader.ensures.begun in
    let begin = beginning c.args.from in
    let is = long_either begin known (line ∷ []) (refused 63) (some_taken g.R.Read.remaining known c.args.lines.now (line ∷ []) passed c.requires.ends)
    (sym (ap (λ r. load_after at_end begin r []) read ∙ ap (λ b. load_begun at_end b []) begun)) (sym (ap (λ r. load_after (broken_off 41) begin r []) read ∙ ap (λ b. load_begun (broken_off 41) b []) begun)) in
    takes_load g.W.Write.contents (IsLongLoad begin known) c.args.output.now c.refuse.new.output (refused 63) is c.refuse.result c.refuse.ensures.text c.refuse.ensures.left c.refuse.ensures.err c.refuse.ensures.front

pub returns-in_err-loader-clause-same_reader : goal.returns-in_err-loader-clause-same_reader
returns-in_err-loader-clause-same_reader g c = refl

pub returns-in_err-loader-clause-same_writer : goal.returns-in_err-loader-clause-same_writer
returns-in_err-loader-clause-same_writer g c = refl

pub returns-in-None-clause-same_reader : goal.returns-in-None-clause-same_reader
returns-in-None-clause-same_reader g c = refl

pub returns-in-None-clause-same_writer : goal.returns-in-None-clause-same_writer
returns-in-None-clause-same_writer g c = c.refuse.ensures.same_writer

pub returns-in-None-clause-failed : goal.returns-in-None-clause-failed
returns-in-None-clause-failed g c = c.refuse.ensures.failed

pub put_pairs-requires-clause-ends : goal.put_pairs-requires-clause-ends
put_pairs-requires-clause-ends g c = c.requires.ends

pub put_pairs-requires-clause-open : goal.put_pairs-requires-clause-open
put_pairs-requires-clause-open g c = c.requires.open

pub returns-in-Some-clause-same_reader : goal.returns-in-Some-clause-same_reader
returns-in-Some-clause-same_reader g c = c.put_pairs.ensures.same_reader

pub returns-in-Some-clause-same_writer : goal.returns-in-Some-clause-same_writer
returns-in-Some-clause-same_writer g c = c.put_pairs.ensures.same_writer

pub returns-in-Some-clause-failed : goal.returns-in-Some-clause-failed
returns-in-Some-clause-failed g c = c.put_pairs.ensures.failed

pub returns-in-Some-clause-counted : goal.returns-in-Some-clause-counted
returns-in-Some-clause-counted g c =
    let from = subst (λ begun. IfSome begun (λ loader. BeginsFrom c.args.from (file_in loader))) c.in-Some.is c.in_ok-loader.ensures.from in
    IfErr-weaker c.put_pairs.result _ _ (λ fault counted page. from_begun g.P.Pages.failures c.args.from (file_in c.in-Some.loader) from (counted page)) c.put_pairs.ensures.counted
