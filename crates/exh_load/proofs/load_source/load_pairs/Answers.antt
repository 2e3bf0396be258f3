use Rattle.std.proofs.Common.{ap, refl, subst, sym}
use Rattle.std.proofs.lemmas.Result.{IfErr-weaker, IfOk-from_err}
use Rattle.std.specs.Prelude.{IfSome}
use Rattle.exh_load.specs.LoadFault.{BeginsFrom}
use Rattle.exh_load.specs.Loader.{file_in}
use Rattle.exh_load.proofs.Counted.{from_begun}
use Rattle.exh_stream.specs.OutputLemmas.{OnErr-from, TakesBeginning-none}
use Rattle.exh_load.specs.Load.{IsBegun, at_end, beginning, load_begun}
use Rattle.exh_load.specs.Loading.{loading_of}
use Rattle.exh_load.specs.declared.load_fault.LoadFault.TheVariants.{Memory}
use Rattle.exh_load.proofs.Exits.{memory_differs, other_fault, same_err, same_front, same_left, same_text}
use Rattle.exh_load.proofs.Lines.{IfErr-from}
use Rattle.exh_load.proofs.Loads.{front_none}
use Rattle.exh_load.proofs.Pairs.{begun_is}
use Rattle.exh_load.proofs.load_source.load_pairs.Goals as goal

pub returns-in_err-loader-clause-same_writer : goal.returns-in_err-loader-clause-same_writer
returns-in_err-loader-clause-same_writer g c = refl

pub returns-in_err-loader-clause-text : goal.returns-in_err-loader-clause-text
returns-in_err-loader-clause-text g c = IfOk-from_err c.from_residual.result _ c.from_residual.ensures.0

pub returns-in_err-loader-clause-left : goal.returns-in_err-loader-clause-left
returns-in_err-loader-clause-left g c = IfOk-from_err c.from_residual.result _ c.from_residual.ensures.0

pub returns-in_err-loader-clause-err : goal.returns-in_err-loader-clause-err
returns-in_err-loader-clause-err g c = OnErr-from c.from_residual.result (TakesBeginning-none g.W.Write.contents c.args.output.now _)

pub returns-in_err-loader-clause-front : goal.returns-in_err-loader-clause-front
returns-in_err-loader-clause-front g c = IfErr-from c.from_residual.result (λ fault _. front_none g.W.Write.contents c.args.output.now _)

pub returns-in_err-loader-clause-failed : goal.returns-in_err-loader-clause-failed
returns-in_err-loader-clause-failed g c = other_fault c.from_residual.result Memory _ c.from_residual.ensures memory_differs c.requires.open

pub returns-in-Some-clause-same_writer : goal.returns-in-Some-clause-same_writer
returns-in-Some-clause-same_writer g c = c.put_pairs.ensures.same_writer

pub returns-in-Some-clause-text : goal.returns-in-Some-clause-text
returns-in-Some-clause-text g c =
    let begun = beginning c.args.from c.args.file.now in
    let same = begun_is begun (loading_of c.in-Some.loader) c.args.lines (subst (IsBegun begun) c.in-Some.is c.in_ok-loader.ensures.begun).0 in
    same_text g.W.Write.contents c.args.output.now c.put_pairs.new.output _ _ same c.put_pairs.result c.put_pairs.ensures.text

pub returns-in-Some-clause-left : goal.returns-in-Some-clause-left
returns-in-Some-clause-left g c =
    let begun = beginning c.args.from c.args.file.now in
    let same = begun_is begun (loading_of c.in-Some.loader) c.args.lines (subst (IsBegun begun) c.in-Some.is c.in_ok-loader.ensures.begun).0 in
    same_left g.W.Write.contents c.args.output.now c.put_pairs.new.output _ _ same c.put_pairs.result c.put_pairs.ensures.left

pub returns-in-Some-clause-err : goal.returns-in-Some-clause-err
returns-in-Some-clause-err g c =
    let begun = beginning c.args.from c.args.file.now in
    let same = begun_is begun (loading_of c.in-Some.loader) c.args.lines (subst (IsBegun begun) c.in-Some.is c.in_ok-loader.ensures.begun).0 in
    same_err g.W.Write.contents c.args.output.now c.put_pairs.new.output _ _ same c.put_pairs.result c.put_pairs.ensures.err

pub returns-in-Some-clause-front : goal.returns-in-Some-clause-front
returns-in-Some-clause-front g c =
    let begun = beginning c.args.from c.args.file.now in
    let same = begun_is begun (loading_of c.in-Some.loader) c.args.lines (subst (IsBegun begun) c.in-Some.is c.in_ok-loader.ensures.begun).0 in
    same_front g.W.Write.contents c.args.output.now c.put_pairs.new.output _ _ same c.put_pairs.result c.put_pairs.ensures.front

pub returns-in-Some-clause-failed : goal.returns-in-Some-clause-failed
returns-in-Some-clause-failed g c = c.put_pairs.ensures.failed

pub returns-in-None-clause-same_writer : goal.returns-in-None-clause-same_writer
returns-in-None-clause-same_writer g c = c.refuse.ensures.same_writer

pub returns-in-None-clause-text : goal.returns-in-None-clause-text
returns-in-None-clause-text g c =
    let begun = beginning c.args.from c.args.file.now in
    let same = ap (λ told. load_begun at_end told c.args.lines) (sym (subst (IsBegun begun) c.in-None.is c.in_ok-loader.ensures.begun)) in
    same_text g.W.Write.contents c.args.output.now c.refuse.new.output _ _ same c.refuse.result c.refuse.ensures.text

pub returns-in-None-clause-left : goal.returns-in-None-clause-left
returns-in-None-clause-left g c =
    let begun = beginning c.args.from c.args.file.now in
    let same = ap (λ told. load_begun at_end told c.args.lines) (sym (subst (IsBegun begun) c.in-None.is c.in_ok-loader.ensures.begun)) in
    same_left g.W.Write.contents c.args.output.now c.refuse.new.output _ _ same c.refuse.result c.refuse.ensures.left

pub returns-in-None-clause-err : goal.returns-in-None-clause-err
returns-in-None-clause-err g c =
    let begun = beginning c.args.from c.args.file.now in
    let same = ap (λ told. load_begun at_end told c.args.lines) (sym (subst (IsBegun begun) c.in-None.is c.in_ok-loader.ensures.begun)) in
    same_err g.W.Write.contents c.args.output.now c.refuse.new.output _ _ same c.refuse.result c.refuse.ensures.err

pub returns-in-None-clause-front : goal.returns-in-None-clause-front
returns-in-None-clause-front g c =
    let begun = beginning c.args.from c.args.file.now in
    let same = ap (λ told. load_begun at_end told c.args.lines) (sym (subst (IsBegun begun) c.in-None.is c.in_ok-loader.ensures.begun)) in
    same_front g.W.Write.contents c.args.output.now c.refuse.new.output _ _ same c.refuse.result c.refuse.ensures.front

pub returns-in-None-clause-failed : goal.returns-in-None-clause-failed
returns-in-None-clause-failed g c = c.refuse.ensures.failed

pub returns-in-Some-clause-counted : goal.returns-in-Some-clause-counted
returns-in-Some-clause-counted g c =
    let from = subst (λ begun. IfSome begun (λ loader. BeginsFrom c.args.from (file_in loader))) c.in-Some.is c.in_ok-loader.ensures.from in
    IfErr-weaker c.put_pairs.result _ _ (λ fault counted page. from_begun g.P.Pages.failures c.args.from (file_in c.in-Some.loader) from (counted page)) c.put_pairs.ensures.counted
