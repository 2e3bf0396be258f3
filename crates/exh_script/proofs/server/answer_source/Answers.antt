use Rattle.std.proofs.Common.{[], Err, refl, sym, ap, subst, arith, rules}
use Rattle.std.specs.Prelude.{MatchBool}
use Rattle.std.proofs.lemmas.Bool.{false_from_ne_true}
use Rattle.exh_stream.specs.Output.{Takes, TakesBeginning}
use Rattle.exh_stream.specs.OutputLemmas.{Takes-none, TakesBeginning-none}
use Rattle.exh_stream.specs.Source.{reader_failed, unread}
use Rattle.exh_stream.specs.SourceLemmas.{Consumes-all_given, LosesLonger-had}
use Rattle.exh_script.specs.Served.{PrintsLines, unread_text}
use Rattle.exh_script.specs.declared.serve_fault.ServeFault.TheVariants.{Memory}
use Rattle.exh_script.specs.OpenedScript.{beginning}
use Rattle.exh_script.proofs.ServedLemmas.{IfCut-map, whole_ok, whole_err, whole_front, long_ok, long_err, none_front, none_text, unread_ok, unread_err}
use Rattle.exh_script.proofs.server.answer_source.Goals as goal

pub returns-in-Ok-clause-text : goal.returns-in-Ok-clause-text
returns-in-Ok-clause-text g c =
    whole_ok (beginning c.args.from) (Takes g.W.Write.contents c.args.output.now c.respond.new.output) _ (reader_failed c.read_whole.new.self) (search rules) c.in-Ok.script.items c.deref.result.now
    (Consumes-all_given _ _ _ c.in-Ok.ensures.ok c.in-Ok.ensures.end) c.deref.ensures.value (omega (arith, c.in-Ok.script.ok.0, c.in-Ok.ensures.within)) c.respond.result c.respond.ensures.text c.respond.ensures.left

pub returns-in-Ok-clause-err : goal.returns-in-Ok-clause-err
returns-in-Ok-clause-err g c =
    whole_err (beginning c.args.from) (TakesBeginning g.W.Write.contents c.args.output.now c.respond.new.output) _ (reader_failed c.read_whole.new.self) (search rules) c.in-Ok.script.items c.deref.result.now
    (Consumes-all_given _ _ _ c.in-Ok.ensures.ok c.in-Ok.ensures.end) c.deref.ensures.value (omega (arith, c.in-Ok.script.ok.0, c.in-Ok.ensures.within)) c.respond.result _ c.respond.ensures.err

pub returns-in-Ok-clause-front : goal.returns-in-Ok-clause-front
returns-in-Ok-clause-front g c =
    IfCut-map c.respond.result (whole_front (beginning c.args.from) (Takes g.W.Write.contents c.args.output.now c.respond.new.output) _ (reader_failed c.read_whole.new.self) (search rules) c.in-Ok.script.items c.deref.result.now
    (Consumes-all_given _ _ _ c.in-Ok.ensures.ok c.in-Ok.ensures.end) c.deref.ensures.value (omega (arith, c.in-Ok.script.ok.0, c.in-Ok.ensures.within)) _) c.respond.ensures.front

pub returns-in-Err-TooLong-clause-text : goal.returns-in-Err-TooLong-clause-text
returns-in-Err-TooLong-clause-text g c =
    let lost = c.in-Err-TooLong.ensures.too_long (ap Err c.in-Err-TooLong.field-0-is) in
    long_ok (beginning c.args.from) (Takes g.W.Write.contents c.args.output.now c.refuse.new.output) _ (reader_failed c.read_whole.new.self) (search (rules, c.in-Err-TooLong.ensures.failed, c.in-Err-TooLong.field-0-is)) lost.0 lost.1 (LosesLonger-had _ _ _ lost) c.refuse.result c.refuse.ensures.text c.refuse.ensures.left

pub returns-in-Err-TooLong-clause-err : goal.returns-in-Err-TooLong-clause-err
returns-in-Err-TooLong-clause-err g c =
    let lost = c.in-Err-TooLong.ensures.too_long (ap Err c.in-Err-TooLong.field-0-is) in
    long_err (beginning c.args.from) (TakesBeginning g.W.Write.contents c.args.output.now c.refuse.new.output) _ (reader_failed c.read_whole.new.self) (search (rules, c.in-Err-TooLong.ensures.failed, c.in-Err-TooLong.field-0-is)) lost.0 lost.1 (LosesLonger-had _ _ _ lost) c.refuse.result _ c.refuse.ensures.err

pub returns-in-Err-TooLong-clause-front : goal.returns-in-Err-TooLong-clause-front
returns-in-Err-TooLong-clause-front g c =
    IfCut-map c.refuse.result (none_front (beginning c.args.from) (Takes g.W.Write.contents c.args.output.now c.refuse.new.output) _ (reader_failed c.read_whole.new.self) (search (rules, c.in-Err-TooLong.ensures.failed, c.in-Err-TooLong.field-0-is)) _) c.refuse.ensures.front

pub returns-in-Err-Read-clause-text : goal.returns-in-Err-Read-clause-text
unfolding unread_text
returns-in-Err-Read-clause-text g c =
    unread_ok (Takes g.W.Write.contents c.args.output.now c.refuse-in-Err-Read.new.output) (reader_failed c.read_whole.new.self) (c.in-Err-Read.ensures.failed.0 (ap Err c.in-Err-Read.field-0-is)) c.refuse-in-Err-Read.result _ c.refuse-in-Err-Read.ensures.text c.refuse-in-Err-Read.ensures.left

pub returns-in-Err-Read-clause-err : goal.returns-in-Err-Read-clause-err
unfolding unread_text
returns-in-Err-Read-clause-err g c =
    unread_err (TakesBeginning g.W.Write.contents c.args.output.now c.refuse-in-Err-Read.new.output) (reader_failed c.read_whole.new.self) (c.in-Err-Read.ensures.failed.0 (ap Err c.in-Err-Read.field-0-is)) c.refuse-in-Err-Read.result _ c.refuse-in-Err-Read.ensures.err

pub returns-clause-front : goal.returns-clause-front
returns-clause-front g c = λ _.
    none_front (beginning c.args.from) (Takes g.W.Write.contents c.args.output.now c.args.output.now) _ (reader_failed c.read_whole.new.self) (false_from_ne_true _ (λ failed. search (rules, c.in-Err-Memory.ensures.failed.1 failed, c.in-Err-Memory.field-0-is))) _ (Takes-none g.W.Write.contents c.args.output.now)

pub returns-clause-err : goal.returns-clause-err
returns-clause-err g c =
    none_text (beginning c.args.from) (TakesBeginning g.W.Write.contents c.args.output.now c.args.output.now) _ (reader_failed c.read_whole.new.self) (false_from_ne_true _ (λ failed. search (rules, c.in-Err-Memory.ensures.failed.1 failed, c.in-Err-Memory.field-0-is))) (Err Memory) _ (TakesBeginning-none g.W.Write.contents c.args.output.now)

pub returns-in-Ok-clause-same_reader : goal.returns-in-Ok-clause-same_reader
returns-in-Ok-clause-same_reader g c = c.read_whole.ensures.same_reader

pub returns-in-Ok-clause-same_writer : goal.returns-in-Ok-clause-same_writer
returns-in-Ok-clause-same_writer g c = c.respond.ensures.same_writer

pub returns-in-Ok-clause-failed : goal.returns-in-Ok-clause-failed
returns-in-Ok-clause-failed g c = c.respond.ensures.failed

pub returns-in-Err-TooLong-clause-same_reader : goal.returns-in-Err-TooLong-clause-same_reader
returns-in-Err-TooLong-clause-same_reader g c = c.read_whole.ensures.same_reader

pub returns-in-Err-TooLong-clause-same_writer : goal.returns-in-Err-TooLong-clause-same_writer
returns-in-Err-TooLong-clause-same_writer g c = c.refuse.ensures.same_writer

pub returns-in-Err-TooLong-clause-failed : goal.returns-in-Err-TooLong-clause-failed
returns-in-Err-TooLong-clause-failed g c = c.refuse.ensures.failed

pub returns-in-Err-Read-clause-same_reader : goal.returns-in-Err-Read-clause-same_reader
returns-in-Err-Read-clause-same_reader g c = c.read_whole.ensures.same_reader

pub returns-in-Err-Read-clause-same_writer : goal.returns-in-Err-Read-clause-same_writer
returns-in-Err-Read-clause-same_writer g c = c.refuse-in-Err-Read.ensures.same_writer

pub returns-in-Err-Read-clause-failed : goal.returns-in-Err-Read-clause-failed
returns-in-Err-Read-clause-failed g c = c.refuse-in-Err-Read.ensures.failed

pub returns-clause-same_reader : goal.returns-clause-same_reader
returns-clause-same_reader g c = c.read_whole.ensures.same_reader

pub returns-clause-same_writer : goal.returns-clause-same_writer
returns-clause-same_writer g c = refl

pub returns-clause-text : goal.returns-clause-text
returns-clause-text g c = tt

pub respond-requires : goal.respond-requires
respond-requires g c = c.requires.open_output

pub refuse-requires : goal.refuse-requires
refuse-requires g c = c.requires.open_output

pub refuse-requires-in-Err-Read : goal.refuse-requires-in-Err-Read
refuse-requires-in-Err-Read g c = c.requires.open_output

pub returns-in-Err-Read-clause-front : goal.returns-in-Err-Read-clause-front
returns-in-Err-Read-clause-front g c =
    let taken = Takes g.W.Write.contents c.args.output.now c.refuse-in-Err-Read.new.output in
    let failed = c.in-Err-Read.ensures.failed.0 (ap Err c.in-Err-Read.field-0-is) in
    IfCut-map c.refuse-in-Err-Read.result (subst (λ failed. MatchBool failed (taken []) (PrintsLines (beginning c.args.from) taken (unread g.R.Read.remaining c.args.source.now))) (sym failed)) c.refuse-in-Err-Read.ensures.front
