use Rattle.std.proofs.Common.{Err, ap, arith, inr, length, refl, rules}
use Rattle.exh_stream.specs.Output.{Takes, TakesBeginning}
use Rattle.exh_stream.specs.OutputLemmas.{TakesBeginning-none, stays_open}
use Rattle.exh_stream.specs.Source.{reader_failed, unread}
use Rattle.exh_stream.specs.SourceLemmas.{Consumes-all_given, LosesLonger-had}
use Rattle.exh_load.specs.Load.{IsLoadOf, TakesFront, beginning, load_of, refused}
use Rattle.exh_load.proofs.Exits.{not_closed, other_closed, too_long_differs}
use Rattle.exh_load.proofs.Loads.{front_none, load_long, load_read, loads_err, loads_front, loads_ok, printed_read, printed_unread, text_long, text_read}
use Rattle.exh_load.proofs.Records.{lines_few}
use Rattle.exh_load.proofs.load_source.load_source.Goals as goal

pub load_text-requires-clause-few : goal.load_text-requires-clause-few
load_text-requires-clause-few g c = omega (arith, lines_few c.deref.result.now, ap length c.deref.ensures.value, c.in-Ok.text.ok.0, c.in-Ok.ensures.within)

pub returns-in-Ok-clause-ok : goal.returns-in-Ok-clause-ok
returns-in-Ok-clause-ok g c =
    loads_ok (IsLoadOf (load_of (beginning c.args.from) c.args.limit) (unread g.R.Read.remaining c.args.source.now)) (Takes g.W.Write.contents c.args.output.now c.load_text.new.output) _ (load_read (beginning c.args.from) c.args.limit _ c.in-Ok.text.items c.deref.result.now (Consumes-all_given _ _ _ c.in-Ok.ensures.ok c.in-Ok.ensures.end) c.deref.ensures.value
    (omega (arith, c.in-Ok.text.ok.0, c.in-Ok.ensures.within))) c.load_text.result c.load_text.ensures.text c.load_text.ensures.left

pub returns-in-Ok-clause-err : goal.returns-in-Ok-clause-err
returns-in-Ok-clause-err g c =
    loads_err (IsLoadOf (load_of (beginning c.args.from) c.args.limit) (unread g.R.Read.remaining c.args.source.now)) (TakesBeginning g.W.Write.contents c.args.output.now c.load_text.new.output) _ (load_read (beginning c.args.from) c.args.limit _ c.in-Ok.text.items c.deref.result.now (Consumes-all_given _ _ _ c.in-Ok.ensures.ok c.in-Ok.ensures.end) c.deref.ensures.value
    (omega (arith, c.in-Ok.text.ok.0, c.in-Ok.ensures.within))) c.load_text.result c.load_text.ensures.err

pub returns-in-Ok-clause-front : goal.returns-in-Ok-clause-front
returns-in-Ok-clause-front g c =
    loads_front (IsLoadOf (load_of (beginning c.args.from) c.args.limit) (unread g.R.Read.remaining c.args.source.now)) (TakesFront g.W.Write.contents c.args.output.now c.load_text.new.output) _ (load_read (beginning c.args.from) c.args.limit _ c.in-Ok.text.items c.deref.result.now (Consumes-all_given _ _ _ c.in-Ok.ensures.ok c.in-Ok.ensures.end) c.deref.ensures.value
    (omega (arith, c.in-Ok.text.ok.0, c.in-Ok.ensures.within))) c.load_text.result c.load_text.ensures.front

pub returns-in-Err-TooLong-clause-ok : goal.returns-in-Err-TooLong-clause-ok
returns-in-Err-TooLong-clause-ok g c =
    let lost = c.in-Err-TooLong.ensures.too_long (ap Err c.in-Err-TooLong.field-0-is) in
    loads_ok (IsLoadOf (load_of (beginning c.args.from) c.args.limit) (unread g.R.Read.remaining c.args.source.now)) (Takes g.W.Write.contents c.args.output.now c.refuse.new.output) _ (load_long (beginning c.args.from) c.args.limit _ lost.0 lost.1 (LosesLonger-had _ _ _ lost)) c.refuse.result c.refuse.ensures.text c.refuse.ensures.left

pub returns-in-Err-TooLong-clause-err : goal.returns-in-Err-TooLong-clause-err
returns-in-Err-TooLong-clause-err g c =
    let lost = c.in-Err-TooLong.ensures.too_long (ap Err c.in-Err-TooLong.field-0-is) in
    loads_err (IsLoadOf (load_of (beginning c.args.from) c.args.limit) (unread g.R.Read.remaining c.args.source.now)) (TakesBeginning g.W.Write.contents c.args.output.now c.refuse.new.output) _ (load_long (beginning c.args.from) c.args.limit _ lost.0 lost.1 (LosesLonger-had _ _ _ lost)) c.refuse.result c.refuse.ensures.err

pub returns-in-Err-TooLong-clause-front : goal.returns-in-Err-TooLong-clause-front
returns-in-Err-TooLong-clause-front g c =
    let lost = c.in-Err-TooLong.ensures.too_long (ap Err c.in-Err-TooLong.field-0-is) in
    loads_front (IsLoadOf (load_of (beginning c.args.from) c.args.limit) (unread g.R.Read.remaining c.args.source.now)) (TakesFront g.W.Write.contents c.args.output.now c.refuse.new.output) _ (load_long (beginning c.args.from) c.args.limit _ lost.0 lost.1 (LosesLonger-had _ _ _ lost)) c.refuse.result c.refuse.ensures.front

pub returns-in-Err-Read-clause-ok : goal.returns-in-Err-Read-clause-ok
returns-in-Err-Read-clause-ok g c = loads_ok (IsLoadOf (load_of (beginning c.args.from) c.args.limit) (unread g.R.Read.remaining c.args.source.now)) (Takes g.W.Write.contents c.args.output.now c.refuse-in-Err-Read.new.output) (refused 41) (inr refl) c.refuse-in-Err-Read.result c.refuse-in-Err-Read.ensures.text c.refuse-in-Err-Read.ensures.left

pub returns-in-Err-Read-clause-err : goal.returns-in-Err-Read-clause-err
returns-in-Err-Read-clause-err g c = loads_err (IsLoadOf (load_of (beginning c.args.from) c.args.limit) (unread g.R.Read.remaining c.args.source.now)) (TakesBeginning g.W.Write.contents c.args.output.now c.refuse-in-Err-Read.new.output) (refused 41) (inr refl) c.refuse-in-Err-Read.result c.refuse-in-Err-Read.ensures.err

pub returns-in-Err-Read-clause-front : goal.returns-in-Err-Read-clause-front
returns-in-Err-Read-clause-front g c = loads_front (IsLoadOf (load_of (beginning c.args.from) c.args.limit) (unread g.R.Read.remaining c.args.source.now)) (TakesFront g.W.Write.contents c.args.output.now c.refuse-in-Err-Read.new.output) (refused 41) (inr refl) c.refuse-in-Err-Read.result c.refuse-in-Err-Read.ensures.front

pub returns-clause-err : goal.returns-clause-err
returns-clause-err g c = record { load = refused 41; of_reader = inr refl; text = TakesBeginning-none g.W.Write.contents c.args.output.now _ }

pub returns-clause-front : goal.returns-clause-front
returns-clause-front g c = λ _. record { load = refused 41; of_reader = inr refl; text = front_none g.W.Write.contents c.args.output.now _ }

pub returns-in-Ok-clause-reader : goal.returns-in-Ok-clause-reader
returns-in-Ok-clause-reader g c =
    printed_read (load_of (beginning c.args.from) c.args.limit) (Takes g.W.Write.contents c.args.output.now c.load_text.new.output) _ _ (reader_failed c.read_whole.new.self) (stays_open _ (not_closed _ _ _ c.in-Ok.ensures.failed))
    (text_read (beginning c.args.from) c.args.limit _ c.in-Ok.text.items c.deref.result.now (Consumes-all_given _ _ _ c.in-Ok.ensures.ok c.in-Ok.ensures.end) c.deref.ensures.value (omega (arith, c.in-Ok.text.ok.0, c.in-Ok.ensures.within)))
    c.load_text.result c.load_text.ensures.text

pub returns-in-Err-TooLong-clause-reader : goal.returns-in-Err-TooLong-clause-reader
returns-in-Err-TooLong-clause-reader g c =
    let lost = c.in-Err-TooLong.ensures.too_long (ap Err c.in-Err-TooLong.field-0-is) in
    printed_read (load_of (beginning c.args.from) c.args.limit) (Takes g.W.Write.contents c.args.output.now c.refuse.new.output) _ _ (reader_failed c.read_whole.new.self) (stays_open _ (other_closed _ _ _ c.in-Err-TooLong.ensures.failed (too_long_differs _ c.in-Err-TooLong.field-0-is))) (text_long (beginning c.args.from) c.args.limit _ lost.0 lost.1 (LosesLonger-had _ _ _ lost)) c.refuse.result c.refuse.ensures.text

pub returns-in-Err-Read-clause-reader : goal.returns-in-Err-Read-clause-reader
returns-in-Err-Read-clause-reader g c =
    printed_unread (load_of (beginning c.args.from) c.args.limit) (Takes g.W.Write.contents c.args.output.now c.refuse-in-Err-Read.new.output) _ (refused 41) (reader_failed c.read_whole.new.self) (search rules) refl c.refuse-in-Err-Read.result c.refuse-in-Err-Read.ensures.text
