use Rattle.std.proofs.Common.{Some, ap, ◌∙◌}
use Rattle.std.proofs.lemmas.Result.{IfOk-from_err}
use Rattle.exh_stream.specs.OutputLemmas.{OnErr-from, stays_open}
use Rattle.exh_load.specs.Loading.{loading_in, loading_of}
use Rattle.exh_load.proofs.Exits.{no_fault, not_closed, same_fault}
use Rattle.exh_load.proofs.Pairs.{handed_on, lines_begun, lines_front, pairs_begun, pairs_front, pairs_out, records_told}
use Rattle.exh_load.proofs.Counted.{handed}
use Rattle.exh_load.proofs.load_source.put_pairs.Goals as goal

pub returns-in_err-records-clause-err : goal.returns-in_err-records-clause-err
returns-in_err-records-clause-err g c =
    let first = loading_of c.args.loader in
    OnErr-from c.from_residual.result (lines_begun first first c.args.lines g.W.Write.contents c.args.output.now c.load_lines.new.output c.in_err-records.ensures.err)

pub returns-in_err-records-clause-front : goal.returns-in_err-records-clause-front
returns-in_err-records-clause-front g c =
    let first = loading_of c.args.loader in
    handed_on c.from_residual.result c.in_err-records.field-0.0 c.from_residual.ensures
    (λ differs. lines_front first first c.args.lines g.W.Write.contents c.args.output.now c.load_lines.new.output (c.in_err-records.ensures.front differs))

pub returns-in_err-print_number-clause-err : goal.returns-in_err-print_number-clause-err
returns-in_err-print_number-clause-err g c =
    let first = loading_of c.args.loader in
    let left = loading_of c.load_lines.new.loader in
    let told = records_told first left c.args.lines c.in_ok-records.records c.in_ok-records.ensures.loaded (c.in_ok-records.ensures.records c.requires.few) in
    OnErr-from c.from_residual-in_err-print_number.result
    (pairs_begun first left c.args.lines g.W.Write.contents c.args.output.now c.load_lines.new.output c.print_number.new.output c.in_ok-records.ensures.text c.in_ok-records.records told c.in_err-print_number.ensures.err)

pub returns-in_err-print_number-clause-front : goal.returns-in_err-print_number-clause-front
returns-in_err-print_number-clause-front g c =
    let first = loading_of c.args.loader in
    let left = loading_of c.load_lines.new.loader in
    let told = records_told first left c.args.lines c.in_ok-records.records c.in_ok-records.ensures.loaded (c.in_ok-records.ensures.records c.requires.few) in
    handed_on c.from_residual-in_err-print_number.result c.in_err-print_number.field-0.0 c.from_residual-in_err-print_number.ensures
    (λ differs. pairs_front first left c.args.lines g.W.Write.contents c.args.output.now c.load_lines.new.output c.print_number.new.output c.in_ok-records.ensures.text c.in_ok-records.records told
    (c.in_err-print_number.ensures.front differs))

pub returns-clause-text : goal.returns-clause-text
returns-clause-text g c =
    let first = loading_of c.args.loader in
    let left = loading_of c.load_lines.new.loader in
    let told = records_told first left c.args.lines c.in_ok-records.records c.in_ok-records.ensures.loaded (c.in_ok-records.ensures.records c.requires.few) in
    pairs_out first left c.args.lines g.W.Write.contents c.args.output.now c.load_lines.new.output c.print_number.new.output c.in_ok-records.ensures.text c.in_ok-records.records told c.in_ok-print_number.ensures.text

pub returns-in_err-records-clause-same_writer : goal.returns-in_err-records-clause-same_writer
returns-in_err-records-clause-same_writer g c = c.load_lines.ensures.same_writer

pub returns-in_err-records-clause-text : goal.returns-in_err-records-clause-text
returns-in_err-records-clause-text g c = IfOk-from_err c.from_residual.result _ c.from_residual.ensures.0

pub returns-in_err-records-clause-left : goal.returns-in_err-records-clause-left
returns-in_err-records-clause-left g c = IfOk-from_err c.from_residual.result _ c.from_residual.ensures.0

pub returns-in_err-records-clause-failed : goal.returns-in_err-records-clause-failed
returns-in_err-records-clause-failed g c = same_fault c.from_residual.result c.in_err-records.field-0.0 _ c.from_residual.ensures c.in_err-records.ensures.failed

pub returns-in_err-print_number-clause-same_writer : goal.returns-in_err-print_number-clause-same_writer
returns-in_err-print_number-clause-same_writer g c = c.print_number.ensures.same_writer ∙ c.load_lines.ensures.same_writer

pub returns-in_err-print_number-clause-text : goal.returns-in_err-print_number-clause-text
returns-in_err-print_number-clause-text g c = IfOk-from_err c.from_residual-in_err-print_number.result _ c.from_residual-in_err-print_number.ensures.0

pub returns-in_err-print_number-clause-left : goal.returns-in_err-print_number-clause-left
returns-in_err-print_number-clause-left g c = IfOk-from_err c.from_residual-in_err-print_number.result _ c.from_residual-in_err-print_number.ensures.0

pub returns-in_err-print_number-clause-failed : goal.returns-in_err-print_number-clause-failed
returns-in_err-print_number-clause-failed g c = same_fault c.from_residual-in_err-print_number.result c.in_err-print_number.field-0.0 _ c.from_residual-in_err-print_number.ensures c.in_err-print_number.ensures.failed

pub returns-clause-same_writer : goal.returns-clause-same_writer
returns-clause-same_writer g c = c.print_number.ensures.same_writer ∙ c.load_lines.ensures.same_writer

pub returns-clause-left : goal.returns-clause-left
returns-clause-left g c = ap (λ file. Some (loading_in file)) c.into_opened.ensures ∙ ap Some c.in_ok-records.ensures.loaded

pub returns-clause-err : goal.returns-clause-err
returns-clause-err g c = tt

pub returns-clause-front : goal.returns-clause-front
returns-clause-front g c = tt

pub returns-clause-failed : goal.returns-clause-failed
returns-clause-failed g c = no_fault _ _ (not_closed _ _ _ c.in_ok-print_number.ensures.failed)

pub print_number-requires : goal.print_number-requires
print_number-requires g c = stays_open _ (not_closed _ _ _ c.in_ok-records.ensures.failed)

pub returns-in_err-records-clause-counted : goal.returns-in_err-records-clause-counted
returns-in_err-records-clause-counted g c = handed c.in_err-records.field-0.0 _ c.from_residual.result c.in_err-records.ensures.counted c.from_residual.ensures
