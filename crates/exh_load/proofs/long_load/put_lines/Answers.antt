use Rattle.std.proofs.Common.{◌≡◌, ℕ, List, false, true, [], ◌∷◌, ◌++◌, refl, sym, subst, arith, ◌∙◌}
use Rattle.exh_stream.specs.OutputLemmas.{Takes-none, stays_open}
use Rattle.std.proofs.lemmas.Result.{IfOk-from_err}
use Rattle.exh_load.specs.LineSource.{GoesOn, Passes}
use Rattle.exh_load.specs.Loading.{loading_of}
use Rattle.exh_load.proofs.Exits.{not_closed}
use Rattle.exh_load.proofs.Lines.{LeadTo-more, LeadTo-none}
use Rattle.exh_load.proofs.LongLoads.{all_put, more_passed, more_taken, some_endless, some_read, stopped_on}
use Rattle.exh_load.proofs.TextLines.{passes_none}
use Rattle.exh_load.specs.Loader.{file_in}
use Rattle.exh_load.proofs.Counted.{counted_before, falls_none, falls_then, handed}
use Rattle.exh_load.proofs.long_load.put_lines.Goals as goal

pub turns-init : goal.turns-init
turns-init g c = record {
  same_reader = refl;
  same_writer = refl;
  ends = c.requires.ends;
  open_still = c.requires.open;
  loading = c.requires.loading;
  falls = falls_none (file_in c.args.loader.now);
  put = [];
  passed = passes_none g.R.Read.remaining c.args.lines.now;
  lead = LeadTo-none (loading_of c.args.loader.now);
  counted = omega arith;
  few = omega arith;
  taken = Takes-none g.W.Write.contents c.args.output.now;
}

pub returns-in-Ok-false-clause-put : goal.returns-in-Ok-false-clause-put
returns-in-Ok-false-clause-put g c =
    let R = g.R.Read.remaining in
    let i = c.turns.invariant in
    let first = loading_of c.args.loader.now in
    let now = loading_of c.turns.loader in
    let on = subst (GoesOn R c.turns.lines c.next_line.new.self) c.in-Ok-false.field-0-test c.in-Ok-false.ensures.next in
    all_put R g.W.Write.contents c.args.lines.now c.turns.lines c.next_line.new.self c.args.output.now c.turns.output c.turns.output first now now i.put i.lead i.passed i.taken c.in-Ok-false.ensures.ends c.turns.records on i.counted

pub returns-in-Err-clause-put : goal.returns-in-Err-clause-put
returns-in-Err-clause-put g c =
    let i = c.turns.invariant in
    some_read g.R.Read.remaining g.W.Write.contents c.args.lines.now c.turns.lines c.args.output.now c.turns.output (loading_of c.args.loader.now) i.put i.passed i.taken c.in-Err.fault (λ over. let never : false ≡ true = c.in-Err.ensures.over over in cc)

pub returns-in_err-records-clause-stopped : goal.returns-in_err-records-clause-stopped
returns-in_err-records-clause-stopped g c =
    let R = g.R.Read.remaining in
    let i = c.turns.invariant in
    let first = loading_of c.args.loader.now in
    let now = loading_of c.turns.loader in
    let line = c.line.result.now in
    let ended = subst (GoesOn R c.turns.lines c.next_line.new.self) c.in-Ok-true.field-0-test c.in-Ok-true.ensures.next in
    let on = subst (λ (l : List ℕ). Passes R c.turns.lines c.next_line.new.self (l ∷ [])) (sym c.line.ensures) ended in
    stopped_on R g.W.Write.contents c.args.lines.now c.turns.lines c.next_line.new.self c.args.output.now c.turns.output c.put_line.new.output first now (loading_of c.put_line.new.loader) i.put i.lead i.passed i.taken c.in-Ok-true.ensures.ends line on c.from_residual.result c.in_err-records.field-0.0 c.from_residual.ensures c.in_err-records.ensures.err c.in_err-records.ensures.front

pub turns-preserved : goal.turns-preserved
turns-preserved g c =
    let R = g.R.Read.remaining in
    let i = c.turns.invariant in
    let first = loading_of c.args.loader.now in
    let now = loading_of c.turns.loader in
    let line = c.line.result.now in
    let ended = subst (GoesOn R c.turns.lines c.next_line.new.self) c.in-Ok-true.field-0-test c.in-Ok-true.ensures.next in
    let on = subst (λ (l : List ℕ). Passes R c.turns.lines c.next_line.new.self (l ∷ [])) (sym c.line.ensures) ended in
    record {
      same_reader = c.next_line.ensures.same_reader ∙ i.same_reader;
      same_writer = c.put_line.ensures.same_writer ∙ i.same_writer;
      ends = c.in-Ok-true.ensures.ends;
      open_still = stays_open _ (not_closed _ _ _ c.in_ok-records.ensures.failed);
      loading = c.in_ok-records.ensures.loading;
      falls = falls_then (file_in c.args.loader.now) (file_in c.turns.loader) (file_in c.put_line.new.loader) i.falls c.in_ok-records.ensures.falls;
      put = i.put ++ line ∷ [];
      passed = more_passed R g.W.Write.contents c.args.lines.now c.turns.lines c.next_line.new.self c.args.output.now c.turns.output c.put_line.new.output first now (loading_of c.put_line.new.loader) i.put i.lead i.passed i.taken c.in-Ok-true.ensures.ends line on;
      lead = LeadTo-more first now i.put i.lead line (loading_of c.put_line.new.loader) c.in_ok-records.ensures.loaded;
      counted = omega (arith, i.counted, c.in_ok-records.ensures.records);
      few = omega (arith, i.few, c.in_ok-records.ensures.few);
      taken = more_taken R g.W.Write.contents c.args.lines.now c.turns.lines c.next_line.new.self c.args.output.now c.turns.output c.put_line.new.output first now (loading_of c.put_line.new.loader) i.put i.lead i.passed i.taken c.in-Ok-true.ensures.ends line on c.in_ok-records.ensures.text;
    }

pub returns-clause-put : goal.returns-clause-put
returns-clause-put g c =
    let i = c.turns.invariant in
    some_endless g.R.Read.remaining g.W.Write.contents c.args.lines.now c.turns.lines c.args.output.now c.turns.output (loading_of c.args.loader.now) i.put i.passed i.taken

pub returns-in_err-records-clause-put : goal.returns-in_err-records-clause-put
returns-in_err-records-clause-put g c = IfOk-from_err c.from_residual.result _ c.from_residual.ensures.0

pub returns-in_err-records-clause-open : goal.returns-in_err-records-clause-open
returns-in_err-records-clause-open g c = IfOk-from_err c.from_residual.result _ c.from_residual.ensures.0

pub returns-in_err-records-clause-same_reader : goal.returns-in_err-records-clause-same_reader
returns-in_err-records-clause-same_reader g c = c.next_line.ensures.same_reader ∙ c.turns.invariant.same_reader

pub returns-in_err-records-clause-same_writer : goal.returns-in_err-records-clause-same_writer
returns-in_err-records-clause-same_writer g c = c.put_line.ensures.same_writer ∙ c.turns.invariant.same_writer

pub returns-in-Ok-false-clause-stopped : goal.returns-in-Ok-false-clause-stopped
returns-in-Ok-false-clause-stopped g c = tt

pub returns-in-Ok-false-clause-open : goal.returns-in-Ok-false-clause-open
returns-in-Ok-false-clause-open g c = c.turns.invariant.open_still

pub returns-in-Ok-false-clause-same_writer : goal.returns-in-Ok-false-clause-same_writer
returns-in-Ok-false-clause-same_writer g c = c.turns.invariant.same_writer

pub returns-in-Ok-false-clause-same_reader : goal.returns-in-Ok-false-clause-same_reader
returns-in-Ok-false-clause-same_reader g c = c.next_line.ensures.same_reader ∙ c.turns.invariant.same_reader

pub returns-in-Err-clause-stopped : goal.returns-in-Err-clause-stopped
returns-in-Err-clause-stopped g c = tt

pub returns-in-Err-clause-open : goal.returns-in-Err-clause-open
returns-in-Err-clause-open g c = c.turns.invariant.open_still

pub returns-in-Err-clause-same_writer : goal.returns-in-Err-clause-same_writer
returns-in-Err-clause-same_writer g c = c.turns.invariant.same_writer

pub returns-in-Err-clause-same_reader : goal.returns-in-Err-clause-same_reader
returns-in-Err-clause-same_reader g c = c.next_line.ensures.same_reader ∙ c.turns.invariant.same_reader

pub returns-clause-stopped : goal.returns-clause-stopped
returns-clause-stopped g c = tt

pub returns-clause-open : goal.returns-clause-open
returns-clause-open g c = c.turns.invariant.open_still

pub returns-clause-same_writer : goal.returns-clause-same_writer
returns-clause-same_writer g c = c.turns.invariant.same_writer

pub returns-clause-same_reader : goal.returns-clause-same_reader
returns-clause-same_reader g c = c.turns.invariant.same_reader

pub returns-in_err-records-clause-counted : goal.returns-in_err-records-clause-counted
returns-in_err-records-clause-counted g c =
    handed c.in_err-records.field-0.0 _ c.from_residual.result (λ page. counted_before g.P.Pages.failures (file_in c.args.loader.now) (file_in c.turns.loader) c.turns.invariant.falls (c.in_err-records.ensures.counted page)) c.from_residual.ensures
