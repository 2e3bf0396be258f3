use Rattle.std.proofs.Common.{[], ◌∷◌, refl, arith, ◌∙◌, ◌++◌, sym, ap, subst, append_assoc}
use Rattle.std.proofs.lemmas.List.{length_push}
use Rattle.exh_stream.specs.Output.{Takes}
use Rattle.exh_stream.specs.OutputLemmas.{OnErr-from, Takes-none, stays_open}
use Rattle.std.proofs.lemmas.Result.{IfOk-from_err}
use Rattle.exh_load.specs.Loading.{line_text, loading_of, load_text_from}
use Rattle.std.proofs.lemmas.Bool.{false≢true}
use Rattle.exh_load.proofs.Lines.{IfErr-from, LeadTo-more, LeadTo-none, line_is, line_out, line_stopped, stopped, text_lines, text_of_left, text_of_more, text_of_next}
use Rattle.exh_load.specs.Loader.{file_in}
use Rattle.exh_load.proofs.Counted.{counted_before, falls_none, falls_then, handed}
use Rattle.exh_load.proofs.load_text.load_lines.Goals as goal

pub lines-init : goal.lines-init
lines-init g c = record {
  same_writer = refl;
  open_still = c.requires.open;
  loading = c.requires.loading;
  falls = falls_none (file_in c.args.loader.now);
  answered = [];
  split = sym c.into_iter-line-iterator.ensures.into_iter_gives;
  lead = LeadTo-none (loading_of c.args.loader.now);
  counted = λ fits. omega arith;
  few = omega arith;
  passed = Takes-none g.W.Write.contents c.args.output.now;
}

pub returns-in_err-more-clause-err : goal.returns-in_err-more-clause-err
returns-in_err-more-clause-err g c =
    let i = c.lines.invariant in
    OnErr-from c.from_residual.result (stopped g.W.Write.contents c.args.output.now c.lines.output _ _ _ i.passed (text_of_left _ _ i.answered i.lead _ _ i.split))

pub lines-preserved : goal.lines-preserved
lines-preserved g c =
    let i = c.lines.invariant in
    let first = loading_of c.args.loader.now in
    let now = loading_of c.lines.loader in
    let next = loading_of c.push_line.new.loader in
    let line = c.in-Some.line.now in
    let whole = text_of_left first now i.answered i.lead _ _ i.split in
    let split = text_of_next now next c.lines.line-iterator c.next.new.self line c.in-Some.ensures.steps c.in_ok-more.ensures.loaded in
    let is = line_is now line c.clear.new.self.items c.push_line.new.out.items c.deref.result.now c.clear.ensures.items c.in_ok-more.ensures.text c.deref.ensures.value in
    record {
      same_writer = c.in_ok-push.ensures.same_writer ∙ i.same_writer;
      open_still = stays_open _ (λ closed. false≢true (c.in_ok-push.ensures.failed.1 closed));
      loading = c.in_ok-more.ensures.loading;
      falls = falls_then (file_in c.args.loader.now) (file_in c.lines.loader) (file_in c.push_line.new.loader) i.falls c.in_ok-more.ensures.falls;
      answered = i.answered ++ line ∷ [];
      split = i.split ∙ ap (λ l. i.answered ++ l) c.in-Some.ensures.steps ∙ sym (append_assoc i.answered (line ∷ []) c.next.new.self);
      lead = LeadTo-more first now i.answered i.lead line next c.in_ok-more.ensures.loaded;
      counted = λ fits. let before = i.counted (omega (arith, fits, length_push i.answered line)) in omega (arith, before, i.few, fits, length_push i.answered line, c.in_ok-more.ensures.few, c.in_ok-more.ensures.records, c.saturating_add-records.ensures);
      few = omega (arith, i.few, c.in_ok-more.ensures.few, length_push i.answered line, c.saturating_add-records.ensures);
      passed = subst (Takes g.W.Write.contents c.args.output.now c.push.new.self) (sym (text_of_more first now i.answered i.lead line))
          (line_out g.W.Write.contents c.args.output.now c.lines.output _ _ _ i.passed whole c.push.new.self (line_text now line) (load_text_from next c.next.new.self) _ split is c.in_ok-push.ensures.ok);
    }

pub returns-in_err-push-clause-err : goal.returns-in_err-push-clause-err
returns-in_err-push-clause-err g c =
    let i = c.lines.invariant in
    let first = loading_of c.args.loader.now in
    let now = loading_of c.lines.loader in
    let next = loading_of c.push_line.new.loader in
    let line = c.in-Some.line.now in
    let whole = text_of_left first now i.answered i.lead _ _ i.split in
    let split = text_of_next now next c.lines.line-iterator c.next.new.self line c.in-Some.ensures.steps c.in_ok-more.ensures.loaded in
    let is = line_is now line c.clear.new.self.items c.push_line.new.out.items c.deref.result.now c.clear.ensures.items c.in_ok-more.ensures.text c.deref.ensures.value in
    OnErr-from c.from_residual-in_err-push.result (line_stopped g.W.Write.contents c.args.output.now c.lines.output _ _ _ i.passed whole c.push.new.self (line_text now line) (load_text_from next c.next.new.self) _ split is c.in_err-push.ensures.err)

pub returns-in_err-more-clause-front : goal.returns-in_err-more-clause-front
returns-in_err-more-clause-front g c =
    let i = c.lines.invariant in
    IfErr-from c.from_residual.result (λ fault _. record { front = load_text_from (loading_of c.args.loader.now) i.answered; rest = load_text_from (loading_of c.lines.loader) c.lines.line-iterator; split = sym (text_of_left _ _ i.answered i.lead _ _ i.split); lines = text_lines (loading_of c.args.loader.now) i.answered; taken = i.passed })

pub returns-in_err-more-clause-text : goal.returns-in_err-more-clause-text
returns-in_err-more-clause-text g c = IfOk-from_err c.from_residual.result _ c.from_residual.ensures.0

pub returns-in_err-more-clause-loaded : goal.returns-in_err-more-clause-loaded
returns-in_err-more-clause-loaded g c = IfOk-from_err c.from_residual.result _ c.from_residual.ensures.0

pub returns-in_err-more-clause-loading : goal.returns-in_err-more-clause-loading
returns-in_err-more-clause-loading g c = IfOk-from_err c.from_residual.result _ c.from_residual.ensures.0

pub returns-in_err-more-clause-records : goal.returns-in_err-more-clause-records
returns-in_err-more-clause-records g c = IfOk-from_err c.from_residual.result _ c.from_residual.ensures.0

pub returns-in_err-push-clause-text : goal.returns-in_err-push-clause-text
returns-in_err-push-clause-text g c = IfOk-from_err c.from_residual-in_err-push.result _ c.from_residual-in_err-push.ensures.0

pub returns-in_err-push-clause-loaded : goal.returns-in_err-push-clause-loaded
returns-in_err-push-clause-loaded g c = IfOk-from_err c.from_residual-in_err-push.result _ c.from_residual-in_err-push.ensures.0

pub returns-in_err-push-clause-loading : goal.returns-in_err-push-clause-loading
returns-in_err-push-clause-loading g c = IfOk-from_err c.from_residual-in_err-push.result _ c.from_residual-in_err-push.ensures.0

pub returns-in_err-push-clause-records : goal.returns-in_err-push-clause-records
returns-in_err-push-clause-records g c = IfOk-from_err c.from_residual-in_err-push.result _ c.from_residual-in_err-push.ensures.0

pub returns-in_err-more-clause-same_writer : goal.returns-in_err-more-clause-same_writer
returns-in_err-more-clause-same_writer g c = c.lines.invariant.same_writer

pub returns-in_err-push-clause-same_writer : goal.returns-in_err-push-clause-same_writer
returns-in_err-push-clause-same_writer g c = c.in_err-push.ensures.same_writer ∙ c.lines.invariant.same_writer

pub returns-clause-err : goal.returns-clause-err
returns-clause-err g c = tt

pub returns-clause-front : goal.returns-clause-front
returns-clause-front g c = tt

pub returns-clause-loading : goal.returns-clause-loading
returns-clause-loading g c = c.lines.invariant.loading

pub returns-clause-same_writer : goal.returns-clause-same_writer
returns-clause-same_writer g c = c.lines.invariant.same_writer

pub returns-in_err-more-clause-counted : goal.returns-in_err-more-clause-counted
returns-in_err-more-clause-counted g c =
    handed c.in_err-more.field-0.0 _ c.from_residual.result (λ page. counted_before g.P.Pages.failures (file_in c.args.loader.now) (file_in c.lines.loader) c.lines.invariant.falls (c.in_err-more.ensures.counted page)) c.from_residual.ensures
