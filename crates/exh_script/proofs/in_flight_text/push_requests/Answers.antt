use Rattle.std.proofs.Common.{◌++◌, append_assoc, flat_map, sym, ap, ◌∙◌}
use Rattle.std.proofs.lemmas.List.{append-nil}
use Rattle.std.proofs.lemmas.Result.{IfOk-from_err}
use Rattle.exh_text.specs.TextLemmas.{keeps_all, keeps_more}
use Rattle.exh_script.specs.View.{request_line}
use Rattle.exh_script.proofs.in_flight_text.push_requests.Goals as goal

pub loop-name-init : goal.loop-name-init
loop-name-init g c =
    record {
      told = ap (λ its. c.args.out.now.items ++ flat_map request_line its) (c.into_iter-name-iterator.ensures.into_iter_gives ∙ c.in_flight-name-items.ensures.rest);
      kept = keeps_all c.args.out.now.items;
    }

pub loop-name-preserved : goal.loop-name-preserved
loop-name-preserved g c =
    let was = c.loop-name.invariant in
    let before = c.loop-name.out.items in
    let later = flat_map request_line c.next.new.self in
    record {
      told =
          ap (λ front. front ++ later) c.in_ok-push_standing.ensures.text ∙ append_assoc before (request_line (c.in-Some.name.now, c.in-Some.request.now)) later
          ∙ ap (λ its. before ++ flat_map request_line its) (sym c.in-Some.ensures.steps) ∙ was.told;
      kept = keeps_more _ _ _ was.kept c.push_standing.ensures.kept;
    }

pub returns-clause-text : goal.returns-clause-text
returns-clause-text g c =
    let before = c.loop-name.out.items in
    sym (append-nil before) ∙ ap (λ its. before ++ flat_map request_line its) (sym c.in-None.ensures.steps.0) ∙ c.loop-name.invariant.told

pub returns-clause-kept : goal.returns-clause-kept
returns-clause-kept g c = c.loop-name.invariant.kept

pub returns-in_err-push_standing-clause-text : goal.returns-in_err-push_standing-clause-text
returns-in_err-push_standing-clause-text g c = IfOk-from_err c.from_residual.result _ c.from_residual.ensures.0

pub returns-in_err-push_standing-clause-kept : goal.returns-in_err-push_standing-clause-kept
returns-in_err-push_standing-clause-kept g c = keeps_more _ _ _ c.loop-name.invariant.kept c.push_standing.ensures.kept
