use Rattle.std.proofs.Common.{◌≡◌, ℕ, List, [], OnErr, OnOk, sym, ◌∙◌, subst}
use Rattle.exh_stream.specs.Output.{Takes, TakesBeginning}
use Rattle.exh_placing.specs.Writing.{opening}
use Rattle.exh_placing.proofs.Groups.{opening_none, opening_some}
use Rattle.exh_placing.proofs.writing.write_opening.Goals as goal

pub returns-then-place-eq0 : goal.returns-then-place-eq0
returns-then-place-eq0 g c =
    let is : c.walk_block_at.result ≡ opening c.args.cells.now c.args.place = c.walk_block_at.ensures ∙ sym (opening_some [] c.args.cells.now c.args.place c.if-place-eq0.true) in
    record {
      same_writer = c.push.ensures.same_writer;
      ok = subst (λ (bytes : List ℕ). OnOk c.push.result (Takes g.W.Write.contents c.args.output.now c.push.new.self bytes)) is c.push.ensures.ok;
      err = subst (λ (bytes : List ℕ). OnErr c.push.result (TakesBeginning g.W.Write.contents c.args.output.now c.push.new.self bytes)) is c.push.ensures.err;
      failed = c.push.ensures.failed;
    }

pub returns-else-place-eq0 : goal.returns-else-place-eq0
returns-else-place-eq0 g c =
    let is : [] ≡ opening c.args.cells.now c.args.place = sym (opening_none [] c.args.cells.now c.args.place c.if-place-eq0.false) in
    record {
      same_writer = c.push-else-place-eq0.ensures.same_writer;
      ok = subst (λ (bytes : List ℕ). OnOk c.push-else-place-eq0.result (Takes g.W.Write.contents c.args.output.now c.push-else-place-eq0.new.self bytes)) is c.push-else-place-eq0.ensures.ok;
      err = subst (λ (bytes : List ℕ). OnErr c.push-else-place-eq0.result (TakesBeginning g.W.Write.contents c.args.output.now c.push-else-place-eq0.new.self bytes)) is c.push-else-place-eq0.ensures.err;
      failed = c.push-else-place-eq0.ensures.failed;
    }
