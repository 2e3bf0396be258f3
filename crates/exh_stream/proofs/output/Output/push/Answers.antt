use Rattle.std.proofs.Common.{◌≡◌, ◌<◌, ◌++◌, length, take, sym, ap, ◌∙◌, subst, rules, arith}
use Rattle.std.proofs.lemmas.List.{take_rest}
use Rattle.std.proofs.lemmas.Bool.{false≢true}
use Rattle.exh_stream.specs.Output.{AppendsAllBut, TakesBeginning}
use Rattle.exh_stream.specs.OutputLemmas.{AppendsAllBut-trans, AppendsAllBut-more, AppendsBeginning-after, AppendsBeginning-of_more, TakesBeginning-none, OnErr-from, stays_open}
use Rattle.exh_stream.proofs.Taken.{append-taken, length-taken}
use Rattle.exh_stream.proofs.output.Output.push.Goals as goal

pub returns-then-self-clause-err : goal.returns-then-self-clause-err
returns-then-self-clause-err g c = TakesBeginning-none _ _ _

pub returns-in_err-make_room-clause-err : goal.returns-in_err-make_room-clause-err
returns-in_err-make_room-clause-err g c =
    let beginning : TakesBeginning g.W.Write.contents c.args.self.now c.make_room.new.self c.args.bytes.now =
    record { passed = AppendsBeginning-after c.loop-rest.invariant.gone (AppendsBeginning-of_more _ c.in_err-make_room.ensures.err) } in
    OnErr-from _ beginning

pub loop-rest-preserved : goal.loop-rest-preserved
loop-rest-preserved g c =
    let rest = c.loop-rest.rest.now in
    let count = c.min-count.result in
    let joined : c.try_extend_from_slice.new.self.items ≡ c.make_room.new.self.block.items ++ take count rest = rw c.unwrap.ensures at c.try_extend_from_slice.ensures.ok in
    let some : 0 < length rest = search rules in
    record {
      same_writer = c.make_room.ensures.same_writer ∙ c.loop-rest.invariant.same_writer;
      open_still = stays_open _ (λ failed. false≢true (c.in_ok-make_room.ensures.failed.1 failed));
      gone =
          let room = AppendsAllBut-trans c.loop-rest.invariant.gone (AppendsAllBut-more rest c.in_ok-make_room.ensures.ok) in
          subst (AppendsAllBut _ _ _) (sym (append-taken _ rest _ _ count joined (take_rest rest count))) room;
      waits = λ fits.
          let before = c.loop-rest.invariant.waits fits in
          let kept = c.in_ok-make_room.ensures.waits (omega (arith, before.0, some)) in
          let moved = length-taken _ rest _ _ count joined (take_rest rest count) in
          (omega (arith, before.0, moved, ap length kept.0), kept.1 ∙ before.1);
    }
