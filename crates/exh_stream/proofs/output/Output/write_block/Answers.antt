use Rattle.std.proofs.Common.{◌≡◌, ◌∙◌, length, ap, arith, rules}
use Rattle.std.proofs.lemmas.Bool.{false≢true}
use Rattle.std.proofs.lemmas.List.{drop-drop}
use Rattle.exh_stream.specs.OutputLemmas.{stays_open}
use Rattle.exh_stream.proofs.Taken.{AppendsAllBut-write}
use Rattle.exh_stream.proofs.output.Output.write_block.Goals as goal

pub loop-written-preserved : goal.loop-written-preserved
loop-written-preserved g c = record {
  same_writer = c.write_from.ensures.same_writer ∙ c.loop-written.invariant.same_writer;
  block = c.in_ok-written.ensures.block ∙ c.loop-written.invariant.block;
  open_still = stays_open _ (λ failed. false≢true (c.in_ok-written.ensures.failed.1 failed));
  untouched = λ none.
      let empty : length c.loop-written.self.block.items ≡ 0 = ap length (c.loop-written.invariant.block ∙ none) in
      let never : ⊥ = omega (arith, empty, c.loop-written-test.true, c.len.ensures.value) in
      absurd never;
  within = search rules;
  gone =
      let h = AppendsAllBut-write c.in_ok-written.field-0 c.loop-written.invariant.gone c.in_ok-written.ensures.bytes in
      let e = drop-drop c.in_ok-written.field-0 c.loop-written.written c.loop-written.self.block.items in
      rw (c.in_ok-written.ensures.block, ← e) h;
}
