use Rattle.std.proofs.Common.{◌≡◌, ◌<◌, length, sym, ap, ◌∙◌, arith}
use Rattle.std.proofs.lemmas.List.{length-map}
use Rattle.exh_salvage.specs.Repeats.{keys_of, repeats_to}
use Rattle.exh_salvage.specs.declared.salvage.SavedPair.{SavedPair}
use Rattle.exh_salvage.proofs.Repeated.{key_at, last_more, told_more}
use Rattle.exh_salvage.proofs.repeats.repeats_in.Goals as goal

pub loop-index-preserved : goal.loop-index-preserved
loop-index-preserved c =
    let pairs = c.args.pairs.now in
    let keys = keys_of pairs in
    let was = c.loop-index.invariant in
    let index = c.loop-index.index in
    let within : index < length pairs = omega (arith, c.loop-index-test.true) in
    let many : index < length keys = omega (arith, within, length-map pairs (λ (pair : SavedPair). pair.key)) in
    let met = c.in_ok-key.ensures.items ∙ c.as_bytes.ensures.bytes ∙ ap (λ (pair : SavedPair). pair.key) (sym c.index-pairs-index.is) ∙ key_at pairs index c.index-pairs-index.result within c.index-pairs-index.is in
    record {
      last = λ key. last_more keys index c.in_ok-key.key.items key.items _ _ many met (was.last key) (c.in_ok-earlier.ensures.updates.0 key);
      told = told_more keys index c.in_ok-key.key.items c.loop-index.repeats.items c.push_met.new.repeats.items c.in_ok-earlier.earlier met was.told (c.in_ok-earlier.ensures.old ∙ was.last c.in_ok-key.key) c.in_ok-push_met.ensures;
    }

pub returns : goal.returns
returns c =
    let pairs = c.args.pairs.now in
    let all : c.loop-index.index ≡ length pairs = omega (arith, c.loop-index-test.false, c.loop-index.auto.index-end) in
    c.loop-index.invariant.told ∙ ap (repeats_to (keys_of pairs)) (all ∙ sym (length-map pairs (λ (pair : SavedPair). pair.key)))
