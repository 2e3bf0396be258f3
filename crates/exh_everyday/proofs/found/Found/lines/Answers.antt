use Rattle.std.proofs.Common.{ℕ, List}
use Rattle.exh_transfer.specs.LineLemmas.{next_all, next_line}
use Rattle.exh_everyday.specs.Answers.{pair_line}
use Rattle.exh_everyday.proofs.found.Found.lines.Goals as goal

pub loop-key-preserved : goal.loop-key-preserved
loop-key-preserved c =
    let was = c.loop-key.invariant in
    let pair : List ℕ × List ℕ = (c.in-Some.key, c.in-Some.value) in
    record {
      all = next_all c.loop-key.yielded c.next.new.self pair was.all c.in-Some.ensures.steps;
      text = next_line (pair_line c.args.words.now c.args.is_hex) c.loop-key.yielded pair was.text c.in_ok-push_pair.ensures;
    }
