use Rattle.std.proofs.Common.{ℕ, List}
use Rattle.exh_run.specs.LineLemmas.{next_all}
use Rattle.exh_transfer.specs.Exports.{line_of_pair}
use Rattle.exh_transfer.proofs.Lines.{next_behind}
use Rattle.exh_transfer.proofs.exporting.push_pairs.Goals as goal

pub loop-key-preserved : goal.loop-key-preserved
loop-key-preserved c =
    let was = c.loop-key.invariant in
    let pair : List ℕ × List ℕ = (c.in-Some.key, c.in-Some.value) in
    record {
      all = next_all c.loop-key.yielded c.next.new.self pair was.all c.in-Some.ensures.steps;
      text = next_behind (line_of_pair c.args.format c.args.is_hex) c.args.text.now.items c.loop-key.yielded pair was.text c.in_ok-push_line.ensures;
    }
