use Rattle.std.proofs.Common.{◌≡◌, List, ℕ, ◌++◌, IsFalse}
use Rattle.exh_keyer.specs.Pseudokey.{any_pseudokey}
use Rattle.exh_stream.specs.Output.{SameWriter, Takes, writer_failed}
use Rattle.exh_script.specs.Served.{FallsNowhere}
use Rattle.exh_script.specs.Text.{text_from}
use Rattle.exh_world.specs.Sound.{IsSoundWorld}
use Rattle.exh_script.proofs.Responded.{LeadTo}
use Rattle.exh_script.proofs.respond.answer_lines.Given as goal

-- the writer is the one it was, the world is sound, and the text of the lines so far was taken
abbrev pub invariant-loop-line : goal.invariant-loop-line
invariant-loop-line g l = record {
  same_writer : SameWriter l.fn.output l.output;
  open_still : IsFalse (writer_failed l.output);
  sound : IsSoundWorld any_pseudokey l.run.world;
  answered : List (List ℕ);
  telling : l.run.tells_moves ≡ l.fn.run.tells_moves;
  split : l.fn.lines ≡ answered ++ l.line-iterator;
  falls : FallsNowhere l.fn.run.world l.run.world;
  lead : LeadTo l.fn.run.tells_moves l.fn.run.world l.run.world answered;
  passed : Takes g.W.Write.contents l.fn.output l.output (text_from l.fn.run.tells_moves l.fn.run.world answered);
}
