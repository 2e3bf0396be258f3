use Rattle.std.proofs.Common.{arith}
use Rattle.std.proofs.lemmas.Grind.{common_steps}
use Rattle.exh_line.specs.Grammar.{spelled, spelled_change, spelled_copy_step}
use Rattle.exh_line.proofs.EmptyWords.{line_of_words}
use Rattle.exh_line.proofs.line_start.LineStart.parse.Goals as goal

pub returns-in_ok-parse_begin_words-in-begin : goal.returns-in_ok-parse_begin_words-in-begin
unfolding spelled
returns-in_ok-parse_begin_words-in-begin c call is = rw (line_of_words c.args.line.now, ← c.new-words.ensures) (grind (arith, common_steps, c.in_ok-parse_begin_words-in-begin.ensures call is))

pub returns-in_ok-ok-in-hop : goal.returns-in_ok-ok-in-hop
unfolding spelled
returns-in_ok-ok-in-hop c = rw (line_of_words c.args.line.now, ← c.new-words.ensures) (grind (arith, common_steps))

pub returns-in_ok-ward-in-split : goal.returns-in_ok-ward-in-split
unfolding spelled spelled_change
returns-in_ok-ward-in-split c = rw (line_of_words c.args.line.now, ← c.new-words.ensures) (grind (arith, common_steps))

pub returns-in_ok-copy-in-deliver : goal.returns-in_ok-copy-in-deliver
unfolding spelled spelled_change spelled_copy_step
returns-in_ok-copy-in-deliver c = rw (line_of_words c.args.line.now, ← c.new-words.ensures) (grind (arith, common_steps))
