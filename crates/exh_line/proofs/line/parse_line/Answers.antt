use Rattle.std.proofs.Common.{arith, rules}
use Rattle.std.proofs.lemmas.Grind.{common_steps}
use Rattle.exh_line.specs.Grammar.{spelled}
use Rattle.exh_line.proofs.EmptyWords.{line_of_words}
use Rattle.exh_line.proofs.line.parse_line.Goals as goal

pub returns-in_err-keyword : goal.returns-in_err-keyword
unfolding spelled
returns-in_err-keyword c = rw (line_of_words c.args.line.now, ← c.new-words.ensures) (search rules)

pub returns-in-begin : goal.returns-in-begin
unfolding spelled
returns-in-begin c = rw (line_of_words c.args.line.now, ← c.new-words.ensures) (grind (arith, common_steps))

pub returns-in_ok-parse_hop-in-hop : goal.returns-in_ok-parse_hop-in-hop
unfolding spelled
returns-in_ok-parse_hop-in-hop c = rw (line_of_words c.args.line.now, ← c.new-words.ensures) (grind (arith, common_steps))

pub returns-in_err-parse_hop-in-hop : goal.returns-in_err-parse_hop-in-hop
unfolding spelled
returns-in_err-parse_hop-in-hop c = rw (line_of_words c.args.line.now, ← c.new-words.ensures) (grind (arith, common_steps))

pub returns-in_default : goal.returns-in_default
unfolding spelled
returns-in_default c = rw (line_of_words c.args.line.now, ← c.new-words.ensures) (search rules)
