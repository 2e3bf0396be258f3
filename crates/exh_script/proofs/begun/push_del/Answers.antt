use Rattle.exh_calls.specs.declared.call.Call.TheVariants.{Del}
use Rattle.exh_script.specs.Text.{after_line, line_response}
use Rattle.exh_script.proofs.CallsRead.{del_read}
use Rattle.exh_script.proofs.begun.push_del.Goals as goal

pub returns-in-Some-clause-text : goal.returns-in-Some-clause-text
unfolding line_response
returns-in-Some-clause-text g c = rw (c.requires.start (Del c.in-Some.key) (del_read c.args.key.now c.in-Some.key c.in-Some.ensures.0 c.in-Some.ensures.1)) c.push_begin.ensures.text

pub returns-in-Some-clause-world : goal.returns-in-Some-clause-world
unfolding after_line
returns-in-Some-clause-world g c = rw (c.requires.start (Del c.in-Some.key) (del_read c.args.key.now c.in-Some.key c.in-Some.ensures.0 c.in-Some.ensures.1)) c.push_begin.ensures.world

pub returns-in-Some-clause-memory : goal.returns-in-Some-clause-memory
unfolding after_line
returns-in-Some-clause-memory g c = rw (c.requires.start (Del c.in-Some.key) (del_read c.args.key.now c.in-Some.key c.in-Some.ensures.0 c.in-Some.ensures.1)) c.push_begin.ensures.memory
