use Rattle.exh_calls.specs.declared.call.Call.TheVariants.{Put}
use Rattle.exh_script.specs.Text.{after_line, line_response}
use Rattle.exh_script.proofs.CallsRead.{put_read}
use Rattle.exh_script.proofs.begun.push_put.Goals as goal

pub returns-in-Some-value-clause-text : goal.returns-in-Some-value-clause-text
unfolding line_response
returns-in-Some-value-clause-text g c = rw (c.requires.start (Put c.in-Some.key c.in-Some-value.value) (put_read c.args.key.now c.in-Some.key c.args.value.now c.in-Some-value.value c.in-Some.ensures.0 c.in-Some.ensures.1 c.in-Some-value.ensures.0 c.in-Some-value.ensures.1)) c.push_begin.ensures.text

pub returns-in-Some-value-clause-world : goal.returns-in-Some-value-clause-world
unfolding after_line
returns-in-Some-value-clause-world g c = rw (c.requires.start (Put c.in-Some.key c.in-Some-value.value) (put_read c.args.key.now c.in-Some.key c.args.value.now c.in-Some-value.value c.in-Some.ensures.0 c.in-Some.ensures.1 c.in-Some-value.ensures.0 c.in-Some-value.ensures.1)) c.push_begin.ensures.world

pub returns-in-Some-value-clause-memory : goal.returns-in-Some-value-clause-memory
unfolding after_line
returns-in-Some-value-clause-memory g c = rw (c.requires.start (Put c.in-Some.key c.in-Some-value.value) (put_read c.args.key.now c.in-Some.key c.args.value.now c.in-Some-value.value c.in-Some.ensures.0 c.in-Some.ensures.1 c.in-Some-value.ensures.0 c.in-Some-value.ensures.1)) c.push_begin.ensures.memory
