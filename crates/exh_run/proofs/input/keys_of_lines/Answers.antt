use Rattle.std.proofs.Common.{sym, ◌∙◌}
use Rattle.exh_text.specs.TextLines.{newline, parts_at}
use Rattle.exh_run.proofs.Inputs.{one_read}
use Rattle.exh_run.proofs.input.keys_of_lines.Goals as goal

pub loop-line-preserved : goal.loop-line-preserved
loop-line-preserved c =
    one_read c.args.is_hex (parts_at newline c.args.text.now) c.loop-line.keys.items c.loop-line.line-iterator c.push.new.self.items c.next.new.self c.in-Some.line.now c.in-Some-key_of_line.key
    c.loop-line.invariant c.in-Some.ensures.steps (sym c.key_of_line.ensures ∙ c.in-Some-key_of_line.is) c.in_ok-push-in-Some-key_of_line.ensures.items
