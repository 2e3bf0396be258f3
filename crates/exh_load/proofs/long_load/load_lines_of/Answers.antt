use Rattle.std.proofs.Common.{[], refl, subst}
use Rattle.exh_load.specs.LineSource.{GoesOn, break_number, text_left}
use Rattle.exh_load.specs.Load.{beginning, refused}
use Rattle.exh_load.specs.LongLoad.{IsLongLoad}
use Rattle.exh_load.proofs.LongLoads.{first_unread, long_all, long_first, takes_load}
use Rattle.exh_load.proofs.TextLines.{all_taken, passed_start}
use Rattle.exh_load.proofs.long_load.load_lines_of.Goals as goal

pub returns-in-Ok-true-clause-loads : goal.returns-in-Ok-true-clause-loads
returns-in-Ok-true-clause-loads g c =
    let R = g.R.Read.remaining in
    let on = subst (GoesOn R c.args.lines.now c.next_line.new.self) c.in-Ok-true.field-0-test c.in-Ok-true.ensures.next in
    c.load_first.ensures.loads (text_left R c.args.lines.now) (on (text_left R c.args.lines.now) [] (passed_start R c.args.lines.now))

pub returns-in-Ok-false-clause-loads : goal.returns-in-Ok-false-clause-loads
returns-in-Ok-false-clause-loads g c =
    let R = g.R.Read.remaining in
    let known = text_left R c.args.lines.now in
    let begin = beginning c.args.from in
    let on = subst (GoesOn R c.args.lines.now c.next_line.new.self) c.in-Ok-false.field-0-test c.in-Ok-false.ensures.next in
    let all = all_taken R known c.next_line.new.self [] (on.0 known [] (passed_start R c.args.lines.now)) c.in-Ok-false.ensures.ends on.1 in
    takes_load g.W.Write.contents (IsLongLoad begin known) c.args.output.now c.refuse.new.output (refused 60) (long_all begin known [] (refused 60) all refl) c.refuse.result c.refuse.ensures.text c.refuse.ensures.left c.refuse.ensures.err c.refuse.ensures.front

pub returns-in-Err-clause-loads : goal.returns-in-Err-clause-loads
returns-in-Err-clause-loads g c =
    let R = g.R.Read.remaining in
    let known = text_left R c.args.lines.now in
    let begin = beginning c.args.from in
    let number = break_number c.in-Err.fault in
    takes_load g.W.Write.contents (IsLongLoad begin known) c.args.output.now c.break_off.new.output (refused number) (long_first begin known [] (refused number) number (first_unread R c.args.lines.now c.in-Err.fault) refl) c.break_off.result c.break_off.ensures.text c.break_off.ensures.left
    c.break_off.ensures.err c.break_off.ensures.front
