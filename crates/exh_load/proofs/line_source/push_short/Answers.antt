use Rattle.std.proofs.Common.{◌≡◌, ◌++◌, ◌∷◌, [], length, take, sym, ◌∙◌, arith}
use Rattle.std.proofs.lemmas.List.{length_push, take_all, take_at}
use Rattle.exh_load.specs.declared.line_source.TheConstants.{LINE_LEN}
use Rattle.exh_load.proofs.line_source.push_short.Goals as goal

pub returns-in_ok-push : goal.returns-in_ok-push
returns-in_ok-push c =
    let line = c.args.line.now.items in
    c.in_ok-push.ensures.items ∙ sym (take_all LINE_LEN (line ++ c.args.byte ∷ []) (omega (arith, length_push line c.args.byte, c.args.line.now.ok.0, c.if-len-lt-LINE_LEN.true, c.len.ensures)))

pub returns-else-len-lt-LINE_LEN : goal.returns-else-len-lt-LINE_LEN
returns-else-len-lt-LINE_LEN c =
    let line = c.args.line.now.items in
    sym (take_at line (c.args.byte ∷ []) LINE_LEN (omega (arith, c.requires, c.args.line.now.ok.0, c.if-len-lt-LINE_LEN.false, c.len.ensures)))
