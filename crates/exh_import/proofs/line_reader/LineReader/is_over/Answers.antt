use Rattle.std.proofs.Common.{◌<◌, length, arith}
use Rattle.std.proofs.lemmas.Bool.Decides.{nat_tests}
use Rattle.exh_import.proofs.Texts.{drop_some}
use Rattle.exh_import.proofs.line_reader.LineReader.is_over.Goals as goal

pub returns-clause-some : goal.returns-clause-some
returns-clause-some g c more =
    let now = c.if-self-len.self in
    let less : now.at < length now.block.items = grind (arith, nat_tests, c.len-2.ensures, more) in
    drop_some now.at now.block.items less
