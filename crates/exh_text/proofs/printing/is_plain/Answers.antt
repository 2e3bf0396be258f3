use Rattle.std.proofs.Common.{◌∙◌, sym, rules, tests, arith}
use Rattle.std.specs.Char.{is_ascii_graphic}
use Rattle.std.proofs.lemmas.Iterator.{YieldsList-from_slice}
use Rattle.std.proofs.lemmas.Iterator.Search.{all_from_yields_List}
use Rattle.exh_text.proofs.Printed.{plain_own}
use Rattle.exh_text.proofs.printing.is_plain.Goals as goal

pub returns-in_default : goal.returns-in_default
returns-in_default c =
    all_from_yields_List is_ascii_graphic _ _ c.all.result c.all.ensures.ran (YieldsList-from_slice c.args.bytes.now cc) (λ x b q k. search (rules, tests))
    ∙ sym (plain_own c.args.bytes.now (omega arith) (omega arith))
