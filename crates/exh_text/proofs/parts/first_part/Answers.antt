use Rattle.std.proofs.Common.{eqb, sym, ◌∙◌, rules, tests}
use Rattle.std.proofs.lemmas.Iterator.{YieldsList-from_slice}
use Rattle.std.proofs.lemmas.Iterator.Search.{position_from_yields_List}
use Rattle.exh_text.proofs.Cuts.{parts_at_first, parts_at_none}
use Rattle.exh_text.proofs.parts.first_part.Goals as goal

pub returns-in-Some : goal.returns-in-Some
returns-in-Some c =
    let found = position_from_yields_List (λ b. eqb b c.args.byte) _ _ c.position.result c.position.ensures.ran (YieldsList-from_slice c.args.bytes.now cc) (λ x b q k. search (rules, tests)) in
    parts_at_first c.args.byte c.args.bytes.now c.in-Some.end (sym found ∙ c.in-Some.is)

pub returns-in-None : goal.returns-in-None
returns-in-None c =
    let found = position_from_yields_List (λ b. eqb b c.args.byte) _ _ c.position.result c.position.ensures.ran (YieldsList-from_slice c.args.bytes.now cc) (λ x b q k. search (rules, tests)) in
    parts_at_none c.args.byte c.args.bytes.now (sym found ∙ c.in-None.is)
