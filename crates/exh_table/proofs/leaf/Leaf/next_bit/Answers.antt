use Rattle.std.proofs.Common.{IsTrue, ◌↔◌, List, Bool, arith, subst}
use Rattle.exh_prefix.specs.Prefix.{Begins}
use Rattle.exh_table.specs.WalkLemmas.{next_bit_if_begins}
use Rattle.exh_prefix.specs.PrefixListLemmas.{value_of_some}
use Rattle.exh_table.proofs.leaf.Leaf.next_bit.Goals as goal

pub returns : goal.returns
returns c =
    let right = value_of_some c.child.result _ _ c.unwrap-right.result c.child.ensures c.unwrap-right.ensures in
    next_bit_if_begins c.args.self.now.prefix c.args.pseudokey c.begins.result (omega (arith, c.requires.room)) c.requires.begins
    (subst (λ (prefix : List Bool). IsTrue c.begins.result ↔ Begins prefix c.args.pseudokey) right c.begins.ensures)
