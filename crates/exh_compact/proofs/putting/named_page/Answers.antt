use Rattle.std.proofs.Common.{ℕ, ap, ◌∙◌, arith}
use Rattle.exh_keyer.specs.Pseudokey.{any_pseudokey}
use Rattle.exh_table.specs.Table.{TableMap}
use Rattle.exh_table.specs.TableWalk.{walk_of}
use Rattle.exhash.specs.HomeLemmas.{bits_few, home_named}
use Rattle.exh_compact.proofs.putting.named_page.Goals as goal

pub walk-requires : goal.walk-requires
walk-requires g c =
    let few = bits_few any_pseudokey c.args.ward.now c.args.pseudokey c.table.ensures.sound (c.table.ensures.walks c.args.pseudokey c.ranges.pseudokey.fits c.requires) in
    omega (arith, few, c.ward_bits-bits.ensures)

pub returns-clause-home : goal.returns-clause-home
returns-clause-home g c =
    let at_is =
    c.walk.ensures ∙ ap (λ (table : TableMap). (walk_of table c.ward_bits-bits.result c.args.pseudokey).page) c.table.ensures.table
    ∙ ap (λ (bits : ℕ). (walk_of c.args.ward.now.table bits c.args.pseudokey).page) c.ward_bits-bits.ensures in
    home_named any_pseudokey c.args.ward.now c.args.pseudokey c.table.ensures.sound (c.table.ensures.walks c.args.pseudokey c.ranges.pseudokey.fits c.requires) c.walk.result c.requires at_is
