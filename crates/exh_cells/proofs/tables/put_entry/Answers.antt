use Rattle.exh_prefix.specs.PrefixListLemmas.{value_of_some}
use Rattle.exh_cells.proofs.TellSteps.{entry_told, none_told}
use Rattle.exh_cells.proofs.tables.put_entry.Goals as goal

pub returns-in_default : goal.returns-in_default
returns-in_default c = λ told is. none_told told c.args.table.now c.args.low c.args.len c.args.entry c.in_default.is is

pub returns : goal.returns
returns c = λ told is.
    entry_told told c.args.table.now c.put_greater.new.self c.args.low c.args.len c.args.entry c.in-Some.entry c.unwrap-prefix.result c.in-Some.is
    (value_of_some c.new.result _ _ c.unwrap-prefix.result c.new.ensures c.unwrap-prefix.ensures) c.in_ok-put_greater.ensures.ok is
