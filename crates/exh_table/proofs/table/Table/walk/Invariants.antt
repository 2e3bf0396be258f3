use Rattle.std.proofs.Common.{◌-◌, [], length, take}
use Rattle.exh_prefix.specs.Bits.{word_bits}
use Rattle.exh_prefix.specs.declared.prefix.TheConstants.{LIMIT}
use Rattle.exh_table.specs.TableWalk.{walk_on}
use Rattle.exh_table.specs.Below.{splits_above}
use Rattle.exh_table.specs.WalkLemmas.{IsOnWalk}
use Rattle.exh_table.proofs.table.Table.walk.Given as goal

abbrev pub invariant-loop-right : goal.invariant-loop-right
invariant-loop-right l =
    let splits = splits_above l.self l.ward_bits in
    IsOnWalk splits l.pseudokey (walk_on splits (take LIMIT (word_bits l.pseudokey)) (record { prefix = []; page = 0 })) l.at

abbrev pub decreases-loop-right : goal.decreases-loop-right
decreases-loop-right l = LIMIT - length l.at.prefix
