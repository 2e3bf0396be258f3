use Rattle.std.proofs.Common.{refl, inl, arith}
use Rattle.exh_change.proofs.Found.{found_set}
use Rattle.exh_change.proofs.Turns.{blocks_set, turn_set, turn_within}
use Rattle.exh_change.proofs.edit_index.EditIndex.put.Goals as goal

pub invariant_of-self-clause-turn : goal.invariant_of-self-clause-turn
invariant_of-self-clause-turn c =
    let it = c.args.self.now in
    let has = c.in-Some.ensures.some in
    turn_set it.items.items it.first it.count c.in-Some.index has.0 c.args.edit.now has.1 has.2 it.turn

pub invariant_of-self-clause-blocks : goal.invariant_of-self-clause-blocks
invariant_of-self-clause-blocks c =
    let it = c.args.self.now in
    blocks_set it.items.items c.in-Some.index c.args.edit.now it.blocks c.tell_bytes.ensures.0

pub invariant_of-self-clause-found : goal.invariant_of-self-clause-found
invariant_of-self-clause-found c =
    let it = c.args.self.now in
    let has = c.in-Some.ensures.some in
    found_set it.items.items it.places.entries c.in-Some.index has.0 c.args.edit.now has.1 has.2 it.found

pub returns-in-Some-clause-count : goal.returns-in-Some-clause-count
returns-in-Some-clause-count c =
    let it = c.args.self.now in
    let has = c.in-Some.ensures.some in
    omega (arith, has.2, turn_within it.items.items it.first it.count c.in-Some.index has.0 has.1 it.turn)

pub returns-in-Some-clause-put : goal.returns-in-Some-clause-put
returns-in-Some-clause-put c = inl (record { index = c.in-Some.index; there = c.in-Some.ensures.some; is = refl })
