use Rattle.exh_ward.proofs.NewWardsAreSound.{kept_new}
use Rattle.exh_ward.proofs.ward.Ward.new.Goals as goal

pub invariant_of-result : goal.invariant_of-result
invariant_of-result g c =
    kept_new c.lone_pages_are_legal.ensures c.args.cap c.args.ward_bits c.args.number _ c.args.keyer c.requires.takes c.requires.bits c.requires.some c.requires.most
    c.requires.first c.new-2.ensures c.new-3.ensures c.new-4.ensures c.new-5.ensures.items c.new-6.ensures c.new.ensures c.own_prefix.ensures

pub returns-clause-sound : goal.returns-clause-sound
returns-clause-sound g c = (invariant_of-result g c).sound
