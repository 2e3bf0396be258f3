use Rattle.exhash.proofs.NewLemmas.{new_are}
use Rattle.exh_compact.proofs.FileLemmas.{new_has, new_needed}
use Rattle.exh_compact.proofs.compacting.filled.Goals as goal

pub fill-requires-clause-wards : goal.fill-requires-clause-wards
fill-requires-clause-wards c = new_are c.args.settings c.in_ok-wards.wards.items c.in_ok-wards.ensures.wards c.requires.range

pub fill-requires-clause-none : goal.fill-requires-clause-none
fill-requires-clause-none c = new_has c.args.settings c.in_ok-wards.wards.items c.in_ok-wards.ensures.wards

pub fill-requires-clause-needed : goal.fill-requires-clause-needed
fill-requires-clause-needed c = new_needed c.args.settings c.in_ok-wards.wards.items c.in_ok-wards.ensures.wards
