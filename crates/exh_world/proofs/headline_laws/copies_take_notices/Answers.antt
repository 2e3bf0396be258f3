use Rattle.exh_world.proofs.RunWords.{take_notices}
use Rattle.exh_world.proofs.headline_laws.copies_take_notices.Goals as goal

pub returns : goal.returns
returns g c = take_notices g.K.Keyer.pseudokey_of c.own_entries_give_the_table.ensures c.one_notice_more_is_taken.ensures c.members_decide.ensures
