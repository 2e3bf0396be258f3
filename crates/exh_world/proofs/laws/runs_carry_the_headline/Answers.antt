use Rattle.std.proofs.lemmas.List.Elements.{recursion_from_All}
use Rattle.exh_world.specs.WorldLaws.{AreWardsSound}
use Rattle.exh_world.specs.WorldRun.{Moment}
use Rattle.exh_world.proofs.HeadlineOf.{headline, sound_around}
use Rattle.exh_world.proofs.laws.runs_carry_the_headline.Goals as goal

pub returns : goal.returns
returns g c start moments end sound wards run =
    let pseudokey_of = g.K.Keyer.pseudokey_of in
    let around = sound_around pseudokey_of c.steps_keep_worlds_sound.ensures start moments end sound (recursion_from_All (λ (moment : Moment g.row.K.Denot). AreWardsSound pseudokey_of moment.after) moments wards) run in
    headline pseudokey_of c.own_entries_give_the_table.ensures c.one_notice_more_is_taken.ensures c.union_is_join.ensures c.members_decide.ensures c.sharers_begin.ensures start moments end around run
