use Rattle.std.proofs.Common.{◌≤◌, ◌^◌, ap, ◌∙◌, subst}
use Rattle.exh_prefix.specs.declared.prefix.TheConstants.{WARD_BITS_LIMIT}
use Rattle.exh_world.specs.NewWorld.{AreWardsFor, IsMadeAnew, settings_of, world_of_wards}
use Rattle.exh_world.specs.World.{WorldState}
use Rattle.exh_world.proofs.MadeAnew.{made_anew, wards_for}
use Rattle.exh_world.proofs.world.World.into_wards.Goals as goal

pub returns-clause-each : goal.returns-clause-each
returns-clause-each g c copies =
    let P : WorldState g.row.K.Denot → Type 0 = λ world. AreWardsFor (settings_of world copies) c.self.inside.wards.items in
    subst P c.self.view_is (wards_for _ c.self.invariant.0.sound copies)

pub returns-clause-anew : goal.returns-clause-anew
returns-clause-anew g c copies =
    let P : WorldState g.row.K.Denot → Type 0 = λ world. IsMadeAnew world copies (world_of_wards (settings_of world copies) c.self.inside.wards.items) in
    subst P c.self.view_is (made_anew _ c.self.invariant.0.sound copies)

pub returns-clause-wards : goal.returns-clause-wards
returns-clause-wards g c = ap (λ (world : WorldState g.row.K.Denot). world.wards) c.self.view_is

pub returns-clause-bits : goal.returns-clause-bits
returns-clause-bits g c = subst (λ (world : WorldState g.row.K.Denot). world.ward_bits ≤ WARD_BITS_LIMIT) c.self.view_is c.self.invariant.0.few_wards

pub returns-clause-count : goal.returns-clause-count
returns-clause-count g c = c.self.invariant.0.sound.count ∙ ap (λ (world : WorldState g.row.K.Denot). 2 ^ world.ward_bits) c.self.view_is
