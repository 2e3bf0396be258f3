use Rattle.std.proofs.Common.{length, map, replicate, sym, ap, ◌∙◌, subst}
use Rattle.exh_world.specs.WorldKept.{IsKeptWorld}
use Rattle.exh_world.specs.NewWorld.{tables_joined}
use Rattle.exh_array.specs.Pointers.{HasArrayOf}
use Rattle.exh_array.specs.Copies.{CopiesState}
use Rattle.exh_world.proofs.FreshWorld.{AreSoundWards}
use Rattle.exh_world.proofs.WorldOfWards.{made_of_wards, wards_world_kept}
use Rattle.exh_world.proofs.world.World.from_wards.Goals as goal

pub returns-clause-world : goal.returns-clause-world
returns-clause-world g c =
    let made = c.in_ok-copies.ensures in
    let start = c.in_ok-start.ensures.table ∙ ap tables_joined c.deref.ensures.value in
    made_of_wards c.args.config c.args.wards.items c.in_ok-copies.copies.start c.in_ok-noticed.noticed.items c.in_ok-copies.copies.copies c.in_ok-copies.copies.sent c.new-in_flight.result
    (ap (λ (copies : CopiesState). copies.start) made ∙ start) (c.in_ok-noticed.ensures ∙ ap (map (λ ward. length ward.notices)) c.deref-2.ensures.value) (ap (λ (copies : CopiesState). copies.copies) made ∙ ap (replicate c.args.config.copies) (sym (ap (λ (copies : CopiesState). copies.start) made))) (ap (λ (copies : CopiesState). copies.sent) made) c.new-in_flight.ensures

pub invariant_of-result : goal.invariant_of-result
invariant_of-result g c =
    let pseudokey_of = g.K.Keyer.pseudokey_of in (
      subst (IsKeptWorld pseudokey_of) (sym (returns-clause-world g c))
          (wards_world_kept pseudokey_of c.args.config c.args.wards.items g.met.K.Keyer.pseudokey_fits c.requires.bits c.requires.count c.requires.each (subst (AreSoundWards pseudokey_of) c.deref.ensures.value c.in_ok-start.ensures.sound) c.walks_name_homes.ensures),
      ap (λ (copies : CopiesState). copies.ward_bits) c.in_ok-copies.ensures ∙ c.in_ok-start.ensures.array.bits,
    )

pub returns-clause-sound : goal.returns-clause-sound
returns-clause-sound g c = (invariant_of-result g c).0.sound

pub new-requires : goal.new-requires
new-requires g c = subst (λ n. HasArrayOf n c.in_ok-start.start) (sym c.in_ok-start.ensures.array.bits) c.in_ok-start.ensures.array
