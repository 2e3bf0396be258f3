use Rattle.std.proofs.Common.{ℕ, ◌≤◌, replicate, arith, sym, ap, ◌∙◌, subst, ◌≡◌, ◌*◌, ◌%◌, ◌^◌, ◌<◌}
use Rattle.std.proofs.lemmas.Result.{IfOk-from_err}
use Rattle.std.proofs.Math.Nat.{mod-eq_of_lt, one-mul}
use Rattle.std.proofs.Math.Pow.{pow-lt}
use Rattle.exh_prefix.specs.declared.prefix.TheConstants.{LIMIT, WARD_BITS_LIMIT}
use Rattle.exh_world.specs.WorldKept.{IsKeptWorld}
use Rattle.exh_array.specs.Pointers.{HasArrayOf}
use Rattle.exh_array.specs.Copies.{CopiesState}
use Rattle.exh_world.proofs.FreshWorld.{made_is, none_noticed, AreSoundWards, new_kept}
use Rattle.exh_ward.specs.NewWards.{new_wards}
use Rattle.exh_world.proofs.world.World.new_over.Goals as goal

shifted_one : (ward_bits : ℕ) → ward_bits ≤ WARD_BITS_LIMIT → 1 * 2 ^ ward_bits % 2 ^ 64 ≡ 2 ^ ward_bits
shifted_one ward_bits few = let short : ward_bits < 64 = omega (arith, few) in ap (λ n. n % 2 ^ 64) (one-mul (2 ^ ward_bits)) ∙ mod-eq_of_lt (pow-lt short)

small_enough : (ward_bits : ℕ) → ward_bits ≤ WARD_BITS_LIMIT → ward_bits ≤ LIMIT
small_enough ward_bits few = omega (arith, few)

pub returns-clause-world : goal.returns-clause-world
returns-clause-world g c =
    let made = c.in_ok-copies.ensures in
    made_is c.args.config c.in_ok-wards.wards.items c.in_ok-copies.copies.start c.resize.new.self.items c.in_ok-copies.copies.copies c.in_ok-copies.copies.sent c.new-in_flight.result
    (c.in_ok-wards.ensures.wards ∙ ap new_wards c.file_settings.ensures) (ap (λ (copies : CopiesState). copies.start) made ∙ c.in_ok-start.ensures.table)
    (none_noticed _ _ _ c.new-noticed.result.items c.resize.new.self.items (shifted_one c.args.config.ward_bits c.requires.bits) c.new-noticed.ensures.items c.new-noticed.ensures.len c.in_ok-resize.ensures.items)
    (ap (λ (copies : CopiesState). copies.copies) made ∙ ap (replicate c.args.config.copies) c.in_ok-start.ensures.table) (ap (λ (copies : CopiesState). copies.sent) made) c.new-in_flight.ensures

pub invariant_of-result : goal.invariant_of-result
invariant_of-result g c =
    let pseudokey_of = g.K.Keyer.pseudokey_of in (
      subst (IsKeptWorld pseudokey_of) (sym (returns-clause-world g c))
          (new_kept pseudokey_of c.args.config g.met.K.Keyer.pseudokey_fits c.requires.bits (subst (AreSoundWards pseudokey_of) (c.in_ok-wards.ensures.wards ∙ ap new_wards c.file_settings.ensures) c.in_ok-wards.ensures.sound)),
      ap (λ (copies : CopiesState). copies.ward_bits) c.in_ok-copies.ensures ∙ c.in_ok-start.ensures.array.bits,
    )

pub returns-clause-sound : goal.returns-clause-sound
returns-clause-sound g c = (invariant_of-result g c).0.sound

pub new-requires-2 : goal.new-requires-2
new-requires-2 g c = subst (λ n. HasArrayOf n c.in_ok-start.start) (sym c.in_ok-start.ensures.array.bits) c.in_ok-start.ensures.array

pub returns-in_err-start-clause-world : goal.returns-in_err-start-clause-world
returns-in_err-start-clause-world g c = IfOk-from_err c.from_residual-in_err-start.result _ c.from_residual-in_err-start.ensures.0

pub returns-in_err-start-clause-sound : goal.returns-in_err-start-clause-sound
returns-in_err-start-clause-sound g c = IfOk-from_err c.from_residual-in_err-start.result _ c.from_residual-in_err-start.ensures.0

pub returns-in_err-copies-clause-world : goal.returns-in_err-copies-clause-world
returns-in_err-copies-clause-world g c = IfOk-from_err c.from_residual-in_err-copies.result _ c.from_residual-in_err-copies.ensures.0

pub returns-in_err-copies-clause-sound : goal.returns-in_err-copies-clause-sound
returns-in_err-copies-clause-sound g c = IfOk-from_err c.from_residual-in_err-copies.result _ c.from_residual-in_err-copies.ensures.0

pub new-requires : goal.new-requires
new-requires g c = small_enough _ c.requires.bits
