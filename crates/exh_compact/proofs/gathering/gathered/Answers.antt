use Rattle.std.proofs.Common.{◌≡◌, ◌<◌, ◌≤◌, ◌^◌, List, length, slice_get, Some, refl, ap, ◌∙◌, subst, arith}
use Rattle.std.specs.Prelude.{slice_set}
use Rattle.std.proofs.Math.Nat.{pow-le-pow_right}
use Rattle.std.proofs.lemmas.Option.{slice_get_read}
use Rattle.exh_prefix.specs.declared.prefix.TheConstants.{WARD_BITS_LIMIT}
use Rattle.exh_keyer.specs.declared.any_keyer.AnyKeyer.{AnyKeyer}
use Rattle.exh_ward.specs.WardState.{WardState}
use Rattle.exh_ward.specs.declared.ward_fault.WardFault.TheVariants.{Memory}
use Rattle.exh_compact.specs.Reach.{AreLeft}
use Rattle.exh_compact.proofs.Left.{err_is, ward_left}
use Rattle.exh_compact.proofs.Shapes.{set_same}
use Rattle.exh_compact.proofs.gathering.gathered.Goals as goal

pub returns-clause-few : goal.returns-clause-few
returns-clause-few g c =
    let was = c.wards.invariant in
    let are = c.requires.1 in
    let most : 2 ^ c.requires.0.ward_bits ≤ 2 ^ WARD_BITS_LIMIT = pow-le-pow_right {n = 2} (omega arith) {i = c.requires.0.ward_bits} {j = WARD_BITS_LIMIT} are.bits in
    omega (arith, was.few, was.within, are.count, most)

-- ---- a ward isn't counted, or memory is refused

pub returns-in_err-own-clause-err : goal.returns-in_err-own-clause-err
returns-in_err-own-clause-err g c =
    let wards = c.wards.wards.items in
    let ward = c.index_mut.result.now in
    let within : c.wards.number < length wards = omega (arith, c.wards-test.true, c.len-number-end.ensures, c.args.wards.now.ok.0, ap length c.wards.invariant.same) in
    let there : slice_get wards c.wards.number ≡ Some ward = slice_get_read wards (length wards) c.wards.number ward refl within c.index_mut.ensures.value in
    let fault = c.in_err-own.field-0.0 in
    let after = c.shapes_in.new.ward in
    let left = ward_left wards c.wards.number ward after fault there c.in_err-own.ensures.err in
    err_is c.from_residual.result fault (AreLeft c.args.wards.now.items (slice_set wards c.wards.number after)) c.from_residual.ensures.1
    (subst (λ (old : List (WardState AnyKeyer)). AreLeft old (slice_set wards c.wards.number after) fault) c.wards.invariant.same left)

pub returns-in_err-push_counts-clause-err : goal.returns-in_err-push_counts-clause-err
returns-in_err-push_counts-clause-err g c =
    let wards = c.wards.wards.items in
    let ward = c.index_mut.result.now in
    let within : c.wards.number < length wards = omega (arith, c.wards-test.true, c.len-number-end.ensures, c.args.wards.now.ok.0, ap length c.wards.invariant.same) in
    let there : slice_get wards c.wards.number ≡ Some ward = slice_get_read wards (length wards) c.wards.number ward refl within c.index_mut.ensures.value in
    let after = c.shapes_in.new.ward in
    err_is c.from_residual-in_err-push_counts.result Memory (AreLeft c.args.wards.now.items (slice_set wards c.wards.number after)) c.from_residual-in_err-push_counts.ensures.1
    (set_same wards c.wards.number ward after there c.in_ok-own.ensures.same ∙ c.wards.invariant.same)

pub returns-in_err-extend_from_slice-clause-err : goal.returns-in_err-extend_from_slice-clause-err
returns-in_err-extend_from_slice-clause-err g c =
    let wards = c.wards.wards.items in
    let ward = c.index_mut.result.now in
    let within : c.wards.number < length wards = omega (arith, c.wards-test.true, c.len-number-end.ensures, c.args.wards.now.ok.0, ap length c.wards.invariant.same) in
    let there : slice_get wards c.wards.number ≡ Some ward = slice_get_read wards (length wards) c.wards.number ward refl within c.index_mut.ensures.value in
    let after = c.shapes_in.new.ward in
    err_is c.from_residual-in_err-extend_from_slice.result Memory (AreLeft c.args.wards.now.items (slice_set wards c.wards.number after)) c.from_residual-in_err-extend_from_slice.ensures.1
    (set_same wards c.wards.number ward after there c.in_ok-own.ensures.same ∙ c.wards.invariant.same)
