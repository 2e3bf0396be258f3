use Rattle.std.proofs.Common.{◌≡◌, ℕ, ◌-◌, ◌*◌, ◌^◌, ◌<◌, ap, ◌∙◌, subst, arith}
use Rattle.exh_legal.proofs.OwnPrefix.{own_is, own_some, shifted_low}
use Rattle.exh_legal.proofs.file_tests.own_prefix.Goals as goal
use Rattle.exh_legal.proofs.file_tests.own_prefix.Goals.{then-ward_bits-eq0, else-ward_bits-eq0}

-- no ward but the first where there are no bits
none_below : (s n : ℕ) → s ≡ 0 → n < 2 ^ s → 0 ≡ n * 2 ^ (64 - s)
none_below s n none small = let few : n < 1 = subst (λ s. n < 2 ^ s) none small in let zero_is : n ≡ 0 = omega (arith, few) in omega (arith, ap (λ n. n * 2 ^ (64 - s)) zero_is)

pub unwrap-requires : goal.unwrap-requires
unwrap-requires c =
    let low : c.if-ward_bits-eq0.low ≡ c.args.number * 2 ^ (64 - c.args.ward_bits) = elim c.if-ward_bits-eq0.branch [
      | then-ward_bits-eq0 w ↦ w.low-is ∙ none_below c.args.ward_bits c.args.number w.if-ward_bits-eq0.true c.requires.number
      | else-ward_bits-eq0 w ↦ w.low-is ∙ shifted_low c.args.ward_bits c.args.number c.requires.bits c.requires.number
    ] in
    own_some c.args.ward_bits c.args.number c.if-ward_bits-eq0.low c.new.result c.requires.bits c.requires.number low c.new.ensures

pub returns : goal.returns
returns c =
    let low : c.if-ward_bits-eq0.low ≡ c.args.number * 2 ^ (64 - c.args.ward_bits) = elim c.if-ward_bits-eq0.branch [
      | then-ward_bits-eq0 w ↦ w.low-is ∙ none_below c.args.ward_bits c.args.number w.if-ward_bits-eq0.true c.requires.number
      | else-ward_bits-eq0 w ↦ w.low-is ∙ shifted_low c.args.ward_bits c.args.number c.requires.bits c.requires.number
    ] in
    own_is c.args.ward_bits c.args.number c.if-ward_bits-eq0.low c.new.result c.unwrap.result c.requires.bits c.requires.number low c.new.ensures c.unwrap.ensures
