use Rattle.std.proofs.Common.{◌≡◌, ℕ, ◌*◌, ◌%◌, ◌^◌, ◌<◌, ◌≤◌, length, slice_get, inl, inr, refl, sym, ap, ◌∙◌, subst, arith}
use Rattle.std.proofs.lemmas.Bool.{cases_eq, false≢true}
use Rattle.std.proofs.lemmas.Nat.{shl_whole}
use Rattle.std.proofs.lemmas.Option.{same_Some, slice_get_read, slice_get_within}
use Rattle.exh_prefix.specs.declared.prefix.TheConstants.{WARD_BITS_LIMIT}
use Rattle.exh_file.specs.Opened.{AreWardsOf, IsWardOf, OpenedState, in_file}
use Rattle.exh_file.proofs.opened.are_wards_of.Goals as goal
use Rattle.exh_file.proofs.opened.are_wards_of.Goals.{then-not-are_in_range-via-then-not-are_in_range, then-not-are_in_range-via-else-not-are_in_range+then-wards-settings}

few_bits : {bits : ℕ} → bits ≤ WARD_BITS_LIMIT → bits < 64
few_bits few = omega (arith, few)

at_most : {at count : ℕ} → at < count → at ≤ count
at_most less = omega (arith, less)

whole_count : (bits : ℕ) → bits ≤ WARD_BITS_LIMIT → (1 * 2 ^ bits) % 2 ^ 64 ≡ 2 ^ bits
whole_count bits few = omega (arith, shl_whole 1 1 bits 64 (omega arith) (omega (arith, few)))

pub overflow_shl-settings : goal.overflow_shl-settings
overflow_shl-settings g c = few_bits (c.are_in_range.ensures.0 c.if-not-are_in_range.false).bits

pub bounds-wards-number : goal.bounds-wards-number
bounds-wards-number g c = c.loop-number-test.true

pub offset_bounds-wards-number : goal.offset_bounds-wards-number
offset_bounds-wards-number g c = at_most c.loop-number-test.true

pub returns-then-not-are_in_range : goal.returns-then-not-are_in_range
returns-then-not-are_in_range g c = elim c.then-not-are_in_range.branch [
  | then-not-are_in_range-via-then-not-are_in_range w ↦ (
    λ is. absurd (false≢true is),
    λ are. absurd (false≢true (sym w.if-not-are_in_range.true ∙ c.are_in_range.ensures.1 (record { some = are.some; most = are.most; bits = are.bits }))),
  )
  | then-not-are_in_range-via-else-not-are_in_range+then-wards-settings w ↦ (λ is. absurd (false≢true is), λ are. absurd (w.if-wards-settings.true (are.count ∙ sym (whole_count c.args.settings.ward_bits are.bits))))
]

pub returns-then-not-is_ward_of : goal.returns-then-not-is_ward_of
returns-then-not-is_ward_of g c =
    let opened : OpenedState = in_file c.args.settings c.args.wards.now in
    let there = slice_get_read c.args.wards.now (length c.args.wards.now) c.loop-number.number c.index-wards-number.result refl c.loop-number-test.true c.index-wards-number.is in
    ((λ true_is. absurd (false≢true true_is)), (λ are. absurd (false≢true (sym c.if-not-is_ward_of.true ∙ (c.is_ward_of.ensures opened refl refl refl).1 (are.each c.loop-number.number c.index-wards-number.result there)))))

pub loop-number-preserved : goal.loop-number-preserved
loop-number-preserved g c number ward less at =
    let opened : OpenedState = in_file c.args.settings c.args.wards.now in
    let there = slice_get_read c.args.wards.now (length c.args.wards.now) c.loop-number.number c.index-wards-number.result refl c.loop-number-test.true c.index-wards-number.is in
    elim (cases_eq number c.loop-number.number) [
      | inl last ↦
          let same : c.index-wards-number.result ≡ ward = same_Some c.index-wards-number.result ward (sym there ∙ ap (slice_get c.args.wards.now) (sym last) ∙ at) in
          subst (λ n. IsWardOf opened n ward) (sym last) (subst (IsWardOf opened c.loop-number.number) same ((c.is_ward_of.ensures opened refl refl refl).0 c.if-not-is_ward_of.false))
      | inr before ↦ c.loop-number.invariant number ward (omega (arith, less, before)) at
    ]

pub returns : goal.returns
returns g c =
    let opened : OpenedState = in_file c.args.settings c.args.wards.now in
    let range = c.are_in_range.ensures.0 c.if-not-are_in_range.false in
    let bits : c.args.settings.ward_bits ≤ WARD_BITS_LIMIT = range.bits in
    let are : AreWardsOf opened = record {
      some = range.some;
      most = range.most;
      bits = bits;
      count = c.if-wards-settings.false ∙ whole_count c.args.settings.ward_bits bits;
      each = λ number ward there. c.loop-number.invariant number ward (omega (arith, slice_get_within c.args.wards.now number ward there, c.loop-number-test.false, c.loop-number.auto.number-end)) there;
    } in
    ((λ _. are), (λ _. refl))
