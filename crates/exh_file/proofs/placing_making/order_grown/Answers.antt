use Rattle.std.proofs.Common.{ℕ, List, length, sym, ap, ◌∙◌, subst, arith}
use Rattle.std.proofs.lemmas.Bool.{false≢true}
use Rattle.std.proofs.lemmas.List.{length-map}
use Rattle.exh_prefix.specs.Leading.{ward_of}
use Rattle.exh_placing.specs.declared.page_at.PageAt.{PageAt}
use Rattle.exh_placing.specs.Order.{BeginsWithFirsts, IsNumbered, IsOrderOf, IsWithin, with_others}
use Rattle.exh_file.proofs.Counts.{counts_front, counts_len}
use Rattle.exh_file.proofs.placing_making.order_grown.Goals.{then-not-are_within-via-then-not-are_within, then-not-are_within-via-else-not-are_within+then-not-begins_with_firsts}
use Rattle.exh_file.proofs.placing_making.order_grown.Goals as goal

pub are_within-requires : goal.are_within-requires
are_within-requires g c = subst IsNumbered (sym c.deref.ensures.value) c.in_ok-placed.ensures.order.numbered

pub grown_order-requires-clause-short : goal.grown_order-requires-clause-short
grown_order-requires-clause-short g c =
    let placed = c.in_ok-placed.placed.items in
    let lows = c.args.lows.now in
    omega (arith, ap length c.deref-2.ensures.value, length-map placed (λ (page : PageAt). page.ward), ap length c.in_ok-placed.ensures.order.wards, length-map lows (ward_of c.args.settings.ward_bits), c.if-lows.false)

pub grown_order-requires-clause-numbered : goal.grown_order-requires-clause-numbered
grown_order-requires-clause-numbered g c = subst IsNumbered (sym c.deref-2.ensures.value) c.in_ok-placed.ensures.order.numbered

pub grown_order-requires-clause-within : goal.grown_order-requires-clause-within
grown_order-requires-clause-within g c = subst (IsWithin _) (c.deref.ensures.value ∙ sym c.deref-2.ensures.value) (c.are_within.ensures.0 c.if-not-are_within.false)

pub returns-clause-order : goal.returns-clause-order
returns-clause-order g c =
    let wards = c.args.wards.now in
    let front = counts_front wards c.header_of-header.result.page_counts (ap (λ header. header.page_counts) c.header_of-header.ensures.header) in
    let begun = subst (BeginsWithFirsts (length _)) (c.deref-else-not-are_within.ensures.value ∙ sym c.deref-2.ensures.value) (c.begins_with_firsts.ensures.0 c.if-not-begins_with_firsts.false) in
    let firsts = c.in_ok-grown_order.ensures.firsts _ begun in
    record {
      all = subst (λ (counts : List ℕ). IsOrderOf counts c.in_ok-grown_order.field-0.items) front c.in_ok-grown_order.ensures.order;
      firsts = subst (λ (n : ℕ). BeginsWithFirsts n c.in_ok-grown_order.field-0.items) (ap length front ∙ counts_len wards) firsts;
    }

pub returns-clause-grown : goal.returns-clause-grown
returns-clause-grown g c =
    let wards = c.args.wards.now in
    let front = counts_front wards c.header_of-header.result.page_counts (ap (λ header. header.page_counts) c.header_of-header.ensures.header) in
    record {
      placed = c.in_ok-placed.placed.items;
      placed_is = c.in_ok-placed.ensures.order;
      order_is = c.in_ok-grown_order.ensures.whole ∙ (λ i. with_others (front i) (c.deref-2.ensures.value i));
    }

pub returns-then-not-are_within-clause-none : goal.returns-then-not-are_within-clause-none
returns-then-not-are_within-clause-none g c = λ have.
    let wards = c.args.wards.now in
    let placed = c.in_ok-placed.placed.items in
    let front = counts_front wards c.header_of-header.result.page_counts (ap (λ header. header.page_counts) c.header_of-header.ensures.header) in
    let theirs = have.theirs placed c.in_ok-placed.ensures.order in
    elim c.then-not-are_within.branch [
      | then-not-are_within-via-then-not-are_within w ↦
          let within = subst (λ (counts : List ℕ). IsWithin counts c.deref.result.now) (sym front) (subst (IsWithin _) (sym c.deref.ensures.value) theirs.0) in
          false≢true (sym w.if-not-are_within.true ∙ c.are_within.ensures.1 within)
      | then-not-are_within-via-else-not-are_within+then-not-begins_with_firsts w ↦
          let count = sym (ap length front ∙ counts_len wards) in
          let begun = subst (λ (n : ℕ). BeginsWithFirsts n w.deref-else-not-are_within.result.now) count (subst (BeginsWithFirsts (length wards)) (sym w.deref-else-not-are_within.ensures.value) theirs.1) in
          false≢true (sym w.if-not-begins_with_firsts.true ∙ w.begins_with_firsts.ensures.1 begun)
    ]
