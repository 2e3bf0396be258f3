use Rattle.std.proofs.Common.{◌≡◌, ℕ, ◌+◌, ◌<◌, ◌≤◌, ◌^◌, Some, List, [], refl, sym, ap, ◌∙◌, subst, inl, inr, get_or, length, take, arith}
use Rattle.std.specs.List.{slice_get}
use Rattle.std.specs.Prelude.{slice_set}
use Rattle.std.proofs.lemmas.Bool.{cases_lt, cases_eq, false≢true}
use Rattle.std.proofs.lemmas.List.{length-set, get_or-set_same, get_or-set_other, take_all}
use Rattle.std.proofs.lemmas.Option.{get_or_from_slice_get, slice_get-get_or, slice_get_within}
use Rattle.exh_prefix.specs.Leading.{ward_of}
use Rattle.exh_cells.specs.declared.cell.Cell.{Cell}
use Rattle.exh_cells.specs.Fit.{FitsCell, pages_in}
use Rattle.exh_cells.proofs.InOrder.{counted_more, counted_else, same_items}
use Rattle.exh_cells.proofs.fit.cells_fit.Goals as goal

none : Cell
none = record { number = 0; slots = [] }

pub returns-then-not-cell_fits : goal.returns-then-not-cell_fits
unfolding none
returns-then-not-cell_fits c = (
  λ no. absurd (false≢true no),
  λ fits.
      let place = c.loop-place.place in
      let lows = c.args.lows.now in
      let cells = c.args.cells.now in
      let low = get_or lows place 0 in
      let cell = get_or cells place none in
      let is = fits.each place low cell (slice_get-get_or lows place 0 c.loop-place-test.true) (slice_get-get_or cells place none (omega (arith, c.requires.all))) in
      let found : get_or c.loop-place.found c.ward_at-ward.result 0 ≡ pages_in c.args.ward_bits (ward_of c.args.ward_bits low) (take place lows) =
      c.loop-place.invariant.found_are c.ward_at-ward.result c.ward_at-ward.ensures.few ∙ ap (λ (ward : ℕ). pages_in c.args.ward_bits ward (take place lows)) c.ward_at-ward.ensures.ward in
      absurd (false≢true (sym c.if-not-cell_fits.true ∙ c.cell_fits.ensures.1 (is.number ∙ sym found, is.slots))),
)

pub loop-place-preserved : goal.loop-place-preserved
unfolding none
loop-place-preserved c =
    let place = c.loop-place.place in
    let lows = c.args.lows.now in
    let cells = c.args.cells.now in
    let bits = c.args.ward_bits in
    let here = get_or lows place 0 in
    let at = c.ward_at-ward.result in
    let found = c.loop-place.found in
    let within : place < length lows = c.loop-place-test.true in
    let room : at < length found = omega (arith, c.ward_at-ward.ensures.few, c.loop-place.invariant.long) in
    let ward_is : at ≡ ward_of bits here = c.ward_at-ward.ensures.ward in
    let found_here : get_or found at 0 ≡ pages_in bits (ward_of bits here) (take place lows) =
    c.loop-place.invariant.found_are at c.ward_at-ward.ensures.few ∙ ap (λ (ward : ℕ). pages_in bits ward (take place lows)) ward_is in
    let fits = c.cell_fits.ensures.0 c.if-not-cell_fits.false in
    record {
      long = length-set found at (get_or found at 0 + 1) ∙ c.loop-place.invariant.long;
      found_are = λ ward few. elim (cases_eq ward at) [
        | inl same ↦
            ap (λ (ward : ℕ). get_or (slice_set found at (get_or found at 0 + 1)) ward 0) same ∙ get_or-set_same found at (get_or found at 0 + 1) 0 room
            ∙ ap (λ (n : ℕ). n + 1) found_here ∙ sym (counted_more bits lows place 0 here within refl) ∙ ap (λ (ward : ℕ). pages_in bits ward (take (place + 1) lows)) (sym (same ∙ ward_is))
        | inr other ↦
            get_or-set_other found at ward (get_or found at 0 + 1) 0 other ∙ c.loop-place.invariant.found_are ward few
            ∙ sym (counted_else bits lows place 0 here ward within refl (λ same. other (sym same ∙ sym ward_is)))
      ];
      firsts = λ other low before small is. elim (cases_lt other place) [
        | inl earlier ↦ c.loop-place.invariant.firsts other low earlier small is
        | inr past ↦
            let same : other ≡ place = omega arith in
            let low_is : here ≡ low = get_or_from_slice_get lows place low 0 (subst (λ (n : ℕ). slice_get lows n ≡ Some low) same is) in
            ap (ward_of bits) (sym low_is) ∙ sym ward_is ∙ c.is_in_order.ensures.0 c.if-not-is_in_order.false (subst (λ (n : ℕ). n < 2 ^ bits) same small) ∙ sym same
      ];
      each = λ other low cell before is cell_is. elim (cases_lt other place) [
        | inl earlier ↦ c.loop-place.invariant.each other low cell earlier is cell_is
        | inr past ↦
            let same : other ≡ place = omega arith in
            let low_is : here ≡ low = get_or_from_slice_get lows place low 0 (subst (λ (n : ℕ). slice_get lows n ≡ Some low) same is) in
            let its : get_or cells place none ≡ cell = get_or_from_slice_get cells place cell none (subst (λ (n : ℕ). slice_get cells n ≡ Some cell) same cell_is) in
            let made : FitsCell bits lows place here (get_or cells place none) = record { number = fits.0 ∙ found_here; slots = fits.1 } in
            let low_made : FitsCell bits lows place low (get_or cells place none) = subst (λ (low : ℕ). FitsCell bits lows place low (get_or cells place none)) low_is made in
            let cell_made : FitsCell bits lows place low cell = subst (FitsCell bits lows place low) its low_made in
            subst (λ (n : ℕ). FitsCell bits lows n low cell) (sym same) cell_made
      ];
    }

pub returns : goal.returns
returns c =
    let lows = c.args.lows.now in
    let bits = c.args.ward_bits in
    let end : length lows ≤ c.loop-place.place = c.loop-place-test.false in
    let whole : take c.loop-place.place lows ≡ lows = take_all c.loop-place.place lows end in
    let found : (ward : ℕ) → ward < 16 → get_or c.loop-place.found ward 0 ≡ pages_in bits ward lows =
    λ ward few. c.loop-place.invariant.found_are ward few ∙ ap (pages_in bits ward) whole in (
      λ yes.
          let same = c.are_same.ensures.0 yes in
          record {
            firsts = λ place low small is. c.loop-place.invariant.firsts place low (let within = slice_get_within lows place low is in omega arith) small is;
            counts_are = λ ward few. ap (λ (counts : List ℕ). get_or counts ward 0) (sym same) ∙ found ward few;
            each = λ place low cell is cell_is. c.loop-place.invariant.each place low cell (let within = slice_get_within lows place low is in omega arith) is cell_is;
          },
      λ fits.
          c.are_same.ensures.1 (same_items c.loop-place.found c.args.counts.now (c.loop-place.invariant.long ∙ sym c.told-counts)
          (λ ward within. let few : ward < 16 = omega (arith, within, c.loop-place.invariant.long) in found ward few ∙ sym (fits.counts_are ward few))),
    )
