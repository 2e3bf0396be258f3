use Rattle.std.proofs.Common.{◌≡◌, ◌++◌, ℕ, ◌<◌, Some, [], length, get_or, refl, sym, ◌∙◌, subst, inl, inr, arith}
use Rattle.std.specs.List.{slice_get}
use Rattle.std.proofs.lemmas.List.{length-set}
use Rattle.std.proofs.lemmas.Option.{slice_get-get_or, slice_get_read}
use Rattle.exh_prefix.specs.PrefixListLemmas.{set_is}
use Rattle.exh_format.specs.Table.{IsTableOf}
use Rattle.exh_cells.specs.declared.cell.Cell.{Cell}
use Rattle.exh_cells.specs.Told.{told_by_cell, told_by_places}
use Rattle.exh_cells.proofs.TellSteps.{none_told_yet, place_else, place_more, place_same, place_told}
use Rattle.exh_cells.proofs.tables.tables_of_cells.Goals as goal

none : Cell
none = record { number = 0; slots = [] }

pub loop-place-init : goal.loop-place-init
loop-place-init c = record {
  count_is = c.in_ok-tables.ensures.count ∙ c.ward_count.ensures;
  each = λ ward table is. none_told_yet table (c.in_ok-tables.ensures.none ward table is);
}

pub put_cell-requires : goal.put_cell-requires
unfolding none
put_cell-requires c = λ len slot is some.
    let place = c.loop-place.place in
    let fits = c.requires.fit place (get_or c.args.lows.now place 0) (get_or c.args.cells.now place none)
    (slice_get-get_or c.args.lows.now place 0 c.loop-place-test.true) (slice_get-get_or c.args.cells.now place none (omega (arith, c.requires.all))) in
    (fits.slots len slot is some).prefix

pub loop-place-preserved : goal.loop-place-preserved
unfolding none
loop-place-preserved c =
    let place = c.loop-place.place in
    let lows = c.args.lows.now in
    let cells = c.args.cells.now in
    let bits = c.args.ward_bits in
    let low = get_or lows place 0 in
    let cell = get_or cells place none in
    let at = c.ward_at-ward.result in
    let tables = c.loop-place.tables.items in
    let low_is = slice_get-get_or lows place 0 c.loop-place-test.true in
    let cell_is = slice_get-get_or cells place none (omega (arith, c.requires.all)) in
    let room : at < length tables = omega (arith, c.ward_at-ward.ensures.within, c.loop-place.invariant.count_is) in
    let there : slice_get tables at ≡ Some c.index_mut.result.now = slice_get_read tables (length tables) at c.index_mut.result.now refl room c.index_mut.ensures.value in
    record {
      count_is = length-set tables at c.put_cell.new.table ∙ c.loop-place.invariant.count_is;
      each = λ ward table is. elim (set_is tables at ward c.index_mut.result.now c.put_cell.new.table table there is) [
        | inl here ↦
            let before : IsTableOf (told_by_places bits ward lows cells place) c.index_mut.result.now =
            subst (λ (ward : ℕ). IsTableOf (told_by_places bits ward lows cells place) c.index_mut.result.now) (sym here.0) (c.loop-place.invariant.each at c.index_mut.result.now there) in
            let told = c.in_ok-put_cell.ensures (told_by_places bits ward lows cells place) before in
            place_more bits ward lows cells place (told_by_cell cells low cell) table (place_told bits ward lows cells place low cell low_is cell_is (sym c.ward_at-ward.ensures.ward ∙ sym here.0))
            (subst (IsTableOf (told_by_places bits ward lows cells place ++ told_by_cell cells low cell)) (sym here.1) told)
        | inr there ↦
            place_same bits ward lows cells place table (place_else bits ward lows cells place low low_is (λ same. there.0 (sym same ∙ sym c.ward_at-ward.ensures.ward)))
            (c.loop-place.invariant.each ward table there.1)
      ];
    }

pub returns : goal.returns
returns c =
    let end : c.loop-place.place ≡ length c.args.lows.now = omega arith in
    record {
      count = c.loop-place.invariant.count_is;
      each = λ ward table is.
          subst (λ (count : ℕ). IsTableOf (told_by_places c.args.ward_bits ward c.args.lows.now c.args.cells.now count) table) end (c.loop-place.invariant.each ward table is);
    }
