use Rattle.std.proofs.Common.{◌≡◌, ℕ, ◌<◌, ◌+◌, length, get_or, sym, ap, ◌∙◌, subst, arith}
use Rattle.std.specs.List.{slice_get}
use Rattle.std.proofs.lemmas.List.{length-set}
use Rattle.std.proofs.lemmas.Option.{slice_get-get_or}
use Rattle.exh_prefix.specs.Leading.{ward_of}
use Rattle.exh_placing.proofs.Made.{AreMadeCells, all_words, cells_told, more_counted, more_made, one_longer, own_made, right_placed}
use Rattle.exh_placing.proofs.cells.cells_of_tables.Goals as goal

pub cell_of-requires : goal.cell_of-requires
cell_of-requires g c =
    let at = c.ward_at-ward.result in
    let tables = g.T.TableList.tables c.args.tables.now in
    right_placed c.args.ward_bits c.args.lows.now tables c.in_ok-places.places.entries c.requires.tables c.in_ok-places.ensures at c.table.result.now c.table.ensures

pub loop-place-preserved : goal.loop-place-preserved
loop-place-preserved g c =
    let lows = c.args.lows.now in
    let bits = c.args.ward_bits in
    let place = c.loop-place.place in
    let low = get_or lows place 0 in
    let at = c.ward_at-ward.result in
    let at_is : at ≡ ward_of bits low = c.ward_at-ward.ensures.ward in
    let few : at < 16 = c.ward_at-ward.ensures.few in
    let within : place < length lows = c.loop-place-test.true in
    let tables = g.T.TableList.tables c.args.tables.now in
    let own = own_made bits lows c.in_ok-places.places.entries c.table.result.now place low at (get_or c.loop-place.found at 0) c.cell_of.result at_is c.cell_of.ensures.number (c.loop-place.invariant.found_are at few)
    c.cell_of.ensures.cell c.cell_of.ensures.slots in
    record {
      long = length-set c.loop-place.found at (get_or c.loop-place.found at 0 + 1) ∙ c.loop-place.invariant.long;
      found_are = more_counted bits lows place at c.loop-place.found c.loop-place.invariant.long c.loop-place.invariant.found_are within at_is few;
      count = one_longer c.loop-place.cells.items c.push.new.self.items c.cell_of.result place c.in_ok-push.ensures.items c.loop-place.invariant.count;
      made = more_made bits lows tables c.in_ok-places.places.entries place low c.loop-place.cells.items c.push.new.self.items c.cell_of.result c.table.result.now c.loop-place.invariant.made
          c.loop-place.invariant.count c.in_ok-push.ensures.items (slice_get-get_or lows place 0 within) (ap (slice_get tables) (sym at_is) ∙ c.table.ensures) own;
    }

pub returns : goal.returns
returns g c =
    let all : c.loop-place.place ≡ length c.args.lows.now = omega arith in
    cells_told c.args.ward_bits c.args.lows.now c.in_ok-places.places.entries c.loop-place.cells.items (g.T.TableList.tables c.args.tables.now) c.requires.bits c.requires.tables c.in_ok-places.ensures (c.loop-place.invariant.count ∙ all)
    (subst (λ (count : ℕ). AreMadeCells c.args.ward_bits c.args.lows.now (g.T.TableList.tables c.args.tables.now) c.in_ok-places.places.entries count c.loop-place.cells.items) all c.loop-place.invariant.made)
    c.matched_tables_are_told.ensures c.requires.apart (all_words c.args.lows.now (λ place. (c.type_inv.lows place).fits))
