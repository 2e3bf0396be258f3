-- Wards of which nothing but the counts of failures differs have the same places.
use Rattle.std.proofs.Common.{◌≡◌, ℕ, suc, List, [], ◌∷◌, length, map, refl, sym, ap, subst, arith}
use Rattle.exh_keyer.specs.declared.any_keyer.AnyKeyer.{AnyKeyer}
use Rattle.exh_table.specs.Table.{TableMap}
use Rattle.exh_page.specs.declared.page.Page.{Page}
use Rattle.exh_placing.specs.CellLaws.{AreTold}
use Rattle.exh_placing.specs.PlacedFile.{lows_of}
use Rattle.exh_placing.specs.Order.{BeginsWithFirsts, IsOrderOf}
use Rattle.exh_placing.specs.WardFile.{pages_named}
use Rattle.exh_ward.specs.WardState.{IsUnchanged, WardState}
use Rattle.exh_file.specs.declared.placing.Placing.{Placing}
use Rattle.exh_file.specs.Opened.{OpenedState}
use Rattle.exh_file.specs.Placing.{IsPlacingOf, ordered_pages, tables_of_all}
use Rattle.exh_file.specs.Saved.{AreUnchanged, pages_of_all}

same_each : {A : Type 0} (f : WardState AnyKeyer → A) → ((ward left : WardState AnyKeyer) → IsUnchanged ward left → f left ≡ f ward) → (old new : List (WardState AnyKeyer)) → AreUnchanged old new → map f new ≡ map f old
same_each f keeps [] [] same = refl
same_each f keeps [] (left ∷ new) same = absurd (omega (arith, same.count))
same_each f keeps (ward ∷ old) [] same = absurd (omega (arith, same.count))
same_each f keeps (ward ∷ old) (left ∷ new) same =
    let first = keeps ward left (same.each 0 ward left refl refl) in
    let rest = same_each f keeps old new (record { count = omega (arith, same.count); each = λ number. same.each (suc number) }) in
    λ i. first i ∷ rest i

pub still_placing : (opened : OpenedState) (wards : List (WardState AnyKeyer)) (placing : Placing) → AreUnchanged opened.wards wards → IsPlacingOf opened placing → IsPlacingOf (record opened { wards = wards }) placing
still_placing opened wards placing same is =
    let pages : pages_of_all wards ≡ pages_of_all opened.wards = same_each (λ ward. ward.pages) (λ ward left is. ap (λ (w : WardState AnyKeyer). w.pages) is) opened.wards wards same in
    let tables : tables_of_all wards ≡ tables_of_all opened.wards = same_each (λ ward. ward.table) (λ ward left is. ap (λ (w : WardState AnyKeyer). w.table) is) opened.wards wards same in
    let order = placing.order.items in
    record {
      order_is = subst (λ (ps : List (List Page)). IsOrderOf (map length ps) order) (sym pages) is.order_is;
      firsts = subst (λ (n : ℕ). BeginsWithFirsts n order) (sym same.count) is.firsts;
      cells_are = subst (λ (ps : List (List Page)). AreTold opened.ward_bits (lows_of (pages_named ps order)) placing.cells.items (tables_of_all wards)) (sym pages)
          (subst (λ (ts : List TableMap). AreTold opened.ward_bits (lows_of (ordered_pages opened.wards order)) placing.cells.items ts) (sym tables) is.cells_are);
    }
