-- How many places the pages of all wards take.
use Rattle.std.proofs.Common.{◌≡◌, ℕ, suc, ◌*◌, ◌-◌, ◌^◌, ◌<◌, ◌≤◌, List, [], ◌∷◌, length, map, slice_get, Some, refl, arith}
use Rattle.std.specs.List.{sum}
use Rattle.std.proofs.Math.Nat.{pow-le-pow_right}
use Rattle.std.proofs.lemmas.List.Sums.{sum_by-cons}
use Rattle.exh_keyer.specs.declared.any_keyer.AnyKeyer.{AnyKeyer}
use Rattle.exh_legal.specs.LegalLaws.{FittingTablesBeginWards, PagesAreFew}
use Rattle.exh_placing.specs.declared.page_at.PageAt.{PageAt}
use Rattle.exh_placing.specs.Order.{IsOrderOf}
use Rattle.exh_ward.specs.WardState.{WardState}
use Rattle.exh_file.specs.Opened.{AreWardsOf, OpenedState}
use Rattle.exh_file.specs.Saved.{AreSound, pages_of_all}
use Rattle.exh_file.proofs.Legal.{page_count}
use Rattle.exh_file.proofs.PlacedLegal.{all_counted}

most_all : (wards : List (WardState AnyKeyer)) → ((number : ℕ) (ward : WardState AnyKeyer) → slice_get wards number ≡ Some ward → length ward.pages ≤ 1048576) → sum (map length (pages_of_all wards)) ≤ 1048576 * length wards
most_all [] each = omega arith
most_all (ward ∷ wards) each =
    omega (arith, sum_by-cons (λ (x : ℕ). x) (length ward.pages) (map length (pages_of_all wards)), each 0 ward refl, most_all wards (λ number other is. each (suc number) other is))

pub few_places : (opened : OpenedState) → AreWardsOf opened → AreSound opened.wards → FittingTablesBeginWards → PagesAreFew → (order : List PageAt) → IsOrderOf (map length (pages_of_all opened.wards)) order → length order < 4294967296
few_places opened are sound begin few order is =
    let within : 2 ^ opened.ward_bits ≤ 16 = omega (arith, pow-le-pow_right {n = 2} (omega arith) are.bits) in
    let most = most_all opened.wards (λ number ward there.
    let own = (page_count opened are sound begin few number ward there).1 in
    let room : 20 - opened.ward_bits ≤ 20 = omega arith in
    let less : 2 ^ (20 - opened.ward_bits) ≤ 2 ^ 20 = pow-le-pow_right {n = 2} (omega arith) room in
    omega (arith, own, less)) in
    omega (arith, all_counted order (map length (pages_of_all opened.wards)) is.counted, most, are.count, within)
