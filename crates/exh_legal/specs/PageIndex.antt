-- The pages of a ward by their low bounds.
use Rattle.std.specs.Prelude.{◌≡◌, ◌↔◌, ℕ, ◌<◌, List, Some}
use Rattle.std.specs.FinMap.{FinMap, get}
use Rattle.std.specs.Ordering.{nat_cmp}
use Rattle.exh_page.specs.declared.page.Page.{Page}
use Rattle.exh_legal.specs.Growth.{IsPageOf}

abbrev pub IndexMap : Type 0
IndexMap = FinMap nat_cmp ℕ

-- it has every page but page 0
abbrev pub IsIndexOf : IndexMap → List Page → Type 0
IsIndexOf index pages = (low number : ℕ) → (get index low ≡ Some number) ↔ ((0 < number) × IsPageOf pages low number)
