-- A page of a legal ward has few records.
use Rattle.std.proofs.Common.{◌≤◌, ℕ, List, length, arith}
use Rattle.exh_page.specs.declared.page.Page.{Page}
use Rattle.exh_page.specs.declared.page.Page.TheVariants.{Live, Forward}
use Rattle.exh_page.specs.declared.page.TheConstants.{CAP_LIMIT}
use Rattle.exh_page.specs.Page.{records_of}
use Rattle.exh_legal.specs.Pages.{IsLegalPage}

pub few_in_page : (cap : ℕ) (pseudo : List ℕ → ℕ) (page : Page) → cap ≤ CAP_LIMIT → IsLegalPage cap pseudo page → length (records_of page) ≤ CAP_LIMIT
few_in_page cap pseudo (Live prefix right records) few legal = omega (arith, few, legal.1)
few_in_page cap pseudo (Forward low target) few legal = omega arith
