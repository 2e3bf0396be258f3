-- An answer changes the records of one page alone.
use Rattle.std.proofs.Common.{◌≡◌, ℕ, List, length, sym}
use Rattle.std.specs.Prelude.{nat_le}
use Rattle.exh_page.specs.declared.page.Page.{Page}
use Rattle.exh_page.specs.Page.{records_of}
use Rattle.exh_legal.specs.LegalLaws.{KeepsPlaces}
use Rattle.exh_legal.specs.NoticeLemmas.{places_by_bare}
use Rattle.exh_legal.specs.Pages.{bare}
use Rattle.exh_legal.specs.LegalPlaceLemmas.{bare_with_other}
use Rattle.exh_calls.specs.Call.{key_of}
use Rattle.exh_ward.specs.HopTable.{pages_after}
use Rattle.exh_ward.specs.PageAnswer.{records_after}
use Rattle.exh_calls.specs.declared.call.Call.{Call}

pub bare_answered : (cap : ℕ) (pseudo : List ℕ → ℕ) (pages : List Page) (at : ℕ) (call : Call) → bare (pages_after cap pseudo pages at call) ≡ bare pages
unfolding pages_after
bare_answered cap pseudo pages at call = bare_with_other pages at (λ page. records_after (nat_le cap (length (records_of page))) (pseudo (key_of call)) call (records_of page))

pub places_answered : (cap : ℕ) (pseudo : List ℕ → ℕ) (pages : List Page) (at : ℕ) (call : Call) → KeepsPlaces pages (pages_after cap pseudo pages at call)
places_answered cap pseudo pages at call = places_by_bare pages (pages_after cap pseudo pages at call) (sym (bare_answered cap pseudo pages at call))
