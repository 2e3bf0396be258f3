-- Pages put into a list, for whoever computes what a change leaves.
use Rattle.std.specs.Prelude.{ℕ, suc, List, ◌∷◌, ◌++◌, take, drop, Result, Ok, Err, []}
use Rattle.exh_notice.specs.declared.notice.Notice.{Notice}
use Rattle.exh_legal.specs.Table.{table_with}
use Rattle.exh_page.specs.declared.page.Page.{Page}
use Rattle.exh_ward.specs.WardState.{WardState}
use Rattle.exh_ward.specs.declared.ward_fault.WardFault.{WardFault}

-- the pages with one at a number: in place of the one there, or after the last
abbrev pub with_page : ℕ → Page → List Page → List Page
with_page number page pages = take number pages ++ page ∷ drop (suc number) pages

-- the ward that issued a notice of its change and has these pages now; a refused change leaves it as it was
abbrev pub ward_after : {K : Type 0} → WardState K → Result Notice WardFault → List Page → WardState K
ward_after ward (Ok notice) pages = record ward { pages = pages; notices = ward.notices ++ notice ∷ []; table = table_with ward.table notice }
ward_after ward (Err fault) pages = ward
