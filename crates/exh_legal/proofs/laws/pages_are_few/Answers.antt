use Rattle.std.proofs.Common.{[], arith}
use Rattle.std.proofs.lemmas.List.{length-map}
use Rattle.exh_page.specs.Page.{with_records}
use Rattle.exh_legal.specs.Pages.{bare}
use Rattle.exh_legal.proofs.PageCount.{page_count}
use Rattle.exh_legal.proofs.laws.pages_are_few.Goals as goal

pub returns : goal.returns
returns c ward pages short linked = omega (arith, page_count (bare pages) short linked.within linked.apart, length-map pages (with_records []))
