-- What a split tests of a page, without its records.
use Rattle.std.specs.Prelude.{◌≡◌, ℕ, ◌<◌, ◌≤◌, Bool, List, length, Option}
use Rattle.exh_prefix.specs.declared.prefix.TheConstants.{LIMIT}
use Rattle.exh_page.specs.declared.page_head.PageHead.{PageHead}
use Rattle.exh_page.specs.declared.page_head.PageHead.TheVariants.{Live}

-- the page is live, of this prefix, which is shorter than LIMIT, and full
pub record IsHalvable (cap : ℕ) (page : PageHead) (prefix : List Bool) : Type 0 where
  pub link : Option ℕ
  pub count : ℕ
  pub live : page ≡ Live prefix link count
  pub full : cap ≤ count
  pub short : length prefix < LIMIT
