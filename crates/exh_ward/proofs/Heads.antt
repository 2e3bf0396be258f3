-- What the head of a page says of the page.
use Rattle.std.proofs.Common.{◌≡◌, ℕ, Bool, List, length, Option, refl, ap, ◌∙◌}
use Rattle.exh_page.specs.declared.page.Page.{Page}
use Rattle.exh_page.specs.declared.page.Page.TheVariants.{Live, Forward}
use Rattle.exh_page.specs.declared.page_head.PageHead.{PageHead}
use Rattle.exh_page.specs.declared.page_head.PageHead.TheVariants.{Live as LiveHead}
use Rattle.exh_page.specs.declared.record.Record.{Record}
use Rattle.exh_page.specs.Page.{low_bound, records_of}
use Rattle.exh_page.specs.PageHead.{count_in, head_of, low_in}

-- the live page that a head is of
pub record IsHeaded (page : Page) (prefix : List Bool) (link : Option ℕ) (count : ℕ) : Type 0 where
  pub records : List Record
  pub live : page ≡ Live prefix link records
  pub counted : count ≡ length records

pub headed : (page : Page) (prefix : List Bool) (link : Option ℕ) (count : ℕ) → head_of page ≡ LiveHead prefix link count → IsHeaded page prefix link count
headed (Live bits right records) prefix link count is =
    let prefixes : bits ≡ prefix = cc in
    let links : right ≡ link = cc in
    let counts : length records ≡ count = cc in
    record { records = records; live = cc; counted = cc }
headed (Forward low target) prefix link count is = cc

pub counted_in : (page : Page) → count_in (head_of page) ≡ length (records_of page)
counted_in (Live prefix link records) = refl
counted_in (Forward low target) = refl

-- the low bound of a head is that of its page
pub low_headed : (page : Page) (head : PageHead) → head ≡ head_of page → low_in head ≡ low_bound page
low_headed page head is = ap low_in is ∙ low_of_page page where
  low_of_page : (page : Page) → low_in (head_of page) ≡ low_bound page
  low_of_page (Live prefix link records) = refl
  low_of_page (Forward low target) = refl
