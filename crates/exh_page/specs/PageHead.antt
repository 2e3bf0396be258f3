-- A page without its records.
use Rattle.std.specs.Prelude.{◌≡◌, ⊤, ℕ, List, length, slice_get, Some}
use Rattle.exh_prefix.specs.Prefix.{low_of}
use Rattle.exh_page.specs.declared.page.Page.{Page}
use Rattle.exh_page.specs.declared.page.Page.TheVariants.{Live, Forward}
use Rattle.exh_page.specs.declared.page_head.PageHead.{PageHead}
use Rattle.exh_page.specs.declared.page_head.PageHead.TheVariants.{Live as LiveHead, Forward as ForwardHead}

-- all of a page but its records, which are counted
abbrev pub head_of : Page → PageHead
head_of (Live prefix right records) = LiveHead prefix right (length records)
head_of (Forward low target) = ForwardHead low target

-- the head of a live page
abbrev pub IsLiveHead : PageHead → Type 0
IsLiveHead (LiveHead prefix right count) = ⊤
IsLiveHead (ForwardHead low target) = ⊥

-- how many records the page has
abbrev pub count_in : PageHead → ℕ
count_in (LiveHead prefix right count) = count
count_in (ForwardHead low target) = 0

-- the least pseudokey that the page is for
abbrev pub low_in : PageHead → ℕ
low_in (LiveHead prefix right count) = low_of prefix
low_in (ForwardHead low target) = low

-- the page of a number is there, and has this head
abbrev pub HasHead : List Page → ℕ → PageHead → Type 0
HasHead pages number head = (page : Page) × (slice_get pages number ≡ Some page) × (head ≡ head_of page)
