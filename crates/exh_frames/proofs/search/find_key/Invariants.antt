use Rattle.std.proofs.Common.{◌≡◌, ◌≢◌, ◌+◌, length, take}
use Rattle.std.specs.List.{AllByRecursion}
use Rattle.exh_page.specs.declared.page.Page.{Page}
use Rattle.exh_page.specs.Page.{records_of}
use Rattle.exh_frames.specs.InPlace.{HasContent, bytes_of}
use Rattle.exh_frames.proofs.search.find_key.Given as goal

-- none of the records so far has the key
abbrev pub invariant-loop-index : goal.invariant-loop-index
invariant-loop-index l = (page : Page) → HasContent l.block page → (l.start ≡ 16 + length (bytes_of (take l.index (records_of page)))) × AllByRecursion (λ r. r.key ≢ l.sought) (take l.index (records_of page))
