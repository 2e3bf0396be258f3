use Rattle.std.proofs.Common.{◌≡◌, ◌≤◌, ◌-◌, false, length, take, drop}
use Rattle.std.specs.List.{AllByRecursion}
use Rattle.std.specs.Ordering.{is_lt}
use Rattle.exh_page.specs.declared.page.Page.{Page}
use Rattle.exh_page.specs.Page.{records_of}
use Rattle.exh_page.specs.Place.{place_cmp, place_of}
use Rattle.exh_page.specs.RecordsLemmas.{AllBefore}
use Rattle.exh_frames.specs.InPlace.{AreHashed, AreStarts, HasContent}
use Rattle.exh_frames.proofs.search.index_of_place.Given as goal

-- the records below the one bound stand before the place, and those from the other on don't
abbrev pub invariant-loop-low : goal.invariant-loop-low
invariant-loop-low l = record {
  order : l.low ≤ l.high;
  found : (page : Page) → HasContent l.block page → AreStarts (records_of page) l.starts → AreHashed l.pseudokeys (records_of page)
      → (l.high ≤ length (records_of page)) × AllBefore (l.pseudokey, l.key) (take l.low (records_of page))
      × AllByRecursion (λ r. is_lt (place_cmp (place_of r) (l.pseudokey, l.key)) ≡ false) (drop l.high (records_of page));
}

abbrev pub decreases-loop-low : goal.decreases-loop-low
decreases-loop-low l = l.high - l.low
