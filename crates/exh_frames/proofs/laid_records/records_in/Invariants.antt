use Rattle.std.proofs.Common.{◌≡◌, ◌+◌, length, take}
use Rattle.exh_page.specs.declared.page.Page.{Page}
use Rattle.exh_page.specs.Page.{records_of}
use Rattle.exh_frames.specs.InPlace.{AreHashed, HasContent, bytes_of}
use Rattle.exh_frames.proofs.laid_records.records_in.Given as goal

-- the records so far
abbrev pub invariant-loop-index : goal.invariant-loop-index
invariant-loop-index l = (page : Page) → HasContent l.block page → AreHashed l.pseudokeys (records_of page) → (l.start ≡ 16 + length (bytes_of (take l.index (records_of page)))) × (l.records ≡ take l.index (records_of page))
