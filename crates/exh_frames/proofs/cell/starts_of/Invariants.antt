use Rattle.std.proofs.Common.{◌≡◌, ℕ, ◌+◌, ◌≤◌, length, take, get_or}
use Rattle.exh_page.specs.declared.page.Page.{Page}
use Rattle.exh_page.specs.Page.{records_of}
use Rattle.exh_frames.specs.InPlace.{HasContent, bytes_of}
use Rattle.exh_frames.proofs.cell.starts_of.Given as goal

-- so many of the records begin there
abbrev pub invariant-loop-index : goal.invariant-loop-index
invariant-loop-index l = record {
  len : length l.starts ≡ 17;
  at : (page : Page) → HasContent l.block page → (i : ℕ) → i ≤ l.index → get_or l.starts i 0 ≡ 16 + length (bytes_of (take i (records_of page)));
}
