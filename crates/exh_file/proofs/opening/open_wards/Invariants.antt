use Rattle.std.proofs.Common.{◌≡◌, ◌≤◌, ℕ, length, slice_get}
use Rattle.exh_file.specs.Opening.{AreOpened}
use Rattle.exh_file.proofs.opening.open_wards.Given as goal

-- the wards so far; what is still to be taken stands as it was
abbrev pub invariant-loop-number : goal.invariant-loop-number
invariant-loop-number g l = record {
  count : length l.wards.items ≡ l.number;
  opened : AreOpened g.M.Read.PageList.pages l.header l.fn.pages l.fn.tables l.wards.items;
  pages : (at : ℕ) → l.number ≤ at → slice_get l.pages at ≡ slice_get l.fn.pages at;
  tables : (at : ℕ) → l.number ≤ at → slice_get l.tables at ≡ slice_get l.fn.tables at;
}
