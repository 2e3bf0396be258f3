use Rattle.std.specs.Prelude.{◌≡◌, ◌≤◌, length, take}
use Rattle.beside_live.proofs.written_ward.reopened.Given as goal

-- the pages so far, of a ward that stays as it is
abbrev pub invariant-loop-number : goal.invariant-loop-number
invariant-loop-number l = record {
  within : l.number ≤ length l.fn.ward.pages;
  pages : l.pages.items ≡ take l.number l.fn.ward.pages;
  ward : l.ward ≡ l.fn.ward;
}
