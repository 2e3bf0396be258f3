use Rattle.std.specs.Prelude.{ℕ}
use Rattle.exh_copy.specs.Additions.{AreOf}
use Rattle.exh_values.proofs.copies.name_pages.Given as goal

-- the readers are of the same copy as before
abbrev pub invariant-readers : goal.invariant-readers
invariant-readers l = (name : ℕ) → AreOf name l.fn.readers.items → AreOf name l.readers.items

abbrev pub invariant-bytes : goal.invariant-bytes
invariant-bytes l = (name : ℕ) → AreOf name l.fn.readers.items → AreOf name l.readers.items
