use Rattle.std.proofs.Common.{◌≡◌, replicate}
use Rattle.exh_array.specs.KeptCopies.{tables_of}
use Rattle.exh_array.proofs.KeptCopies.{AreFresh}
use Rattle.exh_array.proofs.copies.Copies.new.Given as goal

-- so many copies so far, each at the start
abbrev pub invariant-loop : goal.invariant-loop
invariant-loop l = record {
  fresh : AreFresh l.fn.start l.copies.items;
  tables : tables_of l.copies.items ≡ replicate l.counter l.fn.start.table;
}
