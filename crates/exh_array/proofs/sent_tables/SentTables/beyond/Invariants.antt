use Rattle.std.proofs.Common.{◌≡◌, length, slice_get, Some}
use Rattle.exh_table.specs.Table.{TableMap}
use Rattle.exh_table.specs.TableOrder.{IsTableUpTo, table_join}
use Rattle.exh_array.specs.Sent.{IsBefore, base_in, unpacked}
use Rattle.exh_array.specs.KnownCopy.{AreKnown}
use Rattle.exh_array.proofs.Unpacked.{height}
use Rattle.exh_array.proofs.sent_tables.SentTables.beyond.Given as goal

-- what is left to be joined is the table from which those that were joined go on
abbrev pub invariant-loop-next : goal.invariant-loop-next
invariant-loop-next l = record {
  within : IsBefore (length l.self) l.next;
  told : (start table : TableMap) → IsTableUpTo start l.own → AreKnown (unpacked start l.self) l.known l.own → slice_get (unpacked start l.self) l.place ≡ Some table
      → table_join (table_join l.own l.news) (base_in start (unpacked start l.self) l.next) ≡ table_join l.own table;
}

abbrev pub decreases-loop-next : goal.decreases-loop-next
decreases-loop-next l = height l.next
