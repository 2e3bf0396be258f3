use Rattle.std.proofs.Common.{◌≡◌, length}
use Rattle.exh_table.specs.Table.{TableMap}
use Rattle.exh_array.specs.Sent.{IsBefore, unpacked}
use Rattle.exh_array.specs.KnownCopy.{AreKnown, IsNoted, IsSentUpTo, forgotten}
use Rattle.exh_array.proofs.Unpacked.{height, IsNextUpTo}
use Rattle.exh_array.proofs.sent_tables.SentTables.note_back.Given as goal

-- those that were noted are known, and the next one may be noted
abbrev pub invariant-loop-next : goal.invariant-loop-next
invariant-loop-next l = record {
  within : IsBefore (length l.self) l.next;
  known : (start own : TableMap) → AreKnown (unpacked start l.self) l.fn.known own → IsSentUpTo (unpacked start l.self) own l.place → AreKnown (unpacked start l.self) l.known own;
  next : (start own : TableMap) → IsSentUpTo (unpacked start l.self) own l.place → IsNextUpTo (unpacked start l.self) own l.next;
  noted : IsNoted l.known l.place;
  back : forgotten l.noted.items l.known ≡ forgotten l.fn.noted.items l.fn.known;
}

abbrev pub decreases-loop-next : goal.decreases-loop-next
decreases-loop-next l = height l.next
