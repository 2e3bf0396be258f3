use Rattle.std.proofs.Common.{◌*◌, drop}
use Rattle.exh_prefix.specs.Layout.{layout}
use Rattle.exh_format.specs.TableImage.{AreEntries}
use Rattle.exh_format.proofs.table_block.entries_of.Given as goal

abbrev pub invariant-loop-i : goal.invariant-loop-i
invariant-loop-i l = AreEntries (layout l.fn.version) l.i l.bytes l.entries.items (drop (16 * l.i) l.bytes)
