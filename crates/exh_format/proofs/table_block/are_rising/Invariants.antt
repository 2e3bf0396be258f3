use Rattle.std.proofs.Common.{◌++◌, take}
use Rattle.std.specs.Option.{option_to_list}
use Rattle.exh_format.specs.TableImage.{AreRising, prefixes_of}
use Rattle.exh_format.proofs.Rising.{IsLast}
use Rattle.exh_format.proofs.table_block.are_rising.Given as goal

abbrev pub invariant-loop-item : goal.invariant-loop-item
invariant-loop-item l = record {
  rising : AreRising (option_to_list l.fn.before ++ prefixes_of (take l.item-index l.entries));
  last : IsLast (option_to_list l.fn.before ++ prefixes_of (take l.item-index l.entries)) l.last;
}
