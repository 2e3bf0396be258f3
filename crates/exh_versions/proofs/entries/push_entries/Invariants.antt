use Rattle.std.proofs.Common.{◌≡◌, ◌++◌, List, map}
use Rattle.std.specs.FinMap.{entries}
use Rattle.exh_format.specs.declared.file_entry.FileEntry.{FileEntry}
use Rattle.exh_versions.specs.PlainFile.{file_entry}
use Rattle.exh_versions.proofs.entries.push_entries.Given as goal

-- the entries so far stand behind the others
abbrev pub invariant-loop-prefix : goal.invariant-loop-prefix
invariant-loop-prefix l = record {
  front : List FileEntry;
  split : map (file_entry l.ward) (entries l.table) ≡ front ++ map (file_entry l.ward) l.prefix-iterator;
  put : l.entries.items ≡ l.fn.entries.items ++ front;
}
