use Rattle.std.proofs.Common.{◌≡◌, ◌++◌, List, map}
use Rattle.std.specs.FinMap.{entries}
use Rattle.std.specs.List.{AllByRecursion}
use Rattle.exh_prefix.specs.Layout.{written_version}
use Rattle.exh_format.specs.declared.file_entry.FileEntry.{FileEntry}
use Rattle.exh_format.specs.TableImage.{IsFileEntry}
use Rattle.exh_stream.specs.Output.{SameWriter}
use Rattle.exh_format.specs.Writing.{TakesEntries, on_its_way}
use Rattle.exh_file.specs.Saved.{AreShort, file_entry}
use Rattle.exh_file.proofs.saving.write_entries.Given as goal

-- the entries so far went to the file
abbrev pub invariant-loop-prefix : goal.invariant-loop-prefix
invariant-loop-prefix g l = record {
  front : List FileEntry;
  split : map (file_entry l.ward) (entries l.table) ≡ front ++ map (file_entry l.ward) l.prefix-iterator;
  writer : SameWriter l.fn.output l.output;
  taken : TakesEntries g.W.Write.contents written_version (on_its_way l.fn.output l.fn.waiting) (on_its_way l.output l.waiting) front;
  valid : AllByRecursion (IsFileEntry written_version) front;
  short : AreShort (map (file_entry l.ward) l.prefix-iterator);
}
