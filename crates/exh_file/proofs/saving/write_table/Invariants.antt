use Rattle.std.proofs.Common.{take}
use Rattle.std.specs.List.{AllByRecursion}
use Rattle.exh_prefix.specs.Layout.{written_version}
use Rattle.exh_format.specs.TableImage.{IsFileEntry}
use Rattle.exh_stream.specs.Output.{SameWriter}
use Rattle.exh_format.specs.Writing.{TakesEntries, on_its_way}
use Rattle.exh_file.specs.Saved.{entries_of_all}
use Rattle.exh_file.proofs.saving.write_table.Given as goal

-- the entries of the wards so far went to the file
abbrev pub invariant-loop-number : goal.invariant-loop-number
invariant-loop-number g l = record {
  writer : SameWriter l.fn.output l.output;
  taken : TakesEntries g.W.Write.contents written_version (on_its_way l.fn.output l.fn.waiting) (on_its_way l.output l.waiting) (entries_of_all (take l.number l.wards));
  valid : AllByRecursion (IsFileEntry written_version) (entries_of_all (take l.number l.wards));
}
