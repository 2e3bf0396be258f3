use Rattle.std.proofs.Common.{◌≡◌, IsTrue, take}
use Rattle.sqlite_wal.specs.State.{Keeps}
use Rattle.sqlite_pager.specs.Pager.{page_count, state}
use Rattle.exh_edits.specs.BlockEdits.{with_edits}
use Rattle.exh_edits.specs.EditsInTurn.{AreInTurn}
use Rattle.exh_commit.specs.PagedFile.{bytes_seen}
use Rattle.exh_commit.proofs.writing.write_all.Given as goal

abbrev pub invariant-loop-edit : goal.invariant-loop-edit
invariant-loop-edit g l = record {
  keeps : Keeps (state l.fn.pager) (state l.pager);
  turn : AreInTurn (page_count l.fn.pager) (take l.edit-index l.edits) (page_count l.pager);
  ok : IsTrue (state l.pager).is_open → bytes_seen l.pager ≡ with_edits (take l.edit-index l.edits) (bytes_seen l.fn.pager);
}
