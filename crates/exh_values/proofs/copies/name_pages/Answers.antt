use Rattle.std.proofs.Common.{sym, subst}
use Rattle.exh_copy.specs.Additions.{AreOf}
use Rattle.exh_values.proofs.copies.name_pages.Goals as goal
use Rattle.exh_values.proofs.copies.name_pages.Goals.{else-bytes-test, then-bytes-test+else-is_none+else-byte-lt255}

pub returns-then-is_none : goal.returns-then-is_none
returns-then-is_none c = λ name are. c.look.ensures name (c.bytes.invariant name are)

pub bytes-preserved : goal.bytes-preserved
bytes-preserved c = λ name are. c.look.ensures name (c.bytes.invariant name are)

pub readers-preserved : goal.readers-preserved
readers-preserved c = elim c.bytes-test.branch [
  | else-bytes-test w ↦ λ name are. subst (λ readers. AreOf name readers.items) (sym w.readers-is) (c.bytes.invariant name are)
  | then-bytes-test+else-is_none+else-byte-lt255 w ↦ λ name are. subst (λ readers. AreOf name readers.items) (sym w.readers-is) (w.look.ensures name (c.bytes.invariant name are))
]
