use Rattle.std.proofs.Common.{sym, subst}
use Rattle.exh_copy.specs.Additions.{AreOf}
use Rattle.exh_values.proofs.copies.is_story.Goals as goal
use Rattle.exh_values.proofs.copies.is_story.Goals.{then-len-from, else-len-from}

pub play-requires : goal.play-requires
play-requires g c = elim c.if-len-from.branch [
  | then-len-from w ↦ subst (λ readers. AreOf c.in-Some.writer.name readers.items) (sym w.readers-is) (w.name_pages.ensures c.in-Some.writer.name c.in-Some.ensures)
  | else-len-from w ↦ subst (λ readers. AreOf c.in-Some.writer.name readers.items) (sym w.readers-is) c.in-Some.ensures
]
