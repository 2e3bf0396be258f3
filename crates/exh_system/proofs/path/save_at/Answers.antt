use Rattle.std.proofs.Common.{inl, inr}
use Rattle.exh_file.specs.LeftLemmas.{draft_as_it_was}
use Rattle.exh_system.proofs.path.save_at.Goals as goal

-- where nothing was written they are the same wards
pub returns-clause-wards : goal.returns-clause-wards
returns-clause-wards g c = elim c.save-saved.ensures.source [
  | inl same ↦ rw same (draft_as_it_was c.args.draft)
  | inr left ↦ left
]

-- the target is of the path, and of the opened file
pub returns-clause-crash : goal.returns-clause-crash
returns-clause-crash g c = rw (c.target_at.ensures.path, c.target_at.ensures.magic, c.target_at.ensures.seen) at c.save-saved.ensures.crash

pub returns-clause-err : goal.returns-clause-err
returns-clause-err g c = rw (c.target_at.ensures.path, c.target_at.ensures.magic, c.target_at.ensures.seen) at c.save-saved.ensures.err
