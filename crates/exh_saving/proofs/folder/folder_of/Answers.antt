use Rattle.std.proofs.Common.{inl, inr, refl}
use Rattle.exh_saving.proofs.Slashes.{split_at_slash}
use Rattle.exh_saving.proofs.folder.folder_of.Goals as goal

pub returns-in-Some : goal.returns-in-Some
returns-in-Some c =
    let split = rw c.in-Some.is at (split_at_slash c.args.path.now _ c.rsplit_once.ensures.cases) in
    inr (c.in-Some.before.now, _, split.0, split.1, c.folder_named.ensures)

pub returns-in-None : goal.returns-in-None
returns-in-None c = inl (rw c.in-None.is at (split_at_slash c.args.path.now _ c.rsplit_once.ensures.cases), refl)
