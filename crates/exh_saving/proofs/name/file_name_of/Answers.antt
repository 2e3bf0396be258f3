use Rattle.std.proofs.Common.{inl, inr, refl}
use Rattle.exh_saving.proofs.Slashes.{split_at_slash}
use Rattle.exh_saving.proofs.name.file_name_of.Goals as goal

pub returns-in-Some-clause-name : goal.returns-in-Some-clause-name
returns-in-Some-clause-name c =
    let split = rw c.in-Some.is at (split_at_slash c.args.path.now _ c.rsplit_once.ensures.cases) in
    (split.1, inr (_, split.0))

pub returns-in-None-clause-name : goal.returns-in-None-clause-name
returns-in-None-clause-name c = (rw c.in-None.is at (split_at_slash c.args.path.now _ c.rsplit_once.ensures.cases), inl refl)
