use Rattle.std.proofs.Common.{◌∙◌, sym, subst}
use Rattle.sqlite_disk.specs.Modelled.{start_of}
use Rattle.exh_in_place.specs.SystemFiles.{IsOnDisk}
use Rattle.exh_in_place.proofs.FreshFiles.{only_fresh}
use Rattle.exh_in_place.proofs.system_files.seen.Goals as goal

pub returns-in-Ok-clause-on_disk : goal.returns-in-Ok-clause-on_disk
returns-in-Ok-clause-on_disk g c =
    let log = c.args.files.log in
    let db = c.args.files.db in
    let fresh = c.requires.fresh in
    let reads = c.in-Ok.ensures.seen.0 in
    let log_left : IsOnDisk g.S.Start log = only_fresh g.S.Start.is_mixing (start_of g.S.Start log) _ log.calls.log.events fresh.0.1 in
    let db_left : IsOnDisk g.S.Start db = only_fresh g.S.Start.is_mixing (start_of g.S.Start db) _ db.calls.log.events fresh.1.1 in (
      λ left may. log_left left (reads.crash left may) ∙ sym reads.seen,
      subst (λ file. IsOnDisk g.S.Start file) (sym c.in-Ok.ensures.seen.1) db_left,
    )
