use Rattle.std.proofs.Common.{◌∙◌, ◌↔◌, ℕ, List, IsTrue, subst}
use Rattle.exh_paged.specs.OwnLog.{MayBeCopied}
use Rattle.exh_in_place.proofs.MemoryLemmas.{alone_now, expected_as, stands_as}
use Rattle.exh_in_place.proofs.in_memory.recovered.Goals as goal

pub returns-in-Ok-clause-alone : goal.returns-in-Ok-clause-alone
returns-in-Ok-clause-alone g c clean old found =
    let end = c.recover_files-recovered.result.1 in
    let same = c.in_ok-files.ensures.same in
    let log = c.may_be_copied.ensures.same_log.seen ∙ same.0 in
    let db = c.may_be_copied.ensures.same_db.seen ∙ same.1 in
    let alone = rw c.in-Ok.is at c.recover_files-recovered.ensures.ok in
    alone_now g.D.Disk (end.log, end.db) old clean (g.met.D.Disk.seen_may_stay end.log) (g.met.D.Disk.seen_may_stay end.db) (alone old (stands_as _ _ _ _ old log db found))

pub returns-in-Ok-clause-may : goal.returns-in-Ok-clause-may
returns-in-Ok-clause-may g c clean =
    let files = c.in_ok-files.files in
    let same = c.in_ok-files.ensures.same in
    let kept = rw c.in-Ok.is at c.recover_files-recovered.ensures.clean in
    let may = c.in_ok-may_copy.ensures.may (kept clean) in
    subst (λ (it : List ℕ). IsTrue c.in_ok-may_copy.may_copy ↔ MayBeCopied (record { log = g.D.Disk.seen c.args.files.log; db = it })) same.1
    (subst (λ (it : List ℕ). IsTrue c.in_ok-may_copy.may_copy ↔ MayBeCopied (record { log = it; db = g.D.Disk.seen files.db })) same.0 may)

pub returns-in-Ok-clause-expected : goal.returns-in-Ok-clause-expected
returns-in-Ok-clause-expected g c clean old found =
    let same = c.in_ok-files.ensures.same in
    let log = c.may_be_copied.ensures.same_log.seen ∙ same.0 in
    let db = c.may_be_copied.ensures.same_db.seen ∙ same.1 in
    let expected = rw c.in-Ok.is at c.recover_files-recovered.ensures.expected in
    expected_as c.args.expected _ _ _ _ old log db (expected clean old (stands_as _ _ _ _ old log db found))
