use Rattle.std.proofs.Common.{◌≡◌, ◌≤◌, IfOk, length, subst, arith}
use Rattle.exh_page.proofs.Begun.{begun_run, bounds_in_order}
use Rattle.exh_page.proofs.packed_records.PackedRecords.begun_by.Goals as goal

pub run-requires-clause-order : goal.run-requires-clause-order
run-requires-clause-order c = bounds_in_order c.args.prefix c.args.self.now _ _ c.first_from-from.ensures.cut c.first_from-to.ensures.cut

pub returns : goal.returns
returns c =
    let short : length c.args.prefix ≤ 64 = omega (arith, c.len.ensures.length, c.len.ensures.limit) in
    let run = begun_run c.args.prefix c.args.self.now _ _ short c.first_from-from.ensures.words c.first_from-from.ensures.cut c.first_from-to.ensures.cut in
    subst (λ list. IfOk c.run.result (λ records. records ≡ list)) run c.run.ensures
