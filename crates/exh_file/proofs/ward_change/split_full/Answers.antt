use Rattle.std.proofs.Common.{[], refl, rules}
use Rattle.exh_stream.specs.OutputLemmas.{OnErr-from}
use Rattle.exh_ward.specs.WardFault.{IsStoreFault}
use Rattle.exh_file.specs.FullPageLemmas.{refused_full}
use Rattle.exh_file.proofs.ward_change.split_full.Goals as goal

pub returns-in_err-split-clause-err : goal.returns-in_err-split-clause-err
returns-in_err-split-clause-err g c =
    OnErr-from c.from_residual.result (record { splits = []; split = c.args.ward.now; run = refl; else_same = c.in_err-split.ensures.err })

pub returns-in_err-split-clause-fault : goal.returns-in_err-split-clause-fault
returns-in_err-split-clause-fault g c =
    let fact : IsStoreFault c.in_err-split.field-0.0 = refused_full c.args.ward.now c.args.at c.requires c.in_err-split.field-0.0 c.in_err-split.ensures.refused in
    search rules
