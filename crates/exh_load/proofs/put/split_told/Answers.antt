use Rattle.std.proofs.Common.{[], ◌∷◌, refl, rules}
use Rattle.exh_ward.specs.WardFault.{IsStoreFault}
use Rattle.exh_file.specs.FullPageLemmas.{refused_full}
use Rattle.exh_file.specs.WardChange.{AreSplitsAtMost}
use Rattle.exh_load.proofs.put.split_told.Goals as goal

pub returns-in_err-notice-clause-err : goal.returns-in_err-notice-clause-err
returns-in_err-notice-clause-err g c =
    let fact : AreSplitsAtMost c.args.ward.now c.split.new.self = record { splits = []; split = c.args.ward.now; run = refl; else_same = c.in_err-notice.ensures.err } in
    search rules

pub returns-in_err-notice-clause-fault : goal.returns-in_err-notice-clause-fault
returns-in_err-notice-clause-fault g c =
    let fact : IsStoreFault c.in_err-notice.field-0.0 = refused_full c.args.ward.now c.args.at c.requires.full c.in_err-notice.field-0.0 c.in_err-notice.ensures.refused in
    search rules

pub returns-in_err-take-clause-err : goal.returns-in_err-take-clause-err
returns-in_err-take-clause-err g c =
    let fact : AreSplitsAtMost c.args.ward.now c.split.new.self = record {
      splits = (c.args.at, c.in_ok-notice.notice) ∷ [];
      split = c.split.new.self;
      run = (c.args.ward.now, refl, c.in_ok-notice.ensures.ok);
      else_same = refl;
    } in
    search rules
