use Rattle.std.proofs.Common.{get_or, refl}
use Rattle.exh_compact.specs.Text.{ward_text}
use Rattle.exh_compact.specs.declared.ward_counts.WardCounts.{WardCounts}
use Rattle.exh_compact.proofs.Told.{drop_at, told_all, told_next}
use Rattle.exh_compact.proofs.text.push_wards.Goals as goal

pub loop-number-init : goal.loop-number-init
loop-number-init c = record { whole = refl }

pub loop-number-preserved : goal.loop-number-preserved
loop-number-preserved c =
    let wards = c.args.wards.now in
    let at = c.loop-number.number in
    let none : WardCounts = record { pages = 0; records = 0 } in
    told_next ward_text wards c.args.out.now.items c.loop-number.out.items c.push_ward.new.out.items at (get_or wards at none) c.loop-number.invariant
    (drop_at wards at none c.loop-number-test.true) c.in_ok-push_ward.ensures

pub returns : goal.returns
returns c = told_all ward_text c.args.wards.now c.args.out.now.items c.loop-number.out.items c.loop-number.number c.loop-number.invariant c.loop-number-test.false
