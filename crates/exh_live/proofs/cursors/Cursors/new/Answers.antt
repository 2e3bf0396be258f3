use Rattle.std.proofs.Common.{◌≡◌}
use Rattle.exh_live.specs.CursorPlaceLemmas.{one_more}
use Rattle.exh_live.specs.Rounds.{changes_told}
use Rattle.exh_live.proofs.cursors.Cursors.new.Goals as goal

pub loop-number-preserved : goal.loop-number-preserved
loop-number-preserved g =
    one_more (λ number cursor. cursor ≡ changes_told g.args.ward_bits g.args.table.now number) g.loop-number.number g.loop-number.of_wards.items g.in_ok-changes_of.field-0 g.push.new.self.items g.loop-number.invariant g.in_ok-changes_of.ensures
    g.in_ok-push.ensures.items
