use Rattle.std.proofs.Common.{take}
use Rattle.exh_live.specs.Rounds.{AreCarried, AreSomeWardsNotices}
use Rattle.exh_live.proofs.live_file.LiveFile.notices_after.Given as goal

-- the notices and cursors of the wards so far, which are the wards' own
abbrev pub invariant-loop-number : goal.invariant-loop-number
invariant-loop-number g l = record {
  carried : AreCarried 0 (take l.number l.cursors) l.notices.items l.lasts.items;
  wards : AreSomeWardsNotices g.K.Keyer.pseudokey_of l.notices.items;
}
