use Rattle.std.proofs.Common.{◌≡◌, ◌<◌, ◌^◌, List, [], length, ℕ, ap, arith}
use Rattle.std.proofs.lemmas.List.Elements.{All-nil, All-same}
use Rattle.exh_notice.specs.declared.notice.Notice.{Notice}
use Rattle.exh_live.specs.LiveFile.{LiveState}
use Rattle.exh_live.specs.Rounds.{AreCarried, IsSomeWardsNotice}
use Rattle.exh_live.proofs.Rounds.{one_cursor_more}
use Rattle.exh_live.proofs.live_file.LiveFile.notices_after.Goals as goal

none_of_none : (notices : List Notice) (lasts : List ℕ) → notices ≡ [] → lasts ≡ [] → AreCarried 0 [] notices lasts
none_of_none notices lasts none no_last = (none, no_last)

pub loop-number-init : goal.loop-number-init
loop-number-init g c = record {
  carried = none_of_none c.new-notices.result.items c.new-lasts.result.items c.new-notices.ensures.items c.new-lasts.ensures.items;
  wards = All-same (IsSomeWardsNotice g.K.Keyer.pseudokey_of) c.new-notices.result.items [] c.new-notices.ensures.items (All-nil (IsSomeWardsNotice g.K.Keyer.pseudokey_of));
}

pub loop-number-preserved : goal.loop-number-preserved
loop-number-preserved g c =
    let was = c.loop-number.invariant in
    let pushed = c.in_ok-push_of_ward.ensures.pushed in
    let within : c.loop-number.number < length c.args.cursors.now = omega (arith, c.loop-number-test.true, c.requires, ap (λ (file : LiveState g.row.K.Denot). 2 ^ file.ward_bits) c.self.view_is) in
    record {
      carried =
          one_cursor_more c.args.cursors.now c.loop-number.number c.loop-number.notices.items pushed.0 c.push_of_ward.new.notices.items c.loop-number.lasts.items c.push.new.self.items c.in_ok-push_of_ward.field-0 within was.carried c.from.result c.from.ensures pushed.1
          pushed.2 c.in_ok-push.ensures.items;
      wards = c.in_ok-push_of_ward.ensures.wards was.wards;
    }
