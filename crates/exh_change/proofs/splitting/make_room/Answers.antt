use Rattle.std.proofs.Common.{refl, ◌∙◌}
use Rattle.exh_change.proofs.OfFile.{other_fault}
use Rattle.exh_change.proofs.EditPlaces.{grown_more, grown_none, longer_in}
use Rattle.exh_change.proofs.Rooms.{later_more, no_step, overflow_full, overflow_sets, overflow_short, room_more}
use Rattle.exh_change.proofs.splitting.make_room.Goals as goal

pub returns-in_err-home-clause-legal : goal.returns-in_err-home-clause-legal
returns-in_err-home-clause-legal g c base file knows is tables legal home =
    let way = c.loop-alloc.invariant in
    let room = way.legal base file knows is tables legal home in
    let full = overflow_full c.loop-alloc.draft.header.settings.cap c.args.pseudokey c.loop-alloc.home.page c.args.call.now (c.overflows.ensures.0 c.loop-alloc-test.true) in
    other_fault c.from_residual.result c.in_err-home.field-0.0 _ c.from_residual.ensures.1
    (c.in_err-home.ensures.legal base room.new (way.same ∙ knows) room.at.is room.step.tables room.step.legal room.at.own full)

pub loop-alloc-preserved : goal.loop-alloc-preserved
loop-alloc-preserved g c =
    let way = c.loop-alloc.invariant in
    record {
      same = c.in_ok-home.ensures.same_bytes ∙ way.same;
      later = later_more c.args.draft.now c.loop-alloc.draft c.split.new.draft way.later c.in_ok-home.ensures.later;
      sound = c.in_ok-home.ensures.sound;
      home_of = c.in_ok-home.ensures.home;
      still = λ none. absurd (overflow_sets c.loop-alloc.draft.header.settings.cap c.args.pseudokey c.loop-alloc.home.page c.args.call.now (c.overflows.ensures.0 c.loop-alloc-test.true) none);
      grown = λ none.
          (let first = c.args.home in
          let home = c.loop-alloc.home in
          let next = c.in_ok-home.home in
          let over = c.overflows.ensures.0 c.loop-alloc-test.true in
          grown_more first home next c.loop-alloc.draft c.split.new.draft (way.grown none) c.in_ok-home.ensures.halved
          (longer_in home.page next.page c.args.pseudokey way.home_of.own c.in_ok-home.ensures.home.own c.in_ok-home.ensures.longer)
          (overflow_short c.loop-alloc.draft.header.settings.cap c.args.pseudokey home.page c.args.call.now over));
      legal = λ base file knows is tables legal home.
          (let room = way.legal base file knows is tables legal home in
          let full = overflow_full c.loop-alloc.draft.header.settings.cap c.args.pseudokey c.loop-alloc.home.page c.args.call.now (c.overflows.ensures.0 c.loop-alloc-test.true) in
          room_more base file room.new c.split.new.draft c.args.pseudokey c.in_ok-home.home room.step (c.in_ok-home.ensures.legal base room.new (way.same ∙ knows) room.at.is room.step.tables room.step.legal room.at.own full));
    }

pub loop-alloc-init : goal.loop-alloc-init
loop-alloc-init g c = record {
  same = refl;
  later = record { first = refl; settings = refl; stamp = refl };
  sound = c.requires.sound;
  home_of = c.requires.home;
  still = λ none. (refl, refl);
  grown = grown_none c.args.draft.now c.args.home;
  legal = λ base file knows is tables legal home. record { new = file; at = record { is = is; own = home }; step = no_step file tables legal };
}
