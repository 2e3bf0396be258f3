use Rattle.std.proofs.Common.{◌≡◌, ℕ, ◌+◌, ◌≤◌, Bool, cond, ap, subst, arith}
use Rattle.exh_live.specs.Rounds.{AreKeeperTurns, IsSomeKeeperTurn}
use Rattle.exh_live.proofs.Rounds.{one_turn_more}
use Rattle.exh_live.proofs.live_file.LiveFile.keeper_round.Goals.{then-branch, else-branch}
use Rattle.exh_live.proofs.live_file.LiveFile.keeper_round.Goals as goal

one_counted : (now merges more : ℕ) → now ≡ merges + 1 → more ≡ 1 → now ≡ merges + more
one_counted now merges more is one = omega (arith, is, one)

none_counted : (now merges more : ℕ) → now ≡ merges → more ≡ 0 → now ≡ merges + more
none_counted now merges more is none = omega (arith, is, none)

one_more_few : (now merges page : ℕ) → merges ≤ page → now ≡ merges + 1 → now ≤ page + 1
one_more_few now merges page few is = omega (arith, few, is)

none_more_few : (now merges page : ℕ) → merges ≤ page → now ≡ merges → now ≤ page + 1
none_more_few now merges page few is = omega (arith, few, is)

pub loop-page-preserved : goal.loop-page-preserved
loop-page-preserved g c =
    let merged = c.in_ok-keep_counted.field-0 in
    let was = c.loop-page.invariant in
    let turn : IsSomeKeeperTurn g.K.Keyer.pseudokey_of c.args.ward c.loop-page.page merged = (_, _, c.in_ok-keep_counted.ensures.sound, c.in_ok-keep_counted.ensures.kept) in
    elim c.if-branch.branch [
      | then-branch w ↦
          let one = ap {B = ℕ} (λ (b : Bool). cond b 1 0) w.if-branch.true in
          record {
            turns = one_turn_more g.K.Keyer.pseudokey_of c.args.ward c.loop-page.page c.loop-page.merges c.if-branch.merges merged was.turns turn (one_counted _ _ _ w.merges-is one);
            few = one_more_few _ _ _ was.few w.merges-is;
          }
      | else-branch w ↦
          let none = ap {B = ℕ} (λ (b : Bool). cond b 1 0) w.if-branch.false in
          record {
            turns = one_turn_more g.K.Keyer.pseudokey_of c.args.ward c.loop-page.page c.loop-page.merges c.if-branch.merges merged was.turns turn (none_counted _ _ _ w.merges-is none);
            few = none_more_few _ _ _ was.few w.merges-is;
          }
    ]

pub returns-clause-round : goal.returns-clause-round
returns-clause-round g c =
    let all : c.loop-page.page ≡ c.in_ok-pages.pages = omega (arith, c.loop-page-test.false, c.loop-page.auto.page-end) in
    (c.in_ok-pages.pages, (_, c.in_ok-pages.ensures.sound, c.in_ok-pages.ensures.count), subst (λ pages. AreKeeperTurns g.K.Keyer.pseudokey_of c.args.ward pages c.loop-page.merges) all c.loop-page.invariant.turns)
