use Rattle.std.proofs.Common.{◌∙◌, [], arith, inl, inr, subst, take_all}
use Rattle.std.proofs.lemmas.List.Elements.{All-more}
use Rattle.std.specs.List.{All}
use Rattle.std.specs.Option.{option_copied}
use Rattle.exh_saving.specs.Claimed.{IsTakenBeside}
use Rattle.exh_saving.specs.Names.{suffixes}
use Rattle.exh_saving.proofs.claiming.claim.Goals as goal

-- one name more is taken
pub loop-turn-preserved : goal.loop-turn-preserved
loop-turn-preserved g c =
    let answers = g.D.Disk.answers in
    let path = c.args.path.now in
    let old = option_copied c.args.old in
    let beside = rw c.suffix_of.ensures at c.in-Ok.ensures.cut in
    let none = rw c.in_default-2.is at c.in_ok-file.ensures.taken in
    let taken = rw c.deref.ensures at none in
    record {
      same = c.claim_name.ensures.crash ∙ c.loop-turn.invariant.same;
      taken = All-more (IsTakenBeside answers path old) suffixes c.loop-turn.turn [] (omega arith) c.loop-turn.invariant.taken (_, beside, taken);
    }

-- each name was tried
pub returns-in-Ok-names_beside-clause-err : goal.returns-in-Ok-names_beside-clause-err
returns-in-Ok-names_beside-clause-err g c =
    let answers = g.D.Disk.answers in
    let all = take_all c.loop-turn.turn suffixes (omega (arith, c.loop-turn-test.false)) in
    inr (inl (subst (All (IsTakenBeside answers c.args.path.now (option_copied c.args.old))) all c.loop-turn.invariant.taken))
