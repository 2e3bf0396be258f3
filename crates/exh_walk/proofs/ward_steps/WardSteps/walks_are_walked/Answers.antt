use Rattle.std.proofs.Common.{subst}
use Rattle.exh_legal.specs.LegalLaws.{IsBelow}
use Rattle.exh_prefix.specs.Prefix.{Begins}
use Rattle.exh_calls.specs.Call.{key_of}
use Rattle.exh_ward.specs.WardState.{own_prefix}
use Rattle.exh_walk.specs.RouteLaws.{CanGoOn, EndsAtHome}
use Rattle.exh_walk.specs.CallerWalk.{IsWalked}
use Rattle.exh_walk.specs.WardStep.{IsWardStep}
use Rattle.exh_walk.proofs.Journals.{ward_walked}
use Rattle.exh_walk.proofs.WaysHome.{held_in_turn, passes_in_turn}
use Rattle.exh_walk.proofs.ward_steps.WardSteps.walks_are_walked.Goals as goal

pub returns : goal.returns
returns g c = λ at client call pseudokey answer after serves walk.
    let pseudokey_of = g.K.Keyer.pseudokey_of in
    let ward = c.args.self.now in
    let may = g.G.Gate.may c.args._gate.now client in
    let k = pseudokey_of ward.keyer (key_of call) in
    let covered : Begins (own_prefix ward) k = subst (Begins (own_prefix ward)) serves.0 serves.1 in
    let own : IsWalked (IsWardStep pseudokey_of) may ward at client call k answer after = subst (λ word. IsWalked (IsWardStep pseudokey_of) may ward at client call word answer after) serves.0 walk in
    let home : IsBelow ward.pages at k → EndsAtHome ward.cap (pseudokey_of ward.keyer) ward.pages at call = λ below.
    let on : CanGoOn (own_prefix ward) ward.pages at k = record { linked = c.journal.ensures.sound.legal.legal.legal.linked; word = g.met.K.Keyer.pseudokey_fits ward.keyer (key_of call); covered = covered; below = below } in
    c.gets_go_home.ensures.calls ward.cap (pseudokey_of ward.keyer) (own_prefix ward) ward.pages at call on in
    record {
      walked = ward_walked pseudokey_of may ward _ at client call _ _ c.journal.ensures.sound own;
      held = λ gets distance below is.
          let exact = c.one_distance.ensures ward.pages at k distance _ is (home below).way.distance in
          held_in_turn pseudokey_of c.one_hop.ensures ward at client call _ gets (home below) may distance exact _ _ own;
      answered = λ gets distance reply below is.
          let exact = c.one_distance.ensures ward.pages at k distance _ is (home below).way.distance in
          passes_in_turn pseudokey_of c.one_hop.ensures ward at client call _ gets (home below) may distance exact _ _ own reply;
    }
