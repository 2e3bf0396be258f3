use Rattle.std.proofs.Common.{◌≡◌, ◌==◌, count_by, rules, sym, ap, ◌∙◌}
use Rattle.std.specs.FinMap as map
use Rattle.exh_calls.specs.MapMachine.{sharing}
use Rattle.exh_prefix.specs.declared.prefix.TheConstants.{LIMIT}
use Rattle.exh_prefix.specs.Leading.{leading}
use Rattle.exh_model.specs.MachineState.{MachineState}
use Rattle.exh_model.proofs.PairLemmas.{Pair, count_by-keys}
use Rattle.exh_model.proofs.map_machine.MapMachine.sharing.Goals as goal

pub returns : goal.returns
returns g c =
    let pseudokey_of = g.K.Keyer.pseudokey_of in
    let pseudo = pseudokey_of c.self.inside.keyer in
    let key = c.args.key.now in
    let counted : c.count.result ≡ count_by (λ (pair : Pair). leading LIMIT (pseudo pair.0) == c.leading-leading.result) c.pairs.result.now = search rules in
    counted ∙ count_by-keys (λ other. leading LIMIT (pseudo other) == c.leading-leading.result) _ _ c.pairs.ensures
    ∙ ap (λ n. count_by (λ other. leading LIMIT (pseudo other) == n) (map.keys c.self.inside.map)) (c.leading-leading.ensures ∙ sym (ap (λ (w : MachineState g.row.K.Denot). leading LIMIT (pseudokey_of w.keyer key)) c.self.view_is))
    ∙ ap (λ (w : MachineState g.row.K.Denot). sharing (pseudokey_of w.keyer) w.map key) c.self.view_is
