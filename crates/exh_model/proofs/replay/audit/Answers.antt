use Rattle.std.proofs.Common.{◌≡◌, ◌∷◌, ◌++◌, [], refl, sym, ap, ◌∙◌, append_assoc, subst, rules}
use Rattle.std.proofs.lemmas.Bool.{false≢true}
use Rattle.exh_calls.specs.History.{IsHistory, map_left}
use Rattle.exh_calls.specs.HistoryLemmas.{IsHistory-push, map_left-push}
use Rattle.exh_calls.specs.MapMachine.{reply_of, map_after}
use Rattle.exh_page.specs.KeyMap.{KeyMap}
use Rattle.exh_model.specs.MachineState.{MachineState}
use Rattle.exh_model.proofs.Beginnings.{reply_behind}
use Rattle.exh_model.proofs.replay.audit.Goals as goal

pub returns-then-ne : goal.returns-then-ne
returns-then-ne g c =
    let pseudo = g.K.Keyer.pseudokey_of c.args.keyer.now in
    let left = map_left c.args.cap pseudo c.args.base.now c.loop-entry.yielded in
    let differ : c.in_ok-answer.field-0 ≡ c.in-Some.entry.reply → ⊥ = search rules in
    let replied : c.in_ok-answer.field-0 ≡ reply_of c.args.cap pseudo left c.in-Some.entry.call = c.in_ok-answer.ensures.reply ∙ ap (λ (m : MachineState g.row.K.Denot). reply_of m.cap (g.K.Keyer.pseudokey_of m.keyer) m.map c.in-Some.entry.call) c.loop-entry.invariant.machine in
    let whole = c.loop-entry.invariant.all ∙ ap (λ rest. c.loop-entry.yielded ++ rest) c.in-Some.ensures.steps in (
      λ is. absurd (false≢true is),
      λ history. absurd (differ (replied ∙ sym (reply_behind c.args.cap pseudo c.args.base.now c.loop-entry.yielded c.next.new.self c.in-Some.entry (subst (IsHistory c.args.cap pseudo c.args.base.now) whole history)))),
    )

pub loop-entry-preserved : goal.loop-entry-preserved
loop-entry-preserved g c =
    let pseudo = g.K.Keyer.pseudokey_of c.args.keyer.now in
    let yielded = c.loop-entry.yielded in
    let entry = c.in-Some.entry in
    let left = map_left c.args.cap pseudo c.args.base.now yielded in
    let same : c.in_ok-answer.field-0 ≡ entry.reply = search rules in
    let replied : c.in_ok-answer.field-0 ≡ reply_of c.args.cap pseudo left entry.call = c.in_ok-answer.ensures.reply ∙ ap (λ (m : MachineState g.row.K.Denot). reply_of m.cap (g.K.Keyer.pseudokey_of m.keyer) m.map entry.call) c.loop-entry.invariant.machine in
    record {
      all = c.loop-entry.invariant.all ∙ ap (λ rest. yielded ++ rest) c.in-Some.ensures.steps ∙ sym (append_assoc yielded (entry ∷ []) c.next.new.self);
      machine =
          c.in_ok-answer.ensures.ok
          ∙ ap (λ (m : MachineState g.row.K.Denot). record m { map = map_after m.cap (g.K.Keyer.pseudokey_of m.keyer) m.map entry.call }) c.loop-entry.invariant.machine
          ∙ ap (λ (m : KeyMap). record { cap = c.args.cap; keyer = c.args.keyer.now; map = m }) (sym (map_left-push c.args.cap pseudo c.args.base.now yielded entry));
      history = IsHistory-push c.args.cap pseudo c.args.base.now yielded entry c.loop-entry.invariant.history (sym same ∙ replied);
    }
