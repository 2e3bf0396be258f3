use Rattle.std.proofs.Common.{ℕ, List, refl, subst}
use Rattle.exh_map.specs.FileMap.{IsReplaced}
use Rattle.exhash.proofs.PendingStoreLemmas.{replaced_noted, stays}
use Rattle.exhash.proofs.store.Store.replace.Goals as goal

pub returns-clause-replaced : goal.returns-clause-replaced
returns-clause-replaced c =
    let with_key = subst (λ (key : List ℕ). IsReplaced c.args.self.now.map key c.in_ok-value.value c.in_ok-replaced.replaced c.replace.new.self) c.in_ok-key.ensures.bytes c.in_ok-replaced.ensures.replaced in
    subst (λ (value : List ℕ). IsReplaced c.args.self.now.map c.args.key.now value c.in_ok-replaced.replaced c.replace.new.self) c.in_ok-value.ensures.bytes with_key

pub returns-clause-pending : goal.returns-clause-pending
returns-clause-pending c =
    replaced_noted c.args.self.now.map c.replace.new.self c.args.self.now.pending c.note_replaced.new.self c.in_ok-replaced.ensures.settings _ _ c.in_ok-replaced.replaced c.in_ok-replaced.ensures.replaced c.note_replaced.ensures

pub returns-in_err-replaced-clause-pending : goal.returns-in_err-replaced-clause-pending
returns-in_err-replaced-clause-pending c =
    stays c.args.self.now.map c.replace.new.self c.args.self.now.pending c.args.self.now.pending c.in_err-replaced.ensures.settings refl c.in_err-replaced.ensures.err
