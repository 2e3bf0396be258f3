use Rattle.std.proofs.Common.{ℕ, List, refl, subst}
use Rattle.exh_map.specs.FileMap.{IsRemoved}
use Rattle.exhash.proofs.PendingStoreLemmas.{removed_noted, stays}
use Rattle.exhash.proofs.store.Store.remove.Goals as goal

pub returns-clause-removed : goal.returns-clause-removed
returns-clause-removed c = subst (λ (key : List ℕ). IsRemoved c.args.self.now.map key c.in_ok-removed.removed c.remove.new.self) c.in_ok-key.ensures.bytes c.in_ok-removed.ensures.removed

pub returns-clause-pending : goal.returns-clause-pending
returns-clause-pending c =
    removed_noted c.args.self.now.map c.remove.new.self c.args.self.now.pending c.note_removed.new.self c.in_ok-removed.ensures.settings _ c.in_ok-removed.removed c.in_ok-removed.ensures.removed c.note_removed.ensures

pub returns-in_err-removed-clause-pending : goal.returns-in_err-removed-clause-pending
returns-in_err-removed-clause-pending c =
    stays c.args.self.now.map c.remove.new.self c.args.self.now.pending c.args.self.now.pending c.in_err-removed.ensures.settings refl c.in_err-removed.ensures.err
