use Rattle.std.proofs.Common.{ℕ, List, refl, subst}
use Rattle.exh_map.specs.FileMap.{IsSwap}
use Rattle.exhash.proofs.PendingStoreLemmas.{stays, swap_noted}
use Rattle.exhash.proofs.store.Store.swap.Goals as goal

pub returns-clause-swapped : goal.returns-clause-swapped
returns-clause-swapped c =
    let with_key = subst (λ (key : List ℕ). IsSwap c.args.self.now.map key c.in_ok-old.old c.in_ok-new.new c.in_ok-swap.swap c.swap.new.self) c.in_ok-key.ensures.bytes c.in_ok-swap.ensures.swapped in
    let with_old = subst (λ (old : List ℕ). IsSwap c.args.self.now.map c.args.key.now old c.in_ok-new.new c.in_ok-swap.swap c.swap.new.self) c.in_ok-old.ensures.bytes with_key in
    subst (λ (new : List ℕ). IsSwap c.args.self.now.map c.args.key.now c.args.old.now new c.in_ok-swap.swap c.swap.new.self) c.in_ok-new.ensures.bytes with_old

pub returns-clause-pending : goal.returns-clause-pending
returns-clause-pending c =
    swap_noted c.args.self.now.map c.swap.new.self c.args.self.now.pending c.note_swap.new.self c.in_ok-swap.ensures.settings _ _ _ c.in_ok-swap.swap c.in_ok-swap.ensures.swapped c.note_swap.ensures

pub returns-in_err-swap-clause-pending : goal.returns-in_err-swap-clause-pending
returns-in_err-swap-clause-pending c =
    stays c.args.self.now.map c.swap.new.self c.args.self.now.pending c.args.self.now.pending c.in_err-swap.ensures.settings refl c.in_err-swap.ensures.err
