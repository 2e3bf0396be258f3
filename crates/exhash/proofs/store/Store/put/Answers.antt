use Rattle.std.proofs.Common.{ℕ, List, refl, subst}
use Rattle.exh_map.specs.FileMap.{IsPut}
use Rattle.exhash.proofs.PendingStoreLemmas.{put_noted, stays}
use Rattle.exhash.proofs.store.Store.put.Goals as goal

pub returns-clause-put : goal.returns-clause-put
returns-clause-put c =
    let with_key = subst (λ (key : List ℕ). IsPut c.args.self.now.map key c.in_ok-value.value c.in_ok-put.put c.put.new.self) c.in_ok-key.ensures.bytes c.in_ok-put.ensures.put in
    subst (λ (value : List ℕ). IsPut c.args.self.now.map c.args.key.now value c.in_ok-put.put c.put.new.self) c.in_ok-value.ensures.bytes with_key

pub returns-clause-pending : goal.returns-clause-pending
returns-clause-pending c =
    put_noted c.args.self.now.map c.put.new.self c.args.self.now.pending c.note_put.new.self c.in_ok-put.ensures.settings _ _ c.in_ok-put.put c.in_ok-put.ensures.put c.note_put.ensures

pub returns-in_err-put-clause-pending : goal.returns-in_err-put-clause-pending
returns-in_err-put-clause-pending c =
    stays c.args.self.now.map c.put.new.self c.args.self.now.pending c.args.self.now.pending c.in_err-put.ensures.settings refl c.in_err-put.ensures.err
