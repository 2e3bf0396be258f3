use Rattle.std.proofs.Common.{ℕ, List, subst}
use Rattle.exh_map.specs.FileMap.{IsGot}
use Rattle.exhash.proofs.store.Store.get.Goals as goal

pub returns-clause-got : goal.returns-clause-got
returns-clause-got c = subst (λ (key : List ℕ). IsGot c.args.self.now.map key c.in_ok-get.field-0 c.get.new.self) c.in_ok-key.ensures.bytes c.in_ok-get.ensures.got
