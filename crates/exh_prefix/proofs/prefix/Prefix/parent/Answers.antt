use Rattle.std.proofs.Common.{◌++◌, ◌∷◌, [], sym, ap, ◌∙◌, arith}
use Rattle.exh_prefix.specs.PrefixLemmas.{stored_length}
use Rattle.exh_prefix.proofs.Made.{parent_made}
use Rattle.exh_prefix.proofs.prefix.Prefix.parent.Goals as goal

pub overflow_sub-result-2 : goal.overflow_sub-result-2
overflow_sub-result-2 c =
    let len = stored_length _ _ _ c.self.view_is c.self.invariant in
    (parent_made c.args.self _ _ _ _ c.self-2.view_is c.self-2.invariant (omega arith) c.from.ensures c.is_right_child.ensures).within

pub invariant_of-result : goal.invariant_of-result
invariant_of-result c =
    let len = stored_length _ _ _ c.self.view_is c.self.invariant in
    (parent_made c.args.self _ _ _ _ c.self-2.view_is c.self-2.invariant (omega arith) c.from.ensures c.is_right_child.ensures).stored.invariant

pub returns-clause-some : goal.returns-clause-some
returns-clause-some c =
    let len = stored_length _ _ _ c.self.view_is c.self.invariant in
    let made = parent_made c.args.self _ _ _ _ c.self-2.view_is c.self-2.invariant (omega arith) c.from.ensures c.is_right_child.ensures in
    (made.last, made.split ∙ ap (λ parent. parent ++ made.last ∷ []) (sym made.stored.view_is))
