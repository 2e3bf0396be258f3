-- What one change more leaves of leaves.
use Rattle.std.proofs.Common.{◌≡◌, Bool, List, [], ◌∷◌, ◌++◌, refl, sym, subst}
use Rattle.exh_notice.specs.declared.notice.Notice.{Notice}
use Rattle.exh_table.specs.Leaves.{PrefixSet, after_kind, leaves_after}

-- the last change comes last
pub leaves_after-push : (leaves : PrefixSet) (changes : List Notice) (change : Notice) → leaves_after leaves (changes ++ change ∷ []) ≡ after_kind (leaves_after leaves changes) change.prefix change.kind
leaves_after-push leaves [] change = refl
leaves_after-push leaves (first ∷ changes) change = leaves_after-push (after_kind leaves first.prefix first.kind) changes change

pub leaves_push_to : (leaves : PrefixSet) (changes : List Notice) (change : Notice) (prefix : List Bool)
    → leaves_after leaves (changes ++ change ∷ []) prefix → after_kind (leaves_after leaves changes) change.prefix change.kind prefix
leaves_push_to leaves changes change prefix is = subst (λ (set : PrefixSet). set prefix) (leaves_after-push leaves changes change) is

pub leaves_push_from : (leaves : PrefixSet) (changes : List Notice) (change : Notice) (prefix : List Bool)
    → after_kind (leaves_after leaves changes) change.prefix change.kind prefix → leaves_after leaves (changes ++ change ∷ []) prefix
leaves_push_from leaves changes change prefix is = subst (λ (set : PrefixSet). set prefix) (sym (leaves_after-push leaves changes change)) is
