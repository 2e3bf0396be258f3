use Rattle.std.proofs.Common.{rules, ◌≡◌, ◌≤◌, ◌⊎◌, inl, inr, true, Bool, List, [], ◌∷◌, ◌++◌, length, sym, ◌∙◌, arith}
use Rattle.std.proofs.lemmas.List.{take_all}
use Rattle.exh_prefix.specs.Prefix.{IsFront}
use Rattle.exh_legal.proofs.left_half.LeftHalf.of.Goals.{then-len-via-then-len, then-len-via-else-len+then-is_right_child}
use Rattle.exh_legal.proofs.left_half.LeftHalf.of.Goals as goal

front_whole : (own prefix : List Bool) → IsFront own prefix → length prefix ≤ length own → prefix ≡ own
front_whole own prefix is short = sym (take_all (length own) prefix short) ∙ is

pub returns-then-len-clause-err : goal.returns-then-len-clause-err
returns-then-len-clause-err c =
    let front = c.requires c.in-Live.prefix c.in-Live.right c.in-Live.count c.in-Live.is in
    let why : (c.in-Live.prefix ≡ c.args.own) ⊎ ((parent : List Bool) × (c.in-Live.prefix ≡ parent ++ true ∷ [])) =
    elim c.then-len.branch [
      | then-len-via-then-len w ↦ inl (front_whole c.args.own c.in-Live.prefix front (omega (arith, w.if-len.true, c.len.ensures.length, c.len-in-Live.ensures.length)))
      | then-len-via-else-len+then-is_right_child w ↦ inr (w.is_right_child.ensures.0 (search rules))
    ] in
    (c.in-Live.prefix, c.in-Live.right, c.in-Live.count, c.in-Live.is, why)
