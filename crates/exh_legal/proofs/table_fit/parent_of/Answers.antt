use Rattle.std.proofs.Common.{◌≡◌, ℕ, ◌<◌, ◌≤◌, Bool, true, List, [], ◌∷◌, ◌++◌, Option, length, sym, ap, ◌∙◌, subst, arith}
use Rattle.std.specs.Prelude.{MatchOption}
use Rattle.std.proofs.lemmas.List.{same_from_push}
use Rattle.exh_prefix.specs.Prefix.{low_of}
use Rattle.exh_prefix.specs.declared.prefix.TheConstants.{LIMIT}
use Rattle.exh_legal.proofs.Fits.{no_parent, no_prefix, step_up, whole_prefix}
use Rattle.exh_legal.proofs.table_fit.parent_of.Goals as goal

pub returns-in_err-prefix : goal.returns-in_err-prefix
returns-in_err-prefix c =
    let P : Option (List Bool) → Type 0 = λ found. MatchOption found ((parent : List Bool) → length parent < LIMIT → low_of (parent ++ true ∷ []) ≡ c.args.low → ⊥) (λ parent. (length parent < LIMIT) × (low_of (parent ++ true ∷ []) ≡ c.args.low)) in
    subst P (sym c.from_residual.ensures) (no_prefix c.new.result c.args.low c.new.ensures c.in_err-prefix.was)

right_child_of : (prefix parent : List Bool) (low : ℕ) → (bit : Bool) × (prefix ≡ parent ++ bit ∷ []) → (own : List Bool) × (prefix ≡ own ++ true ∷ []) → low_of prefix ≡ low → low_of (parent ++ true ∷ []) ≡ low
right_child_of prefix parent low child right same =
    let last = (same_from_push parent right.0 child.0 true (sym child.1 ∙ right.1)).1 in
    sym (ap low_of (child.1 ∙ ap (λ bit. parent ++ bit ∷ []) last)) ∙ same

pub returns-then-is_right_child : goal.returns-then-is_right_child
returns-then-is_right_child c = (
  c.in_ok-parent.ensures.room,
  right_child_of c.loop-bit.prefix c.in_ok-parent.parent c.args.low c.in_ok-parent.ensures.some (c.is_right_child.ensures.0 c.if-is_right_child.true) c.loop-bit.invariant.low,
)

pub loop-bit-init : goal.loop-bit-init
loop-bit-init c = let whole = whole_prefix c.new.result c.args.low c.in_ok-prefix.prefix c.ranges.low.fits c.new.ensures c.in_ok-prefix.was in record { low = whole.0; left = whole.1 }

pub loop-bit-preserved : goal.loop-bit-preserved
loop-bit-preserved c =
    let short : length c.loop-bit.prefix ≤ LIMIT = omega (arith, c.loop-bit.invariant.left) in
    let up = step_up c.loop-bit.prefix c.in_ok-parent.parent c.is_right_child.result c.args.low c.in_ok-parent.ensures.some c.is_right_child.ensures.1 c.if-is_right_child.false short c.loop-bit.invariant.low in
    record { low = up.0; left = omega (arith, up.1, c.loop-bit.invariant.left) }

pub returns : goal.returns
returns c = no_parent c.loop-bit.prefix c.args.low (omega (arith, c.loop-bit.invariant.left, c.loop-bit-test.false)) c.loop-bit.invariant.low
