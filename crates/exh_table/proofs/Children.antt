-- The places one bit further than a place where a walk goes on.
use Rattle.std.proofs.Common.{◌≡◌, ℕ, suc, ◌+◌, ◌-◌, ◌<◌, Bool, true, false, List, [], ◌∷◌, ◌++◌, length, Option, Some, max, ap, ◌∙◌, arith, sym}
use Rattle.std.specs.Option.{option_map_or}
use Rattle.std.proofs.lemmas.List.{length_push}
use Rattle.exh_prefix.specs.declared.prefix.TheConstants.{LIMIT}
use Rattle.exh_table.specs.declared.leaf.Leaf.{Leaf}
use Rattle.exh_table.specs.TableWalk.{step}
use Rattle.exh_table.specs.Below.{leaves_below, depth_below}

-- how many bits are left up to LIMIT
abbrev pub left_at : Leaf → ℕ
left_at at = LIMIT - length at.prefix

-- one fewer than before
pub one_fewer : (at next : Leaf) (bit : Bool) (right : ℕ) → length at.prefix < LIMIT → next ≡ step at bit right → left_at at ≡ suc (left_at next)
one_fewer at next bit right short is =
    let longer : length next.prefix ≡ length at.prefix + 1 = ap (λ (at : Leaf). length at.prefix) is ∙ length_push at.prefix bit in
    omega (arith, longer)

pub fewer : (at next : Leaf) (bit : Bool) (right : ℕ) → length at.prefix < LIMIT → next ≡ step at bit right → left_at next < left_at at
fewer at next bit right short is = omega (arith, one_fewer at next bit right short is)

module _ (splits : List Bool → Option ℕ) (at left over : Leaf) (right : ℕ) (short : length at.prefix < LIMIT) (split : splits at.prefix ≡ Some right)
    (left_is : left ≡ step at false right) (over_is : over ≡ step at true right) where
  -- the leaves below both
  pub leaves_below-split : leaves_below splits (left_at at) at ≡ leaves_below splits (left_at left) left ++ leaves_below splits (left_at over) over
  leaves_below-split =
      ap (λ n. leaves_below splits n at) (one_fewer at left false right short left_is)
      ∙ ap (λ split. option_map_or (λ right. leaves_below splits (left_at left) (step at false right) ++ leaves_below splits (left_at left) (step at true right)) split (at ∷ [])) split
      ∙ ap (λ next. leaves_below splits (left_at left) next ++ leaves_below splits (left_at left) (step at true right)) (sym left_is)
      ∙ ap (λ next. leaves_below splits (left_at left) left ++ leaves_below splits (left_at left) next) (sym over_is)
      ∙ ap (λ n. leaves_below splits (left_at left) left ++ leaves_below splits n over)
      (let same : left_at left ≡ left_at over = omega (arith, one_fewer at left false right short left_is, one_fewer at over true right short over_is) in same)

  -- the greatest length below both
  pub depth_below-split : depth_below splits (left_at at) at ≡ max (depth_below splits (left_at left) left) (depth_below splits (left_at over) over)
  depth_below-split =
      ap (λ n. depth_below splits n at) (one_fewer at left false right short left_is)
      ∙ ap (λ split. option_map_or (λ right. max (depth_below splits (left_at left) (step at false right)) (depth_below splits (left_at left) (step at true right))) split (length at.prefix)) split
      ∙ ap (λ next. max (depth_below splits (left_at left) next) (depth_below splits (left_at left) (step at true right))) (sym left_is)
      ∙ ap (λ next. max (depth_below splits (left_at left) left) (depth_below splits (left_at left) next)) (sym over_is)
      ∙ ap (λ n. max (depth_below splits (left_at left) left) (depth_below splits n over))
      (let same : left_at left ≡ left_at over = omega (arith, one_fewer at left false right short left_is, one_fewer at over true right short over_is) in same)
