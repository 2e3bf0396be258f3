-- Walks along some bits and then others, and walks by splits that differ at one prefix.
use Rattle.std.proofs.Common.{◌≡◌, ◌≢◌, ℕ, zero, suc, ◌+◌, ◌<◌, ◌≤◌, ◌⊎◌, inl, inr, Bool, true, false, List, [], ◌∷◌, ◌++◌, length, max, replicate, Option, Some, None, refl, sym, ap, ◌∙◌, subst, arith}
use Rattle.std.specs.Option.{option_map_or}
use Rattle.std.proofs.lemmas.List.{append_assoc, append-nil, length_push, take_at}
use Rattle.exh_prefix.specs.Prefix.{IsFront}
use Rattle.exh_table.specs.declared.leaf.Leaf.{Leaf}
use Rattle.exh_table.specs.TableWalk.{step, walk_on}
use Rattle.exh_table.specs.Below.{depth_below}
use Rattle.exh_table.specs.WalkLemmas.{walk_on-stop}

-- ---- one walk

module _ (splits : List Bool → Option ℕ) where
  -- a walk along some bits and others is one along the others from where the first ends
  pub walk_on-append : (front rest : List Bool) (at : Leaf) → walk_on splits (front ++ rest) at ≡ walk_on splits rest (walk_on splits front at)
  walk_on-append [] rest at = refl
  walk_on-append (bit ∷ front) rest at =
      elim (splits at.prefix) as (λ split. splits at.prefix ≡ split → option_map_or (λ right. walk_on splits (front ++ rest) (step at bit right)) split at ≡ walk_on splits rest (option_map_or (λ right. walk_on splits front (step at bit right)) split at)) [
        | None ↦ λ none. sym (walk_on-stop splits rest at none)
        | Some right ↦ λ split. walk_on-append front rest (step at bit right)
      ] refl

  -- a walk never comes back
  pub walk_on-longer : (bits : List Bool) (at : Leaf) → length at.prefix ≤ length (walk_on splits bits at).prefix
  walk_on-longer [] at = omega arith
  walk_on-longer (bit ∷ bits) at =
      elim (splits at.prefix) as (λ split. length at.prefix ≤ length (option_map_or (λ right. walk_on splits bits (step at bit right)) split at).prefix) [
        | None ↦ omega arith
        | Some right ↦ omega (arith, length_push at.prefix bit, walk_on-longer bits (step at bit right))
      ]

  -- it goes along all bits, or stops before where there is no split
  pub walk_on-cases : (bits : List Bool) (at : Leaf)
      → ((walk_on splits bits at).prefix ≡ at.prefix ++ bits) ⊎ ((splits (walk_on splits bits at).prefix ≡ None) × (length (walk_on splits bits at).prefix < length at.prefix + length bits))
  walk_on-cases [] at = inl (sym (append-nil at.prefix))
  walk_on-cases (bit ∷ bits) at =
      elim (splits at.prefix) as (λ split. splits at.prefix ≡ split → ((option_map_or (λ right. walk_on splits bits (step at bit right)) split at).prefix ≡ at.prefix ++ bit ∷ bits)
      ⊎ ((splits (option_map_or (λ right. walk_on splits bits (step at bit right)) split at).prefix ≡ None) × (length (option_map_or (λ right. walk_on splits bits (step at bit right)) split at).prefix < length at.prefix + suc (length bits)))) [
        | None ↦ λ none. inr (none, omega arith)
        | Some right ↦ λ split. elim (walk_on-cases bits (step at bit right)) [
          | inl all ↦ inl (all ∙ append_assoc at.prefix (bit ∷ []) bits)
          | inr some ↦ inr (some.0, omega (arith, some.1, length_push at.prefix bit))
        ]
      ] refl

  -- over zeros it stays on its page
  pub walk_on-zeros : (n : ℕ) (at : Leaf) → (walk_on splits (replicate n false) at).page ≡ at.page
  walk_on-zeros zero at = refl
  walk_on-zeros (suc n) at =
      elim (splits at.prefix) as (λ split. (option_map_or (λ right. walk_on splits (replicate n false) (step at false right)) split at).page ≡ at.page) [
        | None ↦ refl
        | Some right ↦ walk_on-zeros n (step at false right)
      ]

  -- no leaf is longer than all the bits
  pub depth_below-short : (n : ℕ) (at : Leaf) → depth_below splits n at ≤ length at.prefix + n
  depth_below-short zero at = omega arith
  depth_below-short (suc n) at =
      elim (splits at.prefix) as (λ split. option_map_or (λ right. max (depth_below splits n (step at false right)) (depth_below splits n (step at true right))) split (length at.prefix) ≤ length at.prefix + suc n) [
        | None ↦ omega arith
        | Some right ↦ omega (arith, depth_below-short n (step at false right), depth_below-short n (step at true right), length_push at.prefix false, length_push at.prefix true)
      ]

  depth-least : (n : ℕ) (at : Leaf) → splits at.prefix ≡ None → depth_below splits n at ≡ length at.prefix
  depth-least zero at none = refl
  depth-least (suc n) at none = ap (λ split. option_map_or (λ right. max (depth_below splits n (step at false right)) (depth_below splits n (step at true right))) split (length at.prefix)) none

  -- what lies below where a walk ends lies below where it began
  pub depth_below-walk : (bits : List Bool) (n all : ℕ) (at : Leaf) → all ≡ length bits + n → depth_below splits n (walk_on splits bits at) ≤ depth_below splits all at
  depth_below-walk [] n all at is = subst (λ all. depth_below splits n at ≤ depth_below splits all at) (let same : n ≡ all = omega arith in same) (omega arith)
  depth_below-walk (bit ∷ bits) n zero at is = absurd (omega arith)
  depth_below-walk (bit ∷ bits) n (suc all) at is =
      elim (splits at.prefix) as (λ split. splits at.prefix ≡ split → depth_below splits n (option_map_or (λ right. walk_on splits bits (step at bit right)) split at)
      ≤ option_map_or (λ right. max (depth_below splits all (step at false right)) (depth_below splits all (step at true right))) split (length at.prefix)) [
        | None ↦ λ none. omega (arith, depth-least n at none)
        | Some right ↦ λ split.
            let rest = depth_below-walk bits n all (step at bit right) (omega arith) in
            elim bit as (λ bit. depth_below splits n (walk_on splits bits (step at bit right)) ≤ depth_below splits all (step at bit right)
            → depth_below splits n (walk_on splits bits (step at bit right)) ≤ max (depth_below splits all (step at false right)) (depth_below splits all (step at true right))) [
              | false ↦ λ rest. omega arith
              | true ↦ λ rest. omega arith
            ] rest
      ] refl

-- ---- splits that differ at most at one prefix

module _ (one other : List Bool → Option ℕ) (prefix : List Bool) (same : (at : List Bool) → at ≢ prefix → one at ≡ other at) where
  -- walks that come no further than to the prefix are the same
  pub same_walk_to : (bits : List Bool) (at : Leaf) → length at.prefix + length bits ≤ length prefix → walk_on one bits at ≡ walk_on other bits at
  same_walk_to [] at short = refl
  same_walk_to (bit ∷ bits) at short =
      ap (λ split. option_map_or (λ right. walk_on one bits (step at bit right)) split at) (same at.prefix (λ is. let long : length at.prefix ≡ length prefix = ap length is in omega arith))
      ∙ elim (other at.prefix) as (λ split. option_map_or (λ right. walk_on one bits (step at bit right)) split at ≡ option_map_or (λ right. walk_on other bits (step at bit right)) split at) [
        | None ↦ refl
        | Some right ↦ same_walk_to bits (step at bit right) (omega (arith, length_push at.prefix bit))
      ]

  -- so are walks past it
  pub same_walk_past : (bits : List Bool) (at : Leaf) → (IsFront prefix (at.prefix ++ bits) → ⊥) → walk_on one bits at ≡ walk_on other bits at
  same_walk_past [] at past = refl
  same_walk_past (bit ∷ bits) at past =
      ap (λ split. option_map_or (λ right. walk_on one bits (step at bit right)) split at) (same at.prefix (λ is. past (subst (λ p. IsFront p (at.prefix ++ bit ∷ bits)) is (take_at at.prefix (bit ∷ bits) (length at.prefix) refl))))
      ∙ elim (other at.prefix) as (λ split. option_map_or (λ right. walk_on one bits (step at bit right)) split at ≡ option_map_or (λ right. walk_on other bits (step at bit right)) split at) [
        | None ↦ refl
        | Some right ↦ same_walk_past bits (step at bit right) (λ front. past (subst (IsFront prefix) (append_assoc at.prefix (bit ∷ []) bits) front))
      ]
