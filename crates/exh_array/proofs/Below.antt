-- What stands below a place, and below the places one bit further.
use Rattle.std.proofs.Common.{◌≡◌, ℕ, suc, ◌-◌, ◌<◌, ◌≤◌, ◌^◌, Bool, true, false, if◌then◌else◌, nat_lt, List, [], ◌∷◌, length, get_or, Option, Some, None, refl, ap, ◌∙◌, subst, arith}
use Rattle.std.proofs.lemmas.List.{length_push}
use Rattle.exh_prefix.specs.Bits.{word_bits}
use Rattle.exh_prefix.specs.Prefix.{Begins}
use Rattle.exh_prefix.specs.PrefixLemmas.{one_child_begins, parent_begins}
use Rattle.exh_prefix.specs.declared.prefix.TheConstants.{LIMIT}
use Rattle.exh_table.specs.declared.leaf.Leaf.{Leaf}
use Rattle.exh_table.specs.Table.{TableMap}
use Rattle.exh_table.specs.TableWalk.{step}
use Rattle.exh_table.specs.Below.{splits_above, depth_below}
use Rattle.exh_table.specs.WalkLemmas.{walk_on-step, IsOnWalk, on_walk_step, on_walk_end}
use Rattle.exh_array.specs.Pointers.{PointerArray, pointer_to}
use Rattle.exh_array.specs.Pointers.{pointer_at}
use Rattle.exh_array.specs.Within.{walk_from, IsPointedBelow}
use Rattle.exh_array.proofs.Walks.{depth_below-walk}

module _ (at : Leaf) (right : ℕ) (short : length at.prefix < LIMIT) where
  -- one bit fewer is left up to LIMIT
  pub one_fewer : (bit : Bool) → LIMIT - length at.prefix ≡ suc (LIMIT - length (step at bit right).prefix)
  one_fewer bit = omega (arith, length_push at.prefix bit)

  pub within_limit : (bit : Bool) → length (step at bit right).prefix ≤ LIMIT
  within_limit bit = omega (arith, length_push at.prefix bit)

  -- no leaf is longer below there
  pub depth_below-step : (splits : List Bool → Option ℕ) (bit : Bool) → splits at.prefix ≡ Some right
      → depth_below splits (LIMIT - length (step at bit right).prefix) (step at bit right) ≤ depth_below splits (LIMIT - length at.prefix) at
  depth_below-step splits bit split =
      let n = LIMIT - length (step at bit right).prefix in
      subst (λ next. depth_below splits n next ≤ depth_below splits (LIMIT - length at.prefix) at) (walk_on-step splits bit [] at right split)
      (depth_below-walk splits (bit ∷ []) n (LIMIT - length at.prefix) at (omega (arith, one_fewer bit)))

on_walk : (table : TableMap) (ward_bits : ℕ) (at : Leaf) (pseudokey : ℕ) → length at.prefix ≤ LIMIT → Begins at.prefix pseudokey → IsOnWalk (splits_above table ward_bits) pseudokey (walk_from table ward_bits at pseudokey) at
on_walk table ward_bits at pseudokey within begins = record { begins = begins; within = within; goes = refl }

-- where walks stop
pub below_end : (table : TableMap) (at : Leaf) (old new : PointerArray) → length at.prefix ≤ LIMIT → (if nat_lt (length at.prefix) LIMIT then splits_above table old.ward_bits at.prefix else None) ≡ None
    → new.ward_bits ≡ old.ward_bits → new.depth ≡ old.depth
    → ((pseudokey : ℕ) → pseudokey < 2 ^ 64 → Begins at.prefix pseudokey → pointer_at new pseudokey ≡ Some (pointer_to at))
    → ((pseudokey : ℕ) → pseudokey < 2 ^ 64 → (Begins at.prefix pseudokey → ⊥) → pointer_at new pseudokey ≡ pointer_at old pseudokey)
    → IsPointedBelow table at old new
below_end table at old new within none ward_bits depth inside outside = record {
  ward_bits = ward_bits;
  depth = depth;
  inside = λ pseudokey small begins. inside pseudokey small begins
      ∙ ap (λ leaf. Some (pointer_to leaf)) (on_walk_end (splits_above table old.ward_bits) pseudokey (walk_from table old.ward_bits at pseudokey) at (on_walk table old.ward_bits at pseudokey within begins) none);
  outside = outside;
}

-- and where they go on
pub below_both : (table : TableMap) (at : Leaf) (right : ℕ) (old between new : PointerArray) → length at.prefix < LIMIT → splits_above table old.ward_bits at.prefix ≡ Some right
    → IsPointedBelow table (step at false right) old between → IsPointedBelow table (step at true right) between new → IsPointedBelow table at old new
below_both table at right old between new short split first second =
    let splits = splits_above table old.ward_bits in
    record {
      ward_bits = second.ward_bits ∙ first.ward_bits;
      depth = second.depth ∙ first.depth;
      inside = λ pseudokey small begins.
          let word = word_bits pseudokey in
          let next = on_walk_step splits pseudokey (walk_from table old.ward_bits at pseudokey) at right (on_walk table old.ward_bits at pseudokey (omega arith) begins) short split in
          elim (get_or word (length at.prefix) false) as (λ bit. IsOnWalk splits pseudokey (walk_from table old.ward_bits at pseudokey) (step at bit right) → pointer_at new pseudokey ≡ Some (pointer_to (walk_from table old.ward_bits at pseudokey))) [
            | false ↦ λ next. second.outside pseudokey small (λ over. one_child_begins at.prefix pseudokey next.begins over) ∙ first.inside pseudokey small next.begins ∙ ap (λ leaf. Some (pointer_to leaf)) next.goes
            | true ↦ λ next. second.inside pseudokey small next.begins ∙ ap (λ n. Some (pointer_to (walk_from table n (step at true right) pseudokey))) first.ward_bits ∙ ap (λ leaf. Some (pointer_to leaf)) next.goes
          ] next;
      outside = λ pseudokey small other.
          second.outside pseudokey small (λ begins. other (parent_begins at.prefix pseudokey true begins)) ∙ first.outside pseudokey small (λ begins. other (parent_begins at.prefix pseudokey false begins));
    }
