-- An array that is as deep as its table's directory.
use Rattle.std.proofs.Common.{◌≡◌, ℕ, suc, ◌<◌, ◌≤◌, ◌^◌, Bool, true, false, cond, List, [], ◌∷◌, length, filter, slice_get, Some, refl, sym, ap, ◌∙◌, subst, arith}
use Rattle.std.proofs.lemmas.Bool.{eqb-true}
use Rattle.std.proofs.lemmas.Option.{slice_get_within}
use Rattle.exh_prefix.specs.Bits.{bits_of}
use Rattle.exh_prefix.specs.BitLemmas.{length-bits_of}
use Rattle.exh_prefix.specs.Prefix.{low_of}
use Rattle.exh_table.specs.declared.leaf.Leaf.{Leaf}
use Rattle.exh_table.specs.Table.{TableMap}
use Rattle.exh_table.specs.TableWalk.{walk_of}
use Rattle.exh_table.specs.Leaves.{leaves_of}
use Rattle.exh_prefix.specs.PrefixLemmas.{low_of-word}
use Rattle.exh_table.specs.Directory.{IsDepth}
use Rattle.exh_array.specs.Pointers.{PointerArray, pointer_to, IsArrayOf}
use Rattle.exh_array.specs.Within.{is_deep, IsKept, HasLeavesOf}
use Rattle.exh_prefix.specs.LeadingLemmas.{leading-of_place}

-- where some pass a test, there is a place of one
some_passes : {X : Type 0} (test : X → Bool) (xs : List X) → 0 < length (filter test xs) → (place : ℕ) × (x : X) × (slice_get xs place ≡ Some x) × (test x ≡ true)
some_passes test [] some = absurd (omega arith)
some_passes {X} test (x ∷ xs) some =
    elim (test x) as (λ passes. test x ≡ passes → 0 < length (cond passes (x ∷ filter test xs) (filter test xs)) → (place : ℕ) × (y : X) × (slice_get (x ∷ xs) place ≡ Some y) × (test y ≡ true)) [
      | true ↦ λ is some. (0, x, refl, is)
      | false ↦ λ is some. let rest = some_passes test xs some in (suc rest.0, rest.1, rest.2, rest.3)
    ] refl some

module _ (deepest : ℕ) (array : PointerArray) (kept : IsKept deepest array) (table : TableMap) (has : HasLeavesOf table array) where
  -- as deep as some leaf, with the pseudokey whose leaf it is
  depth_at : (pseudokey : ℕ) → pseudokey < 2 ^ 64 → array.depth ≤ length (walk_of table array.ward_bits pseudokey).prefix → IsDepth (leaves_of table array.ward_bits) array.depth
  depth_at pseudokey small long = record {
    reached =
        let leaf = walk_of table array.ward_bits pseudokey in
        (leaf.prefix, (leaf.page, (pseudokey, small, refl)), omega (arith, long, has.deep pseudokey small));
    greatest = λ prefix (page, (other, fits, walks)). subst (λ (leaf : Leaf). length leaf.prefix ≤ array.depth) walks (has.deep other fits);
  }

  pub array_at : (pseudokey : ℕ) → pseudokey < 2 ^ 64 → array.depth ≤ length (walk_of table array.ward_bits pseudokey).prefix → IsArrayOf table array
  array_at pseudokey small long = record { depth = depth_at pseudokey small long; full = kept.full; each = has.each }

  -- an array of depth 0 is as deep as each leaf
  pub shallow_array : array.depth ≡ 0 → IsArrayOf table array
  shallow_array none = array_at 0 (omega arith) (omega arith)

  -- and one with a pointer as deep as itself
  pub deep_array : 0 < deepest → IsArrayOf table array
  deep_array some =
      let found = some_passes (is_deep array.depth) array.pointers (omega (arith, kept.counted)) in
      let place = found.0 in
      let pointer = found.1 in
      let within : place < 2 ^ array.depth = omega (arith, slice_get_within array.pointers place pointer found.2, kept.full) in
      let bits = bits_of array.depth place in
      let small : low_of bits < 2 ^ 64 = low_of-word bits (omega (arith, length-bits_of array.depth place, kept.limit)) in
      let stands : Some pointer ≡ Some (pointer_to (walk_of table array.ward_bits (low_of bits))) =
      sym found.2 ∙ ap (slice_get array.pointers) (sym (leading-of_place array.depth place (omega (arith, kept.limit)) within)) ∙ has.each (low_of bits) small in
      let is : pointer.local_depth ≡ length (walk_of table array.ward_bits (low_of bits)).prefix = cc in
      array_at (low_of bits) small (omega (arith, is, eqb-true pointer.local_depth array.depth found.3))
