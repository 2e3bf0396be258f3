-- What the pointers of the first pseudokeys of a prefix, and of its right half, tell of walks that come to it.
use Rattle.std.proofs.Common.{◌≡◌, ℕ, suc, ◌+◌, ◌-◌, ◌<◌, ◌≤◌, List, [], ◌∷◌, ◌++◌, Bool, true, false, length, take, option_map, Some, None, refl, sym, ap, ◌∙◌, arith, inl, inr}
use Rattle.std.proofs.Math.Seq.{take-append-add}
use Rattle.std.proofs.lemmas.List.{take-replicate, length_push}
use Rattle.std.proofs.lemmas.Option.{same_Some}
use Rattle.exh_prefix.specs.Bits.{word_bits}
use Rattle.exh_prefix.specs.Prefix.{low_of, zeros}
use Rattle.exh_prefix.specs.PrefixLemmas.{word_bits-low_of, low_of-word}
use Rattle.exh_prefix.specs.declared.prefix.TheConstants.{LIMIT}
use Rattle.exh_table.specs.declared.leaf.Leaf.{Leaf}
use Rattle.exh_table.specs.Table.{TableMap}
use Rattle.exh_table.specs.TableWalk.{step, walk_on, walk_of}
use Rattle.exh_table.specs.WalkLemmas.{walk_on-stop, walk_on-step, walk_from_root}
use Rattle.exh_table.specs.LeafLemmas.{root}
use Rattle.exh_table.specs.Below.{splits_above}
use Rattle.exh_array.specs.declared.pointer.Pointer.{Pointer}
use Rattle.exh_array.specs.Pointers.{PointerArray, NamesPageOf, pointer_at, pointer_to}
use Rattle.exh_array.specs.Within.{HasLeavesOf, walk_along}
use Rattle.exh_array.proofs.Walks.{walk_on-append, walk_on-longer, walk_on-cases, walk_on-zeros}

-- the bits of the first pseudokey that a prefix begins
low_bits : (prefix : List Bool) → length prefix ≤ LIMIT → take LIMIT (word_bits (low_of prefix)) ≡ prefix ++ zeros (LIMIT - length prefix)
low_bits prefix short =
    let rest = LIMIT - length prefix in
    let parts : LIMIT ≡ length prefix + rest = omega arith in
    ap (take LIMIT) (word_bits-low_of prefix (omega arith)) ∙ ap (λ n. take n (prefix ++ zeros (64 - length prefix))) parts ∙ take-append-add prefix (zeros (64 - length prefix)) rest
    ∙ ap (λ bits. prefix ++ bits) (take-replicate rest (64 - length prefix) false (omega arith))

-- its walk goes on over zeros from where the walk along the prefix ends
low_walk : (table : TableMap) (ward_bits : ℕ) (prefix : List Bool) → ward_bits ≤ LIMIT → length prefix ≤ LIMIT
    → walk_of table ward_bits (low_of prefix) ≡ walk_on (splits_above table ward_bits) (zeros (LIMIT - length prefix)) (walk_along table ward_bits prefix)
low_walk table ward_bits prefix small short =
    sym (walk_from_root table ward_bits (low_of prefix) small) ∙ ap (λ bits. walk_on (splits_above table ward_bits) bits root) (low_bits prefix short)
    ∙ walk_on-append (splits_above table ward_bits) prefix (zeros (LIMIT - length prefix)) root

-- and stays on its page
low_page : (table : TableMap) (ward_bits : ℕ) (prefix : List Bool) → ward_bits ≤ LIMIT → length prefix ≤ LIMIT → (walk_of table ward_bits (low_of prefix)).page ≡ (walk_along table ward_bits prefix).page
low_page table ward_bits prefix small short =
    ap (λ (leaf : Leaf). leaf.page) (low_walk table ward_bits prefix small short) ∙ walk_on-zeros (splits_above table ward_bits) (LIMIT - length prefix) (walk_along table ward_bits prefix)

-- over the bit 1 the walk along a prefix steps to the right page
walk_right : (table : TableMap) (ward_bits right : ℕ) (prefix : List Bool) (at : Leaf) → walk_along table ward_bits prefix ≡ at → splits_above table ward_bits at.prefix ≡ Some right
    → walk_along table ward_bits (prefix ++ true ∷ []) ≡ step at true right
walk_right table ward_bits right prefix at comes split =
    let splits = splits_above table ward_bits in
    walk_on-append splits prefix (true ∷ []) root ∙ ap (walk_on splits (true ∷ [])) comes ∙ walk_on-step splits true [] at right split

module _ (table : TableMap) (array : PointerArray) (prefix : List Bool) (has : HasLeavesOf table array) (small : array.ward_bits ≤ LIMIT) (short : length prefix ≤ LIMIT) where
  -- the pointer of the first pseudokey
  low_pointer : pointer_at array (low_of prefix) ≡ Some (pointer_to (walk_on (splits_above table array.ward_bits) (zeros (LIMIT - length prefix)) (walk_along table array.ward_bits prefix)))
  low_pointer = has.each (low_of prefix) (low_of-word prefix (omega arith)) ∙ ap (λ leaf. Some (pointer_to leaf)) (low_walk table array.ward_bits prefix small short)

  first_is : (first : Pointer) → pointer_at array (low_of prefix) ≡ Some first → first ≡ pointer_to (walk_on (splits_above table array.ward_bits) (zeros (LIMIT - length prefix)) (walk_along table array.ward_bits prefix))
  first_is first is = same_Some _ _ (sym is ∙ low_pointer)

  -- it tells whether the walk along the prefix comes to it
  pub comes_short : (first : Pointer) → pointer_at array (low_of prefix) ≡ Some first → first.local_depth < length prefix → length (walk_along table array.ward_bits prefix).prefix < length prefix
  comes_short first is less =
      omega (arith, ap (λ (pointer : Pointer). pointer.local_depth) (first_is first is), walk_on-longer (splits_above table array.ward_bits) (zeros (LIMIT - length prefix)) (walk_along table array.ward_bits prefix))

  pub comes_there : (first : Pointer) → pointer_at array (low_of prefix) ≡ Some first → length prefix ≤ first.local_depth → walk_along table array.ward_bits prefix ≡ record { prefix = prefix; page = first.page }
  comes_there first is more =
      let splits = splits_above table array.ward_bits in
      let rest = zeros (LIMIT - length prefix) in
      let along = walk_along table array.ward_bits prefix in
      elim (walk_on-cases splits prefix root) [
        | inl all ↦ ap (λ front. record along { prefix = front }) all
            ∙ ap (λ page. record { prefix = prefix; page = page }) (sym (walk_on-zeros splits (LIMIT - length prefix) along) ∙ ap (λ (pointer : Pointer). pointer.page) (sym (first_is first is)))
        | inr stops ↦ absurd (omega (arith, stops.1, ap (λ (pointer : Pointer). pointer.local_depth) (first_is first is), ap (λ (leaf : Leaf). length leaf.prefix) (walk_on-stop splits rest along stops.0)))
      ]

  module _ (at : Leaf) (own : at.prefix ≡ prefix) (comes : walk_along table array.ward_bits prefix ≡ at) (fewer : length prefix < LIMIT) where
    -- as long as the leaf where that pseudokey's walk stops
    first_length : (first : Pointer) → pointer_at array (low_of prefix) ≡ Some first → first.local_depth ≡ length (walk_on (splits_above table array.ward_bits) (zeros (LIMIT - length prefix)) at).prefix
    first_length first is =
        ap (λ (pointer : Pointer). pointer.local_depth) (first_is first is) ∙ ap (λ from. length (walk_on (splits_above table array.ward_bits) (zeros (LIMIT - length prefix)) from).prefix) comes

    -- walks stop at the place
    pub stops_at : (first : Pointer) → pointer_at array (low_of prefix) ≡ Some first → first.local_depth ≡ length prefix → splits_above table array.ward_bits at.prefix ≡ None
    stops_at first is same =
        let splits = splits_above table array.ward_bits in
        let n = LIMIT - length prefix - 1 in
        let more : LIMIT - length prefix ≡ suc n = omega arith in
        elim (splits at.prefix) as (λ split. splits at.prefix ≡ split → split ≡ None) [
          | None ↦ λ none. refl
          | Some right ↦ λ split.
              let goes : walk_on splits (zeros (LIMIT - length prefix)) at ≡ walk_on splits (zeros n) (step at false right) =
              ap (λ count. walk_on splits (zeros count) at) more ∙ walk_on-step splits false (zeros n) at right split in
              absurd (omega (arith, same, first_length first is, ap (λ (leaf : Leaf). length leaf.prefix) goes, walk_on-longer splits (zeros n) (step at false right), length_push at.prefix false, ap length own))
        ] refl

    -- or go on over a split, whose right page the right half's first pseudokey has
    pub goes_over : (first : Pointer) (right : ℕ) → pointer_at array (low_of prefix) ≡ Some first → length prefix < first.local_depth
        → NamesPageOf array (low_of (prefix ++ true ∷ [])) right → splits_above table array.ward_bits at.prefix ≡ Some right
    goes_over first right is longer names =
        let splits = splits_above table array.ward_bits in
        let half = prefix ++ true ∷ [] in
        let within : length half ≤ LIMIT = omega (arith, length_push prefix true) in
        elim (splits at.prefix) as (λ split. splits at.prefix ≡ split → split ≡ Some right) [
          | None ↦ λ none.
              absurd (omega (arith, longer, first_length first is, ap (λ (leaf : Leaf). length leaf.prefix) (walk_on-stop splits (zeros (LIMIT - length prefix)) at none), ap length own))
          | Some own_right ↦ λ split.
              let page : (walk_of table array.ward_bits (low_of half)).page ≡ own_right =
              low_page table array.ward_bits half small within ∙ ap (λ (leaf : Leaf). leaf.page) (walk_right table array.ward_bits own_right prefix at comes split) in
              let stands : Some right ≡ Some (walk_of table array.ward_bits (low_of half)).page =
              sym names ∙ ap (option_map (λ (pointer : Pointer). pointer.page)) (has.each (low_of half) (low_of-word half (omega arith))) in
              sym (stands ∙ ap Some page)
        ] refl
