-- The directory of a table.
use Rattle.std.proofs.Common.{◌≡◌, ℕ, ◌<◌, ◌≤◌, ◌^◌, Bool, List, [], length, take, map, get_or, Some, refl, sym, ap, ◌∙◌, subst, arith}
use Rattle.std.specs.List.{range_with_len}
use Rattle.std.proofs.lemmas.List.{length-take-le, length-append, take-take}
use Rattle.std.proofs.lemmas.List.FromFn.{length-map-range_with_len, get_or-map-range_with_len, fill_by_all}
use Rattle.std.proofs.lemmas.Option.{slice_get-get_or, get_or_from_slice_get}
use Rattle.exh_prefix.specs.Bits.{number_of, bits_of, word_bits}
use Rattle.exh_prefix.specs.BitLemmas.{length-bits_of, number_of-bits_of, bits_of-number_of}
use Rattle.exh_prefix.specs.Prefix.{Begins, low_of}
use Rattle.exh_prefix.specs.PrefixLemmas.{length-word_bits, low_of-word, take-word-low_of}
use Rattle.exh_prefix.specs.declared.prefix.TheConstants.{LIMIT}
use Rattle.exh_prefix.specs.Leading.{leading}
use Rattle.exh_prefix.specs.LeadingLemmas.{leading-lt, begins_alike}
use Rattle.exh_table.specs.declared.leaf.Leaf.{Leaf}
use Rattle.exh_table.specs.Table.{TableMap}
use Rattle.exh_table.specs.TableWalk.{walk_in, walk_of}
use Rattle.exh_table.specs.Leaves.{IsLeaf, IsLeafIn, leaves_of}
use Rattle.exh_table.specs.Directory.{IsName, IsDepth, IsDirectory}
use Rattle.exh_table.specs.Below.{splits_above, depth_below}
use Rattle.exh_table.specs.TableLaws.{HasDirectory}
use Rattle.exh_table.specs.LeafLemmas.{root, depth_is}
use Rattle.exh_table.specs.PathLemmas.{walk_is_path, walk_to_leaf}

-- ---- walks over all wards

-- a ward of so many bits has that many
length-ward : (ward_bits pseudokey : ℕ) → ward_bits ≤ LIMIT → length (take ward_bits (word_bits pseudokey)) ≡ ward_bits
length-ward ward_bits pseudokey short = length-take-le ward_bits (word_bits pseudokey) (omega (arith, length-word_bits pseudokey))

ward_begins : (ward_bits pseudokey : ℕ) → ward_bits ≤ LIMIT → Begins (take ward_bits (word_bits pseudokey)) pseudokey
ward_begins ward_bits pseudokey short = ap (λ n. take n (word_bits pseudokey)) (length-ward ward_bits pseudokey short)

-- what a prefix begins has its first bits
same_front : (n : ℕ) (prefix : List Bool) (one other : ℕ) → n ≤ length prefix → Begins prefix one → Begins prefix other → take n (word_bits one) ≡ take n (word_bits other)
same_front n prefix one other short first second =
    sym (take-take n (length prefix) (word_bits one) short) ∙ ap (take n) (first ∙ sym second) ∙ take-take n (length prefix) (word_bits other) short

module _ (table : TableMap) (ward_bits : ℕ) (short : ward_bits ≤ LIMIT) where
  leaf_begins : (pseudokey : ℕ) → Begins (walk_of table ward_bits pseudokey).prefix pseudokey
  leaf_begins pseudokey = (walk_is_path table (take ward_bits (word_bits pseudokey)) pseudokey (omega (arith, length-ward ward_bits pseudokey short)) (ward_begins ward_bits pseudokey short)).begins

  leaf_long : (pseudokey : ℕ) → ward_bits ≤ length (walk_of table ward_bits pseudokey).prefix
  leaf_long pseudokey =
      let path = walk_is_path table (take ward_bits (word_bits pseudokey)) pseudokey (omega (arith, length-ward ward_bits pseudokey short)) (ward_begins ward_bits pseudokey short) in
      omega (arith, ap length path.along ∙ length-append (take ward_bits (word_bits pseudokey)) path.over, length-ward ward_bits pseudokey short)

  -- a leaf that begins a pseudokey is where its walk ends
  pub walk_ends_at : (pseudokey : ℕ) (leaf : Leaf) → IsLeaf table ward_bits leaf → Begins leaf.prefix pseudokey → walk_of table ward_bits pseudokey ≡ leaf
  walk_ends_at pseudokey leaf (other, small, walks) begun =
      let begins : Begins leaf.prefix other = subst (λ (leaf : Leaf). Begins leaf.prefix other) walks (leaf_begins other) in
      let long : ward_bits ≤ length leaf.prefix = subst (λ (leaf : Leaf). ward_bits ≤ length leaf.prefix) walks (leaf_long other) in
      let ward : take ward_bits (word_bits other) ≡ take ward_bits (word_bits pseudokey) = same_front ward_bits leaf.prefix other pseudokey long begins begun in
      let is : IsLeafIn table (take ward_bits (word_bits pseudokey)) leaf = (other, small, subst (λ w. Begins w other) ward (ward_begins ward_bits other short), ap (λ w. walk_in table w other) (sym ward) ∙ walks) in
      walk_to_leaf table (take ward_bits (word_bits pseudokey)) pseudokey leaf (omega (arith, length-ward ward_bits pseudokey short)) (ward_begins ward_bits pseudokey short) is begun

  pub walk_is_name : (pseudokey : ℕ) → pseudokey < 2 ^ 64 → IsName (leaves_of table ward_bits) pseudokey (walk_of table ward_bits pseudokey).prefix
  walk_is_name pseudokey small = record {
    leaf = ((walk_of table ward_bits pseudokey).page, (pseudokey, small, refl));
    begins = leaf_begins pseudokey;
    only = λ other is begun. sym (ap (λ (leaf : Leaf). leaf.prefix) (walk_ends_at pseudokey (record { prefix = other; page = is.0 }) is.1 begun));
  }

  -- ---- the directory

  leaf_short : (pseudokey : ℕ) → length (walk_of table ward_bits pseudokey).prefix ≤ LIMIT
  leaf_short pseudokey = (walk_is_path table (take ward_bits (word_bits pseudokey)) pseudokey (omega (arith, length-ward ward_bits pseudokey short)) (ward_begins ward_bits pseudokey short)).short

  depth_short : (depth : ℕ) → IsDepth (leaves_of table ward_bits) depth → depth ≤ LIMIT
  depth_short depth is =
      let leaf = is.reached.1 in
      omega (arith, subst (λ (leaf : Leaf). length leaf.prefix ≤ LIMIT) leaf.1.2 (leaf_short leaf.1.0), is.reached.2)

  -- the leaf of the first pseudokey that has these leading bits
  name_of : ℕ → ℕ → List Bool
  name_of depth number = (walk_of table ward_bits (low_of (bits_of depth number))).prefix

  -- a pseudokey with the same bits up to the end of a leaf has that leaf
  pub same_leaf : (depth one other : ℕ) → length (walk_of table ward_bits one).prefix ≤ depth → one < 2 ^ 64 → take depth (word_bits one) ≡ take depth (word_bits other) → walk_of table ward_bits other ≡ walk_of table ward_bits one
  same_leaf depth one other within small same =
      let leaf = walk_of table ward_bits one in
      walk_ends_at other leaf (one, small, refl) (begins_alike leaf.prefix depth one other within same (leaf_begins one))

  module _ (depth : ℕ) (is : IsDepth (leaves_of table ward_bits) depth) where
    names : List (List Bool)
    names = map (name_of depth) (range_with_len 0 (2 ^ depth))

    within_names : (pseudokey : ℕ) → leading depth pseudokey < 2 ^ depth
    within_names pseudokey = leading-lt depth pseudokey (omega (arith, depth_short depth is))

    -- the name that stands at a pseudokey's leading bits is the pseudokey's
    name_stands : (pseudokey : ℕ) → name_of depth (leading depth pseudokey) ≡ (walk_of table ward_bits pseudokey).prefix
    unfolding name_of
    name_stands pseudokey =
        let front = take depth (word_bits pseudokey) in
        let many : length front ≡ depth = length-take-le depth (word_bits pseudokey) (omega (arith, length-word_bits pseudokey, depth_short depth is)) in
        let bits : bits_of depth (number_of front) ≡ front = ap (λ n. bits_of n (number_of front)) (sym many) ∙ bits_of-number_of front in
        let first : take depth (word_bits (low_of front)) ≡ front = take-word-low_of front depth many (omega (arith, depth_short depth is)) in
        let small : low_of front < 2 ^ 64 = low_of-word front (omega (arith, depth_short depth is)) in
        let leaf = walk_of table ward_bits (low_of front) in
        ap (λ p. (walk_of table ward_bits (low_of p)).prefix) bits
        ∙ ap (λ (leaf : Leaf). leaf.prefix) (sym (same_leaf depth (low_of front) pseudokey (is.greatest leaf.prefix (leaf.page, (low_of front, small, refl))) small first))

    are_directory : IsDirectory (leaves_of table ward_bits) names
    unfolding names
    are_directory = record {
      depth = depth;
      is_depth = is;
      full = length-map-range_with_len (name_of depth) 0 (2 ^ depth);
      each = λ pseudokey small.
          let place = leading depth pseudokey in
          let within : place < length names = omega (arith, within_names pseudokey, length-map-range_with_len (name_of depth) 0 (2 ^ depth)) in (
            (walk_of table ward_bits pseudokey).prefix,
            slice_get-get_or names place [] within ∙ ap Some (get_or-map-range_with_len (name_of depth) 0 (2 ^ depth) place place [] (within_names pseudokey) (omega arith) ∙ name_stands pseudokey),
            walk_is_name pseudokey small,
          );
    }

    only_directory : (others : List (List Bool)) → IsDirectory (leaves_of table ward_bits) others → others ≡ names
    unfolding names name_of
    only_directory others other =
        let as_deep : other.depth ≡ depth = omega (arith, is.greatest other.is_depth.reached.0 other.is_depth.reached.1, other.is_depth.reached.2, other.is_depth.greatest is.reached.0 is.reached.1, is.reached.2) in
        fill_by_all (name_of depth) others (2 ^ depth) [] (other.full ∙ ap (λ n. 2 ^ n) as_deep) (λ place within.
        let front = bits_of depth place in
        let many : length front ≡ depth = length-bits_of depth place in
        let small : low_of front < 2 ^ 64 = low_of-word front (omega (arith, depth_short depth is)) in
        let stands : leading other.depth (low_of front) ≡ place =
        ap (λ n. leading n (low_of front)) as_deep ∙ ap number_of (take-word-low_of front depth many (omega (arith, depth_short depth is))) ∙ number_of-bits_of depth place within in
        let named = other.each (low_of front) small in
        ap (λ n. get_or others n []) (sym stands) ∙ get_or_from_slice_get others (leading other.depth (low_of front)) named.0 [] named.1 ∙ (walk_is_name (low_of front) small).only named.0 named.2.leaf named.2.begins)

  pub has_directory : HasDirectory table ward_bits
  has_directory =
      let depth = depth_below (splits_above table ward_bits) LIMIT root in
      let is = depth_is table ward_bits short in
      record { names = names depth is; is = are_directory depth is; only = only_directory depth is }
