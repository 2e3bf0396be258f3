-- A get of a file of version 3 reads few blocks, and none twice.
use Rattle.std.proofs.Common.{◌≡◌, ℕ, ◌≤◌, nat_eq, false, List, [], ◌∷◌, ◌++◌, length, map, Option, Result, Ok, Err, inl, inr, refl, sym, ap, subst, append-nil, arith}
use Rattle.std.specs.Prelude.{IfErr, IfOk}
use Rattle.std.specs.Io.KnownBytes.{Appends}
use Rattle.std.proofs.KnownBytes.{Appends-trans}
use Rattle.std.specs.List.{AllByRecursion, IsDistinct, list_any}
use Rattle.std.proofs.lemmas.List.{length-map, length_push, map_push}
use Rattle.exh_prefix.specs.PrefixListLemmas.{AllByRecursion-push}
use Rattle.exh_cells.specs.declared.stamped_header.StampedHeader.{StampedHeader}
use Rattle.exh_cells.specs.Places.{page_block_of, walk_block_of}
use Rattle.exh_direct.specs.declared.direct_fault.DirectFault.{DirectFault}
use Rattle.exh_direct.specs.KnownBlocks.{MayRead}
use Rattle.exh_direct.specs.OnceLemmas.{apart_by, differ, distinct_behind_zero, distinct_more, none_twice}
use Rattle.exh_edits.specs.declared.walk_block.WalkBlock.{WalkBlock}
use Rattle.exh_edits.specs.WalkBlocks.{groups_read, places_in}
use Rattle.exh_edits.specs.PlacedAnswer.{FailsAtEnd, FailsAtLeaf, FailsInWalk, FindsPlaced, NamesPlace, ReadsFew, RefusesBehind, RefusesPlaced, pseudokey_in}

-- ---- walk blocks of different groups, and a page

walks_apart : (group : ℕ) (groups : List ℕ) → AllByRecursion (λ (other : ℕ). nat_eq group other ≡ false) groups → AllByRecursion (λ (other : ℕ). nat_eq (walk_block_of group) other ≡ false) (map walk_block_of groups)
walks_apart group [] all = tt
walks_apart group (other ∷ groups) all = (apart_by (walk_block_of group) (walk_block_of other) (λ same. differ group other all.0 (omega (arith, same))), walks_apart group groups all.1)

distinct_walks : (groups : List ℕ) → IsDistinct nat_eq groups → IsDistinct nat_eq (map walk_block_of groups)
unfolding IsDistinct
distinct_walks [] once = tt
distinct_walks (group ∷ groups) once = (walks_apart group groups once.0, distinct_walks groups once.1)

walks_behind : (groups : List ℕ) → AllByRecursion (λ (place : ℕ). 1 ≤ place) (map walk_block_of groups)
walks_behind [] = tt
walks_behind (group ∷ groups) = (omega arith, walks_behind groups)

no_walk : (place : ℕ) (groups : List ℕ) → list_any (nat_eq (page_block_of place)) (map walk_block_of groups) ≡ false
no_walk place [] = refl
no_walk place (group ∷ groups) =
    let apart = apart_by (page_block_of place) (walk_block_of group) (λ same. omega (arith, same)) in
    rw apart (no_walk place groups)

pub places_by_group : (blocks : List WalkBlock) → places_in blocks ≡ map walk_block_of (groups_read blocks)
places_by_group [] = refl
places_by_group (block ∷ blocks) = ap (λ (places : List ℕ). walk_block_of block.group ∷ places) (places_by_group blocks)

-- ---- all that was read

module _ (old head : Option (List ℕ)) (heads : Appends old head (0 ∷ [])) where
  header_and_walks : (new : Option (List ℕ)) (groups : List ℕ) → IsDistinct nat_eq groups → length groups ≤ 21 → Appends head new (map walk_block_of groups) → ReadsFew old new
  header_and_walks new groups once few reads = record {
    places = 0 ∷ map walk_block_of groups;
    are = Appends-trans old head new (0 ∷ []) (map walk_block_of groups) heads reads;
    once = distinct_behind_zero (map walk_block_of groups) (distinct_walks groups once) (walks_behind groups);
    few = omega (arith, few, length-map groups walk_block_of);
  }

  header_walks_and_page : (between new : Option (List ℕ)) (groups : List ℕ) (place : ℕ) → IsDistinct nat_eq groups → length groups ≤ 20 → Appends head between (map walk_block_of groups) → Appends between new (page_block_of place ∷ []) → ReadsFew old new
  header_walks_and_page between new groups place once few reads page =
      let walks = map walk_block_of groups in
      record {
        places = 0 ∷ walks ++ page_block_of place ∷ [];
        are = Appends-trans old head new (0 ∷ []) (walks ++ page_block_of place ∷ []) heads (Appends-trans head between new walks (page_block_of place ∷ []) reads page);
        once = distinct_behind_zero (walks ++ page_block_of place ∷ []) (distinct_more walks (page_block_of place) (distinct_walks groups once) (no_walk place groups))
            (AllByRecursion-push (λ (place : ℕ). 1 ≤ place) walks (page_block_of place) (walks_behind groups) (omega arith));
        few = omega (arith, few, length-map groups walk_block_of, length_push walks (page_block_of place));
      }

  -- none behind the walk blocks
  none_behind : (between new : Option (List ℕ)) (groups : List ℕ) → IsDistinct nat_eq groups → length groups ≤ 20 → Appends head between (map walk_block_of groups) → Appends between new [] → ReadsFew old new
  none_behind between new groups once few reads none =
      header_and_walks new groups once (omega (arith, few)) (subst (Appends head new) (append-nil (map walk_block_of groups)) (Appends-trans head between new (map walk_block_of groups) [] reads none))

  walk_behind : (between new : Option (List ℕ)) (groups : List ℕ) (group : ℕ) → IsDistinct nat_eq groups → length groups ≤ 20 → Appends head between (map walk_block_of groups) → list_any (nat_eq group) groups ≡ false
      → MayRead between new (walk_block_of group) → ReadsFew old new
  walk_behind between new groups group once few reads other (inl none) = none_behind between new groups once few reads none
  walk_behind between new groups group once few reads other (inr read) =
      header_and_walks new (groups ++ group ∷ []) (distinct_more groups group once other) (omega (arith, few, length_push groups group))
      (subst (Appends head new) (sym (map_push walk_block_of groups group)) (Appends-trans head between new (map walk_block_of groups) (walk_block_of group ∷ []) reads read))

  page_behind : (between new : Option (List ℕ)) (groups : List ℕ) (place : ℕ) → IsDistinct nat_eq groups → length groups ≤ 20 → Appends head between (map walk_block_of groups) → MayRead between new (page_block_of place) → ReadsFew old new
  page_behind between new groups place once few reads (inl none) = none_behind between new groups once few reads none
  page_behind between new groups place once few reads (inr read) = header_walks_and_page between new groups place once few reads read

  module _ (known : Option (List ℕ)) (header : StampedHeader) (pseudokey : ℕ) where
    of_groups : (between : Option (List ℕ)) (blocks : List WalkBlock) → Appends head between (places_in blocks) → Appends head between (map walk_block_of (groups_read blocks))
    of_groups between blocks reads = subst (Appends head between) (places_by_group blocks) reads

    few_groups : (blocks : List WalkBlock) → length blocks ≤ 20 → length (groups_read blocks) ≤ 20
    few_groups blocks few = omega (arith, few, length-map blocks (λ (block : WalkBlock). block.group))

    in_walk : (new : Option (List ℕ)) (fault : DirectFault) → FailsInWalk known header pseudokey head new fault → ReadsFew old new
    in_walk new fault fails = at_leaf fails.fails
      where
        at_leaf : FailsAtLeaf known header fails.leaf fails.between new fails.blocks fault → ReadsFew old new
        at_leaf (inl (short, there, next)) = walk_behind fails.between new (groups_read fails.blocks) _ fails.read.are.once (few_groups fails.blocks fails.few) (of_groups fails.between fails.blocks fails.read.reads) next.other next.last
        at_leaf (inr (outside, none, astray)) = none_behind fails.between new (groups_read fails.blocks) fails.read.are.once (few_groups fails.blocks fails.few) (of_groups fails.between fails.blocks fails.read.reads) none

  at_end : (known : Option (List ℕ)) (header : StampedHeader) (key : List ℕ) (between new : Option (List ℕ)) (place : ℕ) (fault : DirectFault) → NamesPlace known header (pseudokey_in header key) head between place
      → FailsAtEnd known header key between new place fault → ReadsFew old new
  at_end known header key between new place fault names (inl (fails, last)) =
      page_behind between new (groups_read names.blocks) place names.read.are.once (few_groups known header (pseudokey_in header key) names.blocks names.few) (of_groups known header (pseudokey_in header key) between names.blocks names.read.reads) last
  at_end known header key between new place fault names (inr (page, there, not, read, astray)) =
      header_walks_and_page between new (groups_read names.blocks) place names.read.are.once (few_groups known header (pseudokey_in header key) names.blocks names.few) (of_groups known header (pseudokey_in header key) between names.blocks names.read.reads) read

-- ---- the answer

found_few : (known : Option (List ℕ)) (key : List ℕ) (old new value : Option (List ℕ)) → FindsPlaced known key old new value → ReadsFew old new
found_few known key old new value finds =
    let header = finds.header in
    let names = finds.names in
    header_walks_and_page old finds.first finds.reads finds.between new (groups_read names.blocks) finds.place names.read.are.once (few_groups old finds.first finds.reads known header (pseudokey_in header key) names.blocks names.few)
    (of_groups old finds.first finds.reads known header (pseudokey_in header key) finds.between names.blocks names.read.reads) finds.found.reads

pub zero_few : (old new : Option (List ℕ)) → MayRead old new 0 → ReadsFew old new
zero_few old new (inl none) = record { places = []; are = none; once = none_twice; few = omega arith }
zero_few old new (inr read) = record { places = 0 ∷ []; are = read; once = distinct_behind_zero [] none_twice tt; few = omega arith }

behind_few : (known : Option (List ℕ)) (key : List ℕ) (old new : Option (List ℕ)) (fault : DirectFault) (header : StampedHeader) → RefusesBehind known key old new fault header → ReadsFew old new
behind_few known key old new fault header (head, first, heads, inl fails) = in_walk old first heads known header (pseudokey_in header key) new fault fails
behind_few known key old new fault header (head, first, heads, inr (place, between, names, fails)) = at_end old first heads known header key between new place fault names fails

refused_few : (known : Option (List ℕ)) (key : List ℕ) (old new : Option (List ℕ)) (fault : DirectFault) → RefusesPlaced known key old new fault → ReadsFew old new
refused_few known key old new fault (inl first) = zero_few old new first.1
refused_few known key old new fault (inr (header, behind)) = behind_few known key old new fault header behind

pub few_read : (known : Option (List ℕ)) (key : List ℕ) (old new : Option (List ℕ)) (result : Result (Option (List ℕ)) DirectFault) → IfOk result (FindsPlaced known key old new) → IfErr result (RefusesPlaced known key old new) → ReadsFew old new
few_read known key old new (Ok value) found refused = found_few known key old new value found
few_read known key old new (Err fault) found refused = refused_few known key old new fault refused
