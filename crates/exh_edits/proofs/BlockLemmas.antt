-- Walk blocks that are read one after the other, and the walk over them.
use Rattle.std.proofs.Common.{◌≡◌, ℕ, zero, suc, ◌+◌, ◌≤◌, nat_eq, false, List, [], ◌∷◌, ◌++◌, length, Option, Result, Ok, Err, Some, slice_get, inl, inr, refl, sym, ap, subst, append_assoc, append-nil, arith}
use Rattle.std.specs.Prelude.{IfErr, IsErrAnd}
use Rattle.std.proofs.KnownBytes.{Appends-nil, Appends-trans}
use Rattle.std.proofs.lemmas.List.{length_push, map_push}
use Rattle.std.specs.Io.KnownBytes.{Appends}
use Rattle.std.specs.List.{AllByRecursion, IsDistinct, list_any}
use Rattle.exh_prefix.specs.PrefixListLemmas.{AllByRecursion-push}
use Rattle.exh_table.specs.declared.leaf.Leaf.{Leaf}
use Rattle.exh_cells.specs.declared.cell.Cell.{Cell}
use Rattle.exh_cells.specs.declared.cell.Slot.{Slot}
use Rattle.exh_cells.specs.declared.stamped_header.StampedHeader.{StampedHeader}
use Rattle.exh_cells.specs.Places.{walk_block_of}
use Rattle.exh_direct.specs.declared.direct_fault.DirectFault.{DirectFault}
use Rattle.exh_direct.specs.OnceLemmas.{distinct_more}
use Rattle.exh_edits.specs.declared.walk_block.WalkBlock.{WalkBlock}
use Rattle.exh_edits.specs.WalkBlocks.{AreBlocksOf, IsBlockOf, IsTaken, groups_read, places_in}
use Rattle.exh_edits.specs.CellWalk.{AreAsked, AsksFor, HasComeTo, IsCellAt, TellsSlot}
use Rattle.exh_edits.specs.PlacedAnswer.{HasRead}

-- an error that is handed on
pub err_is : {T : Type 0} (result : Result T DirectFault) (fault : DirectFault) (P : DirectFault → Type 0) → IsErrAnd result (λ e. e ≡ fault) → P fault → IfErr result P
err_is (Ok value) fault P is holds = tt
err_is (Err e) fault P is holds = subst P (sym is) holds

-- ---- elements of lists

slice_front : {X : Type 0} (xs ys : List X) (i : ℕ) (x : X) → slice_get xs i ≡ Some x → slice_get (xs ++ ys) i ≡ Some x
slice_front [] ys i x is = cc
slice_front (y ∷ xs) ys zero x is = is
slice_front (y ∷ xs) ys (suc i) x is = slice_front xs ys i x is

pub slice_last : {X : Type 0} (xs : List X) (x : X) → slice_get (xs ++ x ∷ []) (length xs) ≡ Some x
slice_last [] x = refl
slice_last (y ∷ xs) x = slice_last xs x

pub all_at : {X : Type 0} (P : X → Type 0) (xs : List X) (i : ℕ) (x : X) → AllByRecursion P xs → slice_get xs i ≡ Some x → P x
all_at P [] i x all is = cc
all_at P (y ∷ xs) zero x all is = let same : y ≡ x = cc in subst P same all.0
all_at P (y ∷ xs) (suc i) x all is = all_at P xs i x all.1 is

-- ---- what blocks tell, they tell with others behind them

module _ (blocks more : List WalkBlock) where
  cell_more : (place : ℕ) (cell : Cell) → IsCellAt blocks place cell → IsCellAt (blocks ++ more) place cell
  cell_more place cell is = record { index = is.index; block = is.block; read = slice_front blocks more is.index is.block is.read; of_group = is.of_group; there = is.there }

  slot_more : (leaf : Leaf) (slot : Slot) → TellsSlot blocks leaf slot → TellsSlot (blocks ++ more) leaf slot
  slot_more leaf slot (cell, there, is) = (cell, cell_more leaf.page cell there, is)

  pub come_more : (ward_bits pseudokey splits : ℕ) (leaf : Leaf) → HasComeTo ward_bits pseudokey blocks splits leaf → HasComeTo ward_bits pseudokey (blocks ++ more) splits leaf
  come_more ward_bits pseudokey zero leaf come = come
  come_more ward_bits pseudokey (suc splits) leaf (last, come, short, slot, tells, of_split, is) =
      (last, come_more ward_bits pseudokey splits last come, short, slot, slot_more last slot tells, of_split, is)

module _ (ward_bits pseudokey : ℕ) where
  asked_more : (before blocks : List WalkBlock) (block : WalkBlock) → AreAsked ward_bits pseudokey before blocks → AsksFor ward_bits pseudokey (before ++ blocks) block.group → AreAsked ward_bits pseudokey before (blocks ++ block ∷ [])
  asked_more before [] block asked asks = (subst (λ (blocks : List WalkBlock). AsksFor ward_bits pseudokey blocks block.group) (append-nil before) asks, tt)
  asked_more before (one ∷ blocks) block asked asks = (
    asked.0,
    asked_more (before ++ one ∷ []) blocks block asked.1 (subst (λ (blocks : List WalkBlock). AsksFor ward_bits pseudokey blocks block.group) (sym (append_assoc before (one ∷ []) blocks)) asks),
  )

-- ---- blocks that were read

module _ (known : Option (List ℕ)) (header : StampedHeader) where
  pub no_blocks : AreBlocksOf known header []
  unfolding IsDistinct
  no_blocks = record { each = tt; once = tt }

  pub one_more : (blocks : List WalkBlock) (block : WalkBlock) → AreBlocksOf known header blocks → IsBlockOf known header block → list_any (nat_eq block.group) (groups_read blocks) ≡ false → AreBlocksOf known header (blocks ++ block ∷ [])
  one_more blocks block are is other = record {
    each = AllByRecursion-push (IsBlockOf known header) blocks block are.each is;
    once = subst (IsDistinct nat_eq) (sym (map_push (λ (block : WalkBlock). block.group) blocks block)) (distinct_more (groups_read blocks) block.group are.once other);
  }

  -- after a block was taken, those that were read are of the file, and what was told before is told
  pub taken_are : (group : ℕ) (old new : Option (List ℕ)) (before after : List WalkBlock) → AreBlocksOf known header before → IsTaken known header group old new before after → AreBlocksOf known header after
  taken_are group old new before after are (inl taken) = subst (AreBlocksOf known header) (sym taken.0) are
  taken_are group old new before after are (inr next) =
      let other = subst (λ (group : ℕ). list_any (nat_eq group) (groups_read before) ≡ false) (sym next.of_group) next.other in
      subst (AreBlocksOf known header) (sym next.joined) (one_more before next.block are next.is other)

  pub come_taken : (ward_bits pseudokey splits : ℕ) (leaf : Leaf) (group : ℕ) (old new : Option (List ℕ)) (before after : List WalkBlock) → IsTaken known header group old new before after
      → HasComeTo ward_bits pseudokey before splits leaf → HasComeTo ward_bits pseudokey after splits leaf
  come_taken ward_bits pseudokey splits leaf group old new before after (inl taken) come = subst (λ (blocks : List WalkBlock). HasComeTo ward_bits pseudokey blocks splits leaf) (sym taken.0) come
  come_taken ward_bits pseudokey splits leaf group old new before after (inr next) come =
      subst (λ (blocks : List WalkBlock). HasComeTo ward_bits pseudokey blocks splits leaf) (sym next.joined) (come_more before (next.block ∷ []) ward_bits pseudokey splits leaf come)

  module _ (pseudokey : ℕ) where
    pub none_read : (now : Option (List ℕ)) → HasRead known header pseudokey now now []
    none_read now = record { are = no_blocks; asked = tt; reads = Appends-nil now }

    pub read_taken : (old between new : Option (List ℕ)) (group : ℕ) (before after : List WalkBlock) → HasRead known header pseudokey old between before → AsksFor header.settings.ward_bits pseudokey before group
        → IsTaken known header group between new before after → HasRead known header pseudokey old new after
    read_taken old between new group before after read asks (inl taken) =
        subst (HasRead known header pseudokey old new) (sym taken.0)
        (record { are = read.are; asked = read.asked; reads = subst (Appends old new) (append-nil (places_in before)) (Appends-trans old between new (places_in before) [] read.reads taken.1) })
    read_taken old between new group before after read asks (inr next) =
        let block = next.block in
        let places = subst (λ (group : ℕ). Appends between new (walk_block_of group ∷ [])) (sym next.of_group) next.reads in
        let asked = subst (AsksFor header.settings.ward_bits pseudokey before) (sym next.of_group) asks in
        record {
          are = taken_are group between new before after read.are (inr next);
          asked = subst (AreAsked header.settings.ward_bits pseudokey []) (sym next.joined) (asked_more header.settings.ward_bits pseudokey [] before block read.asked asked);
          reads = subst (λ (blocks : List WalkBlock). Appends old new (places_in blocks)) (sym next.joined)
              (subst (Appends old new) (sym (map_push (λ (block : WalkBlock). walk_block_of block.group) before block)) (Appends-trans old between new (places_in before) (walk_block_of block.group ∷ []) read.reads places));
        }

  pub length_taken : (group : ℕ) (old new : Option (List ℕ)) (before after : List WalkBlock) (most : ℕ) → IsTaken known header group old new before after → length before ≤ most → length after ≤ most + 1
  length_taken group old new before after most (inl taken) few = omega (arith, few, ap length taken.0)
  length_taken group old new before after most (inr next) few = omega (arith, few, ap length next.joined, length_push before next.block)
