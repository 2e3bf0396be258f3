-- Blocks of a table that are read one after the other, and what they tell.
use Rattle.std.proofs.Common.{◌≡◌, ℕ, zero, suc, ◌+◌, ◌-◌, ◌*◌, ◌<◌, ◌≤◌, min, nat_eq, false, Bool, List, [], ◌∷◌, ◌++◌, length, map, Option, None, Some, slice_get, inl, inr, refl, sym, ap, ◌∙◌, subst, append_assoc, append-nil, arith}
use Rattle.std.proofs.KnownBytes.{Appends-nil, Appends-trans}
use Rattle.std.proofs.lemmas.List.{length-append, map-append, map_push}
use Rattle.std.proofs.lemmas.Map.Keys.{IsDistinct-push}
use Rattle.std.specs.Cmp.{nat_eq_equiv}
use Rattle.std.specs.Io.KnownBytes.{Appends}
use Rattle.std.specs.List.{AllByRecursion, IsDistinct, list_any}
use Rattle.exh_prefix.specs.PrefixListLemmas.{AllByRecursion-push}
use Rattle.exh_format.specs.declared.Leaf.{Leaf}
use Rattle.exh_format.specs.declared.file_entry.FileEntry.{FileEntry}
use Rattle.exh_format.specs.declared.header.Header.{Header}
use Rattle.exh_format.specs.FileVersion.{FileVersion}
use Rattle.exh_direct.specs.declared.direct_fault.DirectFault.{DirectFault}
use Rattle.exh_format.specs.FileTests.{TableFails}
use Rattle.exh_format.specs.PageFile.{table_blocks}
use Rattle.exh_direct.specs.declared.side.Side.TheVariants.{Among, Before, Behind}
use Rattle.exh_direct.specs.declared.table_block.TableBlock.{TableBlock}
use Rattle.exh_direct.specs.KnownBlocks.{BlockFails, MayRead}
use Rattle.exh_direct.specs.TableSearch.{AreBlocksOf, BeginsBehind, EndsBefore, FailsBehind, FailsNext, HasComeTo, IsBlockOf, IsEntryAt, IsSide, ReadsOn, Tells, entries_in, numbers_of, places_in, table_place}

-- ---- blocks that were read

slice_front : {X : Type 0} (xs ys : List X) (i : ℕ) (x : X) → slice_get xs i ≡ Some x → slice_get (xs ++ ys) i ≡ Some x
slice_front [] ys i x is = cc
slice_front (y ∷ xs) ys zero x is = is
slice_front (y ∷ xs) ys (suc i) x is = slice_front xs ys i x is

pub slice_last : {X : Type 0} (xs : List X) (x : X) → slice_get (xs ++ x ∷ []) (length xs) ≡ Some x
slice_last [] x = refl
slice_last (y ∷ xs) x = slice_last xs x

pub all_at : {X : Type 0} (P : X → Type 0) (xs : List X) (i : ℕ) (x : X) → AllByRecursion P xs → slice_get xs i ≡ Some x → P x
all_at P [] i x all is = cc
all_at P (y ∷ xs) zero x all is = let same : y ≡ x = cc in subst P same all.0
all_at P (y ∷ xs) (suc i) x all is = all_at P xs i x all.1 is

pub places_by_number : (header : Header) (blocks : List TableBlock) → places_in header blocks ≡ map (λ (number : ℕ). table_place header + number) (numbers_of blocks)
places_by_number header [] = refl
places_by_number header (block ∷ blocks) = ap (λ (places : List ℕ). (table_place header + block.number) ∷ places) (places_by_number header blocks)

module _ (version : FileVersion) (known : Option (List ℕ)) (header : Header) where
  pub no_blocks : AreBlocksOf version known header []
  unfolding IsDistinct
  no_blocks = record { each = tt; once = tt }

  pub block_more : (blocks : List TableBlock) (block : TableBlock) → AreBlocksOf version known header blocks → IsBlockOf version known header block → list_any (nat_eq block.number) (numbers_of blocks) ≡ false → AreBlocksOf version known header (blocks ++ block ∷ [])
  block_more blocks block are is other = record {
    each = AllByRecursion-push (IsBlockOf version known header) blocks block are.each is;
    once = subst (IsDistinct nat_eq) (sym (map_push (λ (block : TableBlock). block.number) blocks block)) (IsDistinct-push nat_eq_equiv (numbers_of blocks) block.number are.once other);
  }

  pub no_more : (now : Option (List ℕ)) (blocks : List TableBlock) (most : ℕ) → AreBlocksOf version known header blocks → ReadsOn version known header now now blocks blocks most
  no_more now blocks most are = record { more = []; joined = sym (append-nil blocks); few = omega arith; are = are; reads = Appends-nil now }

  module _ (old between new : Option (List ℕ)) (before middle : List TableBlock) (count most : ℕ) (first : ReadsOn version known header old between before middle count) where
    pub read_more : (after : List TableBlock) → ReadsOn version known header between new middle after most → ReadsOn version known header old new before after (count + most)
    read_more after second = record {
      more = first.more ++ second.more;
      joined = second.joined ∙ ap (λ (blocks : List TableBlock). blocks ++ second.more) first.joined ∙ append_assoc before first.more second.more;
      few = omega (arith, first.few, second.few, length-append first.more second.more);
      are = second.are;
      reads = subst (Appends old new) (sym (map-append _ first.more second.more)) (Appends-trans old between new (places_in header first.more) (places_in header second.more) first.reads second.reads);
    }

    pub fails_later : (fault : DirectFault) → FailsNext version known header between new middle most fault → FailsNext version known header old new before (count + most) fault
    fails_later fault second =
        let joined : middle ++ second.more ≡ before ++ (first.more ++ second.more) = ap (λ (blocks : List TableBlock). blocks ++ second.more) first.joined ∙ append_assoc before first.more second.more in
        record {
          more = first.more ++ second.more;
          few = omega (arith, first.few, second.few, length-append first.more second.more);
          number = second.number;
          behind = subst (λ (blocks : List TableBlock). FailsBehind version known header fault blocks second.number) joined second.behind;
          between = second.between;
          reads = subst (Appends old second.between) (sym (map-append _ first.more second.more)) (Appends-trans old between second.between (places_in header first.more) (places_in header second.more) first.reads second.reads);
          last = second.last;
        }

  pub read_within : (old new : Option (List ℕ)) (before after : List TableBlock) (count most : ℕ) → count ≤ most → ReadsOn version known header old new before after count → ReadsOn version known header old new before after most
  read_within old new before after count most less reads = record { more = reads.more; joined = reads.joined; few = omega (arith, less, reads.few); are = reads.are; reads = reads.reads }

  pub fails_within : (old new : Option (List ℕ)) (before : List TableBlock) (count most : ℕ) (fault : DirectFault) → count ≤ most → FailsNext version known header old new before count fault → FailsNext version known header old new before most fault
  fails_within old new before count most fault less fails = record {
    more = fails.more;
    few = omega (arith, less, fails.few);
    number = fails.number;
    behind = fails.behind;
    between = fails.between;
    reads = fails.reads;
    last = fails.last;
  }

  -- the block of a number that isn't among them fails
  pub next_fails : (now new : Option (List ℕ)) (blocks : List TableBlock) (number : ℕ) (fault : DirectFault) → AreBlocksOf version known header blocks → number < table_blocks header.entry_count → list_any (nat_eq number) (numbers_of blocks) ≡ false
      → BlockFails (TableFails version.images (table_place header + number) (entries_in header number) None) known (table_place header + number) fault → MayRead now new (table_place header + number) → FailsNext version known header now new blocks 1 fault
  next_fails now new blocks number fault are within other fails last = record {
    more = [];
    few = omega arith;
    number = number;
    behind = subst (λ (blocks : List TableBlock). FailsBehind version known header fault blocks number) (sym (append-nil blocks)) (record { are = are; within = within; other = other; fails = fails });
    between = now;
    reads = Appends-nil now;
    last = last;
  }

  -- it is read
  pub next_read : (now new : Option (List ℕ)) (blocks after : List TableBlock) (block : TableBlock) → AreBlocksOf version known header blocks → IsBlockOf version known header block → list_any (nat_eq block.number) (numbers_of blocks) ≡ false
      → after ≡ blocks ++ block ∷ [] → Appends now new ((table_place header + block.number) ∷ []) → ReadsOn version known header now new blocks after 1
  next_read now new blocks after block are is other joined reads = record {
    more = block ∷ [];
    joined = joined;
    few = omega arith;
    are = subst (AreBlocksOf version known header) (sym joined) (block_more blocks block are is other);
    reads = reads;
  }

  -- ---- what a block tells

  module _ (blocks : List TableBlock) (prefix : List Bool) (index : ℕ) (block : TableBlock) (read : slice_get blocks index ≡ Some block) (is : IsBlockOf version known header block) where
    entry_in : (place at : ℕ) (item : FileEntry) → slice_get block.entries.items at ≡ Some item → place ≡ 254 * block.number + at → IsEntryAt blocks place item
    entry_in place at item there same = record { index = index; block = block; read = read; at = at; there = there; is = same }

    pub begins_at : IsSide block.entries.items prefix Before → BeginsBehind blocks header.entry_count (min (254 * block.number) header.entry_count) prefix
    begins_at (item, there, greater) = inr (item, entry_in _ 0 item there (omega (arith, is.within)), greater)

    pub ends_at : IsSide block.entries.items prefix Behind → EndsBefore blocks (min (254 * (block.number + 1)) header.entry_count) prefix
    ends_at (item, there, less) =
        let last = length block.entries.items - 1 in
        inr (254 * block.number + last, item, omega (arith, is.within, is.count), entry_in _ last item there refl, less)

    pub tells_at : (told : Option FileEntry) → IsSide block.entries.items prefix (Among told) → Tells blocks header.entry_count prefix told
    tells_at None (at, before, behind, first, second, less, greater) = (
      254 * block.number + (at + 1),
      inr (254 * block.number + at, before, omega arith, entry_in _ at before first refl, less),
      inr (behind, entry_in _ (at + 1) behind second refl, greater),
    )
    tells_at (Some item) (at, there, same) = (254 * block.number + at, entry_in _ at item there refl, same)

-- ---- what they tell, they tell with others behind them

module _ (blocks more : List TableBlock) where
  entry_more : (place : ℕ) (item : FileEntry) → IsEntryAt blocks place item → IsEntryAt (blocks ++ more) place item
  entry_more place item is = record { index = is.index; block = is.block; read = slice_front blocks more is.index is.block is.read; at = is.at; there = is.there; is = is.is }

  pub ends_more : (place : ℕ) (prefix : List Bool) → EndsBefore blocks place prefix → EndsBefore (blocks ++ more) place prefix
  ends_more place prefix (inl none) = inl none
  ends_more place prefix (inr (last, item, is, there, less)) = inr (last, item, is, entry_more last item there, less)

  pub begins_more : (count place : ℕ) (prefix : List Bool) → BeginsBehind blocks count place prefix → BeginsBehind (blocks ++ more) count place prefix
  begins_more count place prefix (inl all) = inl all
  begins_more count place prefix (inr (item, there, behind)) = inr (item, entry_more place item there, behind)

  tells_more : (count : ℕ) (prefix : List Bool) (told : Option FileEntry) → Tells blocks count prefix told → Tells (blocks ++ more) count prefix told
  tells_more count prefix None (place, before, behind) = (place, ends_more place prefix before, begins_more count place prefix behind)
  tells_more count prefix (Some item) (place, there, is) = (place, entry_more place item there, is)

  pub come_more : (header : Header) (pseudokey splits : ℕ) (leaf : Leaf) → HasComeTo blocks header pseudokey splits leaf → HasComeTo (blocks ++ more) header pseudokey splits leaf
  come_more header pseudokey zero leaf come = come
  come_more header pseudokey (suc splits) leaf (last, come, short, right, (told, tells, splits_there), is) =
      (last, come_more header pseudokey splits last come, short, right, (told, tells_more header.entry_count last.prefix told tells, splits_there), is)
