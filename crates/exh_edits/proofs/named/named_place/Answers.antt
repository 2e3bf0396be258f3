use Rattle.std.proofs.Common.{◌≡◌, ℕ, suc, ◌+◌, ◌%◌, ◌<◌, ◌≤◌, List, Bool, false, Option, length, get_or, inl, inr, refl, sym, ap, ◌∙◌, subst, arith}
use Rattle.std.proofs.KnownBytes.{Appends-nil}
use Rattle.std.proofs.lemmas.List.{length_push}
use Rattle.exh_prefix.specs.Bits.{word_bits}
use Rattle.exh_prefix.specs.LeadingLemmas.{leading-lt}
use Rattle.exh_prefix.specs.declared.prefix.TheConstants.{LIMIT}
use Rattle.exh_table.specs.declared.leaf.Leaf.{Leaf}
use Rattle.exh_table.specs.TableWalk.{step}
use Rattle.exh_cells.specs.declared.cell.Slot.{Slot}
use Rattle.exh_cells.specs.declared.stamped_header.StampedHeader.{StampedHeader}
use Rattle.exh_cells.specs.Places.{group_in}
use Rattle.exh_direct.specs.TableSearch.{IsOnWay}
use Rattle.exh_direct.specs.OnWayLemmas.{first_on_way, step_on_way}
use Rattle.exh_edits.specs.declared.walk_block.WalkBlock.{WalkBlock}
use Rattle.exh_edits.specs.CellWalk.{ComesTo, IsOfSplit, TellsSlot}
use Rattle.exh_edits.specs.PlacedAnswer.{FailsInWalk, HasRead}
use Rattle.exh_edits.specs.WalkBlocks.{AreBlocksOf, FailsNext, IsTaken}
use Rattle.exh_edits.proofs.BlockLemmas.{come_taken, err_is, length_taken, none_read, read_taken}
use Rattle.exh_edits.proofs.Counts.{few_bits, some_pages}
use Rattle.exh_edits.proofs.named.named_place.Goals as goal

-- the blocks that were read, once they tell a slot of a leaf
record HasTold (known : Option (List ℕ)) (header : StampedHeader) (pseudokey : ℕ) (old new : Option (List ℕ)) (leaf : Leaf) (slot : Slot) (blocks : List WalkBlock) : Type 0 where
  read : HasRead known header pseudokey old new blocks
  few : length blocks ≤ length leaf.prefix + 1
  come : ComesTo header.settings.ward_bits pseudokey blocks leaf
  tells : TellsSlot blocks leaf slot

has_told : (known now : Option (List ℕ)) (header : StampedHeader) (pseudokey : ℕ) (old between new : Option (List ℕ)) (leaf : Leaf) (slot : Slot) (before after : List WalkBlock) → now ≡ known → length leaf.prefix < LIMIT
    → HasRead known header pseudokey old between before → length before ≤ length leaf.prefix → ComesTo header.settings.ward_bits pseudokey before leaf → IsTaken now header (group_in leaf.page) between new before after → TellsSlot after leaf slot
    → HasTold known header pseudokey old new leaf slot after
has_told known now header pseudokey old between new leaf slot before after same short read few come took tells =
    let group = group_in leaf.page in
    let taken = subst (λ (known : Option (List ℕ)). IsTaken known header group between new before after) same took in
    record {
      read = read_taken known header pseudokey old between new group before after read (leaf, come, short, refl) taken;
      few = length_taken known header group between new before after (length leaf.prefix) taken few;
      come = (come.0, come_taken known header header.settings.ward_bits pseudokey come.0 leaf group between new before after taken come.1);
      tells = tells;
    }

-- the slot of no split
even_slot : (slot : Slot) → slot.number % 2 ≡ 0 → ¬ IsOfSplit slot
even_slot slot even odd = omega (arith, even, odd)

odd_slot : (slot : Slot) → (slot.number % 2 ≡ 0 → ⊥) → IsOfSplit slot
odd_slot slot not = omega (arith, not)

pub first_leaf-leaf-requires : goal.first_leaf-leaf-requires
first_leaf-leaf-requires g c = omega (arith, few_bits c.args.header.now c.requires.header)

pub loop-alloc-init : goal.loop-alloc-init
loop-alloc-init g c =
    let header = c.args.header.now in
    let bits = header.settings.ward_bits in
    let known = g.B.Blocks.known c.args.blocks.now in
    let now = g.B.Blocks.reads c.args.blocks.now in
    let pseudokey = c.args.pseudokey in
    let few = few_bits header c.requires.header in
    let first = c.first_leaf-leaf.ensures in
    let on = first_on_way bits pseudokey (omega (arith, few)) in
    record {
      same = refl;
      on_way = subst (IsOnWay pseudokey) (sym first) (record { begins = on.begins; short = on.short });
      come = (0, first);
      there = omega (arith, ap (λ (leaf : Leaf). leaf.page) first, leading-lt bits pseudokey (omega (arith, few)), some_pages header c.requires.header);
      read = subst (HasRead known header pseudokey now now) (sym c.new-read.ensures.items) (none_read known header pseudokey now);
      few = omega (arith, ap length c.new-read.ensures.items);
    }

pub slot_at-requires-clause-read : goal.slot_at-requires-clause-read
slot_at-requires-clause-read g c = subst (λ (known : Option (List ℕ)). AreBlocksOf known c.args.header.now c.loop-alloc.read.items) (sym c.loop-alloc.invariant.same) c.loop-alloc.invariant.read.are

pub returns-in_err-slot-clause-err : goal.returns-in_err-slot-clause-err
returns-in_err-slot-clause-err g c =
    let header = c.args.header.now in
    let known = g.B.Blocks.known c.args.blocks.now in
    let leaf = c.loop-alloc.leaf in
    let fault = c.in_err-slot.field-0.0 in
    let short : length leaf.prefix < LIMIT = omega (arith, c.loop-alloc-test.true, c.len.ensures.length) in
    let fails = subst (λ (known : Option (List ℕ)). FailsNext known header (group_in leaf.page) (g.B.Blocks.reads c.loop-alloc.blocks) (g.B.Blocks.reads c.slot_at.new.blocks) c.loop-alloc.read.items fault) c.loop-alloc.invariant.same c.in_err-slot.ensures.err in
    err_is c.from_residual.result fault (FailsInWalk known header c.args.pseudokey _ _) c.from_residual.ensures.1 (record {
      blocks = c.loop-alloc.read.items;
      between = g.B.Blocks.reads c.loop-alloc.blocks;
      read = c.loop-alloc.invariant.read;
      few = omega (arith, c.loop-alloc.invariant.few, short);
      leaf = leaf;
      comes = c.loop-alloc.invariant.come;
      fails = inl (short, c.loop-alloc.invariant.there, fails);
    })

pub returns-then-slot-eq0-clause-ok : goal.returns-then-slot-eq0-clause-ok
returns-then-slot-eq0-clause-ok g c =
    let header = c.args.header.now in
    let known = g.B.Blocks.known c.args.blocks.now in
    let leaf = c.loop-alloc.leaf in
    let slot = c.in_ok-slot.slot in
    let short : length leaf.prefix < LIMIT = omega (arith, c.loop-alloc-test.true, c.len.ensures.length) in
    let told = has_told known _ header c.args.pseudokey (g.B.Blocks.reads c.args.blocks.now) _ _ leaf slot _ c.slot_at.new.read.items c.loop-alloc.invariant.same short c.loop-alloc.invariant.read c.loop-alloc.invariant.few c.loop-alloc.invariant.come c.in_ok-slot.ensures.taken c.in_ok-slot.ensures.tells in
    record {
      blocks = c.slot_at.new.read.items;
      read = told.read;
      few = omega (arith, told.few, short);
      leaf = leaf;
      ends = (told.come, inr (slot, told.tells, even_slot slot c.if-slot-eq0.true));
      is = refl;
      there = c.loop-alloc.invariant.there;
    }

-- one bit further, over the split that was told
record HasGone (known : Option (List ℕ)) (header : StampedHeader) (pseudokey : ℕ) (old new : Option (List ℕ)) (last next : Leaf) (blocks : List WalkBlock) : Type 0 where
  on_way : IsOnWay pseudokey next
  come : ComesTo header.settings.ward_bits pseudokey blocks next
  longer : length next.prefix ≡ length last.prefix + 1

has_gone : (known : Option (List ℕ)) (header : StampedHeader) (pseudokey : ℕ) (old new : Option (List ℕ)) (last next : Leaf) (slot : Slot) (blocks : List WalkBlock) (bit : Bool) → length last.prefix < LIMIT → IsOnWay pseudokey last → HasTold known header pseudokey old new last slot blocks
    → IsOfSplit slot → bit ≡ get_or (word_bits pseudokey) (length last.prefix) false → next ≡ step last bit slot.page → HasGone known header pseudokey old new last next blocks
has_gone known header pseudokey old new last next slot blocks bit short on_way told of_split bit_is next_is =
    let own = get_or (word_bits pseudokey) (length last.prefix) false in
    let goes : next ≡ step last own slot.page = next_is ∙ ap (λ (bit : Bool). step last bit slot.page) bit_is in
    record {
      on_way = subst (IsOnWay pseudokey) (sym goes) (step_on_way pseudokey last own slot.page on_way short refl);
      come = (suc told.come.0, (last, told.come.1, short, slot, told.tells, of_split, goes));
      longer = ap (λ (leaf : Leaf). length leaf.prefix) goes ∙ length_push last.prefix own;
    }

pub returns-then-leaf-pages-clause-err : goal.returns-then-leaf-pages-clause-err
returns-then-leaf-pages-clause-err g c =
    let header = c.args.header.now in
    let known = g.B.Blocks.known c.args.blocks.now in
    let leaf = c.loop-alloc.leaf in
    let slot = c.in_ok-slot.slot in
    let short : length leaf.prefix < LIMIT = omega (arith, c.loop-alloc-test.true, c.len.ensures.length) in
    let told = has_told known _ header c.args.pseudokey (g.B.Blocks.reads c.args.blocks.now) _ _ leaf slot _ c.slot_at.new.read.items c.loop-alloc.invariant.same short c.loop-alloc.invariant.read c.loop-alloc.invariant.few c.loop-alloc.invariant.come c.in_ok-slot.ensures.taken c.in_ok-slot.ensures.tells in
    let gone = has_gone known header c.args.pseudokey _ _ leaf c.step-leaf.result slot c.slot_at.new.read.items c.next_bit.result short c.loop-alloc.invariant.on_way told (odd_slot slot c.if-slot-eq0.false) c.next_bit.ensures c.step-leaf.ensures in
    record {
      blocks = c.slot_at.new.read.items;
      between = g.B.Blocks.reads c.slot_at.new.blocks;
      read = told.read;
      few = omega (arith, told.few, short);
      leaf = c.step-leaf.result;
      comes = gone.come;
      fails = inr (omega (arith, c.if-leaf-pages.true, c.page_count-pages.ensures.count), Appends-nil (g.B.Blocks.reads c.slot_at.new.blocks), refl);
    }

pub loop-alloc-preserved : goal.loop-alloc-preserved
loop-alloc-preserved g c =
    let header = c.args.header.now in
    let known = g.B.Blocks.known c.args.blocks.now in
    let leaf = c.loop-alloc.leaf in
    let slot = c.in_ok-slot.slot in
    let short : length leaf.prefix < LIMIT = omega (arith, c.loop-alloc-test.true, c.len.ensures.length) in
    let told = has_told known _ header c.args.pseudokey (g.B.Blocks.reads c.args.blocks.now) _ _ leaf slot _ c.slot_at.new.read.items c.loop-alloc.invariant.same short c.loop-alloc.invariant.read c.loop-alloc.invariant.few c.loop-alloc.invariant.come c.in_ok-slot.ensures.taken c.in_ok-slot.ensures.tells in
    let gone = has_gone known header c.args.pseudokey _ _ leaf c.step-leaf.result slot c.slot_at.new.read.items c.next_bit.result short c.loop-alloc.invariant.on_way told (odd_slot slot c.if-slot-eq0.false) c.next_bit.ensures c.step-leaf.ensures in
    record {
      same = c.in_ok-slot.ensures.same_bytes ∙ c.loop-alloc.invariant.same;
      on_way = gone.on_way;
      come = gone.come;
      there = omega (arith, c.if-leaf-pages.false, c.page_count-pages.ensures.count);
      read = told.read;
      few = omega (arith, told.few, gone.longer);
    }

pub returns-clause-ok : goal.returns-clause-ok
returns-clause-ok g c =
    let leaf = c.loop-alloc.leaf in
    let long : LIMIT ≤ length leaf.prefix = omega (arith, c.loop-alloc-test.false, c.len.ensures.length) in
    record {
      blocks = c.loop-alloc.read.items;
      read = c.loop-alloc.invariant.read;
      few = omega (arith, c.loop-alloc.invariant.few, c.loop-alloc.invariant.on_way.short);
      leaf = leaf;
      ends = (c.loop-alloc.invariant.come, inl long);
      is = refl;
      there = c.loop-alloc.invariant.there;
    }
