use Rattle.std.proofs.Common.{◌≡◌, ℕ, [], ◌∷◌, List, nat_eq, false, length, slice_get, inr, refl, ◌∙◌, subst, arith}
use Rattle.std.specs.Io.KnownBytes.{Appends}
use Rattle.std.specs.List.{list_any}
use Rattle.exh_edits.specs.declared.walk_block.WalkBlock.{WalkBlock}
use Rattle.exh_edits.specs.WalkBlocks.{HasGroup, IsBlockOf, IsWalkBlock, groups_read}
use Rattle.exh_edits.proofs.BlockLemmas.{slice_last}
use Rattle.exh_edits.proofs.Counts.{few_pages}
use Rattle.exh_edits.proofs.search.block_at.Goals as goal

pub returns-in-Some-clause-there : goal.returns-in-Some-clause-there
returns-in-Some-clause-there g c = subst (λ (blocks : List WalkBlock). HasGroup blocks c.args.group c.in-Some.index) c.deref.ensures.value c.in-Some.ensures.some

pub walk_block-place-requires : goal.walk_block-place-requires
walk_block-place-requires g c = omega (arith, c.requires.within, few_pages c.args.header.now c.requires.header)

pub returns-clause-taken : goal.returns-clause-taken
returns-clause-taken g c =
    let header = c.args.header.now in
    let group = c.args.group in
    let known = g.B.Blocks.known c.args.blocks.now in
    let place = c.walk_block-place.ensures in
    let block : WalkBlock = record { group = group; cells = c.in_ok-cells.cells } in
    let is : IsBlockOf known header block = record {
      within = c.requires.within;
      count = omega (arith, c.in_ok-cells.ensures.count, c.min-cells.ensures, c.page_count.ensures.count, c.in_ok-cells.cells.ok.0);
      is = subst (λ (place : ℕ). IsWalkBlock known place c.in_ok-cells.cells.items) place c.in_ok-cells.ensures.ok;
    } in
    inr (record {
      block = block;
      of_group = refl;
      is = is;
      other = subst (λ (blocks : List WalkBlock). list_any (nat_eq group) (groups_read blocks) ≡ false) c.deref.ensures.value c.in_default.ensures.none;
      joined = c.in_ok-push_item.ensures.ok;
      reads = subst (λ (place : ℕ). Appends (g.B.Blocks.reads c.args.blocks.now) (g.B.Blocks.reads c.read_cells.new.blocks) (place ∷ [])) place c.in_ok-cells.ensures.one_read;
    })

pub returns-clause-there : goal.returns-clause-there
returns-clause-there g c =
    let read = c.args.read.now.items in
    let block : WalkBlock = record { group = c.args.group; cells = c.in_ok-cells.cells } in
    let last : c.len-index.result ≡ length read = omega (arith, c.len-index.ensures, c.args.read.now.ok.0) in
    (block, (λ i. slice_get (c.in_ok-push_item.ensures.ok i) (last i)) ∙ slice_last read block, refl)
