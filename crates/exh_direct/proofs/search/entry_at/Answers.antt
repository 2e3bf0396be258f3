use Rattle.std.proofs.Common.{◌≡◌, ℕ, ◌+◌, ◌-◌, ◌*◌, ◌/◌, List, Bool, Option, get_or, length, min, slice_get, Some, inl, refl, sym, ap, ◌∙◌, subst, arith}
use Rattle.std.proofs.lemmas.Option.{same_Some, slice_get_read, slice_get_within}
use Rattle.exh_format.specs.declared.file_entry.FileEntry.{FileEntry}
use Rattle.exh_format.specs.declared.header.Header.{Header}
use Rattle.exh_format.specs.FileVersion.{FileVersion, file_version}
use Rattle.exh_direct.specs.declared.side.Side.{Side}
use Rattle.exh_direct.specs.declared.side.Side.TheVariants.{Among, Before, Behind}
use Rattle.exh_direct.specs.declared.table_block.TableBlock.{TableBlock}
use Rattle.exh_direct.specs.TableSearch.{AreBlocksOf, BeginsBehind, EndsBefore, FailsNext, HasNumber, IsBlockOf, IsSide, ReadsOn, SEARCH_READS}
use Rattle.exh_direct.proofs.Searches.{all_at, begins_at, begins_more, ends_at, ends_more, fails_later, fails_within, no_more, read_more, read_within, tells_at}
use Rattle.exh_direct.proofs.Tables.{few_entries, halved}
use Rattle.exh_direct.proofs.Ways.{err_is}
use Rattle.exh_direct.proofs.search.entry_at.Goals as goal

-- a block that was read, by its index and its number
record IsMet (version : FileVersion) (known : Option (List ℕ)) (header : Header) (blocks : List TableBlock) (number index : ℕ) (block : TableBlock) : Type 0 where
  at : slice_get blocks index ≡ Some block
  is : IsBlockOf version known header block
  same : block.number ≡ number

met : (version : FileVersion) (known : Option (List ℕ)) (header : Header) (blocks : List TableBlock) (number index : ℕ) (block : TableBlock) → AreBlocksOf version known header blocks → HasNumber blocks number index → block ≡ get_or blocks index block
    → IsMet version known header blocks number index block
met version known header blocks number index block are (other, there, same) is =
    let at : slice_get blocks index ≡ Some block = slice_get_read blocks (length blocks) index block refl (slice_get_within blocks index other there) is in
    let one : other ≡ block = same_Some other block (sym there ∙ at) in
    record { at = at; is = all_at (IsBlockOf version known header) blocks index block are.each at; same = ap (λ (block : TableBlock). block.number) (sym one) ∙ same }

-- where the prefix stands, seen from its entries as the code has them
side_is : (entries items : List FileEntry) (prefix : List Bool) (side : Side) → entries ≡ items → IsSide entries prefix side → IsSide items prefix side
side_is entries items prefix side same is = subst (λ (entries : List FileEntry). IsSide entries prefix side) same is

pub loop-low-init : goal.loop-low-init
loop-low-init g c =
    let header = c.args.header.now in
    let few = few_entries c.args.version header c.requires.header in
    record {
      same = refl;
      order = omega arith;
      within = omega arith;
      ends = inl (omega arith);
      begins = inl (omega arith);
      so_far = (0, 13, omega arith, omega (arith, few), no_more (file_version c.args.version) (g.B.Blocks.known c.args.blocks.now) header (g.B.Blocks.reads c.args.blocks.now) c.args.read.now.items 0 c.requires.read);
    }

pub returns-in_err-index-clause-err : goal.returns-in_err-index-clause-err
returns-in_err-index-clause-err g c =
    let header = c.args.header.now in
    let version = file_version c.args.version in
    let known = g.B.Blocks.known c.args.blocks.now in
    let fault = c.in_err-index.field-0.0 in
    let so_far = c.loop-low.invariant.so_far in
    let fails = subst (λ (known : Option (List ℕ)). FailsNext version known header (g.B.Blocks.reads c.loop-low.blocks) (g.B.Blocks.reads c.block_at.new.blocks) c.loop-low.read.items 1 fault) c.loop-low.invariant.same c.in_err-index.ensures.err in
    let all = fails_later version known header _ _ _ c.args.read.now.items c.loop-low.read.items so_far.0 1 so_far.4 fault fails in
    let some = halved so_far.1 (c.loop-low.high - c.loop-low.low) 0 so_far.3 (omega (arith, c.loop-low-test.true)) (omega arith) in
    err_is c.from_residual.result fault (FailsNext version known header _ _ c.args.read.now.items SEARCH_READS) c.from_residual.ensures.1
    (fails_within version known header _ _ c.args.read.now.items (so_far.0 + 1) 13 fault (omega (arith, so_far.2, some.1)) all)

pub index-requires : goal.index-requires
index-requires g c =
    let there = c.in_ok-index.ensures.there in
    omega (arith, slice_get_within c.block_at.new.read.items c.in_ok-index.index there.0 there.1, c.block_at.new.read.ok.0)

pub side_of-requires : goal.side_of-requires
side_of-requires g c =
    let header = c.args.header.now in
    let version = file_version c.args.version in
    let known = g.B.Blocks.known c.loop-low.blocks in
    let on = c.in_ok-index.ensures.reads in
    let is = (met version known header c.block_at.new.read.items _ c.in_ok-index.index c.index.result.now on.are c.in_ok-index.ensures.there c.index.ensures).is in
    omega (arith, ap length c.deref.ensures.value, is.count, is.within)

pub loop-low-preserved-in-Before : goal.loop-low-preserved-in-Before
loop-low-preserved-in-Before g c =
    let header = c.args.header.now in
    let version = file_version c.args.version in
    let known = g.B.Blocks.known c.args.blocks.now in
    let low = c.loop-low.low in
    let gap = c.loop-low.high - low in
    let middle = low + gap / 2 in
    let so_far = c.loop-low.invariant.so_far in
    let same = c.loop-low.invariant.same in
    let on = subst (λ (known : Option (List ℕ)). ReadsOn version known header (g.B.Blocks.reads c.loop-low.blocks) (g.B.Blocks.reads c.block_at.new.blocks) c.loop-low.read.items c.block_at.new.read.items 1) same c.in_ok-index.ensures.reads in
    let block = c.index.result.now in
    let is = met version known header c.block_at.new.read.items middle c.in_ok-index.index block on.are c.in_ok-index.ensures.there c.index.ensures in
    let side = side_is _ block.entries.items c.args.prefix Before c.deref.ensures.value c.in-Before.ensures in
    let some = halved so_far.1 gap (gap / 2) so_far.3 (omega (arith, c.loop-low-test.true)) (omega arith) in
    record {
      same = c.in_ok-index.ensures.same_bytes ∙ same;
      order = omega arith;
      within = omega (arith, c.loop-low.invariant.within);
      ends = subst (λ (blocks : List TableBlock). EndsBefore blocks (min (254 * low) header.entry_count) c.args.prefix) (sym on.joined) (ends_more c.loop-low.read.items on.more _ c.args.prefix c.loop-low.invariant.ends);
      begins = subst (λ (number : ℕ). BeginsBehind c.block_at.new.read.items header.entry_count (min (254 * number) header.entry_count) c.args.prefix) is.same
          (begins_at version known header c.block_at.new.read.items c.args.prefix c.in_ok-index.index block is.at is.is side);
      so_far = (
        so_far.0 + 1,
        some.0,
        omega (arith, so_far.2, some.1),
        omega (arith, some.2),
        read_more version known header _ _ _ c.args.read.now.items c.loop-low.read.items so_far.0 1 so_far.4 c.block_at.new.read.items on,
      );
    }

pub loop-low-preserved : goal.loop-low-preserved
loop-low-preserved g c =
    let header = c.args.header.now in
    let version = file_version c.args.version in
    let known = g.B.Blocks.known c.args.blocks.now in
    let low = c.loop-low.low in
    let gap = c.loop-low.high - low in
    let middle = low + gap / 2 in
    let so_far = c.loop-low.invariant.so_far in
    let same = c.loop-low.invariant.same in
    let on = subst (λ (known : Option (List ℕ)). ReadsOn version known header (g.B.Blocks.reads c.loop-low.blocks) (g.B.Blocks.reads c.block_at.new.blocks) c.loop-low.read.items c.block_at.new.read.items 1) same c.in_ok-index.ensures.reads in
    let block = c.index.result.now in
    let is = met version known header c.block_at.new.read.items middle c.in_ok-index.index block on.are c.in_ok-index.ensures.there c.index.ensures in
    let side = side_is _ block.entries.items c.args.prefix Behind c.deref.ensures.value c.in-Behind.ensures in
    let some = halved so_far.1 gap (c.loop-low.high - (middle + 1)) so_far.3 (omega (arith, c.loop-low-test.true)) (omega (arith, c.loop-low-test.true)) in
    record {
      same = c.in_ok-index.ensures.same_bytes ∙ same;
      order = omega (arith, c.loop-low-test.true);
      within = c.loop-low.invariant.within;
      ends = subst (λ (number : ℕ). EndsBefore c.block_at.new.read.items (min (254 * (number + 1)) header.entry_count) c.args.prefix) is.same
          (ends_at version known header c.block_at.new.read.items c.args.prefix c.in_ok-index.index block is.at is.is side);
      begins = subst (λ (blocks : List TableBlock). BeginsBehind blocks header.entry_count (min (254 * c.loop-low.high) header.entry_count) c.args.prefix) (sym on.joined) (begins_more c.loop-low.read.items on.more header.entry_count _ c.args.prefix c.loop-low.invariant.begins);
      so_far = (
        so_far.0 + 1,
        some.0,
        omega (arith, so_far.2, some.1),
        some.2,
        read_more version known header _ _ _ c.args.read.now.items c.loop-low.read.items so_far.0 1 so_far.4 c.block_at.new.read.items on,
      );
    }

pub returns-in-Among-clause-reads : goal.returns-in-Among-clause-reads
returns-in-Among-clause-reads g c =
    let header = c.args.header.now in
    let version = file_version c.args.version in
    let known = g.B.Blocks.known c.args.blocks.now in
    let so_far = c.loop-low.invariant.so_far in
    let on = subst (λ (known : Option (List ℕ)). ReadsOn version known header (g.B.Blocks.reads c.loop-low.blocks) (g.B.Blocks.reads c.block_at.new.blocks) c.loop-low.read.items c.block_at.new.read.items 1) c.loop-low.invariant.same c.in_ok-index.ensures.reads in
    let some = halved so_far.1 (c.loop-low.high - c.loop-low.low) 0 so_far.3 (omega (arith, c.loop-low-test.true)) (omega arith) in
    read_within version known header _ _ c.args.read.now.items _ (so_far.0 + 1) 13 (omega (arith, so_far.2, some.1))
    (read_more version known header _ _ _ c.args.read.now.items c.loop-low.read.items so_far.0 1 so_far.4 c.block_at.new.read.items on)

pub returns-in-Among-clause-tells : goal.returns-in-Among-clause-tells
returns-in-Among-clause-tells g c =
    let header = c.args.header.now in
    let version = file_version c.args.version in
    let known = g.B.Blocks.known c.loop-low.blocks in
    let on = c.in_ok-index.ensures.reads in
    let block = c.index.result.now in
    let is = met version known header c.block_at.new.read.items _ c.in_ok-index.index block on.are c.in_ok-index.ensures.there c.index.ensures in
    let side = side_is _ block.entries.items c.args.prefix (Among c.in-Among.told) c.deref.ensures.value c.in-Among.ensures in
    tells_at version known header c.block_at.new.read.items c.args.prefix c.in_ok-index.index block is.at is.is c.in-Among.told side

pub returns-clause-reads : goal.returns-clause-reads
returns-clause-reads g c =
    let so_far = c.loop-low.invariant.so_far in
    read_within (file_version c.args.version) (g.B.Blocks.known c.args.blocks.now) c.args.header.now _ _ c.args.read.now.items c.loop-low.read.items so_far.0 13 (omega (arith, so_far.2)) so_far.4

pub returns-clause-tells : goal.returns-clause-tells
returns-clause-tells g c =
    let header = c.args.header.now in
    let met : c.loop-low.high ≡ c.loop-low.low = omega (arith, c.loop-low-test.false, c.loop-low.invariant.order) in (
      min (254 * c.loop-low.low) header.entry_count,
      c.loop-low.invariant.ends,
      subst (λ (high : ℕ). BeginsBehind c.loop-low.read.items header.entry_count (min (254 * high) header.entry_count) c.args.prefix) met c.loop-low.invariant.begins,
    )
