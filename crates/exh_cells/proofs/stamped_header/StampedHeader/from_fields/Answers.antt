use Rattle.std.proofs.Common.{◌≡◌, length, sym, ◌∙◌, subst, refl, arith}
use Rattle.std.proofs.lemmas.Bool.{false≢true}
use Rattle.byteorder.specs.Endian.{big_from}
use Rattle.exh_cells.specs.StampedHeader.{IsStampedHeader}
use Rattle.exh_cells.proofs.CellBytes.{number_in}
use Rattle.exh_cells.proofs.HeaderBytes.{count_read}
use Rattle.exh_cells.proofs.StampedPassed.{same_stamped}
use Rattle.exh_cells.proofs.stamped_header.StampedHeader.from_fields.Goals as goal

pub returns-then-is_in_range-clause-some : goal.returns-then-is_in_range-clause-some
returns-then-is_in_range-clause-some c =
    let sixteen : length c.read_u32_into.new.dst ≡ 16 = c.read_u32_into.auto.dst in
    record {
      cap = refl;
      ward_bits = refl;
      keyer = c.in_ok-keyer.ensures.some;
      counts = λ ward within. sym (c.read_u32_into.ensures ward (omega (arith, within, sixteen)) ∙ count_read c.args.block.now ward within);
      stamp = sym (c.read_u64.ensures ∙ number_in 84 4012 8 c.args.block.now (omega arith));
      before = sym (c.read_u64-2.ensures ∙ number_in 92 4004 8 c.args.block.now (omega arith));
    }

pub returns-then-is_in_range-clause-in_range : goal.returns-then-is_in_range-clause-in_range
returns-then-is_in_range-clause-in_range c = c.is_in_range.ensures.0 c.if-is_in_range.true

pub returns-else-is_in_range-clause-none : goal.returns-else-is_in_range-clause-none
returns-else-is_in_range-clause-none c header read valid =
    let sixteen : length c.read_u32_into.new.dst ≡ 16 = c.read_u32_into.auto.dst in
    let same = same_stamped c.args.block.now header _ valid.plain.counts sixteen read (record {
      cap = refl;
      ward_bits = refl;
      keyer = c.in_ok-keyer.ensures.some;
      counts = λ ward within. sym (c.read_u32_into.ensures ward (omega (arith, within, sixteen)) ∙ count_read c.args.block.now ward within);
      stamp = sym (c.read_u64.ensures ∙ number_in 84 4012 8 c.args.block.now (omega arith));
      before = sym (c.read_u64-2.ensures ∙ number_in 92 4004 8 c.args.block.now (omega arith));
    }) in
    absurd (false≢true (sym c.if-is_in_range.false ∙ c.is_in_range.ensures.1 (subst IsStampedHeader same valid)))
