use Rattle.std.proofs.Common.{◌≡◌, length, sym, ◌∙◌, subst, refl, arith}
use Rattle.std.proofs.lemmas.Bool.{false≢true}
use Rattle.byteorder.specs.Endian.{big_from}
use Rattle.exh_format.specs.FileVersion.{file_version}
use Rattle.exh_format.specs.HeaderImage.{IsHeader}
use Rattle.exh_format.proofs.HeaderBytes.{count_read, number_in, same_headers}
use Rattle.exh_format.proofs.header.Header.from_fields.Goals as goal

pub returns-then-is_in_range-clause-some : goal.returns-then-is_in_range-clause-some
returns-then-is_in_range-clause-some c =
    let entries : big_from 16 4 c.args.block.now ≡ c.read_u32.result = sym (c.read_u32.ensures ∙ number_in 16 4080 4 c.args.block.now (omega arith)) in
    let sixteen : length c.read_u32_into.new.dst ≡ 16 = c.read_u32_into.auto.dst in
    record {
      cap = refl;
      ward_bits = refl;
      keyer = c.in_ok-keyer.ensures.some;
      entries = entries;
      counts = λ ward within. sym (c.read_u32_into.ensures ward (omega (arith, within, sixteen)) ∙ count_read c.args.block.now ward within);
    }

pub returns-else-is_in_range-clause-none : goal.returns-else-is_in_range-clause-none
returns-else-is_in_range-clause-none c header read valid =
    let entries : big_from 16 4 c.args.block.now ≡ c.read_u32.result = sym (c.read_u32.ensures ∙ number_in 16 4080 4 c.args.block.now (omega arith)) in
    let sixteen : length c.read_u32_into.new.dst ≡ 16 = c.read_u32_into.auto.dst in
    let same = same_headers c.args.block.now header _ valid.counts sixteen read (record {
      cap = refl;
      ward_bits = refl;
      keyer = c.in_ok-keyer.ensures.some;
      entries = entries;
      counts = λ ward within. sym (c.read_u32_into.ensures ward (omega (arith, within, sixteen)) ∙ count_read c.args.block.now ward within);
    }) in
    absurd (false≢true (sym c.if-is_in_range.false ∙ c.is_in_range.ensures.1 (subst (IsHeader (file_version c.args.version)) same valid)))

pub returns-then-is_in_range-clause-in_range : goal.returns-then-is_in_range-clause-in_range
returns-then-is_in_range-clause-in_range c = c.is_in_range.ensures.0 c.if-is_in_range.true
