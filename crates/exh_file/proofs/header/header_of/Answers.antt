use Rattle.std.proofs.Common.{◌≤◌, sym, subst, arith}
use Rattle.std.proofs.Math.Nat.{pow-le-pow_right}
use Rattle.exh_prefix.specs.declared.prefix.TheConstants.{WARD_BITS_LIMIT}
use Rattle.exh_file.proofs.header.header_of.Goals as goal

pub entry_count_of-requires-clause-few : goal.entry_count_of-requires-clause-few
entry_count_of-requires-clause-few g c = omega (arith, c.requires.count, pow-le-pow_right {n = 2} (omega arith) c.requires.bits)

pub page_counts_of-requires : goal.page_counts_of-requires
page_counts_of-requires g c = omega (arith, c.requires.count, pow-le-pow_right {n = 2} (omega arith) c.requires.bits)

pub entry_count_of-requires-clause-bits : goal.entry_count_of-requires-clause-bits
entry_count_of-requires-clause-bits g c number ward there = subst (λ bits. bits ≤ WARD_BITS_LIMIT) (sym (c.requires.each number ward there).bits) c.requires.bits
