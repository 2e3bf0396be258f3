use Rattle.std.proofs.Common.{◌≡◌, ◌-◌, length}
use Rattle.exh_prefix.specs.declared.prefix.TheConstants.{LIMIT}
use Rattle.exh_prefix.specs.Prefix.{low_of}
use Rattle.exh_legal.proofs.table_fit.parent_of.Given as goal

abbrev pub invariant-loop-bit : goal.invariant-loop-bit
invariant-loop-bit l = record {
  low : low_of l.prefix ≡ l.low;
  left : length l.prefix ≡ LIMIT - l._bit;
}
