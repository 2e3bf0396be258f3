use Rattle.std.proofs.Common.{◌≡◌, ℕ, ◌+◌, ◌-◌, ◌*◌, ◌<◌, ◌≤◌, ◌^◌, min}
use Rattle.exh_format.specs.FileVersion.{file_version}
use Rattle.exh_format.specs.PageFile.{table_blocks}
use Rattle.exh_direct.specs.TableSearch.{BeginsBehind, EndsBefore, ReadsOn}
use Rattle.exh_direct.proofs.search.entry_at.Given as goal

-- blocks before the one bound end before the prefix, and those from the other on begin behind it; each turn halves what is
-- between them
abbrev pub invariant-loop-low : goal.invariant-loop-low
invariant-loop-low g l = record {
  same : g.B.Blocks.known l.blocks ≡ g.B.Blocks.known l.initial.blocks;
  order : l.low ≤ l.high;
  within : l.high ≤ table_blocks l.header.entry_count;
  ends : EndsBefore l.read.items (min (254 * l.low) l.header.entry_count) l.prefix;
  begins : BeginsBehind l.read.items l.header.entry_count (min (254 * l.high) l.header.entry_count) l.prefix;
  so_far : (count : ℕ) × (left : ℕ) × (count + left ≤ 13) × (l.high - l.low < 2 ^ left)
      × ReadsOn (file_version l.version) (g.B.Blocks.known l.initial.blocks) l.header (g.B.Blocks.reads l.initial.blocks) (g.B.Blocks.reads l.blocks) l.initial.read.items l.read.items count;
}

abbrev pub decreases-loop-low : goal.decreases-loop-low
decreases-loop-low g l = l.high - l.low
