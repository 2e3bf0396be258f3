use Rattle.std.proofs.Common.{◌≡◌, ◌⊎◌, ◌+◌, ℕ, Some, slice_get}
use Rattle.std.specs.declared.cmp.Ordering.TheVariants.{Less}
use Rattle.exh_prefix.specs.Prefix.{prefix_cmp}
use Rattle.exh_format.specs.declared.file_entry.FileEntry.{FileEntry}
use Rattle.exh_direct.proofs.side.side_of.Given as goal

-- the entry before comes before the prefix
abbrev pub invariant-loop-at : goal.invariant-loop-at
invariant-loop-at l = (l.at ≡ 0) ⊎ ((last : ℕ) × (item : FileEntry) × (l.at ≡ last + 1) × (slice_get l.entries last ≡ Some item) × (prefix_cmp item.prefix l.prefix ≡ Less))
