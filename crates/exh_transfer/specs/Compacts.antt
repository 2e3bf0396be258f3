-- What a compact prints, and how it ends.
use Rattle.std.specs.Prelude.{ℕ, Bool, List, ◌++◌, codes, decimal, Option, Result, Ok, Err}
use Rattle.exh_run.specs.declared.Status.{Status}
use Rattle.exh_run.specs.declared.Status.TheVariants.{Done, Missing}
use Rattle.exh_compact.specs.declared.compaction.CompactCounts.{CompactCounts}
use Rattle.exh_compact.specs.declared.compaction.CompactOutcome.{CompactOutcome}
use Rattle.exh_compact.specs.declared.compaction.CompactOutcome.TheVariants as compacted
use Rattle.exh_map.specs.declared.store_error.StoreError.{StoreError}
use Rattle.exh_text.specs.Contents.{on_line}
use Rattle.exh_run.specs.Ends.{Ended, Ends, Says, Silent, change_status}

abbrev pub compact_line : CompactCounts → List ℕ
compact_line counts = on_line (codes "compacted " ++ (decimal counts.pages_before ++ (codes " pages to " ++ decimal counts.pages_after)))

-- the file is made anew, also where its folder isn't synchronized; or it isn't
abbrev pub compact_ended : Result CompactOutcome StoreError → Ended
compact_ended (Ok (compacted.Done counts)) = Says (compact_line counts) Done
compact_ended (Ok (compacted.Unsynchronized counts cause)) = Says (compact_line counts) Done
compact_ended (Ok (compacted.Full keys)) = Silent Missing
compact_ended (Err fault) = Silent (change_status fault)

abbrev pub CompactEnds : Option (List ℕ) → Option (List ℕ) → Bool → Status → Type 0
CompactEnds old new failed status = (done : Result CompactOutcome StoreError) × Ends (compact_ended done) old new failed status
