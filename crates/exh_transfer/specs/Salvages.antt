-- What a salvage prints, and how it ends.
use Rattle.std.specs.Prelude.{◌==◌, ℕ, Bool, true, false, List, ◌++◌, flat_map, length, Option, Result, Ok, Err, if◌then◌else◌}
use Rattle.exh_run.specs.declared.Status.{Status}
use Rattle.exh_run.specs.declared.Status.TheVariants.{Done, Partly}
use Rattle.exh_map.specs.declared.store_error.StoreError.{StoreError}
use Rattle.exh_pair_text.specs.Lines.{end_line, opening_line, pair_line}
use Rattle.exh_pair_text.specs.declared.pair_format.PairFormat.{PairFormat}
use Rattle.exh_run.specs.Ends.{Ended, Ends, Says, Silent, reading_status}
use Rattle.exh_salvage.specs.declared.salvage.Salvage.{Salvage}
use Rattle.exh_salvage.specs.declared.salvage.SavedPair.{SavedPair}

abbrev pub line_of_saved : PairFormat → Bool → SavedPair → List ℕ
line_of_saved format hex pair = pair_line format hex pair.key pair.value

-- the pairs that are saved, as an export has them, in the order of the blocks
abbrev pub saved_text : PairFormat → Bool → Bool → List SavedPair → List ℕ
saved_text format hex true saved = flat_map (line_of_saved format hex) saved
saved_text format hex false saved = opening_line format ++ (flat_map (line_of_saved format hex) saved ++ end_line format (length saved))

-- no block is lost, or some are
abbrev pub salvage_status : Salvage → Status
salvage_status salvage = if salvage.lost == 0 then Done else Partly

-- the file's blocks are gone through, or it isn't read
abbrev pub salvage_ended : PairFormat → Bool → Bool → Result Salvage StoreError → Ended
salvage_ended format hex bare (Ok salvage) = Says (saved_text format hex bare salvage.pairs.items) (salvage_status salvage)
salvage_ended format hex bare (Err fault) = Silent (reading_status fault)

abbrev pub SalvageEnds : PairFormat → Bool → Bool → Option (List ℕ) → Option (List ℕ) → Bool → Status → Type 0
SalvageEnds format hex bare old new failed status = (salvaged : Result Salvage StoreError) × Ends (salvage_ended format hex bare salvaged) old new failed status
