-- What an export prints, and how it ends.
use Rattle.std.specs.Prelude.{ℕ, Bool, true, false, List, ◌++◌, flat_map, length, Option, Result, Ok, Err}
use Rattle.exh_run.specs.declared.Status.{Status}
use Rattle.exh_run.specs.declared.Status.TheVariants.{Done}
use Rattle.exh_map.specs.declared.store_error.StoreError.{StoreError}
use Rattle.exh_pair_text.specs.Lines.{end_line, opening_line, pair_line}
use Rattle.exh_pair_text.specs.declared.pair_format.PairFormat.{PairFormat}
use Rattle.exh_run.specs.Ends.{Ended, Ends, Says, Silent, reading_status}

abbrev pub line_of_pair : PairFormat → Bool → List ℕ × List ℕ → List ℕ
line_of_pair format hex pair = pair_line format hex pair.0 pair.1

-- the pairs, each on a line, and where they aren't bare the lines before and behind them
abbrev pub export_text : PairFormat → Bool → Bool → List (List ℕ × List ℕ) → List ℕ
export_text format hex true pairs = flat_map (line_of_pair format hex) pairs
export_text format hex false pairs = opening_line format ++ (flat_map (line_of_pair format hex) pairs ++ end_line format (length pairs))

-- the pairs are read, or aren't
abbrev pub export_ended : PairFormat → Bool → Bool → Result (List (List ℕ × List ℕ)) StoreError → Ended
export_ended format hex bare (Ok pairs) = Says (export_text format hex bare pairs) Done
export_ended format hex bare (Err fault) = Silent (reading_status fault)

abbrev pub ExportEnds : PairFormat → Bool → Bool → Option (List ℕ) → Option (List ℕ) → Bool → Status → Type 0
ExportEnds format hex bare old new failed status = (pairs : Result (List (List ℕ × List ℕ)) StoreError) × Ends (export_ended format hex bare pairs) old new failed status
