-- What a storm prints, and with which status the program then ends.
use Rattle.std.specs.Prelude.{◌≡◌, ℕ, Bool, List, [], ◌∷◌, ◌++◌, codes, decimal, Option, Result, Ok, Err, MatchBool}
use Rattle.std.specs.Io.KnownBytes.{Appends}
use Rattle.exh_stream.specs.Output.{AppendsBeginning}
use Rattle.exh_live.specs.StormFault.{storm_fault_number}
use Rattle.exh_live.specs.declared.fault.StormFault.{StormFault}
use Rattle.exh_everyday.specs.declared.Status.{Status}
use Rattle.exh_everyday.specs.declared.Status.TheVariants.{Done, Refused}

-- how many answers were settled, or the refusal's number
abbrev pub storm_line : Result ℕ StormFault → List ℕ
storm_line (Ok answers) = codes "settled " ++ (decimal answers ++ 10 ∷ [])
storm_line (Err fault) = codes "refused " ++ (decimal (storm_fault_number fault) ++ 10 ∷ [])

abbrev pub storm_status : Result ℕ StormFault → Status
storm_status (Ok answers) = Done
storm_status (Err fault) = Refused

-- Of a writer that held `old` bytes before and `new` ones after, where these are known: the line went out, and the status
-- is the storm's; or the writer failed, a beginning of the line went out, and the run is refused.
abbrev pub EndsStorm : Option (List ℕ) → Option (List ℕ) → Bool → Result ℕ StormFault → Status → Type 0
EndsStorm old new failed outcome status = MatchBool failed (AppendsBeginning old new (storm_line outcome) × (status ≡ Refused)) (Appends old new (storm_line outcome) × (status ≡ storm_status outcome))
