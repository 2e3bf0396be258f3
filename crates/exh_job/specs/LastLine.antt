-- A line that the program itself prints, as its last.
use Rattle.std.specs.Prelude.{◌≡◌, ℕ, Bool, cond, List, [], ◌∷◌, ◌++◌, codes, Option, MatchBool}
use Rattle.std.specs.Io.KnownBytes.{Appends}
use Rattle.exh_stream.specs.Output.{AppendsBeginning}
use Rattle.exh_job.specs.declared.status.Status.{Status}
use Rattle.exh_job.specs.declared.status.Status.TheVariants.{Refused}

-- where memory ended it
abbrev pub memory_line : List ℕ
memory_line = codes "refused 10" ++ 10 ∷ []

-- Of a writer that held `old` bytes before and `new` ones after, where these are known: a line of the program's own went
-- out, or the writer failed, and a beginning of it did.
abbrev pub PrintsLine : Option (List ℕ) → Option (List ℕ) → Bool → List ℕ → Type 0
PrintsLine old new failed line = MatchBool failed (AppendsBeginning old new line) (Appends old new line)

-- a line, and the status, which is another where the line didn't go out
abbrev pub TellsLine : Option (List ℕ) → Option (List ℕ) → Bool → List ℕ → Status → Status → Type 0
TellsLine old new failed line status result = PrintsLine old new failed line × (result ≡ cond failed Refused status)
