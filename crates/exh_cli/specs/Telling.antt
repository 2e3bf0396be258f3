-- What is printed where there is no memory for a text that is to be told, and how the program then ends.
use Rattle.std.specs.Prelude.{◌≡◌, ℕ, Bool, List, Option}
use Rattle.exh_everyday.specs.LastLine.{PrintsLine, memory_line}
use Rattle.exh_everyday.specs.declared.Status.{Status}
use Rattle.exh_everyday.specs.declared.Status.TheVariants.{Refused}

-- of a writer that held `old` bytes before and `new` ones after, where these are known
abbrev pub TellsNoMemory : Option (List ℕ) → Option (List ℕ) → Bool → Status → Type 0
TellsNoMemory old new failed status = PrintsLine old new failed memory_line × (status ≡ Refused)
