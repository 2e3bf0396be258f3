-- What comes of opening the file of a path that a run is over.
use Rattle.std.specs.Prelude.{◌≡◌, ⊤, ℕ, List, None, Option, Some, string_bytes}
use Rattle.exh_saving.specs.declared.seen.Seen.{Seen}
use Rattle.exh_job.specs.declared.held_file.HeldFile.{HeldFile}

-- an opened file is known by this path
abbrev pub IsNamed : {O : Type 0} → List ℕ → Seen O → Type 0
IsNamed path seen = string_bytes seen.named ≡ path

-- where a path is named there are wards, and the file, which is known by the path; where none is, neither
abbrev pub IsOpenedAt : {W : Type 0} → Option (List ℕ) → Option W → Option HeldFile → Type 0
IsOpenedAt None None None = ⊤
IsOpenedAt (Some path) (Some wards) (Some held) = IsNamed path held.seen
IsOpenedAt path wards held = ⊥
