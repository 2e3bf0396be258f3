-- What holds of each element of a list.
use Rattle.std.proofs.Common.{ℕ, suc, ◌<◌, List, [], ◌∷◌, get_or}
use Rattle.std.specs.List.{AllByRecursion}

pub all_bytes : (bytes : List ℕ) → ((i : ℕ) → get_or bytes i 0 < 256) → AllByRecursion (λ (byte : ℕ). byte < 256) bytes
all_bytes [] small = tt
all_bytes (byte ∷ bytes) small = (small 0, all_bytes bytes (λ i. small (suc i)))
