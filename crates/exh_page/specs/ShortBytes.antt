-- Byte strings that stand in an array of the greatest length.
use Rattle.std.specs.Prelude.{◌≡◌, ℕ, ◌-◌, ◌≤◌, List, ◌++◌, length, take, replicate}
use Rattle.std.proofs.Common.{sym, ap, ◌∙◌}
use Rattle.std.proofs.lemmas.List.{length-take-le}
use Rattle.std.proofs.Common.{arith}

-- the first `len` bytes of an array of `limit` bytes, of which the others are 0
pub record IsStored (limit len : ℕ) (array : List ℕ) : Type 0 where
  pub fits : len ≤ limit
  pub whole : length array ≡ limit
  pub rest : array ≡ take len array ++ replicate (limit - len) 0

pub length-short_bytes : (limit len : ℕ) (array : List ℕ) → IsStored limit len array → length (take len array) ≡ len
length-short_bytes limit len array stored = length-take-le len array (omega (arith, stored.fits, stored.whole))

pub array-stored : (limit len : ℕ) (array : List ℕ) → IsStored limit len array → take len array ++ replicate (limit - length (take len array)) 0 ≡ array
array-stored limit len array stored = ap (λ n. take len array ++ replicate (limit - n) 0) (length-short_bytes limit len array stored) ∙ sym stored.rest
