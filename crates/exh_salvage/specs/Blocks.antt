-- Blocks of some bytes, by their places.
use Rattle.std.specs.Prelude.{◌≡◌, ℕ, ◌*◌, ◌≤◌, List, Option, length, take, drop, IfSome}
use Rattle.exh_codec.specs.declared.block.TheConstants.{BLOCK_LEN}

abbrev pub block_at : ℕ → List ℕ → List ℕ
block_at place bytes = take BLOCK_LEN (drop (BLOCK_LEN * place) bytes)

-- the block at a place is whole
abbrev pub IsWhole : ℕ → List ℕ → Type 0
IsWhole place bytes = BLOCK_LEN ≤ length (drop (BLOCK_LEN * place) bytes)

-- the block is the one at a place, which is whole, where the bytes are known
abbrev pub IsBlockAt : Option (List ℕ) → ℕ → List ℕ → Type 0
IsBlockAt known place block = IfSome known (λ bytes. IsWhole place bytes × (block ≡ block_at place bytes))
