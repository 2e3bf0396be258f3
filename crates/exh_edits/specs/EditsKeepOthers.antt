-- Bytes of which a block was replaced or added: which block stands at each place, and how long they are.
use Rattle.std.specs.Prelude.{◌≡◌, ◌≢◌, ℕ, ◌+◌, ◌*◌, ◌≤◌, max, List, length}
use Rattle.exh_codec.specs.declared.block.TheConstants.{BLOCK_LEN}
use Rattle.exh_cells.specs.FileTests.{IsWhole, block_at}
use Rattle.exh_edits.specs.BlockEdits.{with_block}
use Rattle.exh_edits.specs.EditLaws.{StandsAt}

-- the place is that of a block of the bytes, or of the next behind them
pub record IsEditOf (bytes : List ℕ) (place : ℕ) (block : List ℕ) : Type 0 where
  pub len : length block ≡ BLOCK_LEN
  pub within : BLOCK_LEN * place ≤ length bytes

-- the block stands at its place
abbrev pub BlockStands : Type 0
BlockStands = (bytes : List ℕ) (place : ℕ) (block : List ℕ) → IsEditOf bytes place block → StandsAt (with_block place block bytes) place block

-- every other whole block stands where it stood
abbrev pub OthersStand : Type 0
OthersStand = (bytes : List ℕ) (place : ℕ) (block : List ℕ) (other : ℕ)
    → IsEditOf bytes place block → other ≢ place → IsWhole other bytes → StandsAt (with_block place block bytes) other (block_at other bytes)

-- the bytes are as long as before, or end behind the block
abbrev pub LengthsGrow : Type 0
LengthsGrow = (bytes : List ℕ) (place : ℕ) (block : List ℕ) → IsEditOf bytes place block → length (with_block place block bytes) ≡ max (length bytes) (BLOCK_LEN * (place + 1))
