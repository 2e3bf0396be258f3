-- What a file has without its log.
use Rattle.std.specs.Prelude.{◌≡◌, ℕ, ◌+◌, ◌<◌, List, [], length, take}
use Rattle.exh_codec.specs.declared.block.TheConstants.{BLOCK_LEN}
use Rattle.exh_commit.specs.FilePages.{StandsFor}

-- a file that stands for some bytes alone has them, and behind them less than a block
abbrev pub FilesAloneHaveBytes : Type 0
FilesAloneHaveBytes = (db bytes : List ℕ) → StandsFor (record { log = []; db = db }) bytes → (take (length bytes) db ≡ bytes) × (length db < length bytes + BLOCK_LEN)
