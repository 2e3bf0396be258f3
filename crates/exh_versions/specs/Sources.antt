-- A source of blocks, as the contracts of private functions see it.
use Rattle.std.specs.Prelude.{ℕ, Bool, List, Option}
use Rattle.exh_stream.specs.Source.{reader_failed, unread}
use Rattle.exh_versions.specs.declared.block_source.BlockSource.{BlockSource}

-- the bytes that the reader has left, where they are known
abbrev pub left : {R : Type 0} → (R → Option (List ℕ)) → BlockSource R → Option (List ℕ)
left remaining blocks = unread remaining blocks.source

-- a read of the blocks failed
abbrev pub blocks_failed : {R : Type 0} → BlockSource R → Bool
blocks_failed blocks = reader_failed blocks.source
