-- Blocks of a file that have other content, or are added behind the last one.
use Rattle.std.specs.Prelude.{ℕ, ◌+◌, ◌*◌, List, [], ◌∷◌, ◌++◌, take, drop}
use Rattle.exh_codec.specs.declared.block.TheConstants.{BLOCK_LEN}
use Rattle.exh_edits.specs.declared.block_edit.BlockEdit.{BlockEdit}

-- the bytes with this block at a place: in place of the one there, or behind the last one
abbrev pub with_block : ℕ → List ℕ → List ℕ → List ℕ
with_block place block bytes = take (BLOCK_LEN * place) bytes ++ (block ++ drop (BLOCK_LEN * (place + 1)) bytes)

-- the bytes after some edits, the first of which is made first
abbrev pub with_edits : List BlockEdit → List ℕ → List ℕ
with_edits [] bytes = bytes
with_edits (edit ∷ edits) bytes = with_edits edits (with_block edit.place edit.block bytes)
