-- The bytes of a file with edits of its blocks.
use Rattle.std.specs.Prelude.{ℕ, List, Option}
use Rattle.std.specs.Option.{option_map}
use Rattle.exh_edits.specs.declared.block_edit.BlockEdit.{BlockEdit}
use Rattle.exh_edits.specs.BlockEdits.{with_edits}

-- where they are known
abbrev pub shown : Option (List ℕ) → List BlockEdit → Option (List ℕ)
shown known edits = option_map (with_edits edits) known
