use Rattle.std.proofs.Common.{◌≡◌, ◌++◌, take, flat_map}
use Rattle.exh_transfer.specs.Salvages.{line_of_saved}
use Rattle.exh_transfer.proofs.salvaging.push_pairs.Given as goal

-- the lines of the pairs so far
abbrev pub invariant-loop-pair : goal.invariant-loop-pair
invariant-loop-pair l = record {
  added : l.text.items ≡ l.fn.text.items ++ flat_map (line_of_saved l.format l.is_hex) (take l.pair-index l.pairs);
}
