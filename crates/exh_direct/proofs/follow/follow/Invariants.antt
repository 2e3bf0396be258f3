use Rattle.std.proofs.Common.{◌≡◌, ℕ, List, length, map, nat_cmp, nat_eq}
use Rattle.std.specs.BTreeSet.{contains}
use Rattle.std.specs.List.{IsDistinct, list_any}
use Rattle.std.specs.Io.KnownBytes.{Appends}
use Rattle.exh_format.specs.FileVersion.{file_version}
use Rattle.exh_direct.specs.DirectAnswer.{IsWay, place_in}
use Rattle.exh_direct.proofs.follow.follow.Given as goal

abbrev pub invariant-loop-turn : goal.invariant-loop-turn
invariant-loop-turn g l = record {
  same : g.B.Blocks.known l.blocks ≡ g.B.Blocks.known l.initial.blocks;
  so_far : (way : List ℕ) × (length way ≡ l.turn) × IsWay (file_version l.version) (g.B.Blocks.known l.initial.blocks) l.header l.key l.first way l.number
      × Appends (g.B.Blocks.reads l.initial.blocks) (g.B.Blocks.reads l.blocks) (map (place_in l.header l.key) way) × IsDistinct nat_eq way × ((n : ℕ) → contains nat_cmp l.passed n ≡ list_any (nat_eq n) way);
}
