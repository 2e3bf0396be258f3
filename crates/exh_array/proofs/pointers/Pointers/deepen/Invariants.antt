use Rattle.std.proofs.Common.{◌^◌, ◌≤◌, vec_capacity}
use Rattle.exh_array.proofs.Deeper.{AreRepeated}
use Rattle.exh_array.proofs.pointers.Pointers.deepen.Given as goal

abbrev pub invariant-loop-at : goal.invariant-loop-at
invariant-loop-at l = AreRepeated (2 ^ l.more) l.at l.self-inside.pointers.items l.pointers.items × (l.many ≤ vec_capacity l.pointers)
