use Rattle.std.proofs.Common.{◌≡◌, ◌+◌, ◌≤◌, ◌++◌, length, map}
use Rattle.exh_text.specs.Note.{visible}
use Rattle.exh_text.proofs.note.put_visible.Given as goal

abbrev pub invariant-loop-rest : goal.invariant-loop-rest
invariant-loop-rest l = record {
  text : l.note.items ++ map visible l.rest ≡ l.initial.note.items ++ map visible l.initial.rest;
  len : length l.note.items + length l.rest ≡ length l.initial.note.items + length l.initial.rest;
  room : length l.note.items + length l.rest ≤ 160;
}

abbrev pub decreases-loop-rest : goal.decreases-loop-rest
decreases-loop-rest l = length l.rest
