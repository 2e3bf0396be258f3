use Rattle.std.specs.Prelude.{◌≡◌, ◌^◌, length}
use Rattle.exh_fakes.proofs.live_step.take_list.Given as goal

-- the courier has as many cursors as before, and the caller looks at the writer's copy
abbrev pub invariant-steps : goal.invariant-steps
invariant-steps g l = record {
  cursors : length l.cursors ≡ 2 ^ l.file.ward_bits;
  own : l.caller.copy.name ≡ l.writer.name;
}
