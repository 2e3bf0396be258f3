use Rattle.std.specs.Prelude.{◌≡◌, length}
use Rattle.exh_fakes.proofs.live_step.are_idle.Given as goal

-- the courier has as many cursors as before, and the copy its name
abbrev pub invariant-rounds : goal.invariant-rounds
invariant-rounds g l = record {
  cursors : length l.cursors ≡ length l.fn.cursors;
  name : l.writer.name ≡ l.fn.writer.name;
}
