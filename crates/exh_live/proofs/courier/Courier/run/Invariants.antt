use Rattle.std.proofs.Common.{◌≡◌, ◌+◌, ◌^◌, length}
use Rattle.exh_live.specs.StormRounds.{AreCourierRounds}
use Rattle.exh_live.specs.declared.courier.TheConstants.{COURIER_CLIENT}
use Rattle.exh_live.proofs.courier.Courier.run.Given as goal

-- a cursor for each ward, the courier is that of its copy, and the rounds so far
abbrev pub invariant-loop-done : goal.invariant-loop-done
invariant-loop-done g l = record {
  cursors : length l.cursors ≡ 2 ^ l.file.ward_bits;
  number : l.self.number ≡ l.fn.self.number;
  name : l.self.copy.writer.name ≡ l.fn.self.copy.writer.name;
  rounds : AreCourierRounds g.K.Keyer.pseudokey_of (g.G.Gate.may l.gate (COURIER_CLIENT + l.fn.self.number)) l.done l.fn.self.copy.writer l.initial.cursors l.self.copy.writer l.cursors;
}
