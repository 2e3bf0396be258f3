use Rattle.std.proofs.Common.{◌≡◌}
use Rattle.example_threads.proofs.service.new_callers.Given as goal

abbrev pub invariant-loop-copy : goal.invariant-loop-copy
invariant-loop-copy g l = l.file.ward_bits ≡ l.fn.file.ward_bits
