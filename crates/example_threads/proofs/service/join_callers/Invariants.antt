use Rattle.std.proofs.Common.{◌≡◌, ◌^◌, length}
use Rattle.example_threads.proofs.service.join_callers.Given as goal

-- there is a place for each ward
abbrev pub invariant-loop-thread : goal.invariant-loop-thread
invariant-loop-thread g l = length l.cursors ≡ 2 ^ l.file.ward_bits
