use Rattle.std.proofs.Common.{◌≡◌, ◌+◌, ◌*◌, ◌≤◌, ◌^◌, length}
use Rattle.std.specs.FinMap as fin
use Rattle.std.specs.List.{sum_by}
use Rattle.exh_legal.proofs.TableSteps.{weight}
use Rattle.exh_legal.proofs.change_numbers.index_of.Given as goal

-- what is left to be added makes the sum, and what was added is so much at most for each entry
abbrev pub invariant-loop-entry : goal.invariant-loop-entry
invariant-loop-entry l = record {
  rest : l.told + sum_by weight l.entry-iterator ≡ sum_by weight (fin.entries l.table);
  few : l.told + 2 ^ 32 * length l.entry-iterator ≤ 2 ^ 32 * length (fin.entries l.table);
}
