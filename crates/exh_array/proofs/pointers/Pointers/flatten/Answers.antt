use Rattle.std.proofs.Common.{sym, ◌∙◌, subst, arith}
use Rattle.exh_array.specs.Pointers.{IsArrayOf}
use Rattle.exh_array.specs.Within.{HasLeavesOf}
use Rattle.exh_array.proofs.Flat.{shallow_array, deep_array}
use Rattle.exh_array.proofs.pointers.Pointers.flatten.Goals as goal

pub loop-self-preserved : goal.loop-self-preserved
loop-self-preserved c = record {
  ward_bits = c.halve.ensures.ward_bits ∙ c.loop-self.invariant.ward_bits;
  leaves = λ table has. c.halve.ensures.leaves table (c.loop-self.invariant.leaves table has);
}

-- nothing is left to halve
pub returns-else-self-gt0-clause-array : goal.returns-else-self-gt0-clause-array
returns-else-self-gt0-clause-array c table has =
    subst (IsArrayOf table) c.self.view_is
    (shallow_array c.self.inside.deepest _ c.self.invariant table (subst (HasLeavesOf table) (sym c.self.view_is) (c.loop-self.invariant.leaves table has)) (omega arith))

-- some pointer is as deep as the array
pub returns-after-loop-self-clause-array : goal.returns-after-loop-self-clause-array
returns-after-loop-self-clause-array c table has =
    subst (IsArrayOf table) c.self.view_is
    (deep_array c.self.inside.deepest _ c.self.invariant table (subst (HasLeavesOf table) (sym c.self.view_is) (c.loop-self.invariant.leaves table has)) (omega arith))
