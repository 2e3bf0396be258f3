use Rattle.std.proofs.Common.{arith}
use Rattle.exh_legal.proofs.Lone.{lone_linked, lone_fits, lone_grown}
use Rattle.exh_legal.proofs.laws.lone_pages_are_legal.Goals as goal

pub returns : goal.returns
returns c cap pseudo ward short = record {
  legal = record {
    legal = record { each = ((record { rising = tt; hashed = tt; begun = tt }, omega arith), tt); linked = lone_linked ward short };
    grown = lone_grown ward short;
  };
  fits = lone_fits ward short;
}
