use Rattle.std.proofs.Common.{refl, sym, ap, ◌∙◌, arith}
use Rattle.exh_array.specs.Pointers.{pointer_at}
use Rattle.exh_array.proofs.Places.{comes_short, comes_there}
use Rattle.exh_array.proofs.pointers.Pointers.place.Goals as goal

pub returns-then-first-len-clause-place : goal.returns-then-first-len-clause-place
returns-then-first-len-clause-place c table has =
    comes_short table c.args.self.now c.args.prefix has c.requires (omega arith) c.pointer-first.result (ap (pointer_at c.args.self.now) (sym c.low.ensures) ∙ c.pointer-first.ensures.at) (omega arith)

pub returns-clause-place : goal.returns-clause-place
returns-clause-place c table has =
    (refl, comes_there table c.args.self.now c.args.prefix has c.requires (omega arith) c.pointer-first.result (ap (pointer_at c.args.self.now) (sym c.low.ensures) ∙ c.pointer-first.ensures.at) (omega arith))
