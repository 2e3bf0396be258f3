use Rattle.std.proofs.Common.{◌≡◌, ◌++◌}
use Rattle.std.specs.Prelude.{replicate}
use Rattle.exh_compact.proofs.text.push_bar_of.Given as goal

-- so many signs so far
abbrev pub invariant-signs : goal.invariant-signs
invariant-signs l = l.out.items ≡ l.fn.out.items ++ replicate l.sign 35
