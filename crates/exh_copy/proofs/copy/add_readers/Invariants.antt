use Rattle.std.proofs.Common.{◌≡◌, ◌+◌, [], ◌++◌, replicate}
use Rattle.std.specs.Prelude.{vec_len, vec_capacity}
use Rattle.exh_copy.proofs.copy.add_readers.Given as goal

-- so many readers so far, and room for the rest
abbrev pub invariant-loop : goal.invariant-loop
invariant-loop g l = (l.made.items ≡ l.fn.made.items ++ replicate l.counter (record { name = l.writer.name; additions = [] })) × (vec_len l.made ≡ vec_len l.fn.made + l.counter) × (vec_capacity l.made ≡ vec_capacity l.fn.made)
