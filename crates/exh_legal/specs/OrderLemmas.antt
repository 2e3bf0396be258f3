-- What the test of an order tells.
use Rattle.std.proofs.Common.{◌≡◌, T, refl}
use Rattle.std.specs.Ordering.{is_lt}
use Rattle.std.specs.declared.cmp.Ordering.{Ordering}
use Rattle.std.specs.declared.cmp.Ordering.TheVariants.{Less, Equal, Greater}

pub is_less : (order : Ordering) → T (is_lt order) → order ≡ Less
is_less Less less = refl
is_less Equal less = absurd less
is_less Greater less = absurd less
