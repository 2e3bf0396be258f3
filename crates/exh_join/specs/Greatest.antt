-- Numbers that only grow.
use Rattle.std.specs.Prelude.{ℕ}
use Rattle.std.specs.declared.cmp.Ordering.{Ordering}
use Rattle.std.specs.Ordering.{nat_cmp, on}
use Rattle.std.specs.FinMap.{IsAntisymmetric, nat_cmp-IsAntisymmetric}
use Rattle.std.proofs.Common.{ap}
use Rattle.std.proofs.lemmas.Cmp.{nat_cmp_total, on_total}
use Rattle.exh_join.specs.JoinLaws.{JoinLaws}
use Rattle.exh_join.specs.Greater.{IsUpTo, greater}
use Rattle.exh_join.specs.GreaterLemmas.{greater_laws}
use Rattle.exh_join.specs.declared.greatest.Greatest.{Greatest}

-- by number
abbrev pub greatest_cmp : Greatest → Greatest → Ordering
greatest_cmp = on (λ (g : Greatest). g.number) nat_cmp

of_number : ℕ → Greatest
of_number n = record { number = n }

same_number : IsAntisymmetric greatest_cmp
unfolding of_number
same_number x y level = ap of_number (nat_cmp-IsAntisymmetric x.number y.number level)

pub greatest_laws : JoinLaws (IsUpTo greatest_cmp) (greater greatest_cmp)
greatest_laws = greater_laws (on_total (λ (g : Greatest). g.number) nat_cmp_total) same_number
