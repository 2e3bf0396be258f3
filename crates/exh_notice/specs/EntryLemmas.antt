-- The order of entries is total, and only equal entries are level.
use Rattle.std.proofs.Common.{◌≡◌, ℕ, refl, sym, ap}
use Rattle.std.specs.declared.cmp.Ordering.TheVariants.{Less}
use Rattle.std.specs.Ordering.{nat_cmp, ordering_reverse, is_eq, is_lt}
use Rattle.std.specs.Cmp.{IsTotalOrder}
use Rattle.std.specs.FinMap.{IsAntisymmetric, nat_cmp-IsAntisymmetric}
use Rattle.std.proofs.lemmas.Cmp.{nat_cmp_total, on_total, then_total}
use Rattle.std.proofs.lemmas.Bool.{true≢false}
use Rattle.std.proofs.lemmas.Map.Lookups.{exact_pairs, exact_unsigned}
use Rattle.exh_join.specs.JoinLaws.{JoinLaws}
use Rattle.exh_join.specs.Greater.{IsUpTo, greater}
use Rattle.exh_join.specs.GreaterLemmas.{greater_laws}
use Rattle.exh_notice.specs.declared.entry.Entry.{Entry}
use Rattle.exh_notice.specs.declared.entry.Kind.{Kind}
use Rattle.exh_notice.specs.declared.entry.Kind.TheVariants.{Merge, Split}
use Rattle.exh_notice.specs.Entry.{kind_cmp, entry_cmp}

kind_cmp-antisymm : (x y : Kind) → kind_cmp x y ≡ ordering_reverse (kind_cmp y x)
kind_cmp-antisymm Merge Merge = refl
kind_cmp-antisymm Merge (Split right) = refl
kind_cmp-antisymm (Split right) Merge = refl
kind_cmp-antisymm (Split one) (Split other) = nat_cmp_total.antisymm one other

kind_cmp-trans : (x y z : Kind) → kind_cmp x y ≡ Less → kind_cmp y z ≡ Less → kind_cmp x z ≡ Less
kind_cmp-trans Merge y Merge h k = elim y as (λ y. kind_cmp Merge y ≡ Less → kind_cmp y Merge ≡ Less → kind_cmp Merge Merge ≡ Less) [ Merge ↦ λ h k. h | Split right ↦ λ h k. absurd (true≢false (ap is_lt (sym k))) ] h k
kind_cmp-trans Merge y (Split right) h k = refl
kind_cmp-trans (Split one) Merge z h k = absurd (true≢false (ap is_lt (sym h)))
kind_cmp-trans (Split one) (Split other) Merge h k = k
kind_cmp-trans (Split one) (Split other) (Split third) h k = nat_cmp_total.trans one other third h k

pub kind_cmp-exact : IsAntisymmetric kind_cmp
kind_cmp-exact Merge Merge level = refl
kind_cmp-exact Merge (Split right) level = absurd (true≢false (ap is_eq (sym level)))
kind_cmp-exact (Split right) Merge level = absurd (true≢false (ap is_eq (sym level)))
kind_cmp-exact (Split one) (Split other) level = ap Split (nat_cmp-IsAntisymmetric one other level)

pub kind_cmp-total : IsTotalOrder kind_cmp
kind_cmp-total = record {
  antisymm = kind_cmp-antisymm;
  trans = kind_cmp-trans;
  congr = λ x y z level. ap (λ w. kind_cmp w z) (kind_cmp-exact x y level);
}

pub entry_cmp-total : IsTotalOrder entry_cmp
entry_cmp-total = then_total (on_total (λ (e : Entry). e.number) nat_cmp_total) (on_total (λ (e : Entry). e.kind) kind_cmp-total)

of_pair : ℕ × Kind → Entry
of_pair pair = record { number = pair.0; kind = pair.1 }

pub entry_cmp-exact : IsAntisymmetric entry_cmp
unfolding of_pair
entry_cmp-exact x y level = ap of_pair (exact_pairs nat_cmp kind_cmp exact_unsigned kind_cmp-exact (x.number, x.kind) (y.number, y.kind) level)

pub entry_laws : JoinLaws (IsUpTo entry_cmp) (greater entry_cmp)
entry_laws = greater_laws entry_cmp-total entry_cmp-exact
