use Rattle.std.proofs.Common.{◌∙◌, length, arith, rules}
use Rattle.std.proofs.lemmas.List.Sorted.{IsNonDecreasingBy-from_sort_by_key, sum_by-IsPermutation}
use Rattle.exh_ward.specs.WardState.{WardState}
use Rattle.exh_live.specs.WardParts.{parts_of_number}
use Rattle.exh_live.proofs.Order.{all_in_order}
use Rattle.exh_live.proofs.close.put_in_order.Goals as goal

pub returns-clause-order : goal.returns-clause-order
returns-clause-order g c =
    let sorted = c.sort_unstable_by_key.ensures in
    let rising = IsNonDecreasingBy-from_sort_by_key (λ (ward : WardState g.row.K.Denot). ward.number) _ sorted.sorted (λ a r q k. search rules) in
    let same = sum_by-IsPermutation (λ (ward : WardState g.row.K.Denot). parts_of_number ward.number) _ _ sorted.permutation in
    all_in_order _ rising (omega (arith, sorted.len, c.requires.few)) (same ∙ c.requires.all ∙ search rules)

pub returns-clause-entries : goal.returns-clause-entries
returns-clause-entries g c = sum_by-IsPermutation (λ (ward : WardState g.row.K.Denot). length ward.journal) _ _ c.sort_unstable_by_key.ensures.permutation
