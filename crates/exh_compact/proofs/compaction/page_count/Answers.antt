use Rattle.std.proofs.Common.{◌≡◌, ℕ, ◌+◌, ◌-◌, ◌<◌, ◌^◌, List, [], ◌∷◌, ◌++◌, get_or, length, take, sym, ap, ◌∙◌, arith}
use Rattle.std.specs.Prelude.{min}
use Rattle.std.proofs.lemmas.List.{take_more}
use Rattle.std.proofs.lemmas.List.Sums.{sum_by-append, sum_by-cons}
use Rattle.exh_ward.specs.WardState.{WardState}
use Rattle.exh_compact.specs.Compacted.{pages_in}
use Rattle.exh_compact.proofs.compaction.page_count.Goals as goal

one_ward_more : {K : Type 0} (wards : List (WardState K)) (index : ℕ) (ward : WardState K) → index < length wards → get_or wards index ward ≡ ward → pages_in (take (index + 1) wards) ≡ pages_in (take index wards) + length ward.pages
one_ward_more {K} wards index ward within here =
    let pages : WardState K → ℕ = λ ward. length ward.pages in
    let more : take (index + 1) wards ≡ take index wards ++ ward ∷ [] = take_more wards index ward within ∙ ap (λ w. take index wards ++ w ∷ []) here in
    omega (arith, ap pages_in more, sum_by-append pages (take index wards) (ward ∷ []), sum_by-cons pages ward [])

pub loop-ward-preserved : goal.loop-ward-preserved
loop-ward-preserved c =
    omega (arith, c.loop-ward.invariant, c.saturating_add-count.ensures, c.from.ensures, c.page_count.ensures.count, one_ward_more c.args.wards.now c.loop-ward.ward-index c.ward-item.result c.loop-ward-test.true (sym c.ward-item.is))
