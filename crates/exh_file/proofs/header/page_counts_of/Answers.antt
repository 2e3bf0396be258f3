use Rattle.std.proofs.Common.{◌≡◌, ℕ, suc, ◌+◌, ◌-◌, ◌<◌, ◌≤◌, ◌∷◌, [], ◌++◌, List, length, map, take, replicate, set, slice_get, Some, refl, sym, ap, ◌∙◌, arith}
use Rattle.std.proofs.lemmas.List.{length-map, length_push, length-take-le, map-append, take_all}
use Rattle.std.proofs.lemmas.Option.{slice_get_read}
use Rattle.exh_keyer.specs.declared.any_keyer.AnyKeyer.{AnyKeyer}
use Rattle.exh_ward.specs.WardState.{WardState}
use Rattle.exh_file.specs.Saved.{counts_in, pages_of_all}
use Rattle.exh_file.proofs.Lists.{next_is, set_zero}
use Rattle.exh_file.proofs.header.page_counts_of.Goals as goal

abbrev lens_in : List (WardState AnyKeyer) → List ℕ
lens_in wards = map length (pages_of_all wards)

lens_join : (front back : List (WardState AnyKeyer)) → lens_in (front ++ back) ≡ lens_in front ++ lens_in back
lens_join front back = ap (map length) (map-append (λ (ward : WardState AnyKeyer). ward.pages) front back) ∙ map-append length (pages_of_all front) (pages_of_all back)

one_more : (wards : List (WardState AnyKeyer)) (number : ℕ) (ward : WardState AnyKeyer) (counts : List ℕ) (count : ℕ) → number < length wards → length wards ≤ 16 → slice_get wards number ≡ Some ward → count ≡ length ward.pages
    → counts ≡ counts_in (take number wards) → set counts number count ≡ counts_in (take (number + 1) wards)
one_more wards number ward counts count less few is here so_far =
    let lens = lens_in (take number wards) in
    let many : length lens ≡ number = length-map (pages_of_all (take number wards)) length ∙ length-map (take number wards) (λ (ward : WardState AnyKeyer). ward.pages) ∙ length-take-le number wards (omega (arith, less)) in
    let room : 16 - length lens ≡ suc (16 - (number + 1)) = omega (arith, many, less, few) in
    let next : lens_in (take (number + 1) wards) ≡ lens ++ length ward.pages ∷ [] = next_is lens_in lens_join wards number ward is (length ward.pages ∷ []) refl in
    let more : 16 - length (lens ++ length ward.pages ∷ []) ≡ 16 - (number + 1) = ap (λ (n : ℕ). 16 - n) (length_push lens (length ward.pages) ∙ ap (λ (n : ℕ). n + 1) many) in
    ap (λ (l : List ℕ). set l number count) (so_far ∙ ap (λ (n : ℕ). lens ++ replicate n 0) room)
    ∙ ap (λ (n : ℕ). set (lens ++ replicate (suc (16 - (number + 1))) 0) n count) (sym many)
    ∙ set_zero lens (16 - (number + 1)) count
    ∙ ap (λ (n : ℕ). (lens ++ n ∷ []) ++ replicate (16 - (number + 1)) 0) here
    ∙ ap (λ (n : ℕ). (lens ++ length ward.pages ∷ []) ++ replicate n 0) (sym more)
    ∙ ap (λ (l : List ℕ). l ++ replicate (16 - length l) 0) (sym next)

pub loop-number-preserved : goal.loop-number-preserved
loop-number-preserved g c =
    let wards = c.args.wards.now in
    let number = c.loop-number.number in
    let less = c.loop-number-test.true in
    one_more wards number c.index-wards-number.result c.loop-number.counts c.page_count.result less c.requires
    (slice_get_read wards (length wards) number c.index-wards-number.result refl less c.index-wards-number.is) c.page_count.ensures.count c.loop-number.invariant

pub returns : goal.returns
returns g c = c.loop-number.invariant ∙ ap counts_in (take_all c.loop-number.number c.args.wards.now c.loop-number-test.false)
