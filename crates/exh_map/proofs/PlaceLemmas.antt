-- The low bounds of pages in their places.
use Rattle.std.proofs.Common.{◌≡◌, ◌<◌, ◌≤◌, ◌+◌, ◌-◌, ◌^◌, ℕ, suc, List, [], ◌∷◌, ◌++◌, Some, append-nil, append_assoc, length, drop, take, min, slice_get, refl, sym, ◌∙◌, ap, arith}
use Rattle.std.specs.Option.{option_map}
use Rattle.std.proofs.lemmas.List.{drop-append-le, drop_all, drop_min, length-take, take_all, take_more}
use Rattle.std.proofs.lemmas.Option.{get_or_from_slice_get, slice_get-map, slice_get_within}
use Rattle.exh_page.specs.declared.page.Page.{Page}
use Rattle.exh_page.specs.declared.page.Page.TheVariants.{Live, Forward}
use Rattle.exh_page.specs.Page.{low_bound}
use Rattle.exh_page.specs.PageHead.{head_of, low_in}
use Rattle.exh_ward.specs.WardState.{WardState}
use Rattle.exh_map.specs.Places.{lows_of, others_of, others_to}

low_same : (page : Page) → low_in (head_of page) ≡ low_bound page
low_same (Live prefix right records) = refl
low_same (Forward low target) = refl

-- none yet of those from a page on
pub none_from : (from : ℕ) (all old : List ℕ) → old ≡ old ++ drop from (take from all)
none_from from all old = sym (ap (λ (rest : List ℕ). old ++ rest) (drop_all from (take from all) (omega (arith, length-take from all))) ∙ append-nil old)

-- one more
pub low_more : {K : Type 0} (ward : WardState K) (from number low : ℕ) (page : Page) (start old new : List ℕ) → from ≤ number → slice_get ward.pages number ≡ Some page → low ≡ low_in (head_of page)
    → old ≡ start ++ drop from (take number (lows_of ward)) → new ≡ old ++ low ∷ [] → new ≡ start ++ drop from (take (number + 1) (lows_of ward))
low_more ward from number low page start old new le there is before more =
    let all = lows_of ward in
    let there_low : slice_get all number ≡ Some (low_bound page) = slice_get-map low_bound ward.pages number ∙ ap (option_map low_bound) there in
    let within : number < length all = slice_get_within all number (low_bound page) there_low in
    let one : take (number + 1) all ≡ take number all ++ low_bound page ∷ [] =
    take_more all number 0 within ∙ ap (λ n. take number all ++ n ∷ []) (get_or_from_slice_get all number (low_bound page) 0 there_low) in
    let seam : drop from (take (number + 1) all) ≡ drop from (take number all) ++ low_bound page ∷ [] =
    ap (drop from) one ∙ drop-append-le from (take number all) (low_bound page ∷ []) (omega (arith, length-take number all, within, le)) in
    more ∙ ap (λ n. old ++ n ∷ []) (is ∙ low_same page) ∙ ap (λ (list : List ℕ). list ++ low_bound page ∷ []) before
    ∙ append_assoc start (drop from (take number all)) (low_bound page ∷ []) ∙ ap (λ (rest : List ℕ). start ++ rest) (sym seam)

-- all from a page on, of which there are fewer than 32 bits number
pub lows_all : (from few number : ℕ) (all start new : List ℕ) → few ≡ min from (2 ^ 32 - 1) → length all ≤ 2 ^ 32 - 1 → length all ≤ number → new ≡ start ++ drop few (take number all) → new ≡ start ++ drop from all
lows_all from few number all start new is short past found =
    let whole : take number all ≡ all = take_all number all past in
    let least : min few (length all) ≡ min from (length all) = omega (arith, is, short) in
    let same : drop few all ≡ drop from all = sym (drop_min few all) ∙ ap (λ n. drop n all) least ∙ drop_min from all in
    found ∙ ap (λ (list : List ℕ). start ++ drop few list) whole ∙ ap (λ (rest : List ℕ). start ++ rest) same

-- one ward more
pub ward_more : {K : Type 0} (bits number : ℕ) (lows old new : List ℕ) (wards : List (WardState K)) (ward : WardState K) (added : List ℕ) → slice_get wards number ≡ Some ward → old ≡ lows ++ others_to bits lows wards number
    → added ≡ others_of bits lows number (Some ward) → new ≡ old ++ added → new ≡ lows ++ others_to bits lows wards (suc number)
ward_more bits number lows old new wards ward added there before is more =
    more ∙ ap (λ (rest : List ℕ). old ++ rest) (is ∙ ap (others_of bits lows number) (sym there)) ∙ ap (λ (list : List ℕ). list ++ others_of bits lows number (slice_get wards number)) before
    ∙ append_assoc lows (others_to bits lows wards number) (others_of bits lows number (slice_get wards number))
