use Rattle.std.proofs.Common.{◌≡◌, ℕ, ◌+◌, ◌<◌, ◌++◌, List, [], ◌∷◌, length, take, get_or, slice_get, Some, refl, sym, ap, ◌∙◌, subst, arith}
use Rattle.std.specs.Option.{option_map}
use Rattle.std.proofs.lemmas.List.{length-map, take_all}
use Rattle.std.proofs.lemmas.Option.{slice_get-get_or, slice_get-map}
use Rattle.exh_keyer.specs.declared.any_keyer.AnyKeyer.{AnyKeyer}
use Rattle.exh_page.specs.Page.{low_bound}
use Rattle.exh_page.specs.declared.page.Page.{Page}
use Rattle.exh_placing.specs.PlacedFile.{lows_of}
use Rattle.exh_placing.specs.declared.page_at.PageAt.{PageAt}
use Rattle.exh_ward.specs.WardState.{WardState}
use Rattle.exh_file.specs.Placing.{ordered_pages, own_pages}
use Rattle.exh_file.specs.declared.save_fault.SaveFault.TheVariants.{Page as OutOfReach}
use Rattle.exh_file.specs.Saved.{HasCountedOf}
use Rattle.exh_file.proofs.Counted.{handed_on}
use Rattle.exh_file.proofs.Lists.{next_is}
use Rattle.exh_file.proofs.Places.{own_page, page_there, page_within, ward_within}
use Rattle.exh_file.proofs.ward_lows.lows_in.Goals as goal

abbrev nowhere : PageAt
nowhere = record { ward = 0; number = 0 }

next_low : (pages : List Page) (place : ℕ) (page : Page) → slice_get pages place ≡ Some page → take (place + 1) (lows_of pages) ≡ take place (lows_of pages) ++ low_bound page ∷ []
next_low pages place page is =
    let there : slice_get (lows_of pages) place ≡ Some (low_bound page) = slice_get-map low_bound pages place ∙ ap (option_map low_bound) is in
    next_is (λ (l : List ℕ). l) (λ front back. refl) (lows_of pages) place (low_bound page) there (low_bound page ∷ []) refl

pub low_at-requires-clause-ward : goal.low_at-requires-clause-ward
low_at-requires-clause-ward g c =
    let order = c.args.order.now in
    let place = c.loop-place.place in
    let at = get_or order place nowhere in
    let is = slice_get-get_or order place nowhere c.loop-place-test.true in
    subst (λ (ws : List (WardState AnyKeyer)). at.ward < length ws) (sym c.loop-place.invariant.wards) (ward_within c.args.wards.now order (ordered_pages c.args.wards.now order) c.requires place at is)

pub low_at-requires-clause-page : goal.low_at-requires-clause-page
low_at-requires-clause-page g c =
    let order = c.args.order.now in
    let place = c.loop-place.place in
    let at = get_or order place nowhere in
    let is = slice_get-get_or order place nowhere c.loop-place-test.true in
    subst (λ (ws : List (WardState AnyKeyer)). at.number < length (own_pages ws at.ward)) (sym c.loop-place.invariant.wards)
    (page_within c.args.wards.now order (ordered_pages c.args.wards.now order) c.requires place at is)

pub loop-place-preserved : goal.loop-place-preserved
loop-place-preserved g c =
    let inv = c.loop-place.invariant in
    let order = c.args.order.now in
    let pages = ordered_pages c.args.wards.now order in
    let place = c.loop-place.place in
    let at = get_or order place nowhere in
    let is = slice_get-get_or order place nowhere c.loop-place-test.true in
    let page = page_there c.args.wards.now order pages c.requires place at is in
    let own = own_page c.args.wards.now order pages c.requires place at is in
    let low = c.in_ok-low.ensures.low page.0 (subst (λ (ws : List (WardState AnyKeyer)). slice_get (own_pages ws at.ward) at.number ≡ Some page.0) (sym inv.wards) own) in
    record {
      lows = c.in_ok-push_item.ensures.ok ∙ (λ i. inv.lows i ++ low i ∷ []) ∙ sym (next_low pages place page.0 page.1);
      wards = c.in_ok-low.ensures.same ∙ inv.wards;
    }

pub returns-clause-lows : goal.returns-clause-lows
returns-clause-lows g c =
    let pages = ordered_pages c.args.wards.now c.args.order.now in
    c.loop-place.invariant.lows ∙ take_all c.loop-place.place (lows_of pages) (omega (arith, c.loop-place-test.false, length-map pages low_bound, c.requires.count))

pub returns-in_err-low-clause-counted : goal.returns-in_err-low-clause-counted
returns-in_err-low-clause-counted g c =
    handed_on (λ fault. fault ≡ c.in_err-low.field-0.0) (λ fault. fault ≡ OutOfReach → HasCountedOf g.P.Pages.failures c.args.wards.now)
    (λ fault same page. subst (HasCountedOf g.P.Pages.failures) c.loop-place.invariant.wards (c.in_err-low.ensures.counted (sym same ∙ page)))
    c.from_residual-in_err-low.result c.from_residual-in_err-low.ensures
