use Rattle.std.proofs.Common.{◌≡◌, ℕ, ◌+◌, ◌<◌, ◌++◌, List, [], ◌∷◌, length, get_or, slice_get, Some, Option, append-nil, refl, sym, ap, ◌∙◌, subst, arith}
use Rattle.std.specs.List.{AllByRecursion, flat_map, range_with_len}
use Rattle.std.specs.Option.{option_map_or}
use Rattle.std.proofs.lemmas.List.{take_all}
use Rattle.std.proofs.lemmas.List.Concat.{flat_map-append}
use Rattle.std.proofs.lemmas.List.FromFn.{get_or-range_with_len, length-range_with_len}
use Rattle.std.proofs.lemmas.Option.{slice_get-get_or}
use Rattle.exh_prefix.specs.Layout.{written_version}
use Rattle.exh_keyer.specs.declared.any_keyer.AnyKeyer.{AnyKeyer}
use Rattle.exh_page.specs.declared.page.Page.{Page}
use Rattle.exh_codec.specs.PageImage.{IsInRange}
use Rattle.exh_format.specs.PageFile.{page_block}
use Rattle.exh_placing.specs.declared.page_at.PageAt.{PageAt}
use Rattle.exh_placing.specs.Writing.{opening, place_bytes}
use Rattle.exh_stream.specs.Output.{Takes, TakesBeginning}
use Rattle.exh_stream.specs.OutputLemmas.{OnErr-from, Takes-none}
use Rattle.exh_ward.specs.WardState.{WardState}
use Rattle.exh_file.specs.Placing.{ordered_pages, own_pages}
use Rattle.exh_file.specs.Saved.{HasCaps}
use Rattle.exh_file.proofs.Going.{blocks_cut, blocks_next}
use Rattle.exh_file.proofs.Lists.{next_all}
use Rattle.exh_file.proofs.Places.{own_page, page_there, page_within, ward_within}
use Rattle.exh_file.proofs.placed_saving.write_places.Goals as goal

range_there : (len place : ℕ) → place < len → slice_get (range_with_len 0 len) place ≡ Some place
range_there len place less =
    let value : 0 + place ≡ place = omega arith in
    slice_get-get_or (range_with_len 0 len) place 0 (omega (arith, less, length-range_with_len 0 len)) ∙ ap (λ (n : ℕ). Some n) (get_or-range_with_len 0 len place 0 less ∙ value)

abbrev nowhere : PageAt
nowhere = record { ward = 0; number = 0 }

bytes_here : (pages : List Page) (front : List ℕ) (place : ℕ) (page : Page) → slice_get pages place ≡ Some page → front ++ option_map_or page_block (slice_get pages place) [] ≡ front ++ page_block page
bytes_here pages front place page is = ap (λ (found : Option Page). front ++ option_map_or page_block found []) is

pub write_at-requires-clause-ward : goal.write_at-requires-clause-ward
write_at-requires-clause-ward g c =
    let order = c.args.order.now in
    let place = c.loop-place.place in
    let at = get_or order place nowhere in
    let is = slice_get-get_or order place nowhere c.loop-place-test.true in
    subst (λ (ws : List (WardState AnyKeyer)). at.ward < length ws) (sym c.loop-place.invariant.wards) (ward_within c.args.wards.now order (ordered_pages c.args.wards.now order) c.requires.are place at is)

pub write_at-requires-clause-page : goal.write_at-requires-clause-page
write_at-requires-clause-page g c =
    let order = c.args.order.now in
    let place = c.loop-place.place in
    let at = get_or order place nowhere in
    let is = slice_get-get_or order place nowhere c.loop-place-test.true in
    subst (λ (ws : List (WardState AnyKeyer)). at.number < length (own_pages ws at.ward)) (sym c.loop-place.invariant.wards)
    (page_within c.args.wards.now order (ordered_pages c.args.wards.now order) c.requires.are place at is)

pub write_at-requires-clause-caps : goal.write_at-requires-clause-caps
write_at-requires-clause-caps g c = subst HasCaps (sym c.loop-place.invariant.wards) c.requires.caps

pub loop-place-init : goal.loop-place-init
loop-place-init g c = record { writer = refl; taken = Takes-none g.W.Write.contents c.args.output.now; ranges = tt; wards = refl }

pub loop-place-preserved : goal.loop-place-preserved
loop-place-preserved g c =
    let inv = c.loop-place.invariant in
    let order = c.args.order.now in
    let cells = c.args.cells.now in
    let pages = ordered_pages c.args.wards.now order in
    let place = c.loop-place.place in
    let at = get_or order place nowhere in
    let is = slice_get-get_or order place nowhere c.loop-place-test.true in
    let page = page_there c.args.wards.now order pages c.requires.are place at is in
    let own = own_page c.args.wards.now order pages c.requires.are place at is in
    let gone = c.in_ok-write_at.ensures.ok page.0 (subst (λ (ws : List (WardState AnyKeyer)). slice_get (own_pages ws at.ward) at.number ≡ Some page.0) (sym inv.wards) own) in
    let here : place_bytes pages cells place ≡ opening cells place ++ page_block page.0 = bytes_here pages (opening cells place) place page.0 page.1 in
    record {
      writer = c.in_ok-write_at.ensures.same_writer ∙ inv.writer;
      taken = blocks_next (flat_map (place_bytes pages cells)) (flat_map-append (place_bytes pages cells)) (range_with_len 0 (length order)) place place (range_there (length order) place c.loop-place-test.true) (place_bytes pages cells place)
          (append-nil (place_bytes pages cells place)) inv.taken (subst (Takes g.W.Write.contents c.loop-place.output c.write_at.new.output) (sym here) gone.0);
      ranges = next_all (λ (l : List Page). l) (λ front back. refl) pages place page.0 page.1 (page.0 ∷ []) refl (IsInRange written_version) inv.ranges (gone.1, tt);
      wards = c.in_ok-write_at.ensures.same ∙ inv.wards;
    }

pub returns-in_err-write_at-clause-err : goal.returns-in_err-write_at-clause-err
returns-in_err-write_at-clause-err g c =
    let inv = c.loop-place.invariant in
    let order = c.args.order.now in
    let cells = c.args.cells.now in
    let pages = ordered_pages c.args.wards.now order in
    let place = c.loop-place.place in
    let at = get_or order place nowhere in
    let is = slice_get-get_or order place nowhere c.loop-place-test.true in
    let page = page_there c.args.wards.now order pages c.requires.are place at is in
    let own = own_page c.args.wards.now order pages c.requires.are place at is in
    let begun = c.in_err-write_at.ensures.err page.0 (subst (λ (ws : List (WardState AnyKeyer)). slice_get (own_pages ws at.ward) at.number ≡ Some page.0) (sym inv.wards) own) in
    let here : place_bytes pages cells place ≡ opening cells place ++ page_block page.0 = bytes_here pages (opening cells place) place page.0 page.1 in
    OnErr-from c.from_residual.result
    (blocks_cut (flat_map (place_bytes pages cells)) (flat_map-append (place_bytes pages cells)) (range_with_len 0 (length order)) place place (range_there (length order) place c.loop-place-test.true) (place_bytes pages cells place)
    (append-nil (place_bytes pages cells place)) inv.taken (subst (TakesBeginning g.W.Write.contents c.loop-place.output c.write_at.new.output) (sym here) begun))

pub returns-clause-ok : goal.returns-clause-ok
returns-clause-ok g c =
    let len = length c.args.order.now in
    let all = take_all c.loop-place.place (range_with_len 0 len) (omega (arith, c.loop-place-test.false, length-range_with_len 0 len)) in
    subst (λ (places : List ℕ). Takes g.W.Write.contents c.args.output.now c.loop-place.output (flat_map (place_bytes (ordered_pages c.args.wards.now c.args.order.now) c.args.cells.now) places)) all c.loop-place.invariant.taken

pub returns-clause-pages : goal.returns-clause-pages
returns-clause-pages g c =
    let pages = ordered_pages c.args.wards.now c.args.order.now in
    let all = take_all c.loop-place.place pages (omega (arith, c.loop-place-test.false, c.requires.are.count)) in
    subst (AllByRecursion (IsInRange written_version)) all c.loop-place.invariant.ranges
