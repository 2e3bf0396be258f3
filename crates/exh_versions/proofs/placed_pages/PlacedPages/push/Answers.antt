use Rattle.std.proofs.Common.{◌≡◌, ◌<◌, ◌^◌, ◌∷◌, [], ◌++◌, ℕ, List, Some, length, refl, sym, ap, ◌∙◌, subst, inl, inr, arith}
use Rattle.std.specs.Prelude.{slice_get, slice_index_or}
use Rattle.std.proofs.lemmas.List.{length-map, length-set, map_push}
use Rattle.std.proofs.lemmas.Option.{slice_get_read}
use Rattle.exh_prefix.specs.PrefixListLemmas.{set_is}
use Rattle.exh_prefix.specs.Leading.{ward_of}
use Rattle.exh_page.specs.declared.page.Page.{Page}
use Rattle.exh_page.specs.Page.{low_bound}
use Rattle.exh_cells.specs.LegalPlaced.{pages_of_ward}
use Rattle.exh_keyer.specs.Pseudokey.{any_pseudokey}
use Rattle.exh_format.specs.FileParts.{TakesFormed}
use Rattle.exh_versions.proofs.Placed.{of_ward_else, of_ward_few, of_ward_more}
use Rattle.exh_versions.proofs.placed_pages.PlacedPages.push.Goals as goal

-- the ward of a page is there
there_is : {W : Type 0} (wards : List W) (at bits : ℕ) (ward : W) → length wards ≡ 2 ^ bits → at < 2 ^ bits → ward ≡ slice_index_or wards at ward → slice_get wards at ≡ Some ward
there_is wards at bits ward count within is = slice_get_read wards (length wards) at ward refl (omega (arith, count, within)) is

pub push-requires-2-clause-room : goal.push-requires-2-clause-room
push-requires-2-clause-room g c =
    let before = c.requires.placed.0 in
    let placed = c.requires.placed.1 in
    let at = c.ward_at-ward.result in
    let was = c.index_mut.result.now in
    let there = there_is c.args.self.now.wards.items at c.args.settings.ward_bits was placed.count c.ward_at-ward.ensures.within c.index_mut.ensures.value in
    omega (
      arith,
      ap length (placed.each at was there),
      of_ward_few c.args.settings.ward_bits before at,
      ap length placed.lows,
      length-map before low_bound,
      c.requires.room,
    )

pub push-requires-2-clause-taken : goal.push-requires-2-clause-taken
push-requires-2-clause-taken g c =
    let placed = c.requires.placed.1 in
    let at = c.ward_at-ward.result in
    let was = c.index_mut.result.now in
    let there = there_is c.args.self.now.wards.items at c.args.settings.ward_bits was placed.count c.ward_at-ward.ensures.within c.index_mut.ensures.value in
    placed.taking at was there c.args.page c.requires.image.valid.formed

pub returns : goal.returns
returns g c = λ before placed.
    let page = c.args.page in
    let at = c.ward_at-ward.result in
    let bits = c.args.settings.ward_bits in
    let wards = c.args.self.now.wards.items in
    let was = c.index_mut.result.now in
    let now = c.push-2.new.self in
    let own = g.W.PageList.pages in
    let there = there_is wards at bits was placed.count c.ward_at-ward.ensures.within c.index_mut.ensures.value in
    let own_ward : ward_of bits (low_bound page) ≡ at = sym (c.ward_at-ward.ensures.ward ∙ ap (ward_of bits) c.low-low.ensures) in
    record {
      count = length-set wards at now ∙ placed.count;
      each = λ number ward is. elim (set_is wards at number was now ward there is) [
        | inl here ↦
            ap own here.1 ∙ c.in_ok-push-2.ensures.ok ∙ ap (λ (pages : List Page). pages ++ page ∷ []) (placed.each at was there)
            ∙ sym (of_ward_more bits before page at own_ward) ∙ ap (pages_of_ward bits (before ++ page ∷ [])) (sym here.0)
        | inr else ↦ placed.each number ward else.1 ∙ sym (of_ward_else bits before page number (λ same. else.0 (sym same ∙ own_ward)))
      ];
      taking = λ number ward is. elim (set_is wards at number was now ward there is) [
        | inl here ↦
            subst (TakesFormed g.W.ReadPages.takes (any_pseudokey c.args.settings.keyer)) (sym here.1) (λ other formed. (c.in_ok-push-2.ensures.takes other).0 (placed.taking at was there other formed))
        | inr else ↦ placed.taking number ward else.1
      ];
      lows = c.in_ok-push.ensures.items ∙ (λ i. placed.lows i ++ c.low-low.ensures i ∷ []) ∙ sym (map_push low_bound before page);
    }
