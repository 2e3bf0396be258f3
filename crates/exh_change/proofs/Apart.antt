-- Pages of a legal file of which two would stand at one place.
use Rattle.std.proofs.Common.{◌≡◌, ℕ, ◌≤◌, Some, slice_get, refl, sym, ap, ◌∙◌, arith}
use Rattle.std.specs.Prelude.{List}
use Rattle.exh_prefix.specs.BitLemmas.{length-bits_of}
use Rattle.exh_prefix.specs.Leading.{ward_of, ward_prefix}
use Rattle.exh_prefix.specs.LowLemmas.{front_shorter}
use Rattle.exh_page.specs.declared.page.Page.{Page}
use Rattle.exh_page.specs.declared.page.Page.TheVariants.{Forward, Live}
use Rattle.exh_page.specs.Page.{low_bound}
use Rattle.exh_table.specs.Table.{TableMap}
use Rattle.exh_legal.specs.BareLemmas.{bare_at}
use Rattle.exh_legal.specs.LegalPlaceLemmas.{home_bare}
use Rattle.exh_legal.specs.Pages.{IsHome}
use Rattle.exh_cells.specs.LegalPlaced.{IsLegalPlaced, pages_of_ward}
use Rattle.exh_cells.specs.PlacedFile.{IsPlaced, PlacedFile, lows_of}
use Rattle.exh_change.specs.StepLaws.{StandApart}
use Rattle.exh_change.proofs.StepsCounts.{few_bits}
use Rattle.exh_change.proofs.LegalWards.{apart, own_ward, ward_less}
use Rattle.exh_change.proofs.Slots.{ward_of_prefix}
use Rattle.exh_change.proofs.WardPlaces.{low_at, numbered, one_place}

module _ (file : PlacedFile) (tables : List TableMap) (valid : IsPlaced file) (legal : IsLegalPlaced file tables) where
  abbrev bits : ℕ
  bits = file.header.settings.ward_bits

  few : bits ≤ 4
  few = few_bits file.header valid.header

  -- a home is of the pseudokey's ward
  home_ward : (place pseudokey : ℕ) (page : Page) → slice_get file.pages place ≡ Some page → IsHome page pseudokey → ward_of bits (low_bound page) ≡ ward_of bits pseudokey
  home_ward place pseudokey (Live prefix link records) is home =
      let ward = ward_of bits (low_bound (Live prefix link records)) in
      let pages = pages_of_ward bits file.pages ward in
      let its = own_ward file tables few legal.legal ward (ward_less bits (low_bound (Live prefix link records)) few) in
      let within = its.legal.legal.linked.within _ _ (bare_at pages _ (Live prefix link records) (numbered bits ward file.pages place (Live prefix link records) is refl)) in
      ward_of_prefix bits pseudokey prefix (omega (arith, length-bits_of bits ward, front_shorter (ward_prefix bits ward) prefix within.0)) within.1 home
  home_ward place pseudokey (Forward low target) is home = absurd home

  one_home : (pseudokey one other : ℕ) (page twin : Page) → slice_get file.pages one ≡ Some page → slice_get file.pages other ≡ Some twin → IsHome page pseudokey → IsHome twin pseudokey → one ≡ other
  one_home pseudokey one other page twin is too home home_too =
      let ward = ward_of bits (low_bound page) in
      let own_too : ward_of bits (low_bound twin) ≡ ward = home_ward other pseudokey twin too home_too ∙ sym (home_ward one pseudokey page is home) in
      let pages = pages_of_ward bits file.pages ward in
      let first = bare_at pages _ page (numbered bits ward file.pages one page is refl) in
      let second = bare_at pages _ twin (numbered bits ward file.pages other twin too own_too) in
      let its = own_ward file tables few legal.legal ward (ward_less bits (low_bound page) few) in
      one_place bits ward (lows_of file.pages) one other (low_bound page) (low_bound twin) (low_at file.pages one page is) (low_at file.pages other twin too) refl own_too
      (its.legal.legal.linked.one_home pseudokey _ _ _ _ first second (home_bare page pseudokey home) (home_bare twin pseudokey home_too))

  pub stand_apart : StandApart file
  stand_apart = record {
    lows = λ one other page twin is too same.
        apart file tables valid legal one other (low_bound page) (low_at file.pages one page is) (low_at file.pages other twin too ∙ ap (λ (low : ℕ). Some low) (sym same));
    homes = one_home;
  }
