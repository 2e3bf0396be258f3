-- The records of a legal file of version 3 have keys of the wards in which their pages are.
use Rattle.std.proofs.Common.{◌≡◌, ℕ, zero, suc, ◌+◌, ◌^◌, ◌<◌, ◌≤◌, Bool, true, false, cond, eqb, List, [], ◌∷◌, ◌++◌, filter, flat_map, length, map, slice_get, Some, inl, inr, refl, sym, ap, ◌∙◌, subst, arith}
use Rattle.std.specs.List.{AllByRecursion, range_with_len}
use Rattle.std.specs.Option.{option_map}
use Rattle.std.proofs.lemmas.Bool.Decides.{eqb_tells}
use Rattle.std.proofs.lemmas.List.{length-take}
use Rattle.std.proofs.lemmas.List.Concat.{flat_map-append}
use Rattle.std.proofs.lemmas.List.Elements.{filter-append}
use Rattle.exh_prefix.specs.BitLemmas.{length-bits_of, number_of-bits_of}
use Rattle.exh_prefix.specs.Bits.{word_bits}
use Rattle.exh_prefix.specs.Leading.{leading, ward_of, ward_prefix}
use Rattle.exh_prefix.specs.LeadingLemmas.{leading-of_begun}
use Rattle.exh_prefix.specs.Prefix.{Begins}
use Rattle.exh_prefix.specs.PrefixLemmas.{front_of_front}
use Rattle.exh_page.specs.Page.{low_bound, records_of, with_records}
use Rattle.exh_page.specs.KeyMap.{pair_of}
use Rattle.exh_page.specs.declared.page.Page.{Page}
use Rattle.exh_page.specs.declared.page.Page.TheVariants.{Forward, Live}
use Rattle.exh_page.specs.declared.record.Record.{Record}
use Rattle.exh_codec.specs.Cells.{Pair}
use Rattle.exh_legal.specs.BareLemmas.{bare_at}
use Rattle.exh_legal.specs.MapLemmas.{all_pages, page_at}
use Rattle.exh_legal.specs.Pages.{IsAt, IsLegal, IsLegalPage, IsWithin}
use Rattle.exh_salvage.specs.SavedBlock.{pairs_of}
use Rattle.exh_cells.specs.LegalPlaced.{pages_of_ward}
use Rattle.exh_transfer.proofs.KeyClasses.{by_class, of_class}

module _ (cap bits : ℕ) (pseudo : List ℕ → ℕ) where
  -- the ward of a key
  abbrev pub ward_of_key : List ℕ → ℕ
  ward_of_key key = ward_of bits (pseudo key)

  -- each record of the page has a key of the ward
  abbrev pub HasKeysOf : ℕ → Page → Type 0
  HasKeysOf number page = AllByRecursion (λ r. ward_of_key r.key ≡ number) (records_of page)

  of_begun : (number pseudokey : ℕ) → number < 2 ^ bits → Begins (ward_prefix bits number) pseudokey → ward_of bits pseudokey ≡ number
  of_begun number pseudokey small begun =
      ap (λ (n : ℕ). leading n pseudokey) (sym (length-bits_of bits number)) ∙ leading-of_begun (ward_prefix bits number) pseudokey begun ∙ number_of-bits_of bits number small

  of_records : (number : ℕ) (prefix : List Bool) (records : List Record) → ((pseudokey : ℕ) → Begins prefix pseudokey → ward_of bits pseudokey ≡ number)
      → AllByRecursion (λ r. r.pseudokey ≡ pseudo r.key) records → AllByRecursion (λ r. Begins prefix r.pseudokey) records → AllByRecursion (λ r. ward_of_key r.key ≡ number) records
  of_records number prefix [] of hashed begun = tt
  of_records number prefix (r ∷ records) of hashed begun = (ap (ward_of bits) (sym hashed.0) ∙ of r.pseudokey begun.0, of_records number prefix records of hashed.1 begun.1)

  of_page : (number : ℕ) (page : Page) → number < 2 ^ bits → IsWithin (ward_prefix bits number) (with_records [] page) → IsLegalPage cap pseudo page → HasKeysOf number page
  of_page number (Live prefix right records) small within legal =
      let ward = ward_prefix bits number in
      let shorter : length ward ≤ length prefix = omega (arith, length-take (length ward) prefix, ap length within.0) in
      of_records number prefix records (λ pseudokey begun. of_begun number pseudokey small (front_of_front ward prefix (word_bits pseudokey) shorter within.0 begun)) legal.0.hashed legal.0.begun
  of_page number (Forward low target) small within legal = tt

  pub of_ward : (number : ℕ) (pages : List Page) → number < 2 ^ bits → IsLegal cap pseudo (ward_prefix bits number) pages → AllByRecursion (HasKeysOf number) pages
  of_ward number pages small legal = all_pages (HasKeysOf number) pages (λ at page there.
      of_page number page small (legal.linked.within at (with_records [] page) (bare_at pages at page there)) (page_at (IsLegalPage cap pseudo) pages at page legal.each there))

  -- ---- all pages

  abbrev pub ward_of_page : Page → ℕ
  ward_of_page page = ward_of bits (low_bound page)

  pub own_of_wards : (Holds : ℕ → Page → Type 0) (pages : List Page) (count : ℕ) → ((page : Page) → ward_of_page page < count)
      → ((number : ℕ) → number < count → AllByRecursion (Holds number) (pages_of_ward bits pages number)) → AllByRecursion (λ page. Holds (ward_of_page page) page) pages
  own_of_wards Holds [] count below each = tt
  own_of_wards Holds (page ∷ pages) count below each =
      let fewer : (number : ℕ) → number < count → AllByRecursion (Holds number) (pages_of_ward bits pages number) = λ number less. (
      let rest = pages_of_ward bits pages number in
      elim (eqb (ward_of_page page) number) as (λ (is : Bool). AllByRecursion (Holds number) (cond is (page ∷ rest) rest) → AllByRecursion (Holds number) rest) [ true ↦ λ all. all.1 | false ↦ λ all. all ] (each number less)
      ) in
      let own = pages_of_ward bits pages (ward_of_page page) in
      elim (eqb_tells (ward_of_page page) (ward_of_page page)) [
        | inl same ↦ ((subst (λ (is : Bool). AllByRecursion (Holds (ward_of_page page)) (cond is (page ∷ own) own)) same.0 (each (ward_of_page page) (below page))).0, own_of_wards Holds pages count below fewer)
        | inr other ↦ absurd (other.1 refl)
      ]

  -- ---- pairs by wards

  keeps_all : (number : ℕ) (records : List Record) → AllByRecursion (λ r. ward_of_key r.key ≡ number) records → of_class ward_of_key number (map pair_of records) ≡ map pair_of records
  keeps_all number [] own = refl
  keeps_all number (r ∷ records) own =
      let rest = of_class ward_of_key number (map pair_of records) in
      elim (eqb_tells (ward_of_key r.key) number) [
        | inl same ↦ ap (λ (is : Bool). cond is (pair_of r ∷ rest) rest) same.0 ∙ ap (λ (more : List Pair). pair_of r ∷ more) (keeps_all number records own.1)
        | inr other ↦ absurd (other.1 own.0)
      ]

  keeps_none : (number ward : ℕ) (records : List Record) → AllByRecursion (λ r. ward_of_key r.key ≡ ward) records → (ward ≡ number → ⊥) → of_class ward_of_key number (map pair_of records) ≡ []
  keeps_none number ward [] own differ = refl
  keeps_none number ward (r ∷ records) own differ =
      let rest = of_class ward_of_key number (map pair_of records) in
      elim (eqb_tells (ward_of_key r.key) number) [
        | inl same ↦ absurd (differ (sym own.0 ∙ same.1))
        | inr other ↦ ap (λ (is : Bool). cond is (pair_of r ∷ rest) rest) other.0 ∙ keeps_none number ward records own.1 differ
      ]

  pairs_of_ward : (number : ℕ) (pages : List Page) → AllByRecursion (λ page. HasKeysOf (ward_of_page page) page) pages
      → of_class ward_of_key number (flat_map pairs_of pages) ≡ flat_map pairs_of (pages_of_ward bits pages number)
  pairs_of_ward number [] own = refl
  pairs_of_ward number (page ∷ pages) own =
      let later = pairs_of_ward number pages own.1 in
      let rest = pages_of_ward bits pages number in
      let split = filter-append (λ (pair : Pair). eqb (ward_of_key pair.0) number) (pairs_of page) (flat_map pairs_of pages) in
      elim (eqb_tells (ward_of_page page) number) [
        | inl same ↦
            split ∙ ap (λ (front : List Pair). front ++ of_class ward_of_key number (flat_map pairs_of pages)) (keeps_all number (records_of page) (subst (λ (ward : ℕ). HasKeysOf ward page) same.1 own.0))
            ∙ ap (λ (more : List Pair). pairs_of page ++ more) later ∙ ap (λ (is : Bool). flat_map pairs_of (cond is (page ∷ rest) rest)) (sym same.0)
        | inr other ↦
            split ∙ ap (λ (front : List Pair). front ++ of_class ward_of_key number (flat_map pairs_of pages)) (keeps_none number (ward_of_page page) (records_of page) own.0 other.1)
            ∙ later ∙ ap (λ (is : Bool). flat_map pairs_of (cond is (page ∷ rest) rest)) (sym other.0)
      ]

  abbrev pub wards_from : List Page → ℕ → ℕ → List (List Page)
  wards_from pages from count = map (pages_of_ward bits pages) (range_with_len from count)

  pub ward_by_ward : (pages : List Page) (from count : ℕ) → AllByRecursion (λ page. HasKeysOf (ward_of_page page) page) pages
      → by_class ward_of_key (flat_map pairs_of pages) from count ≡ flat_map pairs_of (flat_map (λ ward. ward) (wards_from pages from count))
  ward_by_ward pages from zero own = refl
  ward_by_ward pages from (suc count) own =
      let first = pages_of_ward bits pages from in
      let later = flat_map (λ (ward : List Page). ward) (wards_from pages (from + 1) count) in
      ap (λ (front : List Pair). front ++ by_class ward_of_key (flat_map pairs_of pages) (from + 1) count) (pairs_of_ward from pages own)
      ∙ ap (λ (more : List Pair). flat_map pairs_of first ++ more) (ward_by_ward pages (from + 1) count own)
      ∙ sym (flat_map-append pairs_of first later)
