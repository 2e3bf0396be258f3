-- The pairs that are saved of a legal file of any version are those of its map, each key once.
use Rattle.std.proofs.Common.{◌≡◌, ℕ, zero, suc, ◌+◌, ◌^◌, ◌<◌, ◌≤◌, List, [], ◌∷◌, ◌++◌, flat_map, get_or, length, map, slice_get, Some, ◌⊎◌, inl, inr, refl, sym, ap, ◌∙◌, subst, arith}
use Rattle.std.specs.FinMap.{from_entries}
use Rattle.std.specs.List.{AllByRecursion, range_with_len}
use Rattle.std.proofs.lemmas.Bool.{cases_lt}
use Rattle.std.proofs.lemmas.List.{length-map, map-append}
use Rattle.std.proofs.lemmas.List.FromFn.{get_or-map-range_with_len, length-map-range_with_len}
use Rattle.std.proofs.lemmas.Option.{slice_get-get_or, slice_get_within}
use Rattle.exh_prefix.specs.Leading.{ward_of, ward_prefix}
use Rattle.exh_prefix.specs.LeadingLemmas.{leading-lt}
use Rattle.exh_keyer.specs.Pseudokey.{any_pseudokey}
use Rattle.exh_keyer.specs.declared.any_keyer.AnyKeyer.{AnyKeyer}
use Rattle.exh_table.specs.Table.{TableMap}
use Rattle.exh_page.specs.KeyMap.{KeyMap, pair_of}
use Rattle.exh_page.specs.Page.{records_of}
use Rattle.exh_page.specs.declared.page.Page.{Page}
use Rattle.exh_codec.specs.Cells.{Pair}
use Rattle.exh_codec.specs.CodecLaws.{ImagesAreBlocks}
use Rattle.exh_legal.specs.Pages.{IsLegal, map_of}
use Rattle.exh_salvage.specs.SavedBlock.{pairs_of}
use Rattle.exh_salvage.specs.SavedLaws.{PagesAreSaved}
use Rattle.exh_salvage.specs.WholeLaws.{WholeFilesAreSaved, both_of}
use Rattle.exh_salvage.specs.declared.salvage.Salvage.{Salvage}
use Rattle.exh_format.specs.FileVersion.{format_of, version_of}
use Rattle.exh_format.specs.HeaderLemmas.{few_wards}
use Rattle.exh_format.specs.LegalFile.{IsLegalPageFile}
use Rattle.exh_format.specs.LegalFileLemmas.{count_of_wards, few_bits}
use Rattle.exh_format.specs.PageFile.{IsKnownFile, PageFile, pages_of}
use Rattle.exh_cells.specs.LegalPlaced.{IsLegalPlacedFile, pages_of_ward, wards_of}
use Rattle.exh_cells.specs.PlacedFile.{PlacedFile}
use Rattle.exh_compact.specs.LegalBytes.{IsLegalBytes, IsLegalPlacedOf, SaysPlaced}
use Rattle.exh_compact.specs.VersionLaws.{LegalBytesAreFiles}
use Rattle.exh_compact.specs.VersionLemmas.{says_plain}
use Rattle.exh_ward.specs.WardState.{WardState}
use Rattle.exh_compact.specs.FileChange.{HasMap}
use Rattle.exh_compact.specs.Opened.{AreWardsOf, OpenedState}
use Rattle.exh_compact.specs.Opening.{IsOpenedFile}
use Rattle.exh_compact.specs.Saved.{pages_of_all}
use Rattle.exh_map.specs.Pairs.{AreOnce, pairs_in}
use Rattle.exh_map.proofs.AgainLemmas.{all_pairs as pairs_of_wards}
use Rattle.exh_map.proofs.OnceLemmas.{has_all, wards_once}
use Rattle.exh_transfer.specs.SalvageLaws.{HasFewChanges, IsOfAll, PlacedFilesAreSaved, PlainFilesAreSaved, SavesJust, SavesMap}
use Rattle.exh_transfer.proofs.KeyClasses.{all_once, by_class, same_map}
use Rattle.exh_transfer.proofs.WardKeys.{HasKeysOf, of_ward, own_of_wards, ward_by_ward, ward_of_key, ward_of_page}

abbrev map_of_pairs : List Pair → KeyMap
map_of_pairs pairs = from_entries pairs

all_pairs : (pages : List Page) → flat_map pairs_of pages ≡ map pair_of (flat_map records_of pages)
all_pairs [] = refl
all_pairs (page ∷ pages) = ap (λ (more : List Pair). pairs_of page ++ more) (all_pairs pages) ∙ sym (map-append pair_of (records_of page) (flat_map records_of pages))

-- ---- the wards that opening a file gives

made_of : {A B : Type 0} (f : A → B) (xs : List A) (ys : List B) (none : B) → length xs ≡ length ys → ((number : ℕ) (x : A) → slice_get xs number ≡ Some x → f x ≡ get_or ys number none) → map f xs ≡ ys
made_of f [] [] none count each = refl
made_of f [] (y ∷ ys) none count each = absurd (omega (arith, count))
made_of f (x ∷ xs) [] none count each = absurd (omega (arith, count))
made_of {B = B} f (x ∷ xs) (y ∷ ys) none count each =
    ap (λ (l : List B). f x ∷ l) (made_of f xs ys none (omega (arith, count)) (λ number other there. each (suc number) other there)) ∙ ap (λ (first : B). first ∷ ys) (each 0 x refl)

module _ (file : PageFile) (known : IsKnownFile file) (opened : OpenedState) (is : IsOpenedFile file opened) where
  are_wards : AreWardsOf opened
  are_wards = record {
    some = omega (arith, is.cap, known.1.header.some);
    most = omega (arith, is.cap, known.1.header.few);
    bits = omega (arith, is.bits, few_bits file known);
    count = is.count ∙ count_of_wards file known ∙ ap (λ (bits : ℕ). 2 ^ bits) (sym is.bits);
    each = λ number ward there.
        let own = (is.each number ward there).is in
        record {
          cap = ap (λ (w : WardState AnyKeyer). w.cap) own ∙ sym is.cap;
          bits = ap (λ (w : WardState AnyKeyer). w.ward_bits) own ∙ sym is.bits;
          number_is = ap (λ (w : WardState AnyKeyer). w.number) own;
          keyer = ap (λ (w : WardState AnyKeyer). w.keyer) own ∙ sym is.keyer;
        };
  }

  same_pages : pages_of_all opened.wards ≡ file.wards
  same_pages = made_of (λ (ward : WardState AnyKeyer). ward.pages) opened.wards file.wards [] is.count (λ number ward there. ap (λ (w : WardState AnyKeyer). w.pages) (is.each number ward there).is)

  same_whole : map_of_pairs (pairs_in opened.wards) ≡ map_of (pages_of file.wards)
  same_whole = ap map_of_pairs (sym (pairs_of_wards opened.wards)) ∙ ap (λ (wards : List (List Page)). map_of (pages_of wards)) same_pages

  pub opened_has : HasMap opened (map_of (pages_of file.wards))
  opened_has = subst (HasMap opened) same_whole (has_all opened are_wards (λ number ward there. (is.each number ward there).sound))

-- ---- a file whose pages are saved

-- the pairs of some pages are those of the file's wards, and no key is among them twice
maps_from : (file : PageFile) → IsKnownFile file → (salvage : Salvage) (pages : List Page) → SavesJust pages salvage → map_of_pairs (flat_map pairs_of pages) ≡ map_of (pages_of file.wards) → AreOnce (flat_map pairs_of pages) → SavesMap file salvage
maps_from file known salvage pages just same once =
    let map_is = ap map_of_pairs just.pairs ∙ same in
    record { map_is = map_is; once = subst AreOnce (sym just.pairs) once; has = λ opened is. subst (HasMap opened) (sym map_is) (opened_has file known opened is) }

-- of legal wards no key is in two pages
abbrev pub AreLegalWards : ℕ → ℕ → (List ℕ → ℕ) → List (List Page) → Type 0
AreLegalWards cap bits pseudo wards = (number : ℕ) (pages : List Page) → slice_get wards number ≡ Some pages → (number < 2 ^ bits) × IsLegal cap pseudo (ward_prefix bits number) pages

-- ---- of version 1 or 2

plain_map : (file : PageFile) (bytes : List ℕ) (salvage : Salvage) → IsLegalPageFile (format_of bytes) file bytes → SavesJust (pages_of file.wards) salvage → SavesMap file salvage
plain_map file bytes salvage legal just =
    let known : IsKnownFile file = (version_of bytes, legal.is.valid) in
    let settings = file.header.settings in
    let pseudo = any_pseudokey settings.keyer in
    let pairs = all_pairs (pages_of file.wards) in
    let count : length file.wards ≡ 2 ^ settings.ward_bits = count_of_wards file known in
    let wards : AreLegalWards settings.cap settings.ward_bits pseudo file.wards =
    λ number pages there. (omega (arith, count, slice_get_within file.wards number pages there), (legal.legal.wards number pages there).legal.legal) in
    maps_from file known salvage (pages_of file.wards) just (ap map_of_pairs pairs) (subst AreOnce (sym pairs) (wards_once settings.cap settings.ward_bits pseudo file.wards wards))

-- ---- of version 3

module _ (file : PlacedFile) (tables : List TableMap) (bytes : List ℕ) (legal : IsLegalPlacedFile file tables bytes) where
  abbrev bits : ℕ
  bits = file.header.settings.ward_bits

  abbrev cap : ℕ
  cap = file.header.settings.cap

  abbrev pseudo : List ℕ → ℕ
  pseudo = any_pseudokey file.header.settings.keyer

  few : bits ≤ 4
  few = few_wards bits legal.is.valid.header.plain.wards

  below : (pseudokey : ℕ) → ward_of bits pseudokey < 2 ^ bits
  below pseudokey = leading-lt bits pseudokey (omega (arith, few))

  count : length (wards_of file) ≡ 2 ^ bits
  count = length-map-range_with_len (pages_of_ward bits file.pages) 0 (2 ^ bits)

  ward_there : (number : ℕ) → number < 2 ^ bits → slice_get (wards_of file) number ≡ Some (pages_of_ward bits file.pages number)
  ward_there number less =
      slice_get-get_or (wards_of file) number [] (omega (arith, less, count))
      ∙ ap (λ (pages : List Page). Some pages) (get_or-map-range_with_len (pages_of_ward bits file.pages) 0 (2 ^ bits) number number [] less (omega arith))

  wards : AreLegalWards cap bits pseudo (wards_of file)
  wards number pages there = (omega (arith, count, slice_get_within (wards_of file) number pages there), (legal.legal.legal.wards number pages there).legal.legal)

  own : AllByRecursion (λ page. HasKeysOf cap bits pseudo (ward_of_page cap bits pseudo page) page) file.pages
  own = own_of_wards cap bits pseudo (HasKeysOf cap bits pseudo) file.pages (2 ^ bits) (λ page. below _) (λ number less.
      of_ward cap bits pseudo number (pages_of_ward bits file.pages number) less (wards number (pages_of_ward bits file.pages number) (ward_there number less)).1)

  abbrev pairs : List Pair
  pairs = flat_map pairs_of file.pages

  abbrev class : List ℕ → ℕ
  class = ward_of_key cap bits pseudo

  by_wards : by_class class pairs 0 (2 ^ bits) ≡ map pair_of (flat_map records_of (pages_of (wards_of file)))
  by_wards = ward_by_ward cap bits pseudo file.pages 0 (2 ^ bits) own ∙ all_pairs (pages_of (wards_of file))

  pub same_placed : map_of_pairs pairs ≡ map_of (pages_of (wards_of file))
  same_placed = same_map class pairs (2 ^ bits) (λ key. below (pseudo key)) ∙ ap map_of_pairs by_wards

  pub once_placed : AreOnce pairs
  once_placed = all_once class pairs (2 ^ bits) (λ key. below (pseudo key)) (subst AreOnce (sym by_wards) (wards_once cap bits pseudo (wards_of file) wards))

-- ---- of any version

pub maps_saved : LegalBytesAreFiles → PlacedFilesAreSaved → PlainFilesAreSaved → (file : PageFile) (bytes : List ℕ) (salvage : Salvage) → IsLegalBytes file bytes → SaysPlaced bytes ⊎ HasFewChanges file → IsOfAll bytes salvage → SavesMap file salvage
maps_saved known placed plain file bytes salvage (inl legal) (inl says) is = absurd (says_plain (version_of bytes) file bytes legal.is says)
maps_saved known placed plain file bytes salvage (inl legal) (inr fewer) is = plain_map file bytes salvage legal (plain (version_of bytes) file bytes salvage legal fewer is)
maps_saved known placed plain file bytes salvage (inr of) enough is =
    let just = placed of.placed of.tables bytes salvage of.legal is in
    maps_from file (known file bytes (inr of)).is_known salvage of.placed.pages just
    (same_placed of.placed of.tables bytes of.legal ∙ ap (λ (file : PageFile). map_of (pages_of file.wards)) (sym of.says)) (once_placed of.placed of.tables bytes of.legal)
