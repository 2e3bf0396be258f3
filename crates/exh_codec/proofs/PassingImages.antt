-- A block that passes all tests is the image of a page.
use Rattle.std.proofs.Common.{◌≡◌, ◌≢◌, ◌^◌, ◌-◌, ℕ, List, length, map, take, drop, Option, Some, None, refl, sym, ap, ◌∙◌, subst, inl, inr}
use Rattle.std.specs.List.{AllByRecursion}
use Rattle.std.proofs.lemmas.Bool.{cases_eq}
use Rattle.byteorder.specs.Endian.{big_number}
use Rattle.exh_page.specs.Bits.{word_bits}
use Rattle.exh_page.specs.Prefix.{HasPrefixUpTo}
use Rattle.exh_page.specs.Version.{Version, Fits}
use Rattle.exh_page.specs.declared.page.Page.{Page}
use Rattle.exh_page.specs.declared.page.Page.TheVariants as pages
use Rattle.exh_codec.specs.declared.head.Head.{Head}
use Rattle.exh_codec.specs.declared.kind.Kind.{Kind}
use Rattle.exh_codec.specs.declared.kind.Kind.TheVariants.{Live, Forward}
use Rattle.exh_codec.specs.Head.{link_number, page_kind_byte}
use Rattle.exh_codec.specs.ImageTests.{record_of, HasLengths, IsPaddedPage, HasBound, HasRisingRecords, IsOfKind, Passes, image_tests, count_of, prefix_len_of}
use Rattle.exh_codec.specs.PageImage.{IsImage, IsLaidOut}
use Rattle.exh_codec.specs.ReadPages.{IsReadLivePage, HasLow}
use Rattle.exh_codec.proofs.FirstFault.{image_from_parts}
use Rattle.exh_codec.proofs.HeadReading.{AreBytes}
use Rattle.exh_codec.proofs.ReadBack.{IsReadBlock, low_said, begins_back, live_laid, forward_laid}

-- the head that a block of some kind says
head_in : Kind → List ℕ → Head
head_in kind block = record { kind = kind; prefix_len = prefix_len_of block; count = count_of block; link = big_number 4 (drop 4 block); low = big_number 8 (drop 8 block) }

-- each number stands for a right link
right_of : (link : ℕ) → (right : Option ℕ) × (link_number right ≡ link) × (right ≢ Some (2 ^ 32 - 1))
right_of link = elim (cases_eq link (2 ^ 32 - 1)) [
  | inl none ↦ (None, sym none, λ is. cc)
  | inr some ↦ (Some link, refl, λ is. let same : link ≡ 2 ^ 32 - 1 = cc in some same)
]

module _ (version : Version) (fits : Fits 8 version) where
  read_from_tests : (block : List ℕ) (kind : Kind) → length block ≡ 4096 → AreBytes block → IsOfKind kind block → (lengths : HasLengths block) → IsPaddedPage version block
      → IsReadBlock version block (head_in kind block) lengths.cells.0 lengths.cells.1
  unfolding head_in
  read_from_tests block kind len small is lengths padded = record {
    len = len;
    fits = small;
    says = record { kind = is; prefix_len = refl; count = refl; link = refl; low = refl };
    few = lengths.few;
    forward = λ forward. lengths.forward (is ∙ ap page_kind_byte forward);
    cells = lengths.cells.2;
    fourth = padded.fourth;
    padding = padded.head;
    zeros = padded.tail lengths.cells.0 lengths.cells.1 lengths.cells.2;
  }

  page_of_kind : (pseudo : List ℕ → ℕ) (block : List ℕ) (kind : Kind) → length block ≡ 4096 → AreBytes block → IsOfKind kind block → HasLengths block → IsPaddedPage version block → HasBound version pseudo block → HasRisingRecords pseudo block
      → (page : Page) × IsLaidOut version pseudo page block
  unfolding head_in
  page_of_kind pseudo block Live len small is lengths padded bound ordered =
      let pairs = lengths.cells.0 in
      let rest = lengths.cells.1 in
      let head = head_in Live block in
      let read = read_from_tests block Live len small is lengths padded in
      let right = right_of head.link in
      let page = pages.Live (take head.prefix_len (word_bits head.low)) right.0 (map (record_of pseudo) pairs) in
      let live : IsReadLivePage version pseudo head pairs page = record {
        begins = begins_back version fits pseudo block head pairs rest read refl bound;
        rising = ordered pairs rest lengths.cells.2;
        right = right.0;
        link = right.1;
        named = right.2;
        is = refl;
      } in
      (page, live_laid version fits pseudo block head pairs rest page read refl live)
  page_of_kind pseudo block Forward len small is lengths padded bound ordered =
      let head = head_in Forward block in
      let low = bound.1 is in
      let read = read_from_tests block Forward len small is lengths padded in
      let same = low_said version fits block head lengths.cells.0 lengths.cells.1 read in
      let has_low : HasLow version head = record {
        none = low.none;
        some = λ none. low.some (same ∙ none);
        limit = subst (HasPrefixUpTo version.limit version.limit) same low.limit;
      } in
      (pages.Forward head.low head.link, forward_laid version fits pseudo block head lengths.cells.0 lengths.cells.1 read refl has_low)

  pub page_from_tests : (pseudo : List ℕ → ℕ) (block : List ℕ) → length block ≡ 4096 → AreBytes block → AllByRecursion (Passes version pseudo block) image_tests → (page : Page) × IsImage version pseudo page block
  page_from_tests pseudo block len small passed =
      let kind = passed.1.0 in
      let found = page_of_kind pseudo block kind.0 len small kind.1 passed.1.1.0 passed.1.1.1.0 passed.1.1.1.1.0 passed.1.1.1.1.1.0 in
      (found.0, image_from_parts version pseudo found.0 block found.1 passed.0)
