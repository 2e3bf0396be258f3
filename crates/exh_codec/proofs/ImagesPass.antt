-- The block that a page was laid out on passes the tests, and is that of this page alone.
use Rattle.std.proofs.Common.{◌≡◌, ◌≢◌, ℕ, ◌≤◌, ◌^◌, ◌-◌, Bool, List, [], ◌∷◌, length, map, take, Option, None, Some, refl, sym, ap, ◌∙◌, subst, arith}
use Rattle.std.specs.List.{AllByRecursion}
use Rattle.exh_page.specs.Bits.{word_bits}
use Rattle.exh_page.specs.Prefix.{Begins, HasPrefixUpTo, low_of}
use Rattle.exh_page.specs.PrefixLemmas.{same_prefix, take-low_of-word, up_to-low_of}
use Rattle.exh_page.specs.Version.{Version, Fits}
use Rattle.exh_page.specs.declared.page.Page.{Page}
use Rattle.exh_page.specs.declared.page.Page.TheVariants.{Live, Forward}
use Rattle.exh_page.specs.declared.record.Record.{Record}
use Rattle.exh_page.specs.Records.{IsRising}
use Rattle.exh_codec.specs.declared.head.Head.{Head}
use Rattle.exh_page.specs.KeyMap.{pair_of}
use Rattle.exh_codec.specs.Cells.{Pair}
use Rattle.exh_codec.specs.Head.{head_of, link_number}
use Rattle.exh_codec.specs.ImageTests.{record_of, HasCells, HasPageKind, HasLengths, IsPaddedPage, HasBound, HasRisingRecords, Passes, content_tests, prefix_len_of, low_in}
use Rattle.exh_codec.specs.PageImage.{IsPage, IsLaidOut}
use Rattle.exh_codec.specs.Block.{AreZero}
use Rattle.exh_codec.proofs.HeadReading.{same_heads}
use Rattle.exh_codec.proofs.LowBytes.{zeros_are}
use Rattle.exh_codec.proofs.LaidOut.{Says, says, pairs_in, zeros_of}
use Rattle.exh_codec.proofs.PairImages.{same_cells}

-- records that keep their keys' pseudokeys are those of their pairs
pub records_of_pairs : (pseudo : List ℕ → ℕ) (records : List Record) → AllByRecursion (λ r. r.pseudokey ≡ pseudo r.key) records → map (record_of pseudo) (map pair_of records) ≡ records
records_of_pairs pseudo [] hashed = refl
records_of_pairs pseudo (r ∷ records) hashed =
    ap (λ (n : ℕ). record { pseudokey = n; key = r.key; value = r.value } ∷ map (record_of pseudo) (map pair_of records)) (sym hashed.0)
    ∙ ap (λ (rest : List Record). r ∷ rest) (records_of_pairs pseudo records hashed.1)

begun_pairs : (pseudo : List ℕ → ℕ) (prefix : List Bool) (records : List Record) → AllByRecursion (λ r. r.pseudokey ≡ pseudo r.key) records → AllByRecursion (λ r. Begins prefix r.pseudokey) records
    → AllByRecursion (λ pair. Begins prefix (pseudo pair.0)) (map pair_of records)
begun_pairs pseudo prefix [] hashed begun = tt
begun_pairs pseudo prefix (r ∷ records) hashed begun = (subst (Begins prefix) hashed.0 begun.0, begun_pairs pseudo prefix records hashed.1 begun.1)

same_right : (one other : Option ℕ) → one ≢ Some (2 ^ 32 - 1) → other ≢ Some (2 ^ 32 - 1) → link_number one ≡ link_number other → one ≡ other
same_right None None first second same = refl
same_right None (Some page) first second same = absurd (second (ap Some (sym same)))
same_right (Some page) None first second same = absurd (first (ap Some same))
same_right (Some one) (Some other) first second same = ap Some same

module _ (version : Version) (fits : Fits 8 version) where
  passes_lengths : (pseudo : List ℕ → ℕ) (page : Page) (block : List ℕ) → IsPage version pseudo page → Says version page block → HasLengths block
  passes_lengths pseudo (Live prefix right records) block page said = record {
    few = omega (arith, said.head.count, page.formed.1);
    forward = λ forward. absurd (omega (arith, said.head.kind, forward));
    cells = (pairs_in (Live prefix right records), zeros_of (Live prefix right records), said.cells);
  }
  passes_lengths pseudo (Forward low target) block page said = record {
    few = omega (arith, said.head.count);
    forward = λ _. said.head.count;
    cells = (pairs_in (Forward low target), zeros_of (Forward low target), said.cells);
  }

  passes_padding : (page : Page) (block : List ℕ) → Says version page block → IsPaddedPage version block
  passes_padding page block said = record {
    fourth = said.fourth;
    head = said.padding;
    tail = λ pairs rest cells. subst AreZero (same_cells _ _ (pairs_in page) pairs (zeros_of page) rest said.cells cells).1 (zeros_are _);
  }

  -- what is said of the page's pairs is said of those that a block is read as
  of_its_pairs : (page : Page) (block : List ℕ) → Says version page block → (P : List Pair → Type 0) → P (pairs_in page) → (pairs : List Pair) (rest : List ℕ) → HasCells block pairs rest → P pairs
  of_its_pairs page block said P holds pairs rest cells = subst P (same_cells _ _ (pairs_in page) pairs (zeros_of page) rest said.cells cells).0 holds

  passes_bound : (pseudo : List ℕ → ℕ) (page : Page) (block : List ℕ) → IsPage version pseudo page → Says version page block → HasBound version pseudo block
  passes_bound pseudo (Live prefix right records) block page said =
      let len : length prefix ≡ prefix_len_of block = sym said.head.prefix_len in
      let low : low_of prefix ≡ low_in version block = sym said.low in
      let short : length prefix ≤ 64 = omega (arith, page.in_range.0, fits.limit, fits.bytes) in
      let stored = up_to-low_of version.limit prefix (omega (arith, fits.limit, fits.bytes)) page.in_range.0 in
      let bits : prefix ≡ take (prefix_len_of block) (word_bits (low_in version block)) =
      sym (take-low_of-word prefix short) ∙ ap (λ (n : ℕ). take n (word_bits (low_of prefix))) len ∙ ap (λ (n : ℕ). take (prefix_len_of block) (word_bits n)) low in
      let Begun : List Bool → List Pair → Type 0 = λ p pairs. AllByRecursion (λ (pair : Pair). Begins p (pseudo pair.0)) pairs in
      let begun = begun_pairs pseudo prefix records page.formed.0.hashed page.formed.0.begun in (
        λ _. record {
          prefix = subst (λ (n : ℕ). HasPrefixUpTo version.limit (prefix_len_of block) n) low (subst (λ (n : ℕ). HasPrefixUpTo version.limit n (low_of prefix)) len stored);
          begun = of_its_pairs (Live prefix right records) block said (Begun (take (prefix_len_of block) (word_bits (low_in version block))))
              (subst (λ (p : List Bool). Begun p (map pair_of records)) bits begun);
        },
        λ forward. absurd (omega (arith, said.head.kind, forward)),
      )
  passes_bound pseudo (Forward low target) block page said = (
    λ live. absurd (omega (arith, said.head.kind, live)),
    λ _. record {
      none = said.head.prefix_len;
      some = λ none. page.formed.0 (sym said.low ∙ none);
      limit = subst (HasPrefixUpTo version.limit version.limit) (sym said.low) page.formed.1;
    },
  )

  rising_pairs : (pseudo : List ℕ → ℕ) (page : Page) → IsPage version pseudo page → IsRising (map (record_of pseudo) (pairs_in page))
  rising_pairs pseudo (Live prefix right records) page = subst IsRising (sym (records_of_pairs pseudo records page.formed.0.hashed)) page.formed.0.rising
  rising_pairs pseudo (Forward low target) page = tt

  passes_order : (pseudo : List ℕ → ℕ) (page : Page) (block : List ℕ) → IsPage version pseudo page → Says version page block → HasRisingRecords pseudo block
  passes_order pseudo page block valid said = of_its_pairs page block said (λ (pairs : List Pair). IsRising (map (record_of pseudo) pairs)) (rising_pairs pseudo page valid)

  -- a page's block passes the tests of a content
  pub passes_content : (pseudo : List ℕ → ℕ) (page : Page) (block : List ℕ) → IsLaidOut version pseudo page block → AllByRecursion (Passes version pseudo block) content_tests
  passes_content pseudo page block laid =
      let said = says version fits pseudo page block laid in
      let kind : HasPageKind block = ((head_of page).kind, said.head.kind) in (
        kind,
        (passes_lengths pseudo page block laid.valid said, (passes_padding page block said, (passes_bound pseudo page block laid.valid said, (passes_order pseudo page block laid.valid said, tt)))),
      )

  -- ---- one page

  pages_from_heads : (pseudo : List ℕ → ℕ) (one other : Page) → IsPage version pseudo one → IsPage version pseudo other → head_of one ≡ head_of other → pairs_in one ≡ pairs_in other → one ≡ other
  pages_from_heads pseudo (Live prefix right records) (Live prefix' right' records') first second heads pairs =
      let len : length prefix ≡ length prefix' = ap (λ (h : Head). h.prefix_len) heads in
      let low : low_of prefix ≡ low_of prefix' = ap (λ (h : Head). h.low) heads in
      let link : link_number right ≡ link_number right' = ap (λ (h : Head). h.link) heads in
      let same_records : records ≡ records' =
      sym (records_of_pairs pseudo records first.formed.0.hashed) ∙ ap (map (record_of pseudo)) pairs ∙ records_of_pairs pseudo records' second.formed.0.hashed in
      ap (λ (p : List Bool). Live p right records) (same_prefix prefix prefix' low len)
      ∙ ap (λ (r : Option ℕ). Live prefix' r records) (same_right right right' first.formed.2 second.formed.2 link)
      ∙ ap (λ (r : List Record). Live prefix' right' r) same_records
  pages_from_heads pseudo (Live prefix right records) (Forward low target) first second heads pairs = let kind = ap (λ (h : Head). h.kind) heads in absurd cc
  pages_from_heads pseudo (Forward low target) (Live prefix right records) first second heads pairs = let kind = ap (λ (h : Head). h.kind) heads in absurd cc
  pages_from_heads pseudo (Forward low target) (Forward low' target') first second heads pairs =
      ap (λ (n : ℕ). Forward n target) (ap (λ (h : Head). h.low) heads) ∙ ap (λ (n : ℕ). Forward low' n) (ap (λ (h : Head). h.link) heads)

  -- a block is laid out for one page at most
  pub one_page_laid : (pseudo : List ℕ → ℕ) (block : List ℕ) (one other : Page) → IsLaidOut version pseudo one block → IsLaidOut version pseudo other block → one ≡ other
  one_page_laid pseudo block one other first second =
      let said = says version fits pseudo one block first in
      let again = says version fits pseudo other block second in
      pages_from_heads pseudo one other first.valid second.valid (same_heads block (head_of one) (head_of other) said.head again.head)
      (same_cells _ _ (pairs_in one) (pairs_in other) (zeros_of one) (zeros_of other) said.cells again.cells).0
