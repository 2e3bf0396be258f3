-- How much a page file may have.
use Rattle.std.proofs.Common.{◌≡◌, ◌∙◌, ℕ, ◌-◌, ◌*◌, ◌^◌, ◌<◌, ◌≤◌, List, [], ◌∷◌, ◌++◌, length, map, Vec, Global, All, sym, ap, subst, arith, length-append, length-take, append-nil, refl}
use Rattle.std.proofs.lemmas.List.{length-map}
use Rattle.std.specs.List.{AllByRecursion}
use Rattle.std.proofs.Math.Nat.{pow-le-pow_right}
use Rattle.std.proofs.lemmas.List.Elements.{All-from_recursion}
use Rattle.std.proofs.lemmas.List.Sums.{sum_by-cons}
use Rattle.exh_page.specs.Page.{records_of}
use Rattle.exh_page.specs.declared.page.Page.{Page}
use Rattle.exh_prefix.specs.Version.{Version}
use Rattle.exh_prefix.specs.Layout.{layout}
use Rattle.exh_prefix.specs.LayoutLemmas.{layout_short}
use Rattle.exh_prefix.specs.declared.prefix.TheConstants.{LIMIT}
use Rattle.exh_codec.specs.PageImage.{IsPage}
use Rattle.exh_codec.specs.PageImageLemmas.{few_records}
use Rattle.exh_format.specs.FileVersion.{file_version}
use Rattle.exh_format.specs.HeaderImage.{IsPageCount}
use Rattle.exh_format.specs.FileParts.{file_of, pages_in}
use Rattle.exh_format.specs.PageFile.{IsFile, IsKnownFile, pages_of}
use Rattle.exh_format.specs.declared.file_parts.FileParts.{FileParts}
use Rattle.exh_text.specs.Contents.{on_line}
use Rattle.exh_report.specs.Check.{check_lines, legal_words}
use Rattle.exh_report.specs.Counts.{forward_count, live_count, record_count}
use Rattle.exh_report.specs.ReportLines.{lines_text}

module _ (limit bits : ℕ) (short : limit ≤ LIMIT) where
  few : 2 ^ (limit - bits) ≤ 2 ^ LIMIT
  few = let below : limit - bits ≤ LIMIT = omega (arith, short) in pow-le-pow_right {n = 2} (omega arith) below

  small : (wards : List (Vec Page Global)) (counts : List ℕ) → map length (map (λ ward. ward.items) wards) ≡ counts → AllByRecursion (IsPageCount limit bits) counts → AllByRecursion (λ ward. length ward.items < 2 ^ 32) wards
  small [] counts is all = tt
  small (ward ∷ wards) [] is all = cc
  small (ward ∷ wards) (count ∷ counts) is all = (omega (arith, few, all.0.1, first is), small wards counts (rest is) all.1)
    where
      first : map length (map (λ ward. ward.items) (ward ∷ wards)) ≡ count ∷ counts → length ward.items ≡ count
      first is = cc

      rest : map length (map (λ ward. ward.items) (ward ∷ wards)) ≡ count ∷ counts → map length (map (λ ward. ward.items) wards) ≡ counts
      rest is = cc

all_pages : (wards : List (Vec Page Global)) → AllByRecursion (λ ward. length ward.items < 2 ^ 32) wards → length (pages_in wards) ≤ 2 ^ 32 * length wards
all_pages [] all = omega arith
all_pages (ward ∷ wards) all = omega (arith, length-append ward.items (pages_in wards), all.0, all_pages wards all.1)

all_records : (version : Version) (pseudo : List ℕ → ℕ) (pages : List Page) → AllByRecursion (IsPage version pseudo) pages → record_count pages ≤ 16 * length pages
all_records version pseudo [] all = omega arith
all_records version pseudo (page ∷ pages) all =
    omega (arith, sum_by-cons (λ page. length (records_of page)) page pages, few_records version pseudo page all.0, all_records version pseudo pages all.1)

pages_are : (wards : List (Vec Page Global)) → pages_of (map (λ ward. ward.items) wards) ≡ pages_in wards
pages_are [] = refl
pages_are (ward ∷ wards) = ap (λ pages. ward.items ++ pages) (pages_are wards)

module _ (parts : FileParts (Vec Page Global)) (known : IsKnownFile (file_of parts)) where
  is : IsFile (file_version known.0) (file_of parts)
  is = known.1

  abbrev wards : List (Vec Page Global)
  wards = parts.wards.items

  pub few_wards : length wards ≤ 16
  few_wards =
      omega (
        arith,
        ap length is.counts,
        length-map (file_of parts).wards (λ (ward : List Page). length ward),
        length-map wards (λ (ward : Vec Page Global). ward.items),
        length-take (2 ^ parts.header.settings.ward_bits) parts.header.page_counts,
        is.header.counts,
      )

  wards_small : AllByRecursion (λ ward. length ward.items < 2 ^ 32) wards
  wards_small = small (layout known.0).limit parts.header.settings.ward_bits (layout_short known.0) wards _ is.counts is.header.pages

  pub small_wards : All (λ ward. length ward.items < 2 ^ 32) wards
  small_wards = All-from_recursion _ wards wards_small

  pub few_pages : length (pages_in wards) < 2 ^ 40
  few_pages = omega (arith, few_wards, all_pages wards wards_small)

  pub few_records_in_all : record_count (pages_in wards) < 2 ^ 64
  few_records_in_all = omega (arith, few_pages, all_records _ _ (pages_in wards) (subst (AllByRecursion (IsPage _ _)) (pages_are wards) is.pages))

-- the line of a check, of counts that are those of the file
pub check_line_is : (parts : FileParts (Vec Page Global)) (wards pages live forward records entries : ℕ) → wards ≡ length parts.wards.items → pages ≡ length (pages_in parts.wards.items) → live ≡ live_count (pages_in parts.wards.items)
    → forward ≡ forward_count (pages_in parts.wards.items) → records ≡ record_count (pages_in parts.wards.items) → entries ≡ length parts.entries.items
    → on_line (legal_words wards pages live forward records entries) ≡ lines_text (check_lines (file_of parts))
check_line_is parts wards pages live forward records entries w p l f r e =
    let all = sym (pages_are parts.wards.items) in
    let many = sym (length-map parts.wards.items (λ (ward : Vec Page Global). ward.items)) in
    let same : legal_words wards pages live forward records entries ≡ legal_words (length (file_of parts).wards) (length (pages_of (file_of parts).wards)) (live_count (pages_of (file_of parts).wards))
    (forward_count (pages_of (file_of parts).wards)) (record_count (pages_of (file_of parts).wards)) (length parts.entries.items)
    = ap (λ n. legal_words n pages live forward records entries) (w ∙ many)
    ∙ ap (λ n. legal_words (length (file_of parts).wards) n live forward records entries) (p ∙ ap (λ (l : List Page). length l) all)
    ∙ ap (λ n. legal_words (length (file_of parts).wards) (length (pages_of (file_of parts).wards)) n forward records entries) (l ∙ ap live_count all)
    ∙ ap (λ n. legal_words (length (file_of parts).wards) (length (pages_of (file_of parts).wards)) (live_count (pages_of (file_of parts).wards)) n records entries) (f ∙ ap forward_count all)
    ∙ ap (λ n. legal_words (length (file_of parts).wards) (length (pages_of (file_of parts).wards)) (live_count (pages_of (file_of parts).wards)) (forward_count (pages_of (file_of parts).wards)) n entries) (r ∙ ap record_count all)
    ∙ ap (λ n. legal_words (length (file_of parts).wards) (length (pages_of (file_of parts).wards)) (live_count (pages_of (file_of parts).wards)) (forward_count (pages_of (file_of parts).wards)) (record_count (pages_of (file_of parts).wards)) n) e in
    ap on_line same ∙ sym (append-nil _)
