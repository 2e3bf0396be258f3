-- The places of a file: which bytes pass what is asked of them, and the first at which they fail.
use Rattle.std.proofs.Common.{◌≡◌, ℕ, zero, suc, ◌+◌, ◌*◌, ◌<◌, ◌≤◌, List, [], ◌∷◌, ◌++◌, length, take, drop, refl, sym, ap, ◌∙◌, subst, append_assoc, arith}
use Rattle.std.proofs.lemmas.List.{take_at, drop_at, drop-drop, length-append}
use Rattle.std.specs.List.{AllByRecursion, flat_map}
use Rattle.exh_prefix.specs.Version.{Fits}
use Rattle.exh_legal.specs.declared.Page.{Page}
use Rattle.exh_codec.specs.PageImage.{IsImage, IsPage}
use Rattle.exh_codec.specs.ImageTests.{Passes, image_tests}
use Rattle.exh_codec.specs.CodecLaws.{ImagesAreBlocks, ImagesPass}
use Rattle.exh_format.specs.declared.file_fault.FileFault.{FileFault}
use Rattle.exh_format.specs.FileVersion.{FileVersion, FitsFile}
use Rattle.exh_format.specs.FileTests.{FilePlace, OfPage, FailsAt, FileFailsFirst, NextFails, PageFails, PassesAt, block_at, bytes_from, page_places}
use Rattle.exh_format.specs.PageFile.{page_block}
use Rattle.exh_format.specs.Reading.{AreBytes, FailsInPages}
use Rattle.exh_prefix.specs.PrefixListLemmas.{AllByRecursion-append_left, AllByRecursion-append_right}
use Rattle.exh_format.specs.ReadingLemmas.{byte_at}

-- the bytes from a place on, behind a block that stands there
pub from_next : (place : ℕ) (bytes block rest : List ℕ) → bytes_from place bytes ≡ block ++ rest → length block ≡ 4096 → bytes_from (suc place) bytes ≡ rest
from_next place bytes block rest is len =
    let next : 4096 * suc place ≡ 4096 * place + 4096 = omega arith in
    ap (λ (n : ℕ). drop n bytes) next ∙ sym (drop-drop 4096 (4096 * place) bytes) ∙ ap (drop 4096) is ∙ drop_at block rest 4096 len

pub block_there : (place : ℕ) (bytes block rest : List ℕ) → bytes_from place bytes ≡ block ++ rest → length block ≡ 4096 → block_at place bytes ≡ block
block_there place bytes block rest is len = ap (take 4096) is ∙ take_at block rest 4096 len

pub whole_there : (place : ℕ) (bytes block rest : List ℕ) → bytes_from place bytes ≡ block ++ rest → length block ≡ 4096 → 4096 ≤ length (bytes_from place bytes)
whole_there place bytes block rest is len = omega (arith, ap length is, length-append block rest, len)

module _ (version : FileVersion) (pseudo : List ℕ → ℕ) (bytes : List ℕ) where
  -- a place that is passed, and then others
  pub fails_behind : (front : List FilePlace) (places : List FilePlace) (fault : FileFault) → AllByRecursion (PassesAt version pseudo bytes) front → FileFailsFirst version pseudo bytes places fault
      → FileFailsFirst version pseudo bytes (front ++ places) fault
  fails_behind [] places fault passed fails = fails
  fails_behind (place ∷ front) places fault passed fails =
      let rest = fails_behind front places fault passed.1 fails in
      record {
        before = place ∷ rest.before;
        place = rest.place;
        after = rest.after;
        stands = ap (λ (places : List FilePlace). place ∷ places) rest.stands;
        passed = (passed.0, rest.passed);
        fails = rest.fails;
      }

  pub fails_here : (place : FilePlace) (places : List FilePlace) (fault : FileFault) → FailsAt version pseudo bytes place fault → FileFailsFirst version pseudo bytes (place ∷ places) fault
  fails_here place places fault fails = record { before = []; place = place; after = places; stands = refl; passed = tt; fails = fails }

  -- ---- pages

  module _ (fits : FitsFile version) (pass : ImagesPass) (are_blocks : ImagesAreBlocks) where
    page_passes : (place : ℕ) (page : Page) (rest : List ℕ) → IsPage version.images pseudo page → AreBytes (page_block page) → bytes_from place bytes ≡ page_block page ++ rest → PassesAt version pseudo bytes (OfPage place)
    unfolding page_block
    page_passes place page rest valid small is =
        let block = page_block page in
        let image : IsImage version.images pseudo page block = record { valid = valid; whole = refl } in
        let len = are_blocks version.images pseudo page block image in
        let fits_page : Fits 8 version.images = record { limit = fits.images.limit; bytes = omega (arith, fits.images.bytes) } in
        let passed = (pass version.images fits_page pseudo block len (byte_at block small)).0 (page, image) in
        (whole_there place bytes block rest is len, subst (λ (block : List ℕ). AllByRecursion (Passes version.images pseudo block) image_tests) (sym (block_there place bytes block rest is len)) passed)

    length-page : (page : Page) → IsPage version.images pseudo page → length (page_block page) ≡ 4096
    unfolding page_block
    length-page page valid = are_blocks version.images pseudo page (page_block page) (record { valid = valid; whole = refl })

    pub pages_pass : (place : ℕ) (pages : List Page) (rest : List ℕ) → AllByRecursion (IsPage version.images pseudo) pages → AreBytes (flat_map page_block pages)
        → bytes_from place bytes ≡ flat_map page_block pages ++ rest → AllByRecursion (PassesAt version pseudo bytes) (page_places place (length pages))
    pages_pass place [] rest valid small is = tt
    pages_pass place (page ∷ pages) rest valid small is =
        let block = page_block page in
        let more = flat_map page_block pages in
        let here = is ∙ append_assoc block more rest in (
          page_passes place page (more ++ rest) valid.0 (AllByRecursion-append_left (λ (byte : ℕ). byte < 256) block more small) here,
          pages_pass (suc place) pages rest valid.1 (AllByRecursion-append_right (λ (byte : ℕ). byte < 256) block more small) (from_next place bytes block (more ++ rest) here (length-page page valid.0)),
        )

    pub pages_behind : (place : ℕ) (pages : List Page) (rest : List ℕ) → AllByRecursion (IsPage version.images pseudo) pages
        → bytes_from place bytes ≡ flat_map page_block pages ++ rest → bytes_from (place + length pages) bytes ≡ rest
    pages_behind place [] rest valid is = let same : place + 0 ≡ place = omega arith in ap (λ (place : ℕ). bytes_from place bytes) same ∙ is
    pages_behind place (page ∷ pages) rest valid is =
        let block = page_block page in
        let more = flat_map page_block pages in
        let same : place + suc (length pages) ≡ suc place + length pages = omega arith in
        ap (λ (place : ℕ). bytes_from place bytes) same
        ∙ pages_behind (suc place) pages rest valid.1 (from_next place bytes block (more ++ rest) (is ∙ append_assoc block more rest) (length-page page valid.0))

    -- the first page that fails
    next_page_fails : (place count : ℕ) (places : List FilePlace) (pages : List Page) (rest : List ℕ) (fault : FileFault) → length pages < count → AllByRecursion (IsPage version.images pseudo) pages → AreBytes (flat_map page_block pages)
        → bytes_from place bytes ≡ flat_map page_block pages ++ rest → NextFails (PageFails version.images pseudo (place + length pages)) rest fault
        → FileFailsFirst version pseudo bytes (page_places place count ++ places) fault
    next_page_fails place zero places pages rest fault fewer valid small is fails = absurd (omega (arith, fewer))
    next_page_fails place (suc count) places [] rest fault fewer valid small is fails =
        let same : place + 0 ≡ place = omega arith in
        fails_here (OfPage place) (page_places (suc place) count ++ places) fault
        (subst (λ (rest : List ℕ). NextFails (PageFails version.images pseudo place) rest fault) (sym is) (subst (λ (place : ℕ). NextFails (PageFails version.images pseudo place) rest fault) same fails))
    next_page_fails place (suc count) places (page ∷ pages) rest fault fewer valid small is fails =
        let block = page_block page in
        let more = flat_map page_block pages in
        let here = is ∙ append_assoc block more rest in
        let same : place + suc (length pages) ≡ suc place + length pages = omega arith in
        fails_behind (OfPage place ∷ []) (page_places (suc place) count ++ places) fault
        (page_passes place page (more ++ rest) valid.0 (AllByRecursion-append_left (λ (byte : ℕ). byte < 256) block more small) here, tt)
        (next_page_fails (suc place) count places pages rest fault (omega (arith, fewer)) valid.1 (AllByRecursion-append_right (λ (byte : ℕ). byte < 256) block more small)
        (from_next place bytes block (more ++ rest) here (length-page page valid.0))
        (subst (λ (place : ℕ). NextFails (PageFails version.images pseudo place) rest fault) same fails))

    pub pages_fail : (place count : ℕ) (places : List FilePlace) (fault : FileFault) → FailsInPages version.images pseudo place count (bytes_from place bytes) fault
        → FileFailsFirst version pseudo bytes (page_places place count ++ places) fault
    pages_fail place count places fault fails = next_page_fails place count places fails.pages fails.rest fault fails.fewer fails.valid fails.are_bytes fails.whole fails.fails
