-- What a block says that a page was laid out on.
use Rattle.std.proofs.Common.{◌≡◌, ℕ, ◌+◌, ◌*◌, ◌^◌, ◌-◌, ◌<◌, ◌≤◌, Bool, List, ◌++◌, length, map, replicate, take, drop, slice_index, slice_range, Option, None, Some, refl, sym, ap, ◌∙◌, subst, append_assoc, arith}
use Rattle.std.specs.Prelude.{IfSome}
use Rattle.std.specs.List.{flat_map}
use Rattle.std.proofs.lemmas.Nat.{pow_pos}
use Rattle.std.proofs.lemmas.List.{take-append-drop, drop_at, length-append, length-map}
use Rattle.exh_page.specs.Bits.{number_of, word_bits}
use Rattle.exh_page.specs.Prefix.{low_of}
use Rattle.exh_page.specs.PrefixLemmas.{low_of-lt, low_of-places, low_of-up_to, length-up_to}
use Rattle.exh_page.specs.Version.{Version, Fits}
use Rattle.exh_page.specs.declared.page.Page.{Page}
use Rattle.exh_page.specs.declared.page.Page.TheVariants.{Live, Forward}
use Rattle.exh_page.specs.Page.{records_of}
use Rattle.exh_page.specs.KeyMap.{pair_of}
use Rattle.exh_codec.specs.Cells.{Pair, pair_image}
use Rattle.exh_codec.specs.Head.{head_of, head_bytes, link_number, IsReadHead}
use Rattle.exh_codec.specs.ImageTests.{HasCells, low_in}
use Rattle.exh_codec.specs.PageImage.{IsInRange, IsPage, IsLaidOut, content_of, used_of}
use Rattle.exh_codec.specs.Block.{AreZero}
use Rattle.exh_codec.proofs.HeadReading.{reads_head, fourth_is_zero}
use Rattle.exh_codec.proofs.LowBytes.{past_low_is_zero, low_in-eight}
use Rattle.exh_codec.proofs.UsedBytes.{length-head_bytes, sized_records}

-- ---- a page's numbers

pub link_fits : (right : Option ℕ) → IfSome right (λ page. page < 2 ^ 32) → link_number right < 2 ^ 32
link_fits None small = omega arith
link_fits (Some page) small = small

head_link_fits : (version : Version) (page : Page) → IsInRange version page → (head_of page).link < 2 ^ 32
head_link_fits version (Live prefix right records) in_range = link_fits right in_range.1
head_link_fits version (Forward low target) in_range = in_range.1

module _ (version : Version) (fits : Fits 8 version) where
  word : version.limit ≤ 64
  word = omega (arith, fits.limit, fits.bytes)

  -- a low bound with its first bits alone is a multiple of the place of the last of them
  multiple : (prefix : List Bool) → length prefix ≤ version.limit → (m : ℕ) × (low_of prefix ≡ m * 2 ^ (64 - 8 * version.bytes))
  multiple prefix short =
      (number_of prefix * 2 ^ (8 * version.bytes - length prefix), low_of-places prefix (8 * version.bytes) (omega (arith, short, fits.limit)) (omega (arith, fits.bytes)))

  head_low_fits : (pseudo : List ℕ → ℕ) (page : Page) → IsPage version pseudo page → (head_of page).low < 2 ^ 64
  head_low_fits pseudo (Live prefix right records) page =
      omega (arith, page.in_range.0, low_of-lt prefix (omega (arith, word, page.in_range.0)), pow_pos (64 - length prefix))
  head_low_fits pseudo (Forward low target) page = page.in_range.0

  low_multiple : (pseudo : List ℕ → ℕ) (page : Page) → IsPage version pseudo page → (m : ℕ) × ((head_of page).low ≡ m * 2 ^ (64 - 8 * version.bytes))
  low_multiple pseudo (Live prefix right records) page = multiple prefix page.in_range.0
  low_multiple pseudo (Forward low target) page =
      let stored = page.formed.1 in
      let prefix = take version.limit (word_bits low) in
      let many = multiple prefix (omega (arith, length-up_to version.limit version.limit low word stored)) in
      (many.0, sym (low_of-up_to version.limit version.limit low word page.in_range.0 stored) ∙ many.1)

-- ---- what its block says

-- the zeros behind the bytes that a page uses
abbrev pub zeros_of : Page → List ℕ
zeros_of page = replicate (4064 - length (used_of page)) 0

abbrev pub pairs_in : Page → List Pair
pairs_in page = map pair_of (records_of page)

tail_of : Page → List ℕ → List ℕ
tail_of page block = flat_map pair_image (pairs_in page) ++ (zeros_of page ++ drop 4064 block)

content_parts : (page : Page) → content_of page ≡ head_bytes (head_of page) ++ (flat_map pair_image (pairs_in page) ++ zeros_of page)
unfolding content_of
content_parts page = append_assoc (head_bytes (head_of page)) (flat_map pair_image (pairs_in page)) (zeros_of page)

-- the block begins with the page's head
begins_with_head : (version : Version) (pseudo : List ℕ → ℕ) (page : Page) (block : List ℕ) → IsLaidOut version pseudo page block → (tail : List ℕ) × (block ≡ head_bytes (head_of page) ++ tail)
begins_with_head version pseudo page block laid =
    let images = flat_map pair_image (pairs_in page) in (
      (images ++ zeros_of page) ++ drop 4064 block,
      sym (take-append-drop 4064 block) ∙ ap (λ (front : List ℕ). front ++ drop 4064 block) (laid.content ∙ content_parts page)
          ∙ append_assoc (head_bytes (head_of page)) (images ++ zeros_of page) (drop 4064 block),
    )

-- what the block of a page says
pub record Says (version : Version) (page : Page) (block : List ℕ) : Type 0 where
  pub head : IsReadHead block (head_of page)
  pub fourth : slice_index block 3 ≡ 0
  pub padding : AreZero (slice_range block (8 + version.bytes) 16)
  pub low : low_in version block ≡ (head_of page).low
  pub cells : HasCells block (pairs_in page) (zeros_of page)

pub says : (version : Version) → Fits 8 version → (pseudo : List ℕ → ℕ) (page : Page) (block : List ℕ) → IsLaidOut version pseudo page block → Says version page block
says version fits pseudo page block laid =
    let parts = begins_with_head version pseudo page block laid in
    let low = low_multiple version fits pseudo page laid.valid in
    let head : IsReadHead block (head_of page) =
    subst (λ (bytes : List ℕ). IsReadHead bytes (head_of page)) (sym parts.1) (reads_head (head_of page) parts.0 (head_link_fits version page laid.valid.in_range) (head_low_fits version fits pseudo page laid.valid)) in
    let images = flat_map pair_image (pairs_in page) in
    let padding : AreZero (slice_range block (8 + version.bytes) 16) =
    subst (λ (bytes : List ℕ). AreZero (slice_range bytes (8 + version.bytes) 16)) (sym parts.1) (past_low_is_zero version fits (head_of page) parts.0 low.0 low.1) in
    let long : 16 ≤ length block = omega (arith, ap length parts.1, length-append (head_bytes (head_of page)) parts.0, length-head_bytes (head_of page)) in
    record {
      head = head;
      fourth = ap (λ (bytes : List ℕ). slice_index bytes 3) parts.1 ∙ fourth_is_zero (head_of page) parts.0;
      padding = padding;
      low = low_in-eight version fits block long padding ∙ head.low;
      cells = record {
        all = counted page ∙ sym head.count;
        sized = sized_records version page laid.valid.in_range;
        whole = ap (drop 16) (laid.content ∙ content_parts page) ∙ drop_at (head_bytes (head_of page)) (images ++ zeros_of page) 16 (length-head_bytes (head_of page));
      };
    }
  where
    counted : (page : Page) → length (pairs_in page) ≡ (head_of page).count
    counted (Live prefix right records) = length-map records pair_of
    counted (Forward low target) = refl
