-- Of the image of a page just its pairs are saved.
use Rattle.std.proofs.Common.{◌≡◌, ℕ, ◌<◌, ◌≤◌, ◌⊎◌, inl, inr, Bool, true, false, cond, nat_eq, List, [], ◌∷◌, ◌++◌, Option, map, take, drop, slice_index, refl, sym, ap, ◌∙◌, arith}
use Rattle.byteorder.specs.Endian.{big_number}
use Rattle.sha2.specs.Sha256.{sha256}
use Rattle.exh_prefix.specs.Bits.{word_bits}
use Rattle.exh_prefix.specs.declared.version.Version.{Version as KnownVersion}
use Rattle.exh_prefix.specs.declared.version.Version.TheVariants.{First, Second}
use Rattle.exh_prefix.specs.Layout.{layout}
use Rattle.exh_prefix.specs.Version.{Fits, Version}
use Rattle.exh_keyer.specs.declared.any_keyer.AnyKeyer.{AnyKeyer}
use Rattle.exh_keyer.specs.Pseudokey.{any_pseudokey}
use Rattle.exh_page.specs.declared.page.Page.{Page}
use Rattle.exh_page.specs.declared.page.Page.TheVariants.{Live, Forward}
use Rattle.exh_page.specs.declared.record.Record.{Record}
use Rattle.exh_page.specs.KeyMap.{pair_of}
use Rattle.exh_codec.specs.Cells.{Pair}
use Rattle.exh_codec.specs.CodecLaws.{BlocksAreRead, ImagesAreSealed}
use Rattle.exh_codec.specs.declared.block.TheConstants.{CONTENT_LEN}
use Rattle.exh_codec.specs.declared.head.TheConstants.{HEAD_LEN}
use Rattle.exh_codec.specs.Head.{head_bytes}
use Rattle.exh_codec.specs.ImageTests.{count_of, low_in, prefix_len_of, record_of}
use Rattle.exh_codec.specs.PageImage.{IsImage, content_of}
use Rattle.exh_codec.specs.PageOf.{first_pairs, link_of, page_of}
use Rattle.exh_salvage.specs.SavedBlock.{IsNoPage, IsPageBlock, pairs_of}

-- ---- a live page of version 1 is one of version 2

pub live_page : (version : KnownVersion) (keyer : AnyKeyer) (prefix : List Bool) (right : Option ℕ) (records : List Record) (block : List ℕ)
    → IsImage (layout version) (any_pseudokey keyer) (Live prefix right records) block → IsPageBlock block (Live prefix right records)
live_page First keyer prefix right records block image =
    let valid = image.valid in
    record {
      keyer = keyer;
      image = record {
        valid = record { in_range = (omega (arith, valid.in_range.0), valid.in_range.1, valid.in_range.2); formed = valid.formed };
        whole = image.whole;
      };
    }
live_page Second keyer prefix right records block image = record { keyer = keyer; image = image }

-- ---- the pairs in a block are the same in each version, under any keyer

pairs_in : List ℕ → List Pair
pairs_in block = cond (nat_eq (slice_index block 0) 2) [] (first_pairs (count_of block) (drop HEAD_LEN (take CONTENT_LEN block)))

pairs_back : (pseudo : List ℕ → ℕ) (pairs : List Pair) → map pair_of (map (record_of pseudo) pairs) ≡ pairs
pairs_back pseudo [] = refl
pairs_back pseudo (pair ∷ pairs) = ap (λ (more : List Pair). pair ∷ more) (pairs_back pseudo pairs)

by_kind : (pseudo : List ℕ → ℕ) (is_forward : Bool) (low link : ℕ) (prefix : List Bool) (right : Option ℕ) (pairs : List Pair)
    → pairs_of (cond is_forward (Forward low link) (Live prefix right (map (record_of pseudo) pairs))) ≡ cond is_forward [] pairs
by_kind pseudo true low link prefix right pairs = refl
by_kind pseudo false low link prefix right pairs = pairs_back pseudo pairs

read_pairs : (version : Version) (pseudo : List ℕ → ℕ) (block : List ℕ) → pairs_of (page_of version pseudo block) ≡ pairs_in block
unfolding page_of pairs_in
read_pairs version pseudo block =
    by_kind pseudo (nat_eq (slice_index block 0) 2) (low_in version block) (big_number 4 (drop 4 block)) (take (prefix_len_of block) (word_bits (low_in version block)))
    (link_of (big_number 4 (drop 4 block))) (first_pairs (count_of block) (drop HEAD_LEN (take CONTENT_LEN block)))

module _ (sealed : ImagesAreSealed) (read : BlocksAreRead) where
  fits : (version : KnownVersion) → Fits 8 (layout version)
  fits First = record { limit = omega arith; bytes = omega arith }
  fits Second = record { limit = omega arith; bytes = omega arith }

  saved_pairs : (version : KnownVersion) (pseudo : List ℕ → ℕ) (page : Page) (block : List ℕ) → IsImage (layout version) pseudo page block → pairs_in block ≡ pairs_of page
  saved_pairs version pseudo page block image =
      sym (read_pairs (layout version) pseudo block) ∙ ap pairs_of (read (layout version) (fits version) pseudo page block ((sealed (layout version) pseudo page block).0 image).0)

  pub same_pairs : (version : KnownVersion) (pseudo : List ℕ → ℕ) (page other : Page) (block : List ℕ) → IsImage (layout version) pseudo page block → IsPageBlock block other → pairs_of other ≡ pairs_of page
  same_pairs version pseudo page other block image saved =
      sym (saved_pairs Second (any_pseudokey saved.keyer) other block saved.image) ∙ saved_pairs version pseudo page block image

-- ---- the first byte

first_is : (page : Page) → (slice_index (content_of page) 0 ≡ 1) ⊎ (slice_index (content_of page) 0 ≡ 2)
unfolding content_of head_bytes
first_is (Live prefix right records) = inl refl
first_is (Forward low target) = inr refl

first_of : (content digest : List ℕ) → 0 < slice_index content 0 → slice_index (content ++ digest) 0 ≡ slice_index content 0
first_of [] digest some = absurd (omega (arith, some))
first_of (byte ∷ content) digest some = refl

kinds : (content digest block : List ℕ) → block ≡ content ++ digest → (slice_index content 0 ≡ 1) ⊎ (slice_index content 0 ≡ 2) → (1 ≤ slice_index block 0) × (slice_index block 0 ≤ 2)
kinds content digest block whole (inl one) =
    let same : slice_index block 0 ≡ 1 = ap (λ (bytes : List ℕ). slice_index bytes 0) whole ∙ first_of content digest (omega (arith, one)) ∙ one in
    (omega (arith, same), omega (arith, same))
kinds content digest block whole (inr two) =
    let same : slice_index block 0 ≡ 2 = ap (λ (bytes : List ℕ). slice_index bytes 0) whole ∙ first_of content digest (omega (arith, two)) ∙ two in
    (omega (arith, same), omega (arith, same))

pub no_page : (block : List ℕ) → (slice_index block 0 < 1) ⊎ (2 < slice_index block 0) → IsNoPage block
no_page block (inl low) page saved =
    let within = kinds (content_of page) (sha256 (content_of page)) block saved.image.whole (first_is page) in
    absurd (omega (arith, low, within.0))
no_page block (inr high) page saved =
    let within = kinds (content_of page) (sha256 (content_of page)) block saved.image.whole (first_is page) in
    absurd (omega (arith, high, within.1))
