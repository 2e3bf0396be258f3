-- A header's block of version 3 passes the tests, and what passes them is a header's.
use Rattle.std.proofs.Common.{◌≡◌, ℕ, ◌+◌, ◌*◌, ◌<◌, ◌≤◌, ◌^◌, List, [], ◌∷◌, ◌++◌, length, take, replicate, ◌-◌, slice_index, drop, sym, refl, ap, ◌∙◌, append_assoc, subst, arith}
use Rattle.std.specs.Prelude.{slice_range}
use Rattle.std.specs.List.{AllByRecursion, flat_map}
use Rattle.std.proofs.Math.Seq.{take-add}
use Rattle.std.proofs.lemmas.List.{take_at, drop_at, drop-drop, length-append, length-drop}
use Rattle.byteorder.specs.Endian.{big_bytes, big_from}
use Rattle.byteorder.specs.Numbers.{big_number-reads_back, length-bytes_high_first}
use Rattle.exh_prefix.specs.Version.{second_version}
use Rattle.exh_notice.specs.NoticeImages.{items}
use Rattle.exh_notice.specs.NoticeByteLemmas.{big_from-drop, bytes_of_number, zeros_number}
use Rattle.exh_codec.specs.declared.image_fault.ImageFault.TheVariants as images
use Rattle.exh_codec.specs.Block.{IsSealed, AreZero}
use Rattle.exh_codec.specs.BlockLemmas.{length-padded, padded_front, padded_rest, padded_from, sealed_content, sealed_is_sealed, sealed_from, length-sealed}
use Rattle.exh_codec.specs.PageImage.{padded}
use Rattle.exh_format.specs.declared.file_fault.FileFault.TheVariants.{Block, Magic, Version}
use Rattle.exh_format.specs.declared.header.Header.{Header}
use Rattle.exh_format.specs.declared.FileSettings.{FileSettings}
use Rattle.exh_keyer.specs.declared.any_keyer.AnyKeyer.{AnyKeyer}
use Rattle.exh_prefix.specs.declared.version.Version.TheVariants.{Second}
use Rattle.exh_format.specs.FileVersion.{FileVersion, FitsFile, file_version}
use Rattle.exh_format.specs.FirstFailing.{IsFirstFailing}
use Rattle.exh_format.specs.HeaderImage.{IsHeader, front_bytes, header_bytes}
use Rattle.exh_format.specs.HeaderTests.{HasMagic, IsOfVersion, IsReadHeader, header_tests}
use Rattle.exh_cells.specs.declared.stamped_header.StampedHeader.{StampedHeader}
use Rattle.exh_cells.specs.StampedHeader.{HasStampedRanges, IsReadStamped, IsStampedHeader, IsStampedImage, IsStampedPadded, PassesStamped, placed_format, plain_header, stamped_bytes}
use Rattle.exh_cells.proofs.HeaderBytes.{length-header_bytes, magic_said, version_said, zeros_said, header_said, header_back, part_items, same_headers}

fits_placed : FitsFile placed_format
fits_placed = record { number = omega arith; limit = omega arith; images = record { limit = omega arith; bytes = omega arith } }

-- the ranges are those of version 2
pub from_second : (header : Header) → IsHeader (file_version Second) header → IsHeader placed_format header
from_second header valid = record { some = valid.some; few = valid.few; wards = valid.wards; entries = valid.entries; counts = valid.counts; pages = valid.pages; others = valid.others }

pub to_second : (header : Header) → IsHeader placed_format header → IsHeader (file_version Second) header
to_second header valid = record { some = valid.some; few = valid.few; wards = valid.wards; entries = valid.entries; counts = valid.counts; pages = valid.pages; others = valid.others }

stamps : StampedHeader → List ℕ
stamps header = big_bytes 8 header.stamp ++ big_bytes 8 header.before

length-stamps : (header : StampedHeader) → length (stamps header) ≡ 16
unfolding stamps
length-stamps header = omega (arith, length-append (big_bytes 8 header.stamp) (big_bytes 8 header.before), length-bytes_high_first 8 header.stamp, length-bytes_high_first 8 header.before)

pub length-stamped : (header : StampedHeader) → length header.page_counts ≡ 16 → length (stamped_bytes header) ≡ 100
unfolding stamps
length-stamped header sixteen = omega (arith, length-append (header_bytes placed_format (plain_header header)) (stamps header), length-header_bytes placed_format (plain_header header) sixteen, length-stamps header)

-- what an image says
pub record Says (header : StampedHeader) (block : List ℕ) : Type 0 where
  pub magic : HasMagic block
  pub of_version : IsOfVersion placed_format block
  pub is_sealed : IsSealed block
  pub read : IsReadStamped block header
  pub padding : IsStampedPadded block

zeros_between : (block : List ℕ) → 20 ≤ length block → AreZero (items 13 7 block) → AreZero (slice_range block 13 20)
zeros_between block long zeros = subst AreZero (sym (part_items 13 7 block long)) zeros

pub between_zeros : (block : List ℕ) → 20 ≤ length block → AreZero (slice_range block 13 20) → AreZero (items 13 7 block)
between_zeros block long zeros = subst AreZero (part_items 13 7 block long) zeros

zeros_front : (header : StampedHeader) (tail : List ℕ) → AreZero (items 13 7 (front_bytes placed_format (plain_header header) ++ tail))
unfolding front_bytes
zeros_front header tail = (refl, (refl, (refl, (refl, (refl, (refl, (refl, tt)))))))

pub says : (header : StampedHeader) (block : List ℕ) → IsStampedImage header block → Says header block
unfolding stamps
says header block image =
    let plain = plain_header header in
    let used = stamped_bytes header in
    let len : length used ≡ 100 = length-stamped header image.valid.plain.counts in
    let whole : length (padded 4064 used) ≡ 4064 = length-padded 4064 used (omega (arith, len)) in
    let content = sealed_content block (padded 4064 used) whole image.whole in
    let rest = replicate (4064 - length used) 0 ++ drop 4064 block in
    let counts = flat_map (big_bytes 4) header.page_counts in
    let front = front_bytes placed_format plain in
    let tail = stamps header ++ rest in
    let parts : block ≡ front ++ (counts ++ tail) =
    padded_front block used 4064 content ∙ append_assoc (header_bytes placed_format plain) (stamps header) rest ∙ append_assoc front counts tail in
    let long : 20 ≤ length block = omega (arith, length-sealed block (padded 4064 used) whole image.whole) in
    let behind : drop 84 block ≡ tail =
    ap (drop 84) (padded_front block used 4064 content ∙ append_assoc (header_bytes placed_format plain) (stamps header) rest)
    ∙ drop_at (header_bytes placed_format plain) tail 84 (length-header_bytes placed_format plain image.valid.plain.counts) in
    let read = subst (λ (bytes : List ℕ). IsReadHeader bytes plain) (sym parts) (header_said placed_format plain tail fits_placed image.valid.plain) in
    let first : big_from 0 8 (stamps header ++ rest) ≡ header.stamp =
    ap (big_from 0 8) (append_assoc (big_bytes 8 header.stamp) (big_bytes 8 header.before) rest) ∙ big_number-reads_back 8 header.stamp (big_bytes 8 header.before ++ rest) image.valid.stamp in
    let second : big_from 8 8 (stamps header ++ rest) ≡ header.before =
    sym (big_from-drop 8 0 8 (stamps header ++ rest))
    ∙ ap (big_from 0 8) (ap (drop 8) (append_assoc (big_bytes 8 header.stamp) (big_bytes 8 header.before) rest) ∙ drop_at (big_bytes 8 header.stamp) (big_bytes 8 header.before ++ rest) 8 (length-bytes_high_first 8 header.stamp))
    ∙ big_number-reads_back 8 header.before rest image.valid.before in
    record {
      magic = subst HasMagic (sym parts) (magic_said placed_format plain (counts ++ tail));
      of_version = subst (IsOfVersion placed_format) (sym parts) (version_said placed_format plain (counts ++ tail) fits_placed.number);
      is_sealed = sealed_is_sealed block (padded 4064 used) whole image.whole;
      read = record {
        cap = read.cap;
        ward_bits = read.ward_bits;
        keyer = read.keyer;
        counts = read.counts;
        stamp = sym (big_from-drop 84 0 8 block) ∙ ap (big_from 0 8) behind ∙ first;
        before = sym (big_from-drop 84 8 8 block) ∙ ap (big_from 8 8) behind ∙ second;
      };
      padding = record {
        between = zeros_between block long (subst (λ (bytes : List ℕ). AreZero (items 13 7 bytes)) (sym parts) (zeros_front header (counts ++ tail)));
        rest = padded_rest block used 4064 100 len content;
      };
    }

-- what a block says that passes the tests is its header
pub image_from : (header : StampedHeader) (block : List ℕ) → length block ≡ 4096 → ((k : ℕ) → slice_index block k < 256) → HasMagic block → IsOfVersion placed_format block → IsSealed block
    → IsReadStamped block header → IsStampedHeader header → IsStampedPadded block → IsStampedImage header block
unfolding stamps
image_from header block long small magic of_version is_sealed read valid padding =
    let plain = plain_header header in
    let used = stamped_bytes header in
    let len : length used ≡ 100 = length-stamped header valid.plain.counts in
    let zeros = between_zeros block (omega (arith, long)) padding.between in
    let plain_read : IsReadHeader block plain = record { cap = read.cap; ward_bits = read.ward_bits; keyer = read.keyer; entries = zeros_number 16 4 block zeros.1.1.1; counts = read.counts } in
    let front : take 84 block ≡ header_bytes placed_format plain =
    header_back placed_format plain block (omega (arith, long)) small valid.plain.counts magic of_version plain_read (zeros.0, (zeros.1.0, (zeros.1.1.0, tt))) in
    let first : take 8 (drop 84 block) ≡ big_bytes 8 header.stamp = part_items 84 8 block (omega (arith, long)) ∙ sym (bytes_of_number 84 8 block small) ∙ ap (big_bytes 8) read.stamp in
    let second : take 8 (drop 92 block) ≡ big_bytes 8 header.before = part_items 92 8 block (omega (arith, long)) ∙ sym (bytes_of_number 92 8 block small) ∙ ap (big_bytes 8) read.before in
    let both : take 16 (drop 84 block) ≡ stamps header =
    take-add 8 8 (drop 84 block) ∙ (λ i. first i ++ (ap (take 8) (drop-drop 8 84 block) ∙ second) i) in
    let all : take 100 block ≡ used = take-add 84 16 block ∙ (λ i. front i ++ both i) in
    let content : take 4064 block ≡ padded 4064 used = padded_from block used 4064 100 len (omega arith) (omega (arith, long)) all padding.rest in
    record { valid = valid; whole = sealed_from block (padded 4064 used) content is_sealed }

made : FileSettings AnyKeyer → List ℕ → ℕ → ℕ → StampedHeader
made settings page_counts stamp before = record { settings = settings; page_counts = page_counts; stamp = stamp; before = before }

-- a block says one header
pub same_stamped : (block : List ℕ) (one other : StampedHeader) → length one.page_counts ≡ 16 → length other.page_counts ≡ 16 → IsReadStamped block one → IsReadStamped block other → one ≡ other
unfolding made
same_stamped block one other sixteen again first second =
    let none : big_from 16 4 block ≡ big_from 16 4 block = refl in
    let plain_one : Header = record { settings = one.settings; entry_count = big_from 16 4 block; page_counts = one.page_counts } in
    let plain_other : Header = record { settings = other.settings; entry_count = big_from 16 4 block; page_counts = other.page_counts } in
    let plain : plain_one ≡ plain_other = same_headers block plain_one plain_other sixteen again
    (record { cap = first.cap; ward_bits = first.ward_bits; keyer = first.keyer; entries = refl; counts = first.counts })
    (record { cap = second.cap; ward_bits = second.ward_bits; keyer = second.keyer; entries = refl; counts = second.counts }) in
    let stamp = sym first.stamp ∙ second.stamp in
    let before = sym first.before ∙ second.before in
    (λ i. made ((plain i).settings) ((plain i).page_counts) (stamp i) (before i))

pub one_header : (one other : StampedHeader) (block : List ℕ) → IsStampedImage one block → IsStampedImage other block → one ≡ other
one_header one other block first second = same_stamped block one other first.valid.plain.counts second.valid.plain.counts (says one block first).read (says other block second).read

-- ---- the first that fails

module _ (block : List ℕ) where
  pub first_magic : (HasMagic block → ⊥) → IsFirstFailing (PassesStamped block) header_tests Magic
  first_magic fails = record { before = []; after = Version ∷ Block 0 images.Digest ∷ Block 0 images.Length ∷ Block 0 images.Padding ∷ []; stands = refl; passed = tt; fails = fails }

  pub first_version : HasMagic block → (IsOfVersion placed_format block → ⊥) → IsFirstFailing (PassesStamped block) header_tests Version
  first_version magic fails = record { before = Magic ∷ []; after = Block 0 images.Digest ∷ Block 0 images.Length ∷ Block 0 images.Padding ∷ []; stands = refl; passed = (magic, tt); fails = fails }

  pub first_digest : HasMagic block → IsOfVersion placed_format block → (IsSealed block → ⊥) → IsFirstFailing (PassesStamped block) header_tests (Block 0 images.Digest)
  first_digest magic of_version fails =
      record { before = Magic ∷ Version ∷ []; after = Block 0 images.Length ∷ Block 0 images.Padding ∷ []; stands = refl; passed = (magic, (of_version, tt)); fails = fails }

  pub first_length : HasMagic block → IsOfVersion placed_format block → IsSealed block → (HasStampedRanges block → ⊥) → IsFirstFailing (PassesStamped block) header_tests (Block 0 images.Length)
  first_length magic of_version is_sealed fails =
      record { before = Magic ∷ Version ∷ Block 0 images.Digest ∷ []; after = Block 0 images.Padding ∷ []; stands = refl; passed = (magic, (of_version, (is_sealed, tt))); fails = fails }

  pub first_padding : HasMagic block → IsOfVersion placed_format block → IsSealed block → HasStampedRanges block → (IsStampedPadded block → ⊥)
      → IsFirstFailing (PassesStamped block) header_tests (Block 0 images.Padding)
  first_padding magic of_version is_sealed ranges fails =
      record { before = Magic ∷ Version ∷ Block 0 images.Digest ∷ Block 0 images.Length ∷ []; after = []; stands = refl; passed = (magic, (of_version, (is_sealed, (ranges, tt)))); fails = fails }
