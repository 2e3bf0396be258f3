-- A header's block passes the tests, and what passes them is a header's.
use Rattle.std.proofs.Common.{◌≡◌, ℕ, ◌<◌, List, [], ◌∷◌, ◌++◌, length, take, replicate, ◌-◌, slice_index, drop, sym, refl, ◌∙◌, append_assoc, subst, arith}
use Rattle.std.specs.List.{AllByRecursion, flat_map}
use Rattle.byteorder.specs.Endian.{big_bytes}
use Rattle.exh_legal.specs.NoticeImages.{items}
use Rattle.exh_codec.specs.declared.image_fault.ImageFault.TheVariants as images
use Rattle.exh_codec.specs.Block.{IsSealed, AreZero}
use Rattle.exh_codec.specs.BlockLemmas.{length-padded, padded_front, padded_rest, padded_from, sealed_content, sealed_is_sealed, sealed_from}
use Rattle.exh_codec.specs.PageImage.{padded}
use Rattle.exh_format.specs.declared.file_fault.FileFault.TheVariants.{Block, Magic, Version}
use Rattle.exh_format.specs.declared.header.Header.{Header}
use Rattle.exh_format.specs.FileVersion.{FileVersion, FitsFile}
use Rattle.exh_format.specs.FirstFailing.{IsFirstFailing}
use Rattle.exh_format.specs.HeaderImage.{IsHeader, IsHeaderImage, front_bytes, header_bytes}
use Rattle.exh_format.specs.HeaderTests.{HasMagic, IsOfVersion, HasRanges, IsReadHeader, IsHeaderPadded, PassesHeader, header_tests}
use Rattle.exh_format.proofs.HeaderBytes.{length-header_bytes, magic_said, version_said, zeros_said, header_said, header_back, same_headers}

-- what an image says
pub record Says (version : FileVersion) (header : Header) (block : List ℕ) : Type 0 where
  pub magic : HasMagic block
  pub of_version : IsOfVersion version block
  pub is_sealed : IsSealed block
  pub read : IsReadHeader block header
  pub padding : IsHeaderPadded block

module _ (version : FileVersion) (fits : FitsFile version) where
  pub says : (header : Header) (block : List ℕ) → IsHeaderImage version header block → Says version header block
  says header block image =
      let used = header_bytes version header in
      let len : length used ≡ 84 = length-header_bytes version header image.valid.counts in
      let whole : length (padded 4064 used) ≡ 4064 = length-padded 4064 used (omega (arith, len)) in
      let content = sealed_content block (padded 4064 used) whole image.whole in
      let rest = replicate (4064 - length used) 0 ++ drop 4064 block in
      let counts = flat_map (big_bytes 4) header.page_counts in
      let parts : block ≡ front_bytes version header ++ (counts ++ rest) = padded_front block used 4064 content ∙ append_assoc (front_bytes version header) counts rest in
      record {
        magic = subst HasMagic (sym parts) (magic_said version header (counts ++ rest));
        of_version = subst (IsOfVersion version) (sym parts) (version_said version header (counts ++ rest) fits.number);
        is_sealed = sealed_is_sealed block (padded 4064 used) whole image.whole;
        read = subst (λ (bytes : List ℕ). IsReadHeader bytes header) (sym parts) (header_said version header rest fits image.valid);
        padding = record {
          between = subst (λ (bytes : List ℕ). AreZero (items 13 3 bytes)) (sym parts) (zeros_said version header (counts ++ rest));
          rest = padded_rest block used 4064 84 len content;
        };
      }

  -- an image passes each test
  pub image_passes : (header : Header) (block : List ℕ) → IsHeaderImage version header block → AllByRecursion (PassesHeader version block) header_tests
  image_passes header block image =
      let said = says header block image in (said.magic, (said.of_version, (said.is_sealed, ((header, said.read, image.valid), (said.padding, tt)))))

  -- what a block says that passes them is its header
  pub image_from : (header : Header) (block : List ℕ) → length block ≡ 4096 → ((k : ℕ) → slice_index block k < 256) → HasMagic block → IsOfVersion version block → IsSealed block
      → IsReadHeader block header → IsHeader version header → IsHeaderPadded block → IsHeaderImage version header block
  image_from header block long small magic of_version is_sealed read valid padding =
      let used = header_bytes version header in
      let len : length used ≡ 84 = length-header_bytes version header valid.counts in
      let front : take 84 block ≡ used = header_back version header block (omega (arith, long)) small valid.counts magic of_version read padding.between in
      let content : take 4064 block ≡ padded 4064 used = padded_from block used 4064 84 len (omega arith) (omega (arith, long)) front padding.rest in
      record { valid = valid; whole = sealed_from block (padded 4064 used) content is_sealed }

  -- a block is the image of one header
  pub one_header : (one other : Header) (block : List ℕ) → IsHeaderImage version one block → IsHeaderImage version other block → one ≡ other
  one_header one other block first second = same_headers block one other first.valid.counts second.valid.counts (says one block first).read (says other block second).read

  pub image_from_tests : (block : List ℕ) → length block ≡ 4096 → ((k : ℕ) → slice_index block k < 256) → AllByRecursion (PassesHeader version block) header_tests
      → (header : Header) × IsHeaderImage version header block
  image_from_tests block long small passed =
      let ranges = passed.1.1.1.0 in
      (ranges.0, image_from ranges.0 block long small passed.0 passed.1.0 passed.1.1.0 ranges.1 ranges.2 passed.1.1.1.1.0)

-- ---- the first that fails

module _ (version : FileVersion) (block : List ℕ) where
  pub first_magic : (HasMagic block → ⊥) → IsFirstFailing (PassesHeader version block) header_tests Magic
  first_magic fails = record { before = []; after = Version ∷ Block 0 images.Digest ∷ Block 0 images.Length ∷ Block 0 images.Padding ∷ []; stands = refl; passed = tt; fails = fails }

  pub first_version : HasMagic block → (IsOfVersion version block → ⊥) → IsFirstFailing (PassesHeader version block) header_tests Version
  first_version magic fails = record { before = Magic ∷ []; after = Block 0 images.Digest ∷ Block 0 images.Length ∷ Block 0 images.Padding ∷ []; stands = refl; passed = (magic, tt); fails = fails }

  pub first_digest : HasMagic block → IsOfVersion version block → (IsSealed block → ⊥) → IsFirstFailing (PassesHeader version block) header_tests (Block 0 images.Digest)
  first_digest magic of_version fails =
      record { before = Magic ∷ Version ∷ []; after = Block 0 images.Length ∷ Block 0 images.Padding ∷ []; stands = refl; passed = (magic, (of_version, tt)); fails = fails }

  pub first_length : HasMagic block → IsOfVersion version block → IsSealed block → (HasRanges version block → ⊥) → IsFirstFailing (PassesHeader version block) header_tests (Block 0 images.Length)
  first_length magic of_version is_sealed fails =
      record { before = Magic ∷ Version ∷ Block 0 images.Digest ∷ []; after = Block 0 images.Padding ∷ []; stands = refl; passed = (magic, (of_version, (is_sealed, tt))); fails = fails }

  pub first_padding : HasMagic block → IsOfVersion version block → IsSealed block → HasRanges version block → (IsHeaderPadded block → ⊥)
      → IsFirstFailing (PassesHeader version block) header_tests (Block 0 images.Padding)
  first_padding magic of_version is_sealed ranges fails =
      record { before = Magic ∷ Version ∷ Block 0 images.Digest ∷ Block 0 images.Length ∷ []; after = []; stands = refl; passed = (magic, (of_version, (is_sealed, (ranges, tt)))); fails = fails }
