-- The prefix of the last entry of a full block, read from its bytes.
use Rattle.std.proofs.Common.{◌≡◌, ℕ, ◌*◌, ◌-◌, ◌^◌, ◌<◌, ◌≤◌, Bool, false, List, [], ◌∷◌, ◌++◌, length, take, drop, get_or, replicate, Option, Some, refl, sym, ap, ◌∙◌, subst, append_assoc, append-nil, arith}
use Rattle.std.proofs.lemmas.List.{take_at, drop_at, length-append, length-replicate, length-take-le, take_all, take_more}
use Rattle.std.proofs.lemmas.List.Concat.{flat_map-append}
use Rattle.std.specs.List.{AllByRecursion, flat_map}
use Rattle.byteorder.specs.Endian.{big_bytes, big_from}
use Rattle.byteorder.specs.Numbers.{big_number-reads_back}
use Rattle.exh_prefix.specs.Bits.{word_bits}
use Rattle.exh_prefix.specs.BitLemmas.{number_of-lt}
use Rattle.exh_prefix.specs.PrefixByteLemmas.{power_of_bytes}
use Rattle.exh_prefix.specs.Prefix.{zeros}
use Rattle.exh_prefix.specs.PrefixLemmas.{take-low_of-word}
use Rattle.exh_prefix.specs.Version.{Version, Fits, field_low}
use Rattle.exh_legal.specs.NoticeByteLemmas.{big_from-drop}
use Rattle.exh_legal.specs.NoticeImages.{prefix_field, right_field}
use Rattle.exh_legal.specs.ImageLemmas.{length-entry_image, prefix_field-low}
use Rattle.exh_codec.specs.PageImage.{padded}
use Rattle.sha2.specs.Sha256.{sha256}
use Rattle.exh_format.specs.declared.file_entry.FileEntry.{FileEntry}
use Rattle.exh_format.specs.TableImage.{IsFileEntry, image_of}
use Rattle.exh_format.specs.FileTests.{last_prefix_in, prefix_in}
use Rattle.exh_format.specs.PageFile.{table_block}
use Rattle.exh_format.specs.Reading.{last_prefix}
use Rattle.exh_prefix.specs.PrefixListLemmas.{AllByRecursion-append_right}
use Rattle.exh_format.specs.ReadingLemmas.{last_of_more}

module _ (version : Version) (fits : Fits 4 version) where
  field-lt : (prefix : List Bool) → length prefix ≤ version.limit → prefix_field version prefix < 256 ^ version.bytes
  field-lt prefix short =
      let left = 8 * version.bytes - length prefix in
      let whole : length (prefix ++ zeros left) ≡ 8 * version.bytes = length-append prefix (zeros left) ∙ (omega (arith, short, fits.limit, length-replicate left false)) in
      subst (λ (n : ℕ). prefix_field version prefix < n) (sym (power_of_bytes version.bytes)) (subst (λ (n : ℕ). prefix_field version prefix < 2 ^ n) whole (number_of-lt (prefix ++ zeros left)))

  prefix_of_image : (item : FileEntry) → IsFileEntry version item → prefix_in version (image_of version item) ≡ item.prefix
  prefix_of_image item valid =
      let prefix = item.prefix in
      let short : length prefix ≤ version.limit = omega (arith, valid.shorter) in
      let field = big_bytes version.bytes (prefix_field version prefix) in
      let numbers = big_bytes 4 item.entry.number ++ big_bytes 4 (right_field item.entry.kind) in
      let back : drop 4 (image_of version item) ≡ field ++ (replicate (4 - version.bytes) 0 ++ numbers) =
      append_assoc (field ++ replicate (4 - version.bytes) 0) (big_bytes 4 item.entry.number) (big_bytes 4 (right_field item.entry.kind)) ∙ append_assoc field (replicate (4 - version.bytes) 0) numbers in
      let read : big_from 4 version.bytes (image_of version item) ≡ prefix_field version prefix =
      sym (big_from-drop 4 0 version.bytes (image_of version item)) ∙ ap (big_from 0 version.bytes) back
      ∙ big_number-reads_back version.bytes (prefix_field version prefix) (replicate (4 - version.bytes) 0 ++ numbers) (field-lt prefix short) in
      ap (λ (number : ℕ). take (length prefix) (word_bits (field_low version number))) read ∙ ap (λ (low : ℕ). take (length prefix) (word_bits low)) (prefix_field-low version fits prefix short)
      ∙ take-low_of-word prefix (omega (arith, short, fits.limit, fits.bytes))

  length-images : (items : List FileEntry) → length (flat_map (image_of version) items) ≡ 16 * length items
  length-images [] = refl
  length-images (item ∷ items) =
      omega (arith, length-append (image_of version item) (flat_map (image_of version) items), length-entry_image version fits item.ward item.prefix item.entry, length-images items)

  at_last : (before : Option (List Bool)) (front : List FileEntry) (item : FileEntry) → length front ≡ 253 → IsFileEntry version item
      → Some (last_prefix_in version (table_block version (front ++ item ∷ []))) ≡ last_prefix before (front ++ item ∷ [])
  unfolding table_block
  at_last before front item full valid =
      let images = flat_map (image_of version) front in
      let image = image_of version item in
      let used = flat_map (image_of version) (front ++ item ∷ []) in
      let tail = replicate {A = ℕ} (4064 - length used) 0 ++ sha256 (padded 4064 used) in
      let parts : used ≡ images ++ image = flat_map-append (image_of version) front (item ∷ []) ∙ ap (λ (image : List ℕ). images ++ image) (append-nil image) in
      let block : table_block version (front ++ item ∷ []) ≡ images ++ (image ++ tail) =
      append_assoc used (replicate (4064 - length used) 0) (sha256 (padded 4064 used)) ∙ ap (λ (used : List ℕ). used ++ tail) parts ∙ append_assoc images image tail in
      let len : length images ≡ 16 * 253 = length-images front ∙ ap (λ (n : ℕ). 16 * n) full in
      let bytes : take 16 (drop (16 * 253) (table_block version (front ++ item ∷ []))) ≡ image =
      ap (λ (block : List ℕ). take 16 (drop (16 * 253) block)) block ∙ ap (take 16) (drop_at images (image ++ tail) (16 * 253) len)
      ∙ take_at image tail 16 (length-entry_image version fits item.ward item.prefix item.entry) in
      ap (λ (image : List ℕ). Some (prefix_in version image)) bytes ∙ ap Some (prefix_of_image item valid) ∙ sym (last_of_more before front item)

  -- a full block ends with the entry that its last bytes say
  pub last_said : (before : Option (List Bool)) (entries : List FileEntry) (d : FileEntry) → length entries ≡ 254 → AllByRecursion (IsFileEntry version) entries
      → Some (last_prefix_in version (table_block version entries)) ≡ last_prefix before entries
  last_said before entries d full valid =
      let front = take 253 entries in
      let item = get_or entries 253 d in
      let whole : front ++ item ∷ [] ≡ entries = sym (take_more entries 253 d (omega (arith, full))) ∙ take_all 254 entries (omega (arith, full)) in
      let last = (AllByRecursion-append_right (IsFileEntry version) front (item ∷ []) (subst (AllByRecursion (IsFileEntry version)) (sym whole) valid)).0 in
      subst (λ (entries : List FileEntry). Some (last_prefix_in version (table_block version entries)) ≡ last_prefix before entries) whole
      (at_last before front item (length-take-le 253 entries (omega (arith, full))) last)
