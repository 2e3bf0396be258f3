-- The bytes of an image from its fields, and the fields from its bytes, in every version whose bytes fit.
use Rattle.std.proofs.Common.{◌≡◌, ℕ, ◌+◌, ◌*◌, ◌/◌, ◌-◌, ◌^◌, ◌<◌, ◌≤◌, ◌⊎◌, inl, inr, Bool, false, List, [], ◌∷◌, ◌++◌, append_assoc, length, replicate, take, drop, slice_index, Result, Ok, Err, IfOk, IfErr, refl, sym, ap, ◌∙◌, subst, arith}
use Rattle.std.proofs.Math.Nat.{mul-lt-mul_of_pos_right, mul_assoc}
use Rattle.std.proofs.lemmas.Nat.{pow-add, pow_pos, shl-shr}
use Rattle.std.proofs.lemmas.Bool.{cases_lt}
use Rattle.std.proofs.lemmas.List.{length-append, length-drop, length-take, length-take-le, get_or_past, get_or-drop, get_or-take, take-append-drop, take_at, drop_at, length-replicate}
use Rattle.std.specs.List.{AllByRecursion}
use Rattle.byteorder.specs.Endian.{big_bytes, big_from}
use Rattle.byteorder.specs.Numbers.{big_from-lt, big_number-reads_back, length-bytes_high_first}
use Rattle.exh_prefix.specs.Bits.{number_of, word_bits}
use Rattle.exh_prefix.specs.BitLemmas.{number_of-lt, number_of-append, number_of-zeros}
use Rattle.exh_prefix.specs.PrefixByteLemmas.{power_of_bytes}
use Rattle.exh_prefix.specs.Prefix.{zeros, HasPrefixUpTo, low_of}
use Rattle.exh_prefix.specs.PrefixLemmas.{low_of-places, low_of-up_to, length-up_to, same_prefix, up_to-low_of}
use Rattle.exh_prefix.specs.Version.{Version, four_bytes, Fits, field_low}
use Rattle.exh_notice.specs.declared.entry.Entry.{Entry}
use Rattle.exh_notice.specs.declared.entry.Kind.{Kind}
use Rattle.exh_notice.specs.declared.entry.Kind.TheVariants.{Merge, Split}
use Rattle.exh_notice.specs.declared.notice.Notice.{Notice}
use Rattle.exh_notice.specs.declared.notice_fault.NoticeFault.{NoticeFault}
use Rattle.exh_notice.specs.declared.notice_fault.NoticeFault.TheVariants as fault
use Rattle.exh_notice.specs.NoticeByteLemmas.{items_all, items-drop, items-add, items-front, items-agree, big_from-agree, length-items, zeros_are_zero, zeros_from, bytes_of_number, big_from-drop, big_from-add, zeros_number, number_then_zeros}
use Rattle.exh_notice.specs.NoticeImages.{items, kind_byte, right_field, prefix_field, entry_image, IsEntryImage, HasKind, IsPadded, HasPrefixField, FailsFirst, PassesAll, IsNoticeImage}
use Rattle.exh_notice.specs.Entry.{entry_of}

-- the bytes of a kind, and its right page, tell which it is
same_kind : (one other : Kind) → kind_byte one ≡ kind_byte other → right_field one ≡ right_field other → one ≡ other
same_kind Merge Merge byte right = refl
same_kind Merge (Split page) byte right = absurd (omega (arith, byte))
same_kind (Split page) Merge byte right = absurd (omega (arith, byte))
same_kind (Split one) (Split other) byte right = ap Split right

of_fields : ℕ → Kind → Entry
of_fields version kind = record { number = version; kind = kind }

notice_of : ℕ → ℕ → List Bool → Entry → Notice
notice_of ward index prefix entry = record { ward = ward; index = index; prefix = prefix; number = entry.number; kind = entry.kind }

kind_passes : (kind : Kind) (image : List ℕ) → slice_index image 1 ≡ kind_byte kind → HasKind image
kind_passes Merge image byte = inr byte
kind_passes (Split right) image byte = inl byte

merge_has_no_right : (kind : Kind) → kind_byte kind ≡ 2 → right_field kind ≡ 0
merge_has_no_right Merge byte = refl
merge_has_no_right (Split right) byte = absurd (omega (arith, byte))

-- four bytes hold 32 bits, and an entry's image has room for them
pub four_fit : Fits 4 four_bytes
four_fit = record { limit = omega arith; bytes = omega arith }

module _ (version : Version) (fits : Fits 4 version) where
  -- ---- the prefix in its bytes

  -- its bytes are the highest of the low bound
  pub prefix_field-low : (prefix : List Bool) → length prefix ≤ version.limit → field_low version (prefix_field version prefix) ≡ low_of prefix
  prefix_field-low prefix short =
      let room : length prefix ≤ 8 * version.bytes = omega (arith, short, fits.limit) in
      let left = 8 * version.bytes - length prefix in
      let zero_bits : number_of (zeros left) ≡ 0 = number_of-zeros left in
      let shifted : prefix_field version prefix ≡ number_of prefix * 2 ^ left =
      number_of-append prefix (zeros left) ∙ (rw (zero_bits, length-replicate left false) (omega arith)) in
      ap (λ n. n * 2 ^ (64 - 8 * version.bytes)) shifted ∙ sym (low_of-places prefix (8 * version.bytes) room (omega (arith, fits.bytes)))

  pub prefix_field-shr : (prefix : List Bool) → length prefix ≤ version.limit → low_of prefix / 2 ^ (64 - 8 * version.bytes) ≡ prefix_field version prefix
  prefix_field-shr prefix short =
      ap (λ n. n / 2 ^ (64 - 8 * version.bytes)) (sym (prefix_field-low prefix short)) ∙ shl-shr (prefix_field version prefix) (64 - 8 * version.bytes)

  prefix_field-lt : (prefix : List Bool) → length prefix ≤ version.limit → prefix_field version prefix < 256 ^ version.bytes
  prefix_field-lt prefix short =
      let left = 8 * version.bytes - length prefix in
      let room : length prefix ≤ 8 * version.bytes = omega (arith, short, fits.limit) in
      let whole : length (prefix ++ zeros left) ≡ 8 * version.bytes = length-append prefix (zeros left) ∙ (omega (arith, room, length-replicate left false)) in
      subst (λ n. prefix_field version prefix < n) (sym (power_of_bytes version.bytes))
      (subst (λ n. prefix_field version prefix < 2 ^ n) whole (number_of-lt (prefix ++ zeros left)))

  -- prefixes of one length and field are one
  same_field : (one other : List Bool) → length one ≤ version.limit → length one ≡ length other → prefix_field version one ≡ prefix_field version other → one ≡ other
  same_field one other short len field =
      same_prefix one other (sym (prefix_field-low one short) ∙ ap (field_low version) field ∙ prefix_field-low other (omega (arith, short, len))) len

  -- a number of so many bytes is the highest part of a word
  field_low-lt : (field : ℕ) → field < 256 ^ version.bytes → field_low version field < 2 ^ 64
  field_low-lt field small =
      let rest = 64 - 8 * version.bytes in
      let places : 8 * version.bytes + rest ≡ 64 = omega (arith, fits.bytes) in
      let below : field * 2 ^ rest < 256 ^ version.bytes * 2 ^ rest = mul-lt-mul_of_pos_right small (pow_pos rest) in
      let whole : 256 ^ version.bytes * 2 ^ rest ≡ 2 ^ 64 =
      ap (λ n. n * 2 ^ rest) (power_of_bytes version.bytes) ∙ sym (pow-add 2 (8 * version.bytes) rest) ∙ ap (λ n. 2 ^ n) places in
      subst (λ n. field_low version field < n) whole below

  -- a prefix that is made of its length and its bytes has these bytes
  pub prefix_field-read : (prefix : List Bool) (len field : ℕ) → field < 256 ^ version.bytes → HasPrefixUpTo version.limit len (field_low version field)
      → prefix ≡ take len (word_bits (field_low version field)) → field ≡ prefix_field version prefix
  prefix_field-read prefix len field small stored is =
      let word : version.limit ≤ 64 = omega (arith, fits.limit, fits.bytes) in
      let prefix_len : length prefix ≡ len = ap length is ∙ length-up_to version.limit len (field_low version field) word stored in
      let low : low_of prefix ≡ field_low version field = ap low_of is ∙ low_of-up_to version.limit len (field_low version field) word (field_low-lt field small) stored in
      sym (shl-shr field (64 - 8 * version.bytes)) ∙ ap (λ n. n / 2 ^ (64 - 8 * version.bytes)) (sym low) ∙ prefix_field-shr prefix (omega (arith, prefix_len, stored.0))

  -- the version's bytes and the zeros behind them are four bytes
  pub four_places : 2 ^ (64 - 8 * version.bytes) ≡ 256 ^ (4 - version.bytes) * 2 ^ 32
  four_places =
      let places : 64 - 8 * version.bytes ≡ 8 * (4 - version.bytes) + 32 = omega (arith, fits.bytes) in
      ap (λ n. 2 ^ n) places ∙ pow-add 2 (8 * (4 - version.bytes)) 32 ∙ ap (λ n. n * 2 ^ 32) (sym (power_of_bytes (4 - version.bytes)))

  -- a field is the highest part of four bytes, of which the others are zero
  pub field_in_four : (field : ℕ) → field_low version field ≡ field_low four_bytes (field * 256 ^ (4 - version.bytes))
  field_in_four field = ap (λ n. field * n) four_places ∙ sym (mul_assoc field (256 ^ (4 - version.bytes)) (2 ^ 32))

  prefix_in_four : (prefix : List Bool) → length prefix ≤ version.limit → prefix_field four_bytes prefix ≡ prefix_field version prefix * 256 ^ (4 - version.bytes)
  prefix_in_four prefix short =
      let field = prefix_field version prefix * 256 ^ (4 - version.bytes) in
      let room : 8 * version.bytes ≤ 32 = omega (arith, fits.bytes) in
      let left = 8 * version.bytes - length prefix in
      let more = 8 * (4 - version.bytes) in
      let zero_bits : number_of (zeros left) ≡ 0 = number_of-zeros left in
      let all_zero : number_of (zeros (32 - length prefix)) ≡ 0 = number_of-zeros (32 - length prefix) in
      let short_field : prefix_field version prefix ≡ number_of prefix * 2 ^ left =
      number_of-append prefix (zeros left) ∙ (rw (zero_bits, length-replicate left false) (omega arith)) in
      let long_field : prefix_field four_bytes prefix ≡ number_of prefix * 2 ^ (32 - length prefix) =
      number_of-append prefix (zeros (32 - length prefix)) ∙ (rw (all_zero, length-replicate (32 - length prefix) false) (omega arith)) in
      let places : 32 - length prefix ≡ left + more = omega (arith, fits.bytes, fits.limit, short) in
      long_field ∙ ap (λ n. number_of prefix * n) (ap (λ n. 2 ^ n) places ∙ pow-add 2 left more ∙ ap (λ n. 2 ^ left * n) (sym (power_of_bytes (4 - version.bytes))))
      ∙ sym (mul_assoc (number_of prefix) (2 ^ left) (256 ^ (4 - version.bytes))) ∙ ap (λ n. n * 256 ^ (4 - version.bytes)) (sym short_field)

  -- where the bytes behind the version's are zero, all four say the same field
  pub field_read : (image : List ℕ) → IsPadded version image → field_low four_bytes (big_from 4 4 image) ≡ field_low version (big_from 4 version.bytes image)
  field_read image padded =
      let count : 4 ≡ version.bytes + (4 - version.bytes) = omega (arith, fits.bytes) in
      let parts : big_from 4 4 image ≡ big_from 4 version.bytes image * 256 ^ (4 - version.bytes) + big_from (4 + version.bytes) (4 - version.bytes) image =
      ap (λ n. big_from 4 n image) count ∙ big_from-add 4 version.bytes (4 - version.bytes) image in
      let none : big_from (4 + version.bytes) (4 - version.bytes) image ≡ 0 = zeros_number (4 + version.bytes) (4 - version.bytes) image padded.after_prefix in
      let whole : big_from 4 4 image ≡ big_from 4 version.bytes image * 256 ^ (4 - version.bytes) = omega (arith, parts, none) in
      ap (field_low four_bytes) whole ∙ sym (field_in_four (big_from 4 version.bytes image))

  -- ---- from the fields to the bytes

  -- the four bytes of the prefix, and the zeros behind it
  abbrev field_bytes : List Bool → List ℕ
  field_bytes prefix = big_bytes version.bytes (prefix_field version prefix) ++ replicate (4 - version.bytes) 0

  abbrev entry_back : Entry → List ℕ
  entry_back entry = big_bytes 4 entry.number ++ big_bytes 4 (right_field entry.kind)

  length-field_bytes : (prefix : List Bool) → length (field_bytes prefix) ≡ 4
  length-field_bytes prefix =
      omega (
        arith,
        length-append (big_bytes version.bytes (prefix_field version prefix)) (replicate (4 - version.bytes) 0),
        length-bytes_high_first version.bytes (prefix_field version prefix),
        length-replicate {A = ℕ} (4 - version.bytes) 0,
        fits.bytes,
      )

  image_parts : (ward : ℕ) (prefix : List Bool) (entry : Entry) → entry_image version ward prefix entry ≡ ward ∷ kind_byte entry.kind ∷ length prefix ∷ 0 ∷ field_bytes prefix ++ entry_back entry
  image_parts ward prefix entry =
      ap (λ (back : List ℕ). ward ∷ kind_byte entry.kind ∷ length prefix ∷ 0 ∷ back)
      (append_assoc (field_bytes prefix) (big_bytes 4 entry.number) (big_bytes 4 (right_field entry.kind)))

  -- an image of a prefix that a version may have is as with four bytes
  pub same_in_four : (ward : ℕ) (prefix : List Bool) (entry : Entry) → length prefix ≤ version.limit → entry_image version ward prefix entry ≡ entry_image four_bytes ward prefix entry
  same_in_four ward prefix entry short =
      let numbers = big_bytes 4 entry.number ++ big_bytes 4 (right_field entry.kind) in
      let count : 4 ≡ version.bytes + (4 - version.bytes) = omega (arith, fits.bytes) in
      let four : big_bytes 4 (prefix_field four_bytes prefix) ≡ big_bytes version.bytes (prefix_field version prefix) ++ replicate (4 - version.bytes) 0 =
      ap (big_bytes 4) (prefix_in_four prefix short) ∙ ap (λ n. big_bytes n (prefix_field version prefix * 256 ^ (4 - version.bytes))) count
      ∙ number_then_zeros version.bytes (4 - version.bytes) (prefix_field version prefix) in
      image_parts ward prefix entry
      ∙ ap (λ (back : List ℕ). ward ∷ kind_byte entry.kind ∷ length prefix ∷ 0 ∷ back ++ numbers) (sym four)

  pub length-entry_image : (ward : ℕ) (prefix : List Bool) (entry : Entry) → length (entry_image version ward prefix entry) ≡ 16
  length-entry_image ward prefix entry =
      let back : length (field_bytes prefix ++ entry_back entry) ≡ 12 = omega (arith, length-append (field_bytes prefix) (entry_back entry), length-field_bytes prefix) in
      omega (arith, ap length (image_parts ward prefix entry), back)

  -- 16 bytes of which each field is an entry's are its image
  pub image_from_fields : (image : List ℕ) (prefix : List Bool) (entry : Entry) → length image ≡ 16 → ((k : ℕ) → slice_index image k < 256)
      → slice_index image 1 ≡ kind_byte entry.kind → length prefix < version.limit → slice_index image 2 ≡ length prefix → IsPadded version image
      → big_from 4 version.bytes image ≡ prefix_field version prefix → big_from 8 4 image ≡ entry.number → big_from 12 4 image ≡ right_field entry.kind
      → IsEntryImage version (slice_index image 0) prefix entry image
  image_from_fields image prefix entry len small kind shorter prefix_len padded field change_number right =
      let count : version.bytes + (4 - version.bytes) ≡ 4 = omega (arith, fits.bytes) in
      let field_read : items 4 version.bytes image ≡ big_bytes version.bytes (prefix_field version prefix) = sym (bytes_of_number 4 version.bytes image small) ∙ ap (big_bytes version.bytes) field in
      let zeros_read : items (4 + version.bytes) (4 - version.bytes) image ≡ replicate (4 - version.bytes) 0 =
      zeros_from (4 - version.bytes) (items (4 + version.bytes) (4 - version.bytes) image) (length-items (4 + version.bytes) (4 - version.bytes) image) padded.after_prefix in
      let four : items 4 4 image ≡ field_bytes prefix =
      ap (λ (n : ℕ). items 4 n image) (sym count) ∙ items-add 4 version.bytes (4 - version.bytes) image ∙ (λ i. field_read i ++ zeros_read i) in
      let number_bytes : items 8 4 image ≡ big_bytes 4 entry.number = sym (bytes_of_number 8 4 image small) ∙ ap (big_bytes 4) change_number in
      let right_bytes : items 12 4 image ≡ big_bytes 4 (right_field entry.kind) = sym (bytes_of_number 12 4 image small) ∙ ap (big_bytes 4) right in
      record {
        shorter = shorter;
        change_number = subst (λ n. n < 2 ^ 32) change_number (big_from-lt 8 4 image small);
        right = subst (λ n. n < 2 ^ 32) right (big_from-lt 12 4 image small);
        bytes = sym (items_all 16 image len)
            ∙ (λ i. slice_index image 0 ∷ kind i ∷ prefix_len i ∷ padded.after_length i ∷ four i ++ number_bytes i ++ right_bytes i);
      }

  -- ---- from the bytes to the fields

  module _ {ward : ℕ} {prefix : List Bool} {entry : Entry} {image : List ℕ} (is : IsEntryImage version ward prefix entry image) where
    has_kind_byte : slice_index image 1 ≡ kind_byte entry.kind
    has_kind_byte = ap (λ bytes. slice_index bytes 1) is.bytes

    has_length : slice_index image 2 ≡ length prefix
    has_length = ap (λ bytes. slice_index bytes 2) is.bytes

    has_short : length prefix ≤ version.limit
    has_short = omega (arith, is.shorter)

    -- the bytes of the prefix, the zeros behind them, and what follows
    has_parts : image ≡ ward ∷ kind_byte entry.kind ∷ length prefix ∷ 0 ∷ (big_bytes version.bytes (prefix_field version prefix) ++ (replicate (4 - version.bytes) 0 ++ entry_back entry))
    has_parts =
        is.bytes ∙ image_parts ward prefix entry
        ∙ ap (λ (back : List ℕ). ward ∷ kind_byte entry.kind ∷ length prefix ∷ 0 ∷ back)
        (append_assoc (big_bytes version.bytes (prefix_field version prefix)) (replicate (4 - version.bytes) 0) (entry_back entry))

    has_field : big_from 4 version.bytes image ≡ prefix_field version prefix
    has_field =
        sym (big_from-drop 4 0 version.bytes image) ∙ ap (λ (bytes : List ℕ). big_from 0 version.bytes (drop 4 bytes)) has_parts
        ∙ big_number-reads_back version.bytes (prefix_field version prefix) (replicate (4 - version.bytes) 0 ++ entry_back entry) (prefix_field-lt prefix has_short)

    has_back : drop 8 image ≡ entry_back entry
    has_back = ap (drop 8) (is.bytes ∙ image_parts ward prefix entry) ∙ drop_at (field_bytes prefix) (entry_back entry) 4 (length-field_bytes prefix)

    has_number : big_from 8 4 image ≡ entry.number
    has_number = sym (big_from-drop 8 0 4 image) ∙ ap (big_from 0 4) has_back ∙ big_number-reads_back 4 entry.number (big_bytes 4 (right_field entry.kind)) is.change_number

    has_right : big_from 12 4 image ≡ right_field entry.kind
    has_right = sym (big_from-drop 8 4 4 image) ∙ ap (big_from 4 4) has_back ∙ big_number-reads_back 4 (right_field entry.kind) [] is.right

    has_zeros : items (4 + version.bytes) (4 - version.bytes) image ≡ replicate (4 - version.bytes) 0
    has_zeros =
        let place : 4 + version.bytes + 0 ≡ 4 + version.bytes = omega arith in
        let rest : drop (4 + version.bytes) image ≡ replicate (4 - version.bytes) 0 ++ entry_back entry =
        ap (drop (4 + version.bytes)) has_parts
        ∙ drop_at (ward ∷ kind_byte entry.kind ∷ length prefix ∷ 0 ∷ big_bytes version.bytes (prefix_field version prefix)) (replicate (4 - version.bytes) 0 ++ entry_back entry) (4 + version.bytes)
        (omega (arith, length-bytes_high_first version.bytes (prefix_field version prefix))) in
        sym (items-drop (4 + version.bytes) 0 (4 - version.bytes) image ∙ ap (λ (place : ℕ). items place (4 - version.bytes) image) place)
        ∙ ap (items 0 (4 - version.bytes)) rest
        ∙ items-front (4 - version.bytes) (replicate (4 - version.bytes) 0) (entry_back entry) (length-replicate {A = ℕ} (4 - version.bytes) 0)

  -- an image is of one value
  pub one_value : {ward other_ward : ℕ} {prefix other_prefix : List Bool} {entry other_entry : Entry} {image : List ℕ}
      → IsEntryImage version ward prefix entry image → IsEntryImage version other_ward other_prefix other_entry image
      → (ward ≡ other_ward) × (prefix ≡ other_prefix) × (entry ≡ other_entry)
  unfolding of_fields
  one_value {ward = ward} {other_ward = other_ward} {prefix = prefix} {other_prefix = other_prefix} {entry = entry} {other_entry = other_entry} is other =
      let wards : ward ≡ other_ward = ap (λ bytes. slice_index bytes 0) (sym is.bytes ∙ other.bytes) in
      let prefixes : prefix ≡ other_prefix = same_field prefix other_prefix (has_short is) (sym (has_length is) ∙ has_length other) (sym (has_field is) ∙ has_field other) in
      let versions : entry.number ≡ other_entry.number = sym (has_number is) ∙ has_number other in
      let kinds : entry.kind ≡ other_entry.kind = same_kind entry.kind other_entry.kind (sym (has_kind_byte is) ∙ has_kind_byte other) (sym (has_right is) ∙ has_right other) in
      (wards, prefixes, λ i. of_fields (versions i) (kinds i))

  -- ---- an image passes each test

  pub image_has_kind : {ward : ℕ} {prefix : List Bool} {entry : Entry} {image : List ℕ} → IsEntryImage version ward prefix entry image → HasKind image
  image_has_kind {entry = entry} {image = image} is = kind_passes entry.kind image (has_kind_byte is)

  pub image_is_padded : {ward : ℕ} {prefix : List Bool} {entry : Entry} {image : List ℕ} → IsEntryImage version ward prefix entry image → IsPadded version image
  image_is_padded {entry = entry} is = record {
    after_length = ap (λ bytes. slice_index bytes 3) is.bytes;
    after_prefix = subst (AllByRecursion (λ (byte : ℕ). byte ≡ 0)) (sym (has_zeros is)) (zeros_are_zero (4 - version.bytes));
    after_merge = λ merge. has_right is ∙ merge_has_no_right entry.kind (sym (has_kind_byte is) ∙ merge);
  }

  pub image_has_prefix : {ward : ℕ} {prefix : List Bool} {entry : Entry} {image : List ℕ} → IsEntryImage version ward prefix entry image → HasPrefixField version image
  image_has_prefix {prefix = prefix} {image = image} is =
      let low : field_low version (big_from 4 version.bytes image) ≡ low_of prefix = ap (field_low version) (has_field is) ∙ prefix_field-low prefix (has_short is) in
      let stored : HasPrefixUpTo version.limit (length prefix) (low_of prefix) = up_to-low_of version.limit prefix (omega (arith, fits.limit, fits.bytes)) (has_short is) in
      let there : HasPrefixUpTo version.limit (length prefix) (field_low version (big_from 4 version.bytes image)) = subst (HasPrefixUpTo version.limit (length prefix)) (sym low) stored in
      (omega (arith, is.shorter, has_length is), subst (λ len. HasPrefixUpTo version.limit len (field_low version (big_from 4 version.bytes image))) (sym (has_length is)) there)

  pub image_passes : (fault : NoticeFault) {ward : ℕ} {prefix : List Bool} {entry : Entry} {image : List ℕ} → IsEntryImage version ward prefix entry image → ¬ (FailsFirst version fault image)
  image_passes fault.Kind is fails = fails (image_has_kind is)
  image_passes fault.Padding is fails = fails.1 (image_is_padded is)
  image_passes fault.Prefix is fails = fails.2 (image_has_prefix is)

  -- what reads nothing but images, and refuses only what fails a test, reads every image
  pub reads_every : (image : List ℕ) (read : Result (ℕ × List Bool × Entry) NoticeFault) → IfOk read (λ value. IsEntryImage version value.0 value.1 value.2 image) → IfErr read (λ fault. FailsFirst version fault image)
      → (ward : ℕ) (prefix : List Bool) (entry : Entry) → IsEntryImage version ward prefix entry image → read ≡ Ok (ward, prefix, entry)
  reads_every image (Ok value) ok err ward prefix entry is =
      let same = one_value ok is in λ i. Ok (same.0 i, same.1 i, same.2 i)
  reads_every image (Err fault) ok err ward prefix entry is = absurd (image_passes fault is err)

  -- ---- bytes that pass the tests are an image

  kind_tested : (image : List ℕ) → HasKind image → IsPadded version image → (kind : Kind) × (slice_index image 1 ≡ kind_byte kind) × (big_from 12 4 image ≡ right_field kind)
  kind_tested image (inl split) padded = (Split (big_from 12 4 image), split, refl)
  kind_tested image (inr merge) padded = (Merge, merge, padded.after_merge merge)

  pub image_from_tests : (image : List ℕ) → length image ≡ 16 → ((k : ℕ) → slice_index image k < 256) → HasKind image → IsPadded version image → HasPrefixField version image
      → (prefix : List Bool) × (entry : Entry) × IsEntryImage version (slice_index image 0) prefix entry image
  image_from_tests image len small kind padded stored =
      let field = big_from 4 version.bytes image in
      let tested = kind_tested image kind padded in
      let prefix = take (slice_index image 2) (word_bits (field_low version field)) in
      let entry : Entry = record { number = big_from 8 4 image; kind = tested.0 } in
      let word : version.limit ≤ 64 = omega (arith, fits.limit, fits.bytes) in
      let prefix_len : length prefix ≡ slice_index image 2 = length-up_to version.limit (slice_index image 2) (field_low version field) word stored.1 in
      let field_is : field ≡ prefix_field version prefix = prefix_field-read prefix (slice_index image 2) field (big_from-lt 4 version.bytes image small) stored.1 refl in
      (prefix, entry, image_from_fields image prefix entry len small tested.1 (omega (arith, prefix_len, stored.0)) (sym prefix_len) padded field_is refl tested.2)

  -- ---- notices

  -- a notice's image begins with its entry's,
  pub entry_image_of : {notice : Notice} {image : List ℕ} → IsNoticeImage version notice image → IsEntryImage version notice.ward notice.prefix (entry_of notice) (take 16 image)
  entry_image_of {notice = notice} is =
      let image = entry_image version notice.ward notice.prefix (entry_of notice) in
      record {
        shorter = is.shorter;
        change_number = is.change_number;
        right = is.right;
        bytes = ap (take 16) is.bytes ∙ take_at image (big_bytes 8 notice.index) 16 (length-entry_image notice.ward notice.prefix (entry_of notice));
      }

  -- and ends with its index
  has_index : {notice : Notice} {image : List ℕ} → IsNoticeImage version notice image → big_from 0 8 (drop 16 image) ≡ notice.index
  has_index {notice = notice} is =
      let image = entry_image version notice.ward notice.prefix (entry_of notice) in
      ap (λ bytes. big_from 0 8 (drop 16 bytes)) is.bytes
      ∙ ap (big_from 0 8) (drop_at image (big_bytes 8 notice.index) 16 (length-entry_image notice.ward notice.prefix (entry_of notice)))
      ∙ big_number-reads_back 8 notice.index [] is.index

  -- an image is of one notice
  pub one_notice : {one other : Notice} {image : List ℕ} → IsNoticeImage version one image → IsNoticeImage version other image → one ≡ other
  unfolding notice_of
  one_notice is other =
      let same = one_value (entry_image_of is) (entry_image_of other) in
      let index = sym (has_index is) ∙ has_index other in
      λ i. notice_of (same.0 i) (index i) (same.1 i) (same.2 i)

  -- 24 bytes that begin with an entry's image are a notice's, the other eight being its index
  pub notice_from_parts : (image front back : List ℕ) (ward index : ℕ) (prefix : List Bool) (entry : Entry) → length image ≡ 24 → ((k : ℕ) → slice_index image k < 256)
      → front ≡ take 16 image → back ≡ drop 16 image → IsEntryImage version ward prefix entry front → index ≡ big_from 0 8 back
      → IsNoticeImage version (record { ward = ward; index = index; prefix = prefix; number = entry.number; kind = entry.kind }) image
  notice_from_parts image front back ward index prefix entry len small front_is back_is is index_is =
      let back_len : length back ≡ 8 = ap length back_is ∙ length-drop 16 image ∙ (omega (arith, len)) in
      let back_small : (k : ℕ) → slice_index back k < 256 = λ k. subst (λ n. n < 256) (sym (ap (λ bytes. slice_index bytes k) back_is ∙ get_or-drop 16 image k 0)) (small (16 + k)) in
      let index_bytes : back ≡ big_bytes 8 index = sym (ap (big_bytes 8) index_is ∙ bytes_of_number 0 8 back back_small ∙ items_all 8 back back_len) in
      record {
        shorter = is.shorter;
        change_number = is.change_number;
        right = is.right;
        index = subst (λ n. n < 2 ^ 64) (sym index_is) (big_from-lt 0 8 back back_small);
        bytes = sym (take-append-drop 16 image) ∙ (λ i. (sym front_is ∙ is.bytes) i ++ (sym back_is ∙ index_bytes) i);
      }

  -- ---- bytes that pass the tests are a notice's image

  -- the tests read the first 16 bytes alone
  module _ (one other : List ℕ) (agree : (k : ℕ) → k < 16 → slice_index one k ≡ slice_index other k) where
    abbrev HasKindByte : ℕ → Type 0
    HasKindByte byte = (byte ≡ 1) ⊎ (byte ≡ 2)

    kind_agrees : HasKind one → HasKind other
    kind_agrees has = subst HasKindByte (agree 1 (omega arith)) has

    padding_agrees : IsPadded version one → IsPadded version other
    padding_agrees padded =
        let zeros = items-agree (4 + version.bytes) (4 - version.bytes) 16 one other (omega (arith, fits.bytes)) agree in
        let right : big_from 12 4 other ≡ big_from 12 4 one = sym (big_from-agree 12 4 16 one other (omega arith) agree) in
        record {
          after_length = sym (agree 3 (omega arith)) ∙ padded.after_length;
          after_prefix = subst (AllByRecursion (λ (byte : ℕ). byte ≡ 0)) zeros padded.after_prefix;
          after_merge = λ merge. right ∙ padded.after_merge (agree 1 (omega arith) ∙ merge);
        }

    prefix_agrees : HasPrefixField version one → HasPrefixField version other
    prefix_agrees has =
        let prefix_len : slice_index one 2 ≡ slice_index other 2 = agree 2 (omega arith) in
        let field : big_from 4 version.bytes one ≡ big_from 4 version.bytes other = big_from-agree 4 version.bytes 16 one other (omega (arith, fits.bytes)) agree in
        let stored : HasPrefixUpTo version.limit (slice_index other 2) (field_low version (big_from 4 version.bytes other)) =
        subst (λ (len : ℕ). HasPrefixUpTo version.limit len (field_low version (big_from 4 version.bytes other))) prefix_len
        (subst (λ (n : ℕ). HasPrefixUpTo version.limit (slice_index one 2) (field_low version n)) field has.1) in
        (omega (arith, prefix_len, has.0), stored)

    tests_agree : PassesAll version one → PassesAll version other
    tests_agree passed = (kind_agrees passed.0, padding_agrees passed.1, prefix_agrees passed.2)

  agree_too : (one other : List ℕ) → ((k : ℕ) → k < 16 → slice_index one k ≡ slice_index other k) → (k : ℕ) → k < 16 → slice_index other k ≡ slice_index one k
  agree_too one other agree k within = sym (agree k within)

  -- and so does the first that fails
  fault_agrees : (one other : List ℕ) → ((k : ℕ) → k < 16 → slice_index one k ≡ slice_index other k) → (found : NoticeFault) → FailsFirst version found one → FailsFirst version found other
  fault_agrees one other agree fault.Kind fails = λ has. fails (kind_agrees other one (agree_too one other agree) has)
  fault_agrees one other agree fault.Padding fails = (kind_agrees one other agree fails.0, λ padded. fails.1 (padding_agrees other one (agree_too one other agree) padded))
  fault_agrees one other agree fault.Prefix fails =
      (kind_agrees one other agree fails.0, padding_agrees one other agree fails.1, λ prefix. fails.2 (prefix_agrees other one (agree_too one other agree) prefix))

  pub fails_whole : (found : NoticeFault) (image front : List ℕ) → front ≡ take 16 image → FailsFirst version found front → FailsFirst version found image
  fails_whole found image front is fails = fault_agrees front image (λ k within. ap (λ (bytes : List ℕ). slice_index bytes k) is ∙ get_or-take 16 image k 0 within) found fails

  pub entry_passes : {ward : ℕ} {prefix : List Bool} {entry : Entry} {image : List ℕ} → IsEntryImage version ward prefix entry image → PassesAll version image
  entry_passes is = (image_has_kind is, image_is_padded is, image_has_prefix is)

  pub notice_passes : {notice : Notice} {image : List ℕ} → IsNoticeImage version notice image → PassesAll version image
  notice_passes {image = image} is = tests_agree (take 16 image) image (λ k within. get_or-take 16 image k 0 within) (entry_passes (entry_image_of is))

  pub notice_from_tests : (image : List ℕ) → length image ≡ 24 → ((k : ℕ) → slice_index image k < 256) → PassesAll version image → (notice : Notice) × IsNoticeImage version notice image
  notice_from_tests image len small passed =
      let front = take 16 image in
      let same = λ (k : ℕ) (within : k < 16). get_or-take 16 image k 0 within in
      let tests = tests_agree image front (λ k within. sym (same k within)) passed in
      let front_len : length front ≡ 16 = length-take-le 16 image (omega (arith, len)) in
      let entry = image_from_tests front front_len (take_small image small) tests.0 tests.1 tests.2 in
      (_, notice_from_parts image front (drop 16 image) (slice_index front 0) (big_from 0 8 (drop 16 image)) entry.0 entry.1 len small refl refl entry.2 refl)
    where
      take_small : (image : List ℕ) → ((k : ℕ) → slice_index image k < 256) → (k : ℕ) → slice_index (take 16 image) k < 256
      take_small image small k = elim (cases_lt k 16) [
        | inl within ↦ rw (get_or-take 16 image k 0 within) (small k)
        | inr past ↦ rw (get_or_past (take 16 image) k 0 (omega (arith, past, length-take 16 image))) (omega arith)
      ]
