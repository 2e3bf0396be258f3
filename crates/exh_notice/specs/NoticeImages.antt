-- Entries and notices as bytes, by the table of the format, for each version of the page file. Numbers stand with their highest byte first.
use Rattle.std.specs.Prelude.{◌≡◌, ℕ, zero, suc, ◌+◌, ◌*◌, ◌-◌, ◌^◌, ◌<◌, ◌⊎◌, Bool, List, [], ◌∷◌, ◌++◌, length, replicate, slice_index}
use Rattle.std.specs.List.{AllByRecursion}
use Rattle.byteorder.specs.Endian.{big_bytes, big_from}
use Rattle.exh_prefix.specs.Bits.{number_of}
use Rattle.exh_prefix.specs.Prefix.{zeros, HasPrefixUpTo}
use Rattle.exh_prefix.specs.Version.{Version, field_low}
use Rattle.exh_notice.specs.declared.entry.Entry.{Entry}
use Rattle.exh_notice.specs.declared.entry.Kind.{Kind}
use Rattle.exh_notice.specs.declared.entry.Kind.TheVariants.{Merge, Split}
use Rattle.exh_notice.specs.declared.notice.Notice.{Notice}
use Rattle.exh_notice.specs.declared.notice_fault.NoticeFault.{NoticeFault}
use Rattle.exh_notice.specs.declared.notice_fault.NoticeFault.TheVariants as fault
use Rattle.exh_notice.specs.Entry.{entry_of}

abbrev pub kind_byte : Kind → ℕ
kind_byte (Split right) = 1
kind_byte Merge = 2

-- a merge has no right page
abbrev pub right_field : Kind → ℕ
right_field (Split right) = right
right_field Merge = 0

-- the prefix's bits from the highest down, then zeros, in the version's bytes
abbrev pub prefix_field : Version → List Bool → ℕ
prefix_field version prefix = number_of (prefix ++ zeros (8 * version.bytes - length prefix))

-- the 16 bytes of an entry at a prefix, in a ward: from byte 4 on the prefix's bits, then zeros up to byte 8
abbrev pub entry_image : Version → ℕ → List Bool → Entry → List ℕ
entry_image version ward prefix entry =
    ward ∷ kind_byte entry.kind ∷ length prefix ∷ 0 ∷ [] ++ big_bytes version.bytes (prefix_field version prefix) ++ replicate (4 - version.bytes) 0
    ++ big_bytes 4 entry.number ++ big_bytes 4 (right_field entry.kind)

-- the bytes are the image of an entry at a prefix, in a ward
pub record IsEntryImage (version : Version) (ward : ℕ) (prefix : List Bool) (entry : Entry) (image : List ℕ) : Type 0 where
  pub shorter : length prefix < version.limit
  pub change_number : entry.number < 2 ^ 32
  pub right : right_field entry.kind < 2 ^ 32
  pub bytes : image ≡ entry_image version ward prefix entry

-- the 24 bytes of a notice: its entry's, and its index
abbrev pub notice_image : Version → Notice → List ℕ
notice_image version notice = entry_image version notice.ward notice.prefix (entry_of notice) ++ big_bytes 8 notice.index

-- the bytes are the image of a notice
pub record IsNoticeImage (version : Version) (notice : Notice) (image : List ℕ) : Type 0 where
  pub shorter : length notice.prefix < version.limit
  pub change_number : notice.number < 2 ^ 32
  pub right : right_field notice.kind < 2 ^ 32
  pub index : notice.index < 2 ^ 64
  pub bytes : image ≡ notice_image version notice

-- what reading tests, in this order: the kind,
abbrev pub HasKind : List ℕ → Type 0
HasKind image = (slice_index image 1 ≡ 1) ⊎ (slice_index image 1 ≡ 2)

-- n bytes, from place i on
abbrev pub items : ℕ → ℕ → List ℕ → List ℕ
items i zero bytes = []
items i (suc n) bytes = slice_index bytes i ∷ items (suc i) n bytes

-- the bytes that must be zero, of a merge the right page too,
pub record IsPadded (version : Version) (image : List ℕ) : Type 0 where
  pub after_length : slice_index image 3 ≡ 0
  pub after_prefix : AllByRecursion (λ byte. byte ≡ 0) (items (4 + version.bytes) (4 - version.bytes) image)
  pub after_merge : slice_index image 1 ≡ 2 → big_from 12 4 image ≡ 0

-- and the prefix, which is short enough and has no bit past its length
abbrev pub HasPrefixField : Version → List ℕ → Type 0
HasPrefixField version image = (slice_index image 2 < version.limit) × HasPrefixUpTo version.limit (slice_index image 2) (field_low version (big_from 4 version.bytes image))

-- the fault is the first test that the bytes fail
abbrev pub FailsFirst : Version → NoticeFault → List ℕ → Type 0
FailsFirst version fault.Kind image = ¬ (HasKind image)
FailsFirst version fault.Padding image = HasKind image × ¬ (IsPadded version image)
FailsFirst version fault.Prefix image = HasKind image × IsPadded version image × ¬ (HasPrefixField version image)

-- the bytes pass all of them
abbrev pub PassesAll : Version → List ℕ → Type 0
PassesAll version image = HasKind image × IsPadded version image × HasPrefixField version image
