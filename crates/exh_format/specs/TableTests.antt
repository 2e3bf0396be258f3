-- The tests of a table block in their order, in each version of the page file.
use Rattle.std.specs.Prelude.{◌≡◌, ℕ, zero, suc, ◌*◌, Bool, List, [], ◌∷◌, ◌++◌, Option, take, drop, slice_range}
use Rattle.std.specs.Option.{option_to_list}
use Rattle.exh_prefix.specs.Version.{Version}
use Rattle.exh_legal.specs.NoticeLimits.{ENTRY_IMAGE_LEN}
use Rattle.exh_legal.specs.declared.NoticeFault.{NoticeFault}
use Rattle.exh_legal.specs.declared.NoticeFault.TheVariants as entries
use Rattle.exh_legal.specs.NoticeImages.{HasKind, IsPadded, HasPrefixField}
use Rattle.exh_codec.specs.declared.block.TheConstants.{CONTENT_LEN}
use Rattle.exh_codec.specs.declared.image_fault.ImageFault.{ImageFault}
use Rattle.exh_codec.specs.declared.image_fault.ImageFault.TheVariants as images
use Rattle.exh_codec.specs.Block.{IsSealed, AreZero}
use Rattle.exh_format.specs.declared.file_entry.FileEntry.{FileEntry}
use Rattle.exh_format.specs.FirstFailing.{IsFirstFailing}
use Rattle.exh_format.specs.TableImage.{AreEntries, AreRising, prefixes_of}

-- ---- the tests

-- the bytes in which the image of an entry stands
abbrev pub entry_bytes : ℕ → List ℕ → List ℕ
entry_bytes number block = take ENTRY_IMAGE_LEN (drop (ENTRY_IMAGE_LEN * number) block)

-- the test of an entry's image that a fault is named after
abbrev pub PassesEntry : Version → List ℕ → NoticeFault → Type 0
PassesEntry version image entries.Kind = HasKind image
PassesEntry version image entries.Padding = IsPadded version image
PassesEntry version image entries.Prefix = HasPrefixField version image

-- the bytes behind the last entry are zero
abbrev pub IsPaddedBehind : ℕ → List ℕ → Type 0
IsPaddedBehind count block = AreZero (slice_range block (ENTRY_IMAGE_LEN * count) CONTENT_LEN)

-- the prefixes rise, and that of the last entry before the block, if there is one, comes before them
abbrev pub IsOrdered : Version → ℕ → Option (List Bool) → List ℕ → Type 0
IsOrdered version count before block = (items : List FileEntry) (rest : List ℕ) → AreEntries version count block items rest
    → AreRising (option_to_list before ++ prefixes_of items)

-- ---- their order

-- a test of a block: its digest, one of an entry, the bytes behind the entries, their order
pub data TableTest : Type 0 where
  Digest : TableTest
  OfEntry : (number : ℕ) → (fault : NoticeFault) → TableTest
  Behind : TableTest
  Order : TableTest

abbrev pub PassesTable : Version → ℕ → Option (List Bool) → List ℕ → TableTest → Type 0
PassesTable version count before block Digest = IsSealed block
PassesTable version count before block (OfEntry number fault) = PassesEntry version (entry_bytes number block) fault
PassesTable version count before block Behind = IsPaddedBehind count block
PassesTable version count before block Order = IsOrdered version count before block

-- those of the entries, one entry after the other
abbrev pub entry_tests : ℕ → List TableTest
entry_tests zero = []
entry_tests (suc number) = entry_tests number ++ OfEntry number entries.Kind ∷ OfEntry number entries.Padding ∷ OfEntry number entries.Prefix ∷ []

abbrev pub table_tests : ℕ → List TableTest
table_tests count = Digest ∷ entry_tests count ++ Behind ∷ Order ∷ []

-- the fault that a test is answered by
abbrev pub entry_fault : NoticeFault → ImageFault
entry_fault entries.Kind = images.Kind
entry_fault entries.Padding = images.Padding
entry_fault entries.Prefix = images.Prefix

abbrev pub table_fault : TableTest → ImageFault
table_fault Digest = images.Digest
table_fault (OfEntry number fault) = entry_fault fault
table_fault Behind = images.Padding
table_fault Order = images.Order

-- the fault is that of the first test that the block fails
abbrev pub IsFirstFault : Version → ℕ → Option (List Bool) → List ℕ → ImageFault → Type 0
IsFirstFault version count before block fault =
    (test : TableTest) × IsFirstFailing (PassesTable version count before block) (table_tests count) test × (table_fault test ≡ fault)
