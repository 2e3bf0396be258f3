-- What the images of entries are read as: contracts of private functions.
use Rattle.std.specs.Prelude.{◌≡◌, ⊤, ℕ, ◌<◌, Bool, List, Option, None, Some}
use Rattle.std.specs.declared.cmp.Ordering.TheVariants.{Less}
use Rattle.exh_prefix.specs.Prefix.{prefix_cmp}
use Rattle.exh_prefix.specs.Version.{Version}
use Rattle.exh_legal.specs.declared.NoticeFault.{NoticeFault}
use Rattle.exh_legal.specs.NoticeImages.{FailsFirst}
use Rattle.exh_codec.specs.declared.image_fault.ImageFault.{ImageFault}
use Rattle.exh_format.specs.declared.file_entry.FileEntry.{FileEntry}
use Rattle.exh_format.specs.TableImage.{AreEntries}
use Rattle.exh_format.specs.TableTests.{entry_bytes, entry_fault}

-- behind some entries, fewer than there are to be, stand bytes that fail a test of an entry's image
pub record FailsAtEntry (version : Version) (count : ℕ) (bytes : List ℕ) (fault : ImageFault) : Type 0 where
  pub number : ℕ
  pub fewer : number < count
  pub entries : List FileEntry
  pub rest : List ℕ
  pub before : AreEntries version number bytes entries rest
  pub first : NoticeFault
  pub fails : FailsFirst version first (entry_bytes number bytes)
  pub named : entry_fault first ≡ fault

-- the prefix, if there is one, comes before the next
abbrev pub MayPrecede : Option (List Bool) → List Bool → Type 0
MayPrecede None next = ⊤
MayPrecede (Some last) next = prefix_cmp last next ≡ Less
