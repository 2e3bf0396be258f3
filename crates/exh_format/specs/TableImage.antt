-- Table blocks, in each version of the page file.
use Rattle.std.specs.Prelude.{◌≡◌, ⊤, ℕ, ◌^◌, ◌<◌, ◌≤◌, Bool, List, [], ◌∷◌, ◌++◌, length, map}
use Rattle.std.specs.declared.cmp.Ordering.TheVariants.{Less}
use Rattle.std.specs.List.{AllByRecursion, flat_map}
use Rattle.exh_prefix.specs.Prefix.{prefix_cmp}
use Rattle.exh_prefix.specs.Version.{Version}
use Rattle.exh_legal.specs.NoticeImages.{entry_image, right_field}
use Rattle.exh_codec.specs.declared.block.TheConstants.{CONTENT_LEN}
use Rattle.exh_codec.specs.Block.{sealed}
use Rattle.exh_codec.specs.PageImage.{padded}
use Rattle.exh_format.specs.declared.file_entry.FileEntry.{FileEntry}
use Rattle.exh_format.specs.declared.table_block.TheConstants.{BLOCK_ENTRIES}

-- an entry that any file of the version may have
pub record IsFileEntry (version : Version) (item : FileEntry) : Type 0 where
  pub shorter : length item.prefix < version.limit
  pub change_number : item.entry.number < 2 ^ 32
  pub right : right_field item.entry.kind < 2 ^ 32

abbrev pub image_of : Version → FileEntry → List ℕ
image_of version item = entry_image version item.ward item.prefix item.entry

-- each prefix comes before all that follow
abbrev pub AreRising : List (List Bool) → Type 0
AreRising [] = ⊤
AreRising (prefix ∷ prefixes) = AllByRecursion (λ next. prefix_cmp prefix next ≡ Less) prefixes × AreRising prefixes

abbrev pub prefixes_of : List FileEntry → List (List Bool)
prefixes_of entries = map (λ item. item.prefix) entries

-- the bytes begin with the images of so many entries, and then come the others
pub record AreEntries (version : Version) (count : ℕ) (bytes : List ℕ) (entries : List FileEntry) (rest : List ℕ) : Type 0 where
  pub all : length entries ≡ count
  pub valid : AllByRecursion (IsFileEntry version) entries
  pub whole : bytes ≡ flat_map (image_of version) entries ++ rest

-- the block is the image of at most 254 entries
pub record IsTableImage (version : Version) (entries : List FileEntry) (block : List ℕ) : Type 0 where
  pub few : length entries ≤ BLOCK_ENTRIES
  pub valid : AllByRecursion (IsFileEntry version) entries
  pub whole : block ≡ sealed (padded CONTENT_LEN (flat_map (image_of version) entries))
