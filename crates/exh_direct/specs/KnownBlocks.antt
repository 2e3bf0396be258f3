-- Blocks of a file that are read by their places, where the file's bytes are known.
use Rattle.std.specs.Prelude.{◌≡◌, ⊤, ◌⊎◌, ℕ, ◌/◌, ◌<◌, nat_eq, List, [], ◌∷◌, Option, length, IfSome}
use Rattle.std.specs.List.{IsDistinct}
use Rattle.std.specs.Io.KnownBytes.{Appends}
use Rattle.exh_prefix.specs.Version.{Version}
use Rattle.exh_page.specs.declared.page.Page.{Page}
use Rattle.exh_codec.specs.declared.block.TheConstants.{BLOCK_LEN}
use Rattle.exh_codec.specs.PageImage.{IsImage}
use Rattle.exh_format.specs.declared.file_entry.FileEntry.{FileEntry}
use Rattle.exh_format.specs.declared.file_fault.FileFault.{FileFault}
use Rattle.exh_format.specs.declared.file_fault.FileFault.TheVariants.{Truncated}
use Rattle.exh_format.specs.declared.header.Header.{Header}
use Rattle.exh_format.specs.FileVersion.{FileVersion}
use Rattle.exh_format.specs.HeaderImage.{IsHeaderImage}
use Rattle.exh_format.specs.TableImage.{IsTableImage}
use Rattle.exh_format.specs.FileTests.{IsWhole, NextFails, block_at, bytes_from}
use Rattle.exh_direct.specs.declared.direct_fault.DirectFault.{DirectFault}
use Rattle.exh_direct.specs.declared.direct_fault.DirectFault.TheVariants.{File, Astray, Read, Memory}

-- ---- blocks that are there

-- the block is the one at a place, which is whole
abbrev pub IsBlockAt : Option (List ℕ) → ℕ → List ℕ → Type 0
IsBlockAt known place block = IfSome known (λ bytes. IsWhole place bytes × (block ≡ block_at place bytes))

-- how many whole blocks there are
abbrev pub IsCount : Option (List ℕ) → ℕ → Type 0
IsCount known count = IfSome known (λ bytes. count ≡ length bytes / BLOCK_LEN)

-- the block at a place was read, or none was
abbrev pub MayRead : Option (List ℕ) → Option (List ℕ) → ℕ → Type 0
MayRead old new place = Appends old new [] ⊎ Appends old new (place ∷ [])

-- whatever was read before the header's block, behind which nothing else was
abbrev pub BehindHeader : Option (List ℕ) → (Option (List ℕ) → Type 0) → Type 0
BehindHeader now P = (before : Option (List ℕ)) → Appends before now (0 ∷ []) → P before

-- no block was read twice
pub record ReadsOnce (old new : Option (List ℕ)) : Type 0 where
  pub places : List ℕ
  pub are : Appends old new places
  pub once : IsDistinct nat_eq places

-- ---- what stands in them

abbrev pub IsHeaderAt : FileVersion → Option (List ℕ) → Header → Type 0
IsHeaderAt version known header = (block : List ℕ) × IsBlockAt known 0 block × IsHeaderImage version header block

abbrev pub IsTableBlock : Version → Option (List ℕ) → ℕ → List FileEntry → Type 0
IsTableBlock version known place entries = (block : List ℕ) × IsBlockAt known place block × IsTableImage version entries block

abbrev pub IsPageBlock : Version → (List ℕ → ℕ) → Option (List ℕ) → ℕ → Page → Type 0
IsPageBlock version pseudo known place page = (block : List ℕ) × IsBlockAt known place block × IsImage version pseudo page block

-- ---- faults

-- the block at a place ends early, or fails by this fault; where it couldn't be read, or memory was refused, nothing is said
abbrev pub BlockFails : (List ℕ → FileFault → Type 0) → Option (List ℕ) → ℕ → DirectFault → Type 0
BlockFails Fails known place (File fault) = IfSome known (λ bytes. NextFails Fails (bytes_from place bytes) fault)
BlockFails Fails known place Astray = ⊥
BlockFails Fails known place Read = ⊤
BlockFails Fails known place Memory = ⊤

-- it ends early, or couldn't be read
abbrev pub IsCutOff : Option (List ℕ) → ℕ → DirectFault → Type 0
IsCutOff known place (File fault) = (fault ≡ Truncated) × IfSome known (λ bytes. length (bytes_from place bytes) < BLOCK_LEN)
IsCutOff known place Astray = ⊥
IsCutOff known place Read = ⊤
IsCutOff known place Memory = ⊥
