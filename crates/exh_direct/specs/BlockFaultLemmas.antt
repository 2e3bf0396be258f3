-- Blocks that are read by their places, and what is told of one that isn't there or fails.
use Rattle.std.proofs.Common.{◌≢◌, ℕ, ◌*◌, ◌<◌, ◌≤◌, inl, inr, List, length, Option, None, Some, IfSome, subst, arith}
use Rattle.std.proofs.lemmas.List.{length-drop}
use Rattle.exh_codec.specs.declared.image_fault.ImageFault.{ImageFault}
use Rattle.exh_codec.specs.declared.image_fault.ImageFault.TheVariants as images
use Rattle.exh_format.specs.declared.file_fault.FileFault.{FileFault}
use Rattle.exh_format.specs.declared.file_fault.FileFault.TheVariants.{Block}
use Rattle.exh_format.specs.FileTests.{IsWhole, block_at, bytes_from}
use Rattle.exh_direct.specs.declared.direct_fault.DirectFault.{DirectFault}
use Rattle.exh_direct.specs.declared.direct_fault.DirectFault.TheVariants.{File, Astray, Read, Memory}
use Rattle.exh_direct.specs.DirectFault.{fault_at}
use Rattle.exh_direct.specs.KnownBlocks.{BlockFails, IsBlockAt, IsCount, IsCutOff}
use Rattle.exh_direct.specs.DirectLaws.{IsOtherFault}

-- behind the last whole block
pub cut_off : (known : Option (List ℕ)) (count place : ℕ) → IsCount known count → count ≤ place → IfSome known (λ bytes. length (bytes_from place bytes) < 4096)
cut_off None count place counted behind = tt
cut_off (Some bytes) count place counted behind = omega (arith, length-drop (4096 * place) bytes, counted, behind)

pub cut_fails : (Fails : List ℕ → FileFault → Type 0) (known : Option (List ℕ)) (place : ℕ) (fault : DirectFault) → IsCutOff known place fault → BlockFails Fails known place fault
cut_fails Fails None place (File fault) cut = tt
cut_fails Fails (Some bytes) place (File fault) cut = inl (cut.1, cut.0)
cut_fails Fails known place Astray cut = cut
cut_fails Fails known place Read cut = tt
cut_fails Fails known place Memory cut = tt

-- a block that was read, and fails
pub block_fails : (Fails : List ℕ → FileFault → Type 0) (known : Option (List ℕ)) (place : ℕ) (block : List ℕ) (fault : FileFault) → IsBlockAt known place block → Fails block fault → BlockFails Fails known place (File fault)
block_fails Fails None place block fault there fails = tt
block_fails Fails (Some bytes) place block fault there fails = inr (there.0, subst (λ (block : List ℕ). Fails block fault) there.1 fails)

-- by the fault of its image, if that isn't want of memory
pub image_fails : (Fails : List ℕ → FileFault → Type 0) (known : Option (List ℕ)) (place : ℕ) (image : ImageFault) → (image ≢ images.Memory → BlockFails Fails known place (File (Block place image)))
    → BlockFails Fails known place (fault_at place image)
image_fails Fails known place images.Memory fails = tt
image_fails Fails known place images.Digest fails = fails (λ same. cc)
image_fails Fails known place images.Kind fails = fails (λ same. cc)
image_fails Fails known place images.Length fails = fails (λ same. cc)
image_fails Fails known place images.Padding fails = fails (λ same. cc)
image_fails Fails known place images.Prefix fails = fails (λ same. cc)
image_fails Fails known place images.Order fails = fails (λ same. cc)

-- ---- no fault where all tests are passed

-- a whole block that doesn't fail has no fault of the file
pub no_fault : (Fails : List ℕ → FileFault → Type 0) (bytes : List ℕ) (place : ℕ) (fault : DirectFault) → IsWhole place bytes → ((file : FileFault) → Fails (block_at place bytes) file → ⊥) → BlockFails Fails (Some bytes) place fault → IsOtherFault fault
no_fault Fails bytes place (File file) whole none (inl cut) = absurd (omega (arith, whole, cut.0))
no_fault Fails bytes place (File file) whole none (inr fails) = none file fails.1
no_fault Fails bytes place Astray whole none fails = fails
no_fault Fails bytes place Read whole none fails = tt
no_fault Fails bytes place Memory whole none fails = tt
