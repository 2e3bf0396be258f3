-- Blocks that are read one after the other.
use Rattle.std.proofs.Common.{◌≡◌, ◌≢◌, ℕ, ◌+◌, inr, List, length, take, Option, None, Some, IfSome, sym, ap, ◌∙◌, subst, arith}
use Rattle.std.proofs.lemmas.List.{take_at, length-append}
use Rattle.std.specs.Io.KnownBytes.{Consumes}
use Rattle.exh_codec.specs.declared.image_fault.ImageFault.{ImageFault}
use Rattle.exh_codec.specs.declared.image_fault.ImageFault.TheVariants as images
use Rattle.exh_format.specs.declared.file_fault.FileFault.{FileFault}
use Rattle.exh_format.specs.declared.file_fault.FileFault.TheVariants.{Block}
use Rattle.exh_format.specs.FileTests.{NextFails}
use Rattle.exh_format.specs.ReadFileFault.{fault_at}
use Rattle.exh_format.specs.Reading.{IsOf}

-- a block that was given, and fails
pub block_fails : (Fails : List ℕ → FileFault → Type 0) (known new : Option (List ℕ)) (block : List ℕ) (fault : FileFault) → Consumes known new block → length block ≡ 4096 → Fails block fault
    → IfSome known (λ bytes. NextFails Fails bytes fault)
block_fails Fails None new block fault given len fails = tt
block_fails Fails (Some bytes) None block fault given len fails = absurd given
block_fails Fails (Some bytes) (Some rest) block fault given len fails =
    let long : length bytes ≡ length block + length rest = ap length given ∙ length-append block rest in
    let front : take 4096 bytes ≡ block = ap (take 4096) given ∙ take_at block rest 4096 len in
    inr (omega (arith, long, len), subst (λ (block : List ℕ). Fails block fault) (sym front) fails)

-- a block's fault, if it isn't want of memory
pub fault_of : (Fails : List ℕ → FileFault → Type 0) (known : Option (List ℕ)) (place : ℕ) (image : ImageFault)
    → (image ≢ images.Memory → IfSome known (λ bytes. Fails bytes (Block place image))) → IsOf Fails known (fault_at place image)
fault_of Fails known place images.Memory fails = tt
fault_of Fails known place images.Digest fails = fails (λ same. cc)
fault_of Fails known place images.Kind fails = fails (λ same. cc)
fault_of Fails known place images.Length fails = fails (λ same. cc)
fault_of Fails known place images.Padding fails = fails (λ same. cc)
fault_of Fails known place images.Prefix fails = fails (λ same. cc)
fault_of Fails known place images.Order fails = fails (λ same. cc)
