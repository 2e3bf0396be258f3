-- What blocks that are copied leave of a file.
use Rattle.std.specs.Prelude.{◌≡◌, ⊤, ℕ, ◌+◌, ◌*◌, ◌/◌, ◌<◌, ◌≤◌, max, List, Option, Some, None, length, IfSome}
use Rattle.exh_codec.specs.declared.block.TheConstants.{BLOCK_LEN}
use Rattle.exh_format.specs.FileTests.{IsWhole, block_at}

-- where a model tells what a file had, it tells what it has
abbrev pub Becomes : Option (List ℕ) → Option (List ℕ) → (List ℕ → List ℕ → Type 0) → Type 0
Becomes None new P = ⊤
Becomes (Some was) None P = ⊥
Becomes (Some was) (Some is) P = P was is

-- ---- calls

-- a block stands at a place, and at each other one what stood there; the file is as long as before, or ends behind the block
pub record HasPut (place : ℕ) (block old new : List ℕ) : Type 0 where
  pub long : length new ≡ max (length old) (BLOCK_LEN * (place + 1))
  pub is : block_at place new ≡ block
  pub others : (other : ℕ) → (other ≡ place → ⊥) → IsWhole other old → IsWhole other new × (block_at other new ≡ block_at other old)

-- the file has so many blocks, each of them as before
pub record EndsBehind (count : ℕ) (old new : List ℕ) : Type 0 where
  pub count_is : length new ≡ BLOCK_LEN * count
  pub kept : (place : ℕ) → place < count → IsWhole place old → IsWhole place new × (block_at place new ≡ block_at place old)

-- ---- copies

-- from the second block up to another one it has those of a source
abbrev pub HasBlocks : ℕ → List ℕ → List ℕ → Type 0
HasBlocks end source new = (place : ℕ) → 1 ≤ place → place < end → IsWhole place new × (block_at place new ≡ block_at place source)

-- it has so many blocks as the source, and those behind the first are the source's
pub record IsRest (source new : List ℕ) : Type 0 where
  pub count_is : length new ≡ BLOCK_LEN * (length source / BLOCK_LEN)
  pub blocks : HasBlocks (length source / BLOCK_LEN) source new

-- it has the source's bytes, where these are whole blocks
abbrev pub IsCopy : List ℕ → List ℕ → Type 0
IsCopy source new = length source ≡ BLOCK_LEN * (length source / BLOCK_LEN) → new ≡ source

-- the same, where the source's bytes are known
abbrev pub Takes : (List ℕ → List ℕ → Type 0) → Option (List ℕ) → Option (List ℕ) → Option (List ℕ) → Type 0
Takes Is source old new = IfSome source (λ bytes. Becomes old new (λ _ now. Is bytes now))
