-- A writer that is left alone once it has failed: what it got, where its bytes are known, and what waits to be written to it.
use Rattle.std.specs.Prelude.{◌≡◌, ℕ, Bool, List, ◌++◌, Option}
use Rattle.std.specs.Borrow.{MutBor}
use Rattle.std.specs.Io.KnownBytes.{Appends}
use Rattle.exh_stream.specs.declared.output.Output.{Output}

-- ---- what an output shows

-- a write failed, or took no bytes
abbrev pub writer_failed : {W : Type 0} → Output W → Bool
writer_failed output = output.has_failed

-- the bytes that wait
abbrev pub pending : {W : Type 0} → Output W → List ℕ
pending output = output.block.items

-- the bytes that the writer holds, where they are known
abbrev pub held : {W : Type 0} → (W → Option (List ℕ)) → Output W → Option (List ℕ)
held contents output = contents output.writer.now

-- the output is to this writer, as it is
abbrev pub WritesTo : {W : Type 0} → Output W → MutBor W → Type 0
WritesTo output writer = (output.writer.ghost_name ≡ writer.ghost_name) × (output.writer.now ≡ writer.now)

-- it is to the same writer
abbrev pub SameWriter : {W : Type 0} → Output W → Output W → Type 0
SameWriter old new = new.writer.ghost_name ≡ old.writer.ghost_name

-- which nothing touched
abbrev pub WriterUntouched : {W : Type 0} → Output W → Output W → Type 0
WriterUntouched old new = new.writer.now ≡ old.writer.now

-- ---- what a writer gets

-- known bytes grow by all of these but a rest at their end
pub record AppendsAllBut (old new : Option (List ℕ)) (bytes rest : List ℕ) : Type 0 where
  pub front : List ℕ
  pub gone : Appends old new front
  pub split : bytes ≡ front ++ rest

-- known bytes grow by a beginning of these
pub record AppendsBeginning (old new : Option (List ℕ)) (bytes : List ℕ) : Type 0 where
  pub rest : List ℕ
  pub all_but : AppendsAllBut old new bytes rest

module _ {W : Type 0} (contents : W → Option (List ℕ)) where
  -- the output takes these bytes: of what waited and of them, the writer gets all but what waits then
  pub record Takes (old new : Output W) (bytes : List ℕ) : Type 0 where
    pub passed : AppendsAllBut (held contents old) (held contents new) (pending old ++ bytes) (pending new)

  -- of what waited and of these bytes, the writer gets a beginning
  pub record TakesBeginning (old new : Output W) (bytes : List ℕ) : Type 0 where
    pub passed : AppendsBeginning (held contents old) (held contents new) (pending old ++ bytes)
