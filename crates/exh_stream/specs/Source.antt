-- A reader that is left alone once it has failed, and what it gave, where its bytes are known.
use Rattle.std.specs.Prelude.{◌≡◌, ◌<◌, ℕ, Bool, List, Option, length, take}
use Rattle.std.specs.Borrow.{MutBor}
use Rattle.std.specs.Io.KnownBytes.{Consumes}
use Rattle.exh_stream.specs.declared.source.Source.{Source}

-- ---- what a source shows

-- a read failed
abbrev pub reader_failed : {R : Type 0} → Source R → Bool
reader_failed source = source.has_failed

-- the bytes that the reader has left, where they are known
abbrev pub unread : {R : Type 0} → (R → Option (List ℕ)) → Source R → Option (List ℕ)
unread remaining source = remaining source.reader.now

-- the source is over this reader, as it is
abbrev pub ReadsFrom : {R : Type 0} → Source R → MutBor R → Type 0
ReadsFrom source reader = (source.reader.ghost_name ≡ reader.ghost_name) × (source.reader.now ≡ reader.now)

-- it is over the same reader
abbrev pub SameReader : {R : Type 0} → Source R → Source R → Type 0
SameReader old new = new.reader.ghost_name ≡ old.reader.ghost_name

-- which nothing touched
abbrev pub ReaderUntouched : {R : Type 0} → Source R → Source R → Type 0
ReaderUntouched old new = new.reader.now ≡ old.reader.now

-- ---- what a reader loses

-- known bytes lose a front
abbrev pub LosesSome : Option (List ℕ) → Option (List ℕ) → Type 0
LosesSome old new = (front : List ℕ) × Consumes old new front

-- they lose the first bytes of a block
abbrev pub LosesFrontOf : Option (List ℕ) → Option (List ℕ) → List ℕ → Type 0
LosesFrontOf old new block = (count : ℕ) × Consumes old new (take count block)

-- they lose more bytes than this
abbrev pub LosesLonger : Option (List ℕ) → Option (List ℕ) → ℕ → Type 0
LosesLonger old new limit = (front : List ℕ) × (limit < length front) × Consumes old new front
