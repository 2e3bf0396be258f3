-- The tests of an image in each version of the page file, each over the whole block, and the first that fails.
use Rattle.std.specs.Prelude.{◌≡◌, ◌≢◌, ⊤, ℕ, ◌+◌, ◌≤◌, List, [], ◌∷◌, ◌++◌, map, take, drop, slice_index, slice_range}
use Rattle.std.specs.List.{AllByRecursion}
use Rattle.byteorder.specs.Endian.{big_number}
use Rattle.exh_page.specs.Bits.{word_bits}
use Rattle.exh_page.specs.Prefix.{Begins, HasPrefixUpTo}
use Rattle.exh_page.specs.Version.{Version, field_low}
use Rattle.exh_page.specs.declared.page.TheConstants.{CAP_LIMIT}
use Rattle.exh_page.specs.declared.record.Record.{Record}
use Rattle.exh_page.specs.Records.{IsRising}
use Rattle.exh_codec.specs.declared.block.TheConstants.{CONTENT_LEN}
use Rattle.exh_codec.specs.declared.head.TheConstants.{HEAD_LEN, LOW_START}
use Rattle.exh_codec.specs.declared.image_fault.ImageFault.{ImageFault}
use Rattle.exh_codec.specs.declared.image_fault.ImageFault.TheVariants as faults
use Rattle.exh_codec.specs.declared.kind.Kind.{Kind}
use Rattle.exh_codec.specs.declared.kind.Kind.TheVariants.{Live, Forward}
use Rattle.exh_codec.specs.Block.{IsSealed, AreZero}
use Rattle.exh_codec.specs.Cells.{Pair, AreCells}
use Rattle.exh_codec.specs.Head.{page_kind_byte}

-- ---- what a block says, read as an image

abbrev pub IsOfKind : Kind → List ℕ → Type 0
IsOfKind kind block = slice_index block 0 ≡ page_kind_byte kind

abbrev pub prefix_len_of : List ℕ → ℕ
prefix_len_of block = slice_index block 1

abbrev pub count_of : List ℕ → ℕ
count_of block = slice_index block 2

-- the low bound whose bytes stand there
abbrev pub low_in : Version → List ℕ → ℕ
low_in version block = field_low version (big_number version.bytes (drop LOW_START block))

-- the block's records are these pairs, and then come the other bytes of its content
abbrev pub HasCells : List ℕ → List Pair → List ℕ → Type 0
HasCells block pairs rest = AreCells (count_of block) (drop HEAD_LEN (take CONTENT_LEN block)) pairs rest

-- the record of a pair, under a keyer's pseudokeys
abbrev pub record_of : (List ℕ → ℕ) → Pair → Record
record_of pseudo pair = record { pseudokey = pseudo pair.0; key = pair.0; value = pair.1 }

-- ---- the tests

-- the kind byte is that of a kind
abbrev pub HasPageKind : List ℕ → Type 0
HasPageKind block = (kind : Kind) × IsOfKind kind block

-- no more records than a page may have, none in a forwarding page, each with its lengths in their ranges
pub record HasLengths (block : List ℕ) : Type 0 where
  pub few : count_of block ≤ CAP_LIMIT
  pub forward : IsOfKind Forward block → count_of block ≡ 0
  pub cells : (pairs : List Pair) × (rest : List ℕ) × HasCells block pairs rest

-- the bytes outside the fields and the records are zero
pub record IsPaddedPage (version : Version) (block : List ℕ) : Type 0 where
  pub fourth : slice_index block 3 ≡ 0
  pub head : AreZero (slice_range block (LOW_START + version.bytes) HEAD_LEN)
  pub tail : (pairs : List Pair) (rest : List ℕ) → HasCells block pairs rest → AreZero rest

-- a live page's prefix is one, and begins the pseudokey of each record
pub record IsBegun (version : Version) (pseudo : List ℕ → ℕ) (block : List ℕ) : Type 0 where
  pub prefix : HasPrefixUpTo version.limit (prefix_len_of block) (low_in version block)
  pub begun : (pairs : List Pair) (rest : List ℕ) → HasCells block pairs rest
      → AllByRecursion (λ pair. Begins (take (prefix_len_of block) (word_bits (low_in version block))) (pseudo pair.0)) pairs

-- a forwarding page has no length of a prefix, and a low bound that is one and isn't zero
pub record IsLowBound (version : Version) (block : List ℕ) : Type 0 where
  pub none : prefix_len_of block ≡ 0
  pub some : low_in version block ≢ 0
  pub limit : HasPrefixUpTo version.limit version.limit (low_in version block)

abbrev pub HasBound : Version → (List ℕ → ℕ) → List ℕ → Type 0
HasBound version pseudo block = (IsOfKind Live block → IsBegun version pseudo block) × (IsOfKind Forward block → IsLowBound version block)

-- the records rise strictly
abbrev pub HasRisingRecords : (List ℕ → ℕ) → List ℕ → Type 0
HasRisingRecords pseudo block = (pairs : List Pair) (rest : List ℕ) → HasCells block pairs rest → IsRising (map (record_of pseudo) pairs)

-- ---- their order

-- the block passes the test that a fault is named after
abbrev pub Passes : Version → (List ℕ → ℕ) → List ℕ → ImageFault → Type 0
Passes version pseudo block faults.Memory = ⊤
Passes version pseudo block faults.Digest = IsSealed block
Passes version pseudo block faults.Kind = HasPageKind block
Passes version pseudo block faults.Length = HasLengths block
Passes version pseudo block faults.Padding = IsPaddedPage version block
Passes version pseudo block faults.Prefix = HasBound version pseudo block
Passes version pseudo block faults.Order = HasRisingRecords pseudo block

-- the tests of a content, in their order, and those of an image
abbrev pub content_tests : List ImageFault
content_tests = faults.Kind ∷ faults.Length ∷ faults.Padding ∷ faults.Prefix ∷ faults.Order ∷ []

abbrev pub image_tests : List ImageFault
image_tests = faults.Digest ∷ content_tests

-- of tests in their order, that of the fault is the first that a block fails
pub record IsFirst (Pass : ImageFault → Type 0) (tests : List ImageFault) (fault : ImageFault) : Type 0 where
  pub before : List ImageFault
  pub after : List ImageFault
  pub stands : tests ≡ before ++ fault ∷ after
  pub passed : AllByRecursion Pass before
  pub fails : Pass fault → ⊥
