-- What a head and the pairs of an image are read as.
use Rattle.std.specs.Prelude.{◌≡◌, ◌≢◌, ⊤, ℕ, ◌-◌, ◌^◌, List, Option, Some, Result, Ok, Err, map, take}
use Rattle.std.specs.List.{AllByRecursion}
use Rattle.exh_page.specs.Bits.{word_bits}
use Rattle.exh_page.specs.Prefix.{Begins, HasPrefixUpTo}
use Rattle.exh_page.specs.Version.{Version}
use Rattle.exh_page.specs.declared.page.Page.{Page}
use Rattle.exh_page.specs.declared.page.Page.TheVariants.{Live, Forward}
use Rattle.exh_page.specs.Records.{IsRising}
use Rattle.exh_codec.specs.declared.head.Head.{Head}
use Rattle.exh_codec.specs.declared.image_fault.ImageFault.{ImageFault}
use Rattle.exh_codec.specs.declared.image_fault.ImageFault.TheVariants as faults
use Rattle.exh_codec.specs.Cells.{Pair}
use Rattle.exh_codec.specs.Head.{link_number}
use Rattle.exh_codec.specs.ImageTests.{Passes, IsFirst, content_tests, record_of}
use Rattle.exh_codec.specs.PageImage.{IsLaidOut}

-- the head has a prefix, which begins the pseudokey of each pair
pub record BeginsPairs (version : Version) (pseudo : List ℕ → ℕ) (head : Head) (pairs : List Pair) : Type 0 where
  pub prefix : HasPrefixUpTo version.limit head.prefix_len head.low
  pub begun : AllByRecursion (λ pair. Begins (take head.prefix_len (word_bits head.low)) (pseudo pair.0)) pairs

-- the live page that they are, where they are one
pub record IsReadLivePage (version : Version) (pseudo : List ℕ → ℕ) (head : Head) (pairs : List Pair) (page : Page) : Type 0 where
  pub begins : BeginsPairs version pseudo head pairs
  pub rising : IsRising (map (record_of pseudo) pairs)
  pub right : Option ℕ
  pub link : link_number right ≡ head.link
  pub named : right ≢ Some (2 ^ 32 - 1)
  pub is : page ≡ Live (take head.prefix_len (word_bits head.low)) right (map (record_of pseudo) pairs)

abbrev pub GivesLive : Version → (List ℕ → ℕ) → Head → List Pair → Result Page ImageFault → Type 0
GivesLive version pseudo head pairs (Ok page) = IsReadLivePage version pseudo head pairs page
GivesLive version pseudo head pairs (Err faults.Memory) = ⊤
GivesLive version pseudo head pairs (Err faults.Prefix) = BeginsPairs version pseudo head pairs → ⊥
GivesLive version pseudo head pairs (Err faults.Order) = BeginsPairs version pseudo head pairs × (IsRising (map (record_of pseudo) pairs) → ⊥)
GivesLive version pseudo head pairs (Err fault) = ⊥

-- a forwarding page's low bound
pub record HasLow (version : Version) (head : Head) : Type 0 where
  pub none : head.prefix_len ≡ 0
  pub some : head.low ≢ 0
  pub limit : HasPrefixUpTo version.limit version.limit head.low

abbrev pub GivesForward : Version → Head → Result Page ImageFault → Type 0
GivesForward version head (Ok page) = HasLow version head × (page ≡ Forward head.low head.link)
GivesForward version head (Err faults.Prefix) = HasLow version head → ⊥
GivesForward version head (Err fault) = ⊥

-- a block's content is read as the page that it was laid out for, or the fault is the first
abbrev pub GivesPage : Version → (List ℕ → ℕ) → List ℕ → Result Page ImageFault → Type 0
GivesPage version pseudo block (Ok page) = IsLaidOut version pseudo page block
GivesPage version pseudo block (Err faults.Memory) = ⊤
GivesPage version pseudo block (Err fault) = IsFirst (Passes version pseudo block) content_tests fault
