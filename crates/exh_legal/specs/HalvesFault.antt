-- Where a page isn't halved, and where two aren't put together.
use Rattle.std.specs.Prelude.{◌≡◌, ◌⊎◌, ℕ, ◌+◌, ◌<◌, ◌≤◌, Bool, true, List, [], ◌∷◌, ◌++◌, length, Option}
use Rattle.exh_prefix.specs.declared.prefix.TheConstants.{LIMIT}
use Rattle.exh_page.specs.PageHead.{IsLiveHead}
use Rattle.exh_page.specs.declared.page_head.PageHead.{PageHead}
use Rattle.exh_page.specs.declared.page_head.PageHead.TheVariants.{Live as LiveHead}
use Rattle.exh_legal.specs.declared.halves_fault.HalvesFault.{HalvesFault}
use Rattle.exh_legal.specs.declared.halves_fault.HalvesFault.TheVariants.{NotLive, NotFull, AtLimit, NoBuddy, BuddySplit, TooMany}
use Rattle.exh_legal.specs.declared.left_half.LeftHalf.{LeftHalf}

-- the refusal of a split that a page fits, the first in this order
abbrev pub NotHalved : ℕ → PageHead → HalvesFault → Type 0
NotHalved cap page NotLive = IsLiveHead page → ⊥
NotHalved cap (LiveHead prefix link count) NotFull = count < cap
NotHalved cap (LiveHead prefix link count) AtLimit = (cap ≤ count) × (LIMIT ≤ length prefix)
NotHalved cap page fault = ⊥

-- the refusal of a page that is no left half
abbrev pub NoLeftHalf : List Bool → PageHead → HalvesFault → Type 0
NoLeftHalf own page NotLive = IsLiveHead page → ⊥
NoLeftHalf own page NoBuddy = (prefix : List Bool) × (link : Option ℕ) × (count : ℕ) × (page ≡ LiveHead prefix link count) × ((prefix ≡ own) ⊎ ((parent : List Bool) × (prefix ≡ parent ++ true ∷ [])))
NoLeftHalf own page fault = ⊥

-- the refusal of a merge with the page that stands at the right child's low bound
abbrev pub NotBeside : ℕ → LeftHalf → PageHead → HalvesFault → Type 0
NotBeside cap half buddy BuddySplit = (link : Option ℕ) (count : ℕ) → buddy ≡ LiveHead (half.parent ++ true ∷ []) link count → ⊥
NotBeside cap half buddy (TooMany sum) = (link : Option ℕ) × (count : ℕ) × (buddy ≡ LiveHead (half.parent ++ true ∷ []) link count) × (sum ≡ half.count + count) × (cap < sum)
NotBeside cap half buddy fault = ⊥
