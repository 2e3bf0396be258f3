-- How many records a page and its right buddy have together.
use Rattle.std.specs.Prelude.{◌≡◌, ℕ, ◌+◌, Bool, true, List, [], ◌∷◌, ◌++◌, length, Option}
use Rattle.std.specs.Option.{MatchOption}
use Rattle.exh_legal.specs.declared.left_half.LeftHalf.{LeftHalf}
use Rattle.exh_page.specs.declared.page_head.PageHead.{PageHead}
use Rattle.exh_page.specs.declared.page_head.PageHead.TheVariants.{Live}
use Rattle.exh_page.specs.declared.record.Record.{Record}
use Rattle.exh_ward.specs.MergeStep.{IsLeftChild, IsBuddy}
use Rattle.exh_ward.specs.WardState.{WardState}

-- the page at a number and its right buddy are live, the halves of a prefix that is no shorter than the ward's, and have so many records together
abbrev pub HasBuddySum : {K : Type 0} → WardState K → ℕ → ℕ → Type 0
HasBuddySum ward at sum = (prefix : List Bool) × (records others : List Record) × IsLeftChild ward at prefix records × IsBuddy ward prefix others × (sum ≡ length records + length others)

-- that sum, which is the only one, or none where there is none
abbrev pub IsBuddySum : {K : Type 0} → WardState K → ℕ → Option ℕ → Type 0
IsBuddySum ward at found = MatchOption found ((sum : ℕ) → HasBuddySum ward at sum → ⊥) (λ sum. HasBuddySum ward at sum × ((other : ℕ) → HasBuddySum ward at other → other ≡ sum))

-- the other page is the live one of the parent's right child, and both halves have so many records together
abbrev pub HasSumBeside : LeftHalf → PageHead → ℕ → Type 0
HasSumBeside half buddy sum = (link : Option ℕ) × (count : ℕ) × (buddy ≡ Live (half.parent ++ true ∷ []) link count) × (sum ≡ half.count + count)
