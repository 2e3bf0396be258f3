-- What a ward keeps of its fields.
use Rattle.std.specs.Prelude.{◌≡◌, ℕ, ◌<◌, ◌≤◌, ◌^◌, Bool, List}
use Rattle.exh_page.specs.declared.page.TheConstants.{CAP_LIMIT}
use Rattle.exh_page.specs.declared.page.Page.{Page}
use Rattle.exh_page.specs.Page.{IsWellFormed}
use Rattle.exh_legal.specs.ChangeNumbers.{index_of}
use Rattle.exh_legal.specs.Pages.{bare}
use Rattle.exh_legal.specs.PageIndex.{IndexMap, IsIndexOf}
use Rattle.exh_ward.specs.WardState.{WardState, IsSound, own_prefix}
use Rattle.exh_prefix.specs.declared.prefix.TheConstants.{WARD_BITS_LIMIT}

pub record IsKeptWard {K : Type 0} (pseudo : List ℕ → ℕ) (takes : Page → Type 0) (own : List Bool) (index : IndexMap) (told : ℕ) (ward : WardState K) : Type 0 where
  pub sound : IsSound pseudo ward
  -- the prefix is the ward's own
  pub own_is : own ≡ own_prefix ward
  pub bits : ward.ward_bits ≤ WARD_BITS_LIMIT
  pub some : 1 ≤ ward.cap
  pub most : ward.cap ≤ CAP_LIMIT
  -- the store takes every page that a file may have
  pub takes_all : (page : Page) → IsWellFormed pseudo page → takes page
  -- the index is that of the pages
  pub indexed : IsIndexOf index (bare ward.pages)
  -- the count of changes that the start table tells of
  pub told_is : told ≡ index_of ward.start
  pub told_few : told < 2 ^ 62
