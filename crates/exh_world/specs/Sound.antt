-- What every world keeps.
use Rattle.std.specs.Prelude.{◌≡◌, ◌↔◌, ℕ, ◌+◌, ◌^◌, ◌<◌, ◌≤◌, Bool, true, List, [], ◌∷◌, ◌++◌, length, drop, take, slice_get, Some}
use Rattle.std.specs.List.{AllByRecursion}
use Rattle.exh_prefix.specs.declared.prefix.TheConstants.{LIMIT}
use Rattle.exh_prefix.specs.Prefix.{IsFront, Begins, low_of}
use Rattle.exh_table.specs.Leaves.{ward_leaves}
use Rattle.exh_table.specs.Table.{TableMap}
use Rattle.exh_table.specs.TableWalk.{split_at}
use Rattle.exh_page.specs.declared.page.Page.{Page}
use Rattle.exh_legal.specs.Growth.{IsPageOf}
use Rattle.exh_prefix.specs.Leading.{ward_prefix}
use Rattle.exh_calls.specs.Call.{key_of}
use Rattle.exh_legal.specs.LegalLaws.{IsBelow}
use Rattle.exh_ward.specs.WardState.{WardState, IsSoundWard}
use Rattle.exh_ward.specs.Distance.{IsDistance}
use Rattle.exh_walk.specs.DistanceLaws.{IsTableWithin}
use Rattle.exh_world.specs.RequestProgress.{bound_in}
use Rattle.exh_world.specs.Tables.{IsToldTruly}
use Rattle.exh_world.specs.World.{WorldState, changes_in, numbered}
use Rattle.exh_world.specs.declared.request.Request.{Request}

-- each split of the table in the ward has the page of its right child's low bound
abbrev pub LeadsRight : List Bool → List Page → TableMap → Type 0
LeadsRight ward pages table = (prefix : List Bool) (right : ℕ) → IsFront ward prefix → split_at table prefix ≡ Some right → IsPageOf pages (low_of (prefix ++ true ∷ [])) right

-- the ward of a number: sound, and of the world's cap, keyer and ward bits
pub record IsWardOf {K : Type 0} (pseudokey_of : K → List ℕ → ℕ) (world : WorldState K) (number : ℕ) (ward : WardState K) : Type 0 where
  pub cap : ward.cap ≡ world.cap
  pub bits : ward.ward_bits ≡ world.ward_bits
  pub number_is : ward.number ≡ number
  pub keyer : ward.keyer ≡ world.keyer
  pub sound : IsSoundWard pseudokey_of ward
  -- the notices that it had when the world was made are its first ones
  pub before : ℕ
  pub noticed : slice_get world.noticed number ≡ Some before
  pub first : before ≤ length ward.notices
  -- of them, and of what the ward began with, the world's start table is in the ward
  pub started : IsTableWithin (ward_prefix world.ward_bits number) ward.start (take before ward.notices) world.start
  -- the world's directory is the ward's own
  pub directory : (prefix : List Bool) → ward_leaves world.start (ward_prefix world.ward_bits number) (drop before ward.notices) prefix ↔ ward_leaves ward.start (ward_prefix world.ward_bits number) ward.notices prefix

abbrev pub LeadsRightIn : {K : Type 0} → WorldState K → TableMap → Type 0
LeadsRightIn {K} world table = (number : ℕ) (ward : WardState K) → slice_get world.wards number ≡ Some ward → LeadsRight (ward_prefix world.ward_bits number) ward.pages table

-- a request in flight stands at a page of its own ward that can lead to its key
pub record IsOnTheWay {K : Type 0} (pseudokey_of : K → List ℕ → ℕ) (world : WorldState K) (request : Request) : Type 0 where
  pub pseudokey_is : request.pseudokey ≡ pseudokey_of world.keyer (key_of request.call)
  pub ward : WardState K
  pub there : slice_get world.wards request.ward ≡ Some ward
  pub begins : Begins (ward_prefix world.ward_bits request.ward) request.pseudokey
  pub below : IsBelow ward.pages request.page request.pseudokey
  -- its moves, and those that are left, are at most its distance when begun and the changes in its ward since
  pub since : request.changes ≤ length (changes_in world request.ward)
  pub left : ℕ
  pub is_left : IsDistance ward.pages request.page request.pseudokey left
  pub few : left + request.moves ≤ bound_in world request

pub record IsSoundWorld {K : Type 0} (pseudokey_of : K → List ℕ → ℕ) (world : WorldState K) : Type 0 where
  pub bits : world.ward_bits ≤ LIMIT
  pub words : (key : List ℕ) → pseudokey_of world.keyer key < 2 ^ 64
  -- one ward for each number
  pub count : length world.wards ≡ 2 ^ world.ward_bits
  pub wards : (number : ℕ) (ward : WardState K) → slice_get world.wards number ≡ Some ward → IsWardOf pseudokey_of world number ward
  -- whatever table a copy has or may be sent, its walks end at pages that can lead to the key
  pub start : LeadsRightIn world world.start
  pub copies : (copy : ℕ) (table : TableMap) → numbered world.copies copy ≡ Some table → LeadsRightIn world table
  pub sent : (number : ℕ) (table : TableMap) → numbered world.sent number ≡ Some table → LeadsRightIn world table
  -- and tells of each ward no more than the ward's own
  pub told : IsToldTruly world
  pub requests : AllByRecursion (λ (e : ℕ × Request). IsOnTheWay pseudokey_of world e.1) world.in_flight
