-- What has stood at a path of a disk, and what of it a crash may leave there.
use Rattle.std.specs.Prelude.{◌≡◌, ◌≢◌, ◌⊎◌, ◌-◌, ℕ, [], ◌∷◌, ◌++◌, length, drop, List, Bool, true, false, None, Option, Some, ⊤, Contains}

-- what stands at a path: nothing, or a file of these bytes, as far as a model says which
pub data Standing : Type 0 where
  Nothing : Standing
  File : Option (List ℕ) → Standing

-- what stood at a path, one after the other, and how many of the first ones a crash leaves no more
pub record History : Type 0 where
  pub stood : List Standing
  pub gone : ℕ

-- a file of these bytes gets the path, in one step
abbrev pub placed : Option History → Option (List ℕ) → Option History
placed None bytes = None
placed (Some history) bytes = Some (record { stood = history.stood ++ File bytes ∷ []; gone = history.gone })

-- it gets the path where it could be linked
abbrev pub placed_if : Bool → Option History → Option (List ℕ) → Option History
placed_if true history bytes = placed history bytes
placed_if false history bytes = history

-- what stands there last is on the disk, and so is that it stands there
abbrev pub kept : Option History → Option History
kept None = None
kept (Some history) = Some (record { stood = history.stood; gone = length history.stood - 1 })

-- no path but that of this name has another history
abbrev pub SameBut : List ℕ → (List ℕ → Option History) → (List ℕ → Option History) → Type 0
SameBut name old new = (path : List ℕ) → name ≢ path → new path ≡ old path

-- a crash at this moment may leave this at the path: anything where no model says what stood there
abbrev pub MayLeave : Option History → Standing → Type 0
MayLeave None left = ⊤
MayLeave (Some now) left = Contains (drop now.gone now.stood) left

-- a crash at some moment from the one to the other might have left this
abbrev pub LeftSince : Option History → Option History → Standing → Type 0
LeftSince None new left = ⊤
LeftSince (Some old) None left = ⊤
LeftSince (Some old) (Some new) left = Contains (drop old.gone new.stood) left

-- at each moment from the one to the other a crash leaves what it could leave at the first, or what is new
abbrev pub LeavesOldOrNew : Option History → Option History → (Standing → Type 0) → Type 0
LeavesOldOrNew old new IsNew = (left : Standing) → LeftSince old new left → MayLeave old left ⊎ IsNew left

-- a crash at this moment leaves nothing else, as far as a model says what stood there
abbrev pub LeavesOnly : Option History → (Standing → Type 0) → Type 0
LeavesOnly None IsThis = ⊤
LeavesOnly (Some now) IsThis = (left : Standing) → Contains (drop now.gone now.stood) left → IsThis left
