-- Items that stand in runs.
use Rattle.std.specs.Prelude.{◌≡◌, ℕ, zero, suc, ◌+◌, ◌-◌, ◌<◌, List, [], ◌∷◌, ◌++◌, length, get_or, vec_len, vec_capacity}
use Rattle.std.specs.Global.{Vec}

-- the items, and how many more find room
pub record RunList (T : Type 0) : Type 0 where
  pub items : List T
  pub room : ℕ

-- there is an item of this number
abbrev pub IsWithin : {T : Type 0} → RunList T → ℕ → Type 0
IsWithin list number = number < length list.items

-- it is this one
abbrev pub IsItemAt : {T : Type 0} → RunList T → ℕ → T → Type 0
IsItemAt list number item = item ≡ get_or list.items number item

-- the items of runs, in their order
abbrev pub items_in : {T : Type 0} → List (Vec T) → List T
items_in [] = []
items_in (run ∷ runs) = run.items ++ items_in runs

-- how many more items the run of an index has room for
abbrev pub room_in : {T : Type 0} → List (Vec T) → ℕ → ℕ
room_in [] index = 0
room_in (run ∷ runs) zero = vec_capacity run - vec_len run
room_in (run ∷ runs) (suc index) = room_in runs index

-- the runs have so many items: each has what the ones before leave, up to 512
abbrev pub AreRuns : {T : Type 0} → List (Vec T) → ℕ → Type 0
AreRuns [] len = len ≡ 0
AreRuns (run ∷ runs) len = (vec_len run + (len - 512) ≡ len) × AreRuns runs (len - 512)
