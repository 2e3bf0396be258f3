-- What runs end as, where a `&mut` to one of their items is returned.
use Rattle.std.specs.Prelude.{ℕ, slice_set}
use Rattle.std.specs.Borrow.{Lends, MutBor, Fml, RattleType}
use Rattle.exh_frames.specs.Runs.{RunList}
use Rattle.exh_frames.specs.contracts.runs.Runs.{the_row}

-- the runs with another item of a number
abbrev pub with_item : {T : Type 0} → RunList T → ℕ → T → RunList T
with_item list number item = record list { items = slice_set list.items number item }

-- once the borrow ends, the number has the last item written through it
abbrev pub LendsItem : (T : RattleType) → MutBor (RunList T.Denot) → ℕ → MutBor T.Denot → Fml
LendsItem T list number item = Lends (the_row T) T list item (with_item list.now number)
