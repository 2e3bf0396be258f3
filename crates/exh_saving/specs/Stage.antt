-- How far a file is on its way to its path: what the calls of a disk ask of it, and what they make of it.
use Rattle.std.specs.Prelude.{Bool, true, false}
use Rattle.exh_saving.specs.declared.stage.Stage.{Stage}
use Rattle.exh_saving.specs.declared.stage.Stage.TheVariants.{Made, Left, Held, HeldLeft, OwnMade, OwnLeft, Restricted, Empty, Dressed, Written, Synchronized, Confirmed, Linked, Unlinkable}

-- once it is locked: what it is may have another name by now
abbrev pub locked : Stage → Stage
locked Made = Held
locked Left = HeldLeft
locked stage = stage

-- once it was asked whether it is the file of its name
abbrev pub asked : Stage → Bool → Stage
asked Held true = OwnMade
asked HeldLeft true = OwnLeft
asked Synchronized true = Confirmed
asked stage is_own = stage

-- once it was to get a path that nothing has by a link: it has that, or the system has no links for it
abbrev pub linked : Bool → Stage
linked true = Linked
linked false = Unlinkable

-- what it has may be taken away: it is locked and the file of its name, and this save made it, or nobody else may open it
abbrev pub is_emptiable : Stage → Bool
is_emptiable OwnMade = true
is_emptiable Restricted = true
is_emptiable stage = false

-- bytes may be written: the file is locked, has its name, and was emptied
abbrev pub is_fillable : Stage → Bool
is_fillable Empty = true
is_fillable Dressed = true
is_fillable Written = true
is_fillable stage = false

-- its name may be taken away: this save made it, or has its lock while it is the file of its name
abbrev pub is_ours : Stage → Bool
is_ours Made = true
is_ours Held = true
is_ours OwnMade = true
is_ours OwnLeft = true
is_ours Restricted = true
is_ours Empty = true
is_ours Dressed = true
is_ours Written = true
is_ours Synchronized = true
is_ours Confirmed = true
is_ours Unlinkable = true
is_ours stage = false
