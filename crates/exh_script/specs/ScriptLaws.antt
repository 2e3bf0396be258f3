-- Laws of runs over an opened file, and over any start.
use Rattle.std.specs.Prelude.{◌≡◌, ℕ, List, slice_get, Some}
use Rattle.exh_keyer.specs.declared.any_keyer.AnyKeyer.{AnyKeyer}
use Rattle.exh_keyer.specs.Pseudokey.{any_pseudokey}
use Rattle.exh_ward.specs.WardState.{WardState, IsSoundWard}
use Rattle.exh_load.specs.Opened.{AreWardsOf, OpenedState}
use Rattle.exh_script.specs.AnyStart.{PrintsFrom}
use Rattle.exh_script.specs.Text.{Beginning, ended_of}
use Rattle.exh_script.specs.Left.{ended_with, left_of}
use Rattle.exh_script.specs.OpenedScript.{opened_file}

-- the wards of a file, as opening one gives them: each is sound
pub record IsSoundFile (opened : OpenedState) : Type 0 where
  pub wards : AreWardsOf opened
  pub sound : (number : ℕ) (ward : WardState AnyKeyer) → slice_get opened.wards number ≡ Some ward → IsSoundWard any_pseudokey ward

-- over such a file the replies that a script prints are, in the order of the answering hops, those of the map machine from the map of the file
abbrev pub RepliesFollowTheFile : Type 0
RepliesFollowTheFile = (opened : OpenedState) → IsSoundFile opened → (script : List ℕ) → PrintsFrom (opened_file opened) script (ended_of (opened_file opened) script)

-- a run leaves wards exactly where it is done
abbrev pub DoneRunsLeaveWards : Type 0
DoneRunsLeaveWards = (begin : Beginning) (script : List ℕ) → ended_with (left_of begin script) ≡ ended_of begin script
