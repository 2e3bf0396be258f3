-- What an import prints, and how it ends.
use Rattle.std.specs.Prelude.{◌≡◌, ◌+◌, ◌==◌, ◌&&◌, ℕ, Bool, List, ◌++◌, codes, decimal, min, Option, Some, None, is_some, Result, Ok, Err, IsTrue, if◌then◌else◌}
use Rattle.exh_run.specs.declared.Status.{Status}
use Rattle.exh_run.specs.declared.Status.TheVariants.{Done, Missing, Partly, Refused}
use Rattle.exh_compact.specs.Opened.{OpenedState, settings_in}
use Rattle.exh_import.specs.declared.imported_store.Added.{Added}
use Rattle.exh_import.specs.declared.imported_store.Added.TheVariants as added
use Rattle.exh_import.specs.declared.imported.Imported.{Imported}
use Rattle.exh_map.specs.FileMap.{IsPut, KeepsMap}
use Rattle.exh_map.specs.declared.put.Put.{Put}
use Rattle.exh_map.specs.declared.store_error.StoreError.{StoreError}
use Rattle.exh_run.specs.Store.{IsHeld}
use Rattle.exh_run.specs.declared.Store.{Store}
use Rattle.exh_map.specs.declared.put.Put.TheVariants as put
use Rattle.exh_text.specs.Contents.{on_line}
use Rattle.exh_run.specs.Ends.{Ended, Ends, Says, Silent, change_status, unmade_status}
use Rattle.exh_transfer.specs.declared.import_refusal.ImportRefusal.{ImportRefusal}
use Rattle.exh_transfer.specs.declared.import_refusal.ImportRefusal.TheVariants.{Store as Halted, Text, Unmade, Unopened}
use Rattle.exh_transfer.specs.declared.outcome.Outcome.{Outcome}
use Rattle.exh_transfer.specs.declared.pair_store.PairStore.{PairStore}

-- a pair is put, or finds no room
abbrev pub added_of : Put → Added
added_of put.New = added.Put
added_of (put.Was value) = added.Put
added_of put.Full = added.Full

-- it is put into a store's one map, which has another one then, and the same settings
abbrev pub IsAdded : OpenedState → List ℕ → List ℕ → Added → OpenedState → Type 0
IsAdded before key value said after = (put : Put) × (IsPut before key value put after × ((said ≡ added_of put) × (settings_in after ≡ settings_in before)))

-- so of the store that is held
abbrev pub IsAddedTo : Option Store → List ℕ → List ℕ → Added → Option Store → Type 0
IsAddedTo (Some before) key value said (Some after) = IsAdded before.map key value said after.map
IsAddedTo before key value said after = ⊥

-- the store that is held keeps its map and its settings
abbrev pub KeepsPairs : Option Store → Option Store → Type 0
KeepsPairs (Some before) (Some after) = KeepsMap before.map after.map × (settings_in after.map ≡ settings_in before.map)
KeepsPairs before after = ⊥

-- a store is held, with its file
abbrev pub IsHeldAgain : Option Store → Type 0
IsHeldAgain None = ⊥
IsHeldAgain (Some store) = IsHeld store.file

-- the program's store takes a pair so, commits so, and rests so
abbrev pub gives_pair : PairStore → List ℕ → List ℕ → Added → PairStore → Type 0
gives_pair old key value said new = IsAddedTo old.store key value said new.store

abbrev pub saves_pairs : PairStore → PairStore → Type 0
saves_pairs old new = KeepsPairs old.store new.store

abbrev pub rests_open : PairStore → PairStore → Type 0
rests_open old new = IsHeldAgain new.store

-- why a call was refused is kept
abbrev pub HasRefusal : Option StoreError → Type 0
HasRefusal refusal = IsTrue (is_some refusal)

-- how many lines stood for pairs, at most 2^64 - 1
abbrev pub greatest : ℕ
greatest = 18446744073709551615

abbrev pub lines_of : Imported → ℕ
lines_of done = min (min (done.pairs + done.rejected) greatest + done.full) greatest

abbrev pub import_line : Imported → List ℕ
import_line done = on_line (codes "imported " ++ (decimal done.pairs ++ (codes " of " ++ decimal (lines_of done))))

-- all pairs are in the file, or some aren't
abbrev pub import_status : Imported → Status
import_status done = if (done.rejected == 0) && (done.full == 0) then Done else Partly

-- where a file for lines can't be written, the status is another one
abbrev pub status_told : Bool → Status → Status
status_told unwritten status = if unwritten then Refused else status

-- all lines were read: the text was cut off, or nothing was put in since all or none should be, or the pairs are in the file
abbrev pub done_ended : Bool → Imported → Ended
done_ended unwritten done =
    if done.is_cut_off then Silent Refused
    else (if done.is_committed then Says (import_line done) (status_told unwritten (import_status done)) else Silent (status_told unwritten Missing))

abbrev pub unimported_status : ImportRefusal → Status
unimported_status (Unopened fault) = change_status fault
unimported_status (Unmade fault) = unmade_status fault
unimported_status (Text fault pairs) = Refused
unimported_status (Halted fault pairs) = change_status fault

abbrev pub ended_by : Bool → Result Imported ImportRefusal → Ended
ended_by unwritten (Ok done) = done_ended unwritten done
ended_by unwritten (Err refusal) = Silent (unimported_status refusal)

abbrev pub import_ended : Outcome → Ended
import_ended outcome = ended_by outcome.is_unwritten outcome.imported

abbrev pub ImportEnds : Option (List ℕ) → Option (List ℕ) → Bool → Status → Type 0
ImportEnds old new failed status = (outcome : Outcome) × Ends (import_ended outcome) old new failed status
