-- What the stages of a file have to do with one another.
use Rattle.std.specs.Prelude.{◌≡◌, ℕ, IfOk, IsOk, List, OnErr, OnOk, Option, true, refl}
use Rattle.std.specs.Io.KnownBytes.{Appends}
use Rattle.std.proofs.lemmas.Bool.{false≢true}
use Rattle.std.specs.declared.result.Result.{Result}
use Rattle.std.specs.declared.result.Result.TheVariants.{Err, Ok}
use Rattle.exh_saving.specs.declared.stage.Stage.{Stage}
use Rattle.exh_saving.specs.declared.stage.Stage.TheVariants.{Made, Left, Held, HeldLeft, OwnMade, OwnLeft, Restricted, Empty, Dressed, Written, Synchronized, Confirmed, Linked, Unlinkable, Placed, Settled}
use Rattle.exh_saving.specs.Stage.{is_fillable, is_ours}

-- what may be filled is the save's own
pub fillable_ours : (stage : Stage) → is_fillable stage ≡ true → is_ours stage ≡ true
fillable_ours Made fillable = refl
fillable_ours Left fillable = absurd (false≢true fillable)
fillable_ours Held fillable = refl
fillable_ours HeldLeft fillable = absurd (false≢true fillable)
fillable_ours OwnMade fillable = refl
fillable_ours OwnLeft fillable = refl
fillable_ours Restricted fillable = refl
fillable_ours Empty fillable = refl
fillable_ours Dressed fillable = refl
fillable_ours Written fillable = refl
fillable_ours Synchronized fillable = refl
fillable_ours Confirmed fillable = refl
fillable_ours Linked fillable = absurd (false≢true fillable)
fillable_ours Unlinkable fillable = refl
fillable_ours Placed fillable = absurd (false≢true fillable)
fillable_ours Settled fillable = absurd (false≢true fillable)

-- what holds anyway holds at an error
pub on_err : {T E P : Type 0} (result : Result T E) → P → OnErr result P
on_err (Ok value) holds = tt
on_err (Err fault) holds = holds

-- a file that is saved has what it had once it was filled
pub saved_bytes : {T U E G : Type 0} (holds : T → Option (List ℕ)) (unwritten had : Option (List ℕ)) (bytes : List ℕ) (saved : Result T E) (filled : Result U G)
    → OnOk saved (IsOk filled) → IfOk saved (λ file. holds file ≡ had) → OnOk filled (Appends unwritten had bytes) → IfOk saved (λ file. Appends unwritten (holds file) bytes)
saved_bytes holds unwritten had bytes (Ok file) (Ok done) is same given = rw same given
saved_bytes holds unwritten had bytes (Ok file) (Err fault) is same given = absurd (false≢true is)
saved_bytes holds unwritten had bytes (Err fault) filled is same given = tt
