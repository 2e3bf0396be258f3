-- What a last line printed, by whether its writer failed.
use Rattle.std.proofs.Common.{Bool, true, false, Result, Ok, Err, OnOk, OnErr, refl}
use Rattle.std.specs.Prelude.{◌≡◌, ◌↔◌, IsErr, IsTrue, MatchBool}

-- what holds at an error, from what implies it
pub OnErr-weaker : {T E P Q : Type 0} (r : Result T E) → (P → Q) → OnErr r P → OnErr r Q
OnErr-weaker (Ok x) f p = tt
OnErr-weaker (Err e) f p = f p

-- what came of printing, by whether the writer failed
pub printed_by : {T E : Type 0} (A B : Type 0) (r : Result T E) (failed : Bool) → OnOk r A → OnErr r B → (IsErr r ↔ IsTrue failed) → MatchBool failed B A
printed_by A B (Ok x) false ok err both = ok
printed_by A B (Ok x) true ok err both = let never : false ≡ true = both.1 refl in absurd (cc)
printed_by A B (Err e) false ok err both = let never : false ≡ true = both.0 refl in absurd (cc)
printed_by A B (Err e) true ok err both = err

pub cut_by : (A B : Type 0) (failed : Bool) → IsTrue failed → B → MatchBool failed B A
cut_by A B true is b = b
cut_by A B false is b = let never : false ≡ true = is in absurd (cc)

-- what holds at a value, from what implies it
pub OnOk-weaker : {T E P Q : Type 0} (r : Result T E) → (P → Q) → OnOk r P → OnOk r Q
OnOk-weaker (Ok x) f p = f p
OnOk-weaker (Err e) f p = tt
