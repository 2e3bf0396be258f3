-- What holds at the exits of a load: where a fault is handed on, where there is none, and where a load has another form.
use Rattle.std.proofs.Common.{◌≡◌, ◌≢◌, ℕ, Bool, true, false, List, Option, Result, Ok, Err, IfOk, IfErr, OnOk, OnErr, IsFalse, IsTrue, ap, refl, subst, sym, ◌∙◌}
use Rattle.std.specs.Prelude.{◌↔◌, IsErr, IsErrAnd, IsErrOf}
use Rattle.std.specs.Option.{option_map}
use Rattle.std.specs.Io.KnownBytes.{Appends}
use Rattle.exh_stream.specs.Output.{AppendsBeginning, Takes, TakesBeginning}
use Rattle.exh_stream.specs.declared.output.Output.{Output}
use Rattle.exh_file.specs.Opened.{OpenedState}
use Rattle.exh_load.specs.Load.{Load, Loads, Prints, PrintsFront, TakesFront}
use Rattle.exh_load.specs.Loading.{loading_in}
use Rattle.exh_load.specs.declared.load_fault.LoadFault.{LoadFault}
use Rattle.exh_load.specs.declared.load_fault.LoadFault.TheVariants.{Memory, Write}
use Rattle.exh_stream.specs.declared.input_fault.InputFault.{InputFault}
use Rattle.exh_stream.specs.declared.input_fault.InputFault.TheVariants.{Read, TooLong}

-- another fault than the writer's, of an output that stays open
pub other_fault : {T : Type 0} (result : Result T LoadFault) (fault : LoadFault) (failed : Bool) → IsErr result × IsErrAnd result (λ f. f ≡ fault) → fault ≢ Write → IsFalse failed → IsErrOf result Write ↔ IsTrue failed
other_fault (Ok value) fault failed is differs still = absurd is.1
other_fault (Err other) fault failed is differs still = (λ same. absurd (differs (let write : other ≡ Write = cc in sym is.1 ∙ write)), λ closed. cc)

-- the writer's own
pub writer_fault : {T : Type 0} (result : Result T LoadFault) (failed : Bool) → IsErr result × IsErrAnd result (λ f. f ≡ Write) → IsTrue failed → IsErrOf result Write ↔ IsTrue failed
writer_fault (Ok value) failed is closed = absurd is.1
writer_fault (Err other) failed is closed = (λ same. closed, λ _. ap Err is.1)

pub only_writer : {T : Type 0} (P : Type 0) (result : Result T LoadFault) → IsErr result × IsErrAnd result (λ f. f ≡ Write) → IfErr result (λ f. f ≢ Write → P)
only_writer P (Ok value) is = tt
only_writer P (Err other) is = λ differs. absurd (differs is.1)

-- the same fault
pub same_fault : {S T : Type 0} (result : Result T LoadFault) (fault : LoadFault) (failed : Bool) → IsErr result × IsErrAnd result (λ f. f ≡ fault) → IsErrOf {T = S} (Err fault) Write ↔ IsTrue failed → IsErrOf result Write ↔ IsTrue failed
same_fault (Ok value) fault failed is told = absurd is.1
same_fault (Err other) fault failed is told = (λ same. told.0 (let write : other ≡ Write = cc in ap Err (sym is.1 ∙ write)), λ closed. let write = told.1 closed in let same : fault ≡ Write = cc in ap Err (is.1 ∙ same))

-- none
pub no_fault : {T : Type 0} (value : T) (failed : Bool) → (IsTrue failed → ⊥) → IsErrOf (Ok value) Write ↔ IsTrue failed
no_fault value failed still = (λ same. cc, λ closed. absurd (still closed))

-- what doesn't fail with a fault doesn't close
pub not_closed : {T E : Type 0} (value : T) (fault : E) (failed : Bool) → IsErrOf (Ok value) fault ↔ IsTrue failed → IsTrue failed → ⊥
not_closed value fault failed told closed = let never = told.1 closed in cc

pub other_closed : {T E : Type 0} (other fault : E) (failed : Bool) → IsErrOf {T = T} (Err other) fault ↔ IsTrue failed → other ≢ fault → IsTrue failed → ⊥
other_closed other fault failed told differs closed = let same = told.1 closed in differs cc

pub memory_differs : Memory ≢ Write
memory_differs same = cc

pub too_long_differs : (fault : InputFault) → fault ≡ TooLong → fault ≢ Read
too_long_differs fault is same = cc

-- another form of the same load
module _ {W : Type 0} (contents : W → Option (List ℕ)) (old new : Output W) (one other : Load) (same : one ≡ other) (result : Result (Option OpenedState) LoadFault) where
  pub same_text : OnOk result (Takes contents old new one.printed) → OnOk result (Takes contents old new other.printed)
  same_text = subst (λ (load : Load). OnOk result (Takes contents old new load.printed)) same

  pub same_left : IfOk result (λ file. option_map loading_in file ≡ one.left) → IfOk result (λ file. option_map loading_in file ≡ other.left)
  same_left = subst (λ (load : Load). IfOk result (λ file. option_map loading_in file ≡ load.left)) same

  pub same_err : OnErr result (TakesBeginning contents old new one.printed) → OnErr result (TakesBeginning contents old new other.printed)
  same_err = subst (λ (load : Load). OnErr result (TakesBeginning contents old new load.printed)) same

  pub same_front : IfErr result (λ fault. fault ≢ Write → TakesFront contents old new one.printed) → IfErr result (λ fault. fault ≢ Write → TakesFront contents old new other.printed)
  same_front = subst (λ (load : Load). IfErr result (λ fault. fault ≢ Write → TakesFront contents old new load.printed)) same

-- a load of what a reader had, into what a writer holds at the end
module _ {W : Type 0} (contents : W → Option (List ℕ)) (Is : Option (List ℕ) → Load → Type 0) (known known' : Option (List ℕ)) (old old' new new' : W) (read : known ≡ known') (first : old ≡ old') (last : new ≡ new') (result : Result (Option OpenedState) LoadFault) where
  moved : (P : Option (List ℕ) → W → W → Type 0) → P known old new → P known' old' new'
  moved P p = subst (λ k. P k old' new') read (subst (λ w. P known w new') first (subst (P known old) last p))

  pub moved_ok : IfOk result (λ file. Loads (Is known) (Appends (contents old) (contents new)) file) → IfOk result (λ file. Loads (Is known') (Appends (contents old') (contents new')) file)
  moved_ok = moved (λ k a b. IfOk result (λ file. Loads (Is k) (Appends (contents a) (contents b)) file))

  pub moved_err : OnErr result (Prints (Is known) (AppendsBeginning (contents old) (contents new))) → OnErr result (Prints (Is known') (AppendsBeginning (contents old') (contents new')))
  moved_err = moved (λ k a b. OnErr result (Prints (Is k) (AppendsBeginning (contents a) (contents b))))

  pub moved_front : IfErr result (λ fault. fault ≢ Write → PrintsFront (Is known) (Appends (contents old) (contents new))) → IfErr result (λ fault. fault ≢ Write → PrintsFront (Is known') (Appends (contents old') (contents new')))
  moved_front = moved (λ k a b. IfErr result (λ fault. fault ≢ Write → PrintsFront (Is k) (Appends (contents a) (contents b))))
