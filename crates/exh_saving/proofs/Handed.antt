-- A fault that is handed on, and what is done only where another call was.
use Rattle.std.specs.Prelude.{◌≡◌, ◌⊎◌, IfErr, IfSome, IsErrAnd, IsOk, None, OnOk, Option, Some}
use Rattle.std.proofs.Common.{inl, inr, subst, ⊎_elim}
use Rattle.std.proofs.lemmas.Bool.{false≢true}
use Rattle.std.specs.declared.result.Result.{Result}
use Rattle.std.specs.declared.result.Result.TheVariants.{Err, Ok}
use Rattle.std.specs.Option.{option_map}
use Rattle.exh_saving.specs.declared.found.Found.{Found}
use Rattle.exh_saving.specs.declared.old.Old.{Old}

-- what holds of the fault holds of the result that hands it on
pub handed_on : {T E : Type 0} (result : Result T E) (P : E → Type 0) (fault : E) → IsErrAnd result (λ error. error ≡ fault) → P fault → IfErr result P
handed_on (Ok value) P fault is holds = tt
handed_on (Err error) P fault is holds = rw is holds

-- what another call that is done shows holds once this one is
pub done_so : {T U E G : Type 0} (result : Result T E) (other : Result U G) (P : Type 0) → OnOk result (IsOk other) → OnOk other P → OnOk result P
done_so (Ok value) (Ok done) P is holds = holds
done_so (Ok value) (Err fault) P is holds = absurd (false≢true is)
done_so (Err fault) other P is holds = tt

-- what follows holds of a result that is done
pub on_ok : {T E : Type 0} (result : Result T E) (P Q : Type 0) → (P → Q) → OnOk result P → OnOk result Q
on_ok (Ok value) P Q follows holds = follows holds
on_ok (Err fault) P Q follows holds = tt

-- what follows of two facts holds of a result that is done
pub both_ok : {T E : Type 0} (result : Result T E) (P Q R : Type 0) → (P → Q → R) → OnOk result P → OnOk result Q → OnOk result R
both_ok (Ok value) P Q R follows one other = follows one other
both_ok (Err fault) P Q R follows one other = tt

-- what holds of what was found of the file that is to be replaced
pub of_found : {H : Type 0} (P : Found → Type 0) (old : Option (Old H)) → IfSome old (λ held. P held.found) → IfSome (option_map (λ held. held.found) old) P
of_found P None holds = tt
of_found P (Some held) holds = holds

-- what follows holds of a fault
pub on_fault : {T E : Type 0} (result : Result T E) (P Q : E → Type 0) → ((fault : E) → P fault → Q fault) → IfErr result P → IfErr result Q
on_fault (Ok value) P Q follows holds = tt
on_fault (Err fault) P Q follows holds = follows fault holds

-- a fault that is another call's, or this one's own, is what either says
pub refused_so : {T U E : Type 0} (result : Result T E) (other : Result U E) (P Q R : E → Type 0)
    → IfErr result (λ fault. IsErrAnd other (λ error. error ≡ fault) ⊎ Q fault) → IfErr other P
    → ((fault : E) → P fault ⊎ Q fault → R fault) → IfErr result R
refused_so (Ok value) other P Q R why holds either = tt
refused_so (Err fault) (Ok done) P Q R why holds either = either fault (⊎_elim (λ none. absurd none) (λ own. inr own) why)
refused_so (Err fault) (Err error) P Q R why holds either = either fault (⊎_elim (λ is. inl (subst P is holds)) (λ own. inr own) why)
