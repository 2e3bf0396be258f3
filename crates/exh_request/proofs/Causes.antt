-- Steps one behind the other, of which the first that is wrong decides.
use Rattle.std.proofs.Common.{◌≡◌, Result, Ok, ap, subst, sym}
use Rattle.exh_request.specs.declared.wrong_request.WrongCause.{WrongCause}
use Rattle.exh_request.specs.declared.cause_or_memory.CauseOrMemory.{CauseOrMemory}
use Rattle.exh_request.specs.declared.cause_or_memory.CauseOrMemory.TheVariants.{Wrong, Memory}
use Rattle.exh_request.specs.Causes.{IsCauseOf, ◌>>=◌}

pub then_is : {A B : Type 0} (asked : Result A WrongCause) (next : A → Result B WrongCause) (found : A) → asked ≡ Ok found → (asked >>= next) ≡ next found
then_is asked next found is = ap (λ asked. asked >>= next) is

pub first_wrong : {A B : Type 0} (asked : Result A WrongCause) (next : A → Result B WrongCause) (fault : CauseOrMemory) → IsCauseOf asked fault → IsCauseOf (asked >>= next) fault
first_wrong asked next (Wrong cause) is = ap (λ asked. asked >>= next) is
first_wrong asked next Memory is = tt

pub wrong_behind : {A B : Type 0} (asked : Result A WrongCause) (next : A → Result B WrongCause) (found : A) (fault : CauseOrMemory) → asked ≡ Ok found → IsCauseOf (next found) fault → IsCauseOf (asked >>= next) fault
wrong_behind asked next found fault is wrong = subst (λ asked. IsCauseOf asked fault) (sym (then_is asked next found is)) wrong
