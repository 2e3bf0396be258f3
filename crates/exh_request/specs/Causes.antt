-- What is wrong with words, and steps one behind the other of which the first that is wrong decides.
use Rattle.std.specs.Prelude.{◌≡◌, ⊤, Result, Ok, Err}
use Rattle.exh_request.specs.declared.wrong_request.WrongCause.{WrongCause}
use Rattle.exh_request.specs.declared.cause_or_memory.CauseOrMemory.{CauseOrMemory}
use Rattle.exh_request.specs.declared.cause_or_memory.CauseOrMemory.TheVariants.{Wrong, Memory}

infixl 10 ◌>>=◌
abbrev pub ◌>>=◌ : {A B : Type 0} → Result A WrongCause → (A → Result B WrongCause) → Result B WrongCause
Ok found >>= next = next found
Err cause >>= next = Err cause

-- the fault is what the definition says is wrong, want of memory aside
abbrev pub IsCauseOf : {A : Type 0} → Result A WrongCause → CauseOrMemory → Type 0
IsCauseOf asked (Wrong cause) = asked ≡ Err cause
IsCauseOf asked Memory = ⊤
