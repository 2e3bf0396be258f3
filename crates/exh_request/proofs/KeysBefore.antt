-- Keys that stand before others.
use Rattle.std.proofs.Common.{◌≡◌, ℕ, List, [], ◌∷◌, ◌++◌, refl, ap, sym, append_assoc, Result, Ok, Err}
use Rattle.exh_request.specs.declared.wrong_request.WrongCause.{WrongCause}
use Rattle.exh_request.specs.declared.cause_or_memory.CauseOrMemory.{CauseOrMemory}
use Rattle.exh_request.specs.declared.cause_or_memory.CauseOrMemory.TheVariants.{Wrong, Memory}
use Rattle.exh_request.specs.Causes.{IsCauseOf, ◌>>=◌}

abbrev pub behind_keys : List (List ℕ) → Result (List (List ℕ)) WrongCause → Result (List (List ℕ)) WrongCause
behind_keys keys (Ok others) = Ok (keys ++ others)
behind_keys keys (Err cause) = Err cause

abbrev pub and_others : Result (List (List ℕ)) WrongCause → List ℕ → Result (List (List ℕ)) WrongCause
and_others more key = more >>= λ others. Ok (key ∷ others)

pub behind_keys-one_more : (keys : List (List ℕ)) (key : List ℕ) (more : Result (List (List ℕ)) WrongCause) → behind_keys keys (and_others more key) ≡ behind_keys (keys ++ key ∷ []) more
behind_keys-one_more keys key (Ok others) = ap Ok (sym (append_assoc keys (key ∷ []) others))
behind_keys-one_more keys key (Err cause) = refl

pub behind_keys-wrong : (keys : List (List ℕ)) (asked : Result (List ℕ) WrongCause) (more : Result (List (List ℕ)) WrongCause) (fault : CauseOrMemory) → IsCauseOf asked fault → IsCauseOf (behind_keys keys (asked >>= and_others more)) fault
behind_keys-wrong keys asked more (Wrong cause) is = ap (λ asked. behind_keys keys (asked >>= and_others more)) is
behind_keys-wrong keys asked more Memory is = tt
