use Rattle.std.proofs.Common.{inl, inr, ⊎_elim}
use Rattle.std.specs.Option.{option_map}
use Rattle.exh_saving.proofs.Handed.{both_ok, done_so, of_found, refused_so}
use Rattle.exh_saving.proofs.beside.save_beside.Goals as goal

-- what is there isn't replaced
pub returns-in-Err-clause-err : goal.returns-in-Err-clause-err
returns-in-Err-clause-err g c = inl c.in-Err.ensures.err

-- no file was claimed beside it
pub returns-in-Err-claim_beside-clause-err : goal.returns-in-Err-claim_beside-clause-err
returns-in-Err-claim_beside-clause-err g c = inr (option_map (λ held. held.found) c.in-Ok.old, c.in-Ok.ensures.free, inl c.in-Err-claim_beside.ensures.err)

-- what gets the path was filled, behind a second look, and what was there was as it was at a last one
pub returns-clause-free : goal.returns-clause-free
returns-clause-free g c =
    let again = rw c.found_of.ensures at c.fill-file.ensures.again in
    let beside = c.in-Ok-claim_beside.ensures.free in
    both_ok c.finish-saved.result _ _ _
    (λ looked stays. (option_map (λ held. held.found) c.in-Ok.old, c.in-Ok.ensures.free, looked, of_found _ c.in-Ok.old stays, (_, beside)))
    (done_so c.finish-saved.result c.fill-file.result.1 _ c.finish-saved.ensures.filled again)
    c.finish-saved.ensures.stays

-- it wasn't filled, or didn't get the path
pub returns-clause-err : goal.returns-clause-err
returns-clause-err g c =
    let unfilled = rw c.found_of.ensures at c.fill-file.ensures.err in
    refused_so c.finish-saved.result c.fill-file.result.1 _ _ _ c.finish-saved.ensures.why unfilled
    (λ fault why. inr (
      option_map (λ held. held.found) c.in-Ok.old,
      c.in-Ok.ensures.free,
      inr (⊎_elim
          (λ was. ⊎_elim (λ unprepared. inl unprepared) (λ unwritten. inr (inl unwritten)) was)
          (λ unplaced. inr (inr (_, unplaced)))
          why),
    ))
