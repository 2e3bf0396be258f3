-- What a step of the world came to, as the function that the text of a script is computed by.
use Rattle.std.proofs.Common.{◌≡◌, ◌≢◌, ◌⊎◌, ℕ, Bool, List, ◌++◌, Result, Ok, Err, sym, ap, ◌∙◌, inl, inr}
use Rattle.std.specs.Prelude.{IsErr, IsErrAnd, IsErrOf}
use Rattle.exh_keyer.specs.Pseudokey.{any_pseudokey}
use Rattle.exh_ward.specs.declared.ward_fault.WardFault.TheVariants.{Memory, Page}
use Rattle.exh_world.specs.WorldLaws.{IsComputed, IsCounted}
use Rattle.exh_world.specs.StepFunction.{result_of, world_after}
use Rattle.exh_walk.specs.declared.event.Event.{Event}
use Rattle.exh_walk.specs.declared.outcome.Outcome.{Outcome}
use Rattle.exh_walk.specs.declared.step_fault.StepFault.{StepFault}
use Rattle.exh_walk.specs.declared.step_fault.StepFault.TheVariants.{Ward}
use Rattle.exh_line.specs.LineAnswer.{answer_text, outcome_answer, step_answer}
use Rattle.exh_line.specs.declared.answer.Answer.{Answer}
use Rattle.exh_line.specs.declared.answer.Answer.TheVariants.{Refused}
use Rattle.exh_line.specs.declared.refusal.Refusal.{Refusal}
use Rattle.exh_line.specs.declared.refusal.Refusal.TheVariants.{Step as StepRefusal}
use Rattle.exh_script.specs.Text.{ScriptWorld, CountsPageFault}
use Rattle.exh_script.specs.declared.response_fault.ResponseFault.{ResponseFault}
use Rattle.exh_script.specs.declared.response_fault.ResponseFault.TheVariants as faults

-- an outcome is what the function gives
module _ (old new : ScriptWorld) (event : Event) (result : Result Outcome StepFault) (outcome : Outcome) (is : result ≡ Ok outcome) where
  pub done_result : IsComputed any_pseudokey old event result new → result_of any_pseudokey old event ≡ Ok outcome
  done_result (inl (refused, same)) = let clash : Ok outcome ≡ Err (Ward Memory) = sym is ∙ refused in cc
  done_result (inr (inl (refused, number, reaches, counted))) = let clash : Ok outcome ≡ Err (Ward Page) = sym is ∙ refused in cc
  done_result (inr (inr (same, after))) = sym same ∙ is

  pub done_after : IsComputed any_pseudokey old event result new → new ≡ world_after any_pseudokey old event
  done_after (inl (refused, same)) = let clash : Ok outcome ≡ Err (Ward Memory) = sym is ∙ refused in cc
  done_after (inr (inl (refused, number, reaches, counted))) = let clash : Ok outcome ≡ Err (Ward Page) = sym is ∙ refused in cc
  done_after (inr (inr (same, after))) = after

  -- and its answer is printed
  pub told_done : (tells_moves : Bool) (out more : List ℕ) (answer : Answer) → IsComputed any_pseudokey old event result new → answer ≡ outcome_answer tells_moves event outcome
      → more ≡ out ++ answer_text answer → more ≡ out ++ answer_text (step_answer tells_moves event (result_of any_pseudokey old event))
  told_done tells_moves out more answer computed answer_is told = told ∙ ap (λ said. out ++ answer_text said) (answer_is ∙ ap (step_answer tells_moves event) (sym (done_result computed)))

-- and so is a refusal that isn't for want of memory nor of a page
module _ (old new : ScriptWorld) (event : Event) (result : Result Outcome StepFault) (fault : StepFault) (is : result ≡ Err fault) (memory : fault ≢ Ward Memory) (page : fault ≢ Ward Page) where
  pub refused_result : IsComputed any_pseudokey old event result new → result_of any_pseudokey old event ≡ Err fault
  refused_result (inl (refused, same)) = absurd (memory (let same : Err fault ≡ Err (Ward Memory) = sym is ∙ refused in cc))
  refused_result (inr (inl (refused, number, reaches, counted))) = absurd (page (let same : Err fault ≡ Err (Ward Page) = sym is ∙ refused in cc))
  refused_result (inr (inr (same, after))) = sym same ∙ is

  pub refused_after : IsComputed any_pseudokey old event result new → new ≡ world_after any_pseudokey old event
  refused_after (inl (refused, same)) = absurd (memory (let same : Err fault ≡ Err (Ward Memory) = sym is ∙ refused in cc))
  refused_after (inr (inl (refused, number, reaches, counted))) = absurd (page (let same : Err fault ≡ Err (Ward Page) = sym is ∙ refused in cc))
  refused_after (inr (inr (same, after))) = after

  pub told_refused : (tells_moves : Bool) (out more : List ℕ) (refusal : Refusal) → IsComputed any_pseudokey old event result new → refusal ≡ StepRefusal fault
      → more ≡ out ++ answer_text (Refused refusal) → more ≡ out ++ answer_text (step_answer tells_moves event (result_of any_pseudokey old event))
  told_refused tells_moves out more refusal computed refusal_is told =
      told ∙ ap (λ refused. out ++ answer_text (Refused refused)) refusal_is ∙ ap (λ came. out ++ answer_text (step_answer tells_moves event came)) (sym (refused_result computed))

-- what these two leave
module _ (old new : ScriptWorld) (event : Event) (result : Result Outcome StepFault) where
  pub after_memory : result ≡ Err (Ward Memory) → IsComputed any_pseudokey old event result new → (new ≡ old) ⊎ (new ≡ world_after any_pseudokey old event)
  after_memory is (inl (refused, same)) = inl same
  after_memory is (inr (inl (refused, number, reaches, counted))) = let clash : Err (Ward Memory) ≡ Err (Ward Page) = sym is ∙ refused in cc
  after_memory is (inr (inr (same, after))) = inr after

  pub after_page : result ≡ Err (Ward Page) → IsCounted any_pseudokey old event result new → CountsPageFault old new
  after_page is counted = let real = counted.real is in (real.0, real.2)

-- ---- what a line came to

-- no fault
pub was_done : {T E P : Type 0} {value : T} {fault : E} → IsErrOf (Ok value) fault → P
was_done same = cc

-- want of memory, or a page out of reach
pub was_memory : {T P : Type 0} → IsErrOf {T = T} (Err faults.Memory) faults.Page → P
was_memory same = cc

pub was_page : {T P : Type 0} → IsErrOf {T = T} (Err faults.Page) faults.Memory → P
was_page same = cc

-- want of memory that is handed on
pub handed_memory : {T P : Type 0} (result : Result T ResponseFault) → IsErr result × IsErrAnd result (λ fault. fault ≡ faults.Memory) → IsErrOf result faults.Page → P
handed_memory (Ok value) is same = absurd is.1
handed_memory (Err fault) is same = let memory : fault ≡ faults.Memory = is.1 in cc
