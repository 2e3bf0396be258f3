-- What a settled storm leaves.
use Rattle.std.specs.Prelude.{◌≡◌, ℕ, ◌*◌, List, map}
use Rattle.exh_prefix.specs.Leading.{ward_of}
use Rattle.exh_keyer.specs.Pseudokey.{sha_pseudokey}
use Rattle.exh_calls.specs.Diary.{DiaryState}
use Rattle.exh_calls.specs.Settled.{IsSettled, answer_count}
use Rattle.exh_ward.specs.WardState.{WardState}
use Rattle.exh_live.specs.StormCalls.{AreServed}
use Rattle.exh_page.specs.declared.storm_config.StormConfig.{StormConfig}

-- the journals of the wards, by number, and the diaries are settled; each diary has its caller's first calls, as many as it was to make, in order; and the
-- diaries have so many answers, which is what the callers were to ask together
pub record IsLeft {K : Type 0} (config : StormConfig) (wards : List (WardState K)) (diaries : List DiaryState) (answers : ℕ) : Type 0 where
  pub settled : IsSettled (λ key. ward_of config.ward_bits (sha_pseudokey key)) (map (λ ward. ward.journal) wards) diaries
  pub served : AreServed config.calls diaries
  pub count : answers ≡ answer_count diaries
  pub all : answers ≡ config.callers * config.calls
