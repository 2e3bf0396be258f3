use Rattle.std.proofs.Common.{List, map, ap, sym, ◌∙◌, subst}
use Rattle.exh_prefix.specs.Leading.{ward_of}
use Rattle.exh_keyer.specs.Pseudokey.{sha_pseudokey}
use Rattle.exh_keyer.specs.declared.sha_keyer.ShaKeyer.{ShaKeyer}
use Rattle.exh_calls.specs.Diary.{DiaryState}
use Rattle.exh_calls.specs.Settled.{IsSettled, answer_count}
use Rattle.exh_ward.specs.WardState.{WardState}
use Rattle.exh_live.proofs.Sums.{few_answered}
use Rattle.exh_live.proofs.run.left.Goals as goal

pub settled-requires-clause-few : goal.settled-requires-clause-few
settled-requires-clause-few g c =
    let config = c.args.config.now in
    few_answered config.callers config.calls (answer_count c.as_slice-diaries.result.now) c.requires.config.callers c.requires.config.calls (ap answer_count c.as_slice-diaries.ensures.value ∙ c.requires.all)

pub returns-in-Ok-clause-left : goal.returns-in-Ok-clause-left
returns-in-Ok-clause-left g c =
    let ward_bits = c.args.config.now.ward_bits in
    let count = c.in-Ok.ensures.count ∙ ap answer_count c.as_slice-diaries.ensures.value in
    record {
      settled =
          subst (λ (diaries : List DiaryState). IsSettled (λ key. ward_of ward_bits (sha_pseudokey key)) (map (λ (ward : WardState ShaKeyer). ward.journal) c.args.closed.wards.items) diaries) c.as_slice-diaries.ensures.value
          (subst (λ (wards : List (WardState ShaKeyer)). IsSettled (λ key. ward_of ward_bits (sha_pseudokey key)) (map (λ (ward : WardState ShaKeyer). ward.journal) wards) c.as_slice-diaries.result.now) c.as_slice-wards.ensures.value c.in-Ok.ensures.settled);
      served = c.requires.served;
      count = count;
      all = count ∙ c.requires.all;
    }

pub returns-in-Err-clause-fault : goal.returns-in-Err-clause-fault
returns-in-Err-clause-fault g c =
    let ward_bits = c.args.config.now.ward_bits in
    let Settled : List (WardState ShaKeyer) → List DiaryState → Type 0 = λ wards diaries. IsSettled (λ key. ward_of ward_bits (sha_pseudokey key)) (map (λ (ward : WardState ShaKeyer). ward.journal) wards) diaries in (
      c.in-Err.ensures.fault.0,
      record {
        wards = c.args.closed.wards.items;
        diaries = c.args.closed.diaries.items;
        count = c.requires.wards.0;
        order = c.requires.wards.1;
        callers = c.requires.callers;
        served = c.requires.served;
        equally_many = c.requires.equally_many;
        unsettled = λ settled. c.in-Err.ensures.fault.1 (subst (Settled c.as_slice-wards.result.now) (sym c.as_slice-diaries.ensures.value) (subst (λ (wards : List (WardState ShaKeyer)). Settled wards c.args.closed.diaries.items) (sym c.as_slice-wards.ensures.value) settled));
      },
    )
