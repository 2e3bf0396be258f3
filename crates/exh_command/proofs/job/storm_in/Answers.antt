use Rattle.std.proofs.Common.{◌≡◌, ◌∙◌, ℕ, Some, None, refl}
use Rattle.exh_page.specs.declared.page.TheConstants.{CAP_LIMIT}
use Rattle.exh_prefix.specs.declared.prefix.TheConstants.{WARD_BITS_LIMIT}
use Rattle.exh_page.specs.declared.storm_config.TheConstants.{CALLERS_LIMIT, CALLS_LIMIT, COPIES_LIMIT}
use Rattle.exh_command.specs.Job.{StormTexts, number_of, storm_of}
use Rattle.exh_command.proofs.job.storm_in.Goals as goal

-- where a number is none, and where all of them are some
module _ (texts : StormTexts) where
  no_callers : None ≡ number_of 2 1 CALLERS_LIMIT texts.callers → None ≡ storm_of texts
  no_callers none = rw (← none) refl

  module _ (callers : ℕ) (first : Some callers ≡ number_of 2 1 CALLERS_LIMIT texts.callers) where
    no_calls : None ≡ number_of 100 1 CALLS_LIMIT texts.calls → None ≡ storm_of texts
    no_calls none = rw (← first, ← none) refl

    module _ (calls : ℕ) (second : Some calls ≡ number_of 100 1 CALLS_LIMIT texts.calls) where
      no_cap : None ≡ number_of 2 1 CAP_LIMIT texts.cap → None ≡ storm_of texts
      no_cap none = rw (← first, ← second, ← none) refl

      module _ (cap : ℕ) (third : Some cap ≡ number_of 2 1 CAP_LIMIT texts.cap) where
        no_wards : None ≡ number_of 0 0 WARD_BITS_LIMIT texts.wards → None ≡ storm_of texts
        no_wards none = rw (← first, ← second, ← third, ← none) refl

        module _ (wards : ℕ) (fourth : Some wards ≡ number_of 0 0 WARD_BITS_LIMIT texts.wards) where
          no_copies : None ≡ number_of 2 1 COPIES_LIMIT texts.copies → None ≡ storm_of texts
          no_copies none = rw (← first, ← second, ← third, ← fourth, ← none) refl

          all_numbers : (copies : ℕ) → Some copies ≡ number_of 2 1 COPIES_LIMIT texts.copies → Some (record { callers = callers; calls = calls; cap = cap; ward_bits = wards; copies = copies }) ≡ storm_of texts
          all_numbers copies fifth = rw (← first, ← second, ← third, ← fourth, ← fifth) refl

pub returns-in_err-number_in-clause-storm : goal.returns-in_err-number_in-clause-storm
returns-in_err-number_in-clause-storm c = c.from_residual.ensures ∙ no_callers _ (rw c.from.ensures at c.in_err-number_in.ensures.number)

pub returns-in_err-number_in-clause-limits : goal.returns-in_err-number_in-clause-limits
returns-in_err-number_in-clause-limits c = rw c.from_residual.ensures tt

pub returns-in_err-number_in-2-clause-storm : goal.returns-in_err-number_in-2-clause-storm
returns-in_err-number_in-2-clause-storm c = c.from_residual-in_err-number_in-2.ensures ∙ no_calls _ _ (rw c.from.ensures at c.in_ok-number_in.ensures.number) c.in_err-number_in-2.ensures.number

pub returns-in_err-number_in-2-clause-limits : goal.returns-in_err-number_in-2-clause-limits
returns-in_err-number_in-2-clause-limits c = rw c.from_residual-in_err-number_in-2.ensures tt

pub returns-in_err-number_in-3-clause-storm : goal.returns-in_err-number_in-3-clause-storm
returns-in_err-number_in-3-clause-storm c =
    c.from_residual-in_err-number_in-3.ensures ∙ no_cap _ _ (rw c.from.ensures at c.in_ok-number_in.ensures.number) _ c.in_ok-number_in-2.ensures.number c.in_err-number_in-3.ensures.number

pub returns-in_err-number_in-3-clause-limits : goal.returns-in_err-number_in-3-clause-limits
returns-in_err-number_in-3-clause-limits c = rw c.from_residual-in_err-number_in-3.ensures tt

pub returns-in_err-number_in-4-clause-storm : goal.returns-in_err-number_in-4-clause-storm
returns-in_err-number_in-4-clause-storm c =
    c.from_residual-in_err-number_in-4.ensures
    ∙ no_wards _ _ (rw c.from.ensures at c.in_ok-number_in.ensures.number) _ c.in_ok-number_in-2.ensures.number _ c.in_ok-number_in-3.ensures.number (rw c.from-2.ensures at c.in_err-number_in-4.ensures.number)

pub returns-in_err-number_in-4-clause-limits : goal.returns-in_err-number_in-4-clause-limits
returns-in_err-number_in-4-clause-limits c = rw c.from_residual-in_err-number_in-4.ensures tt

pub returns-in_err-number_in-5-clause-storm : goal.returns-in_err-number_in-5-clause-storm
returns-in_err-number_in-5-clause-storm c =
    c.from_residual-in_err-number_in-5.ensures
    ∙ no_copies _ _ (rw c.from.ensures at c.in_ok-number_in.ensures.number) _ c.in_ok-number_in-2.ensures.number _ c.in_ok-number_in-3.ensures.number _ (rw c.from-2.ensures at c.in_ok-number_in-4.ensures.number)
    (rw c.from-3.ensures at c.in_err-number_in-5.ensures.number)

pub returns-in_err-number_in-5-clause-limits : goal.returns-in_err-number_in-5-clause-limits
returns-in_err-number_in-5-clause-limits c = rw c.from_residual-in_err-number_in-5.ensures tt

pub returns-clause-storm : goal.returns-clause-storm
returns-clause-storm c =
    all_numbers _ _ (rw c.from.ensures at c.in_ok-number_in.ensures.number) _ c.in_ok-number_in-2.ensures.number _ c.in_ok-number_in-3.ensures.number _ (rw c.from-2.ensures at c.in_ok-number_in-4.ensures.number)
    _ (rw c.from-3.ensures at c.in_ok-number_in-5.ensures.number)

pub returns-clause-limits : goal.returns-clause-limits
returns-clause-limits c = record {
  some_caller = c.in_ok-number_in.ensures.least;
  callers = rw c.from.ensures at c.in_ok-number_in.ensures.greatest;
  some_call = c.in_ok-number_in-2.ensures.least;
  calls = c.in_ok-number_in-2.ensures.greatest;
  some_record = c.in_ok-number_in-3.ensures.least;
  cap = c.in_ok-number_in-3.ensures.greatest;
  ward_bits = rw c.from-2.ensures at c.in_ok-number_in-4.ensures.greatest;
  some_copy = c.in_ok-number_in-5.ensures.least;
  copies = rw c.from-3.ensures at c.in_ok-number_in-5.ensures.greatest;
}
