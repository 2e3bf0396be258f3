use Rattle.std.proofs.Common.{◌≡◌, ◌∙◌, ℕ, List, Option, Some, None, ap, refl, sym, option_map}
use Rattle.std.proofs.lemmas.Option.{IfSome_then}
use Rattle.clap.specs.Words.{found_of}
use Rattle.exh_keyer.specs.declared.any_keyer.AnyKeyer.{AnyKeyer}
use Rattle.exh_page.specs.declared.page.TheConstants.{CAP_LIMIT}
use Rattle.exh_prefix.specs.declared.prefix.TheConstants.{WARD_BITS_LIMIT}
use Rattle.exh_command.specs.Job.{Pairing, PairsTexts, keyer_given, named_of, number_given, pairing_of}
use Rattle.exh_command.specs.Parser.{pairs_texts_of}
use Rattle.exh_command.proofs.WordLemmas.{some_is}
use Rattle.exh_command.proofs.job.pairs_in.Goals as goal

-- where a setting is none, and where all of them are some
module _ (path : List ℕ) (texts : PairsTexts) where
  no_cap : None ≡ number_given 1 CAP_LIMIT texts.cap → None ≡ pairing_of path texts
  no_cap none = rw (← none) refl

  module _ (cap : Option ℕ) (first : Some cap ≡ number_given 1 CAP_LIMIT texts.cap) where
    no_wards : None ≡ number_given 0 WARD_BITS_LIMIT texts.wards → None ≡ pairing_of path texts
    no_wards none = rw (← first, ← none) refl

    module _ (bits : Option ℕ) (second : Some bits ≡ number_given 0 WARD_BITS_LIMIT texts.wards) where
      no_keyer : None ≡ keyer_given texts.keyer → None ≡ pairing_of path texts
      no_keyer none = rw (← first, ← second, ← none) refl

      all_settings : (given : List ℕ) (keyer : Option AnyKeyer) → given ≡ path → Some keyer ≡ keyer_given texts.keyer → Some (Pairing given cap bits keyer) ≡ pairing_of path texts
      all_settings given keyer same third = rw (same, ← first, ← second, ← third) refl

pub returns-in_err-given_number-clause-pairs : goal.returns-in_err-given_number-clause-pairs
returns-in_err-given_number-clause-pairs c = λ path given. ap (option_map named_of) c.from_residual.ensures ∙ no_cap path (pairs_texts_of (found_of c.args.own.now)) c.in_err-given_number.ensures.number

pub returns-in_err-given_number-clause-limits : goal.returns-in_err-given_number-clause-limits
returns-in_err-given_number-clause-limits c = rw c.from_residual.ensures tt

pub returns-in_err-given_number-2-clause-pairs : goal.returns-in_err-given_number-2-clause-pairs
returns-in_err-given_number-2-clause-pairs c =
    λ path given. ap (option_map named_of) c.from_residual-in_err-given_number-2.ensures ∙ no_wards path (pairs_texts_of (found_of c.args.own.now)) _ c.in_ok-given_number.ensures.number c.in_err-given_number-2.ensures.number

pub returns-in_err-given_number-2-clause-limits : goal.returns-in_err-given_number-2-clause-limits
returns-in_err-given_number-2-clause-limits c = rw c.from_residual-in_err-given_number-2.ensures tt

pub returns-in_err-given_keyer-clause-pairs : goal.returns-in_err-given_keyer-clause-pairs
returns-in_err-given_keyer-clause-pairs c =
    λ path given. ap (option_map named_of) c.from_residual-in_err-given_keyer.ensures ∙ no_keyer path (pairs_texts_of (found_of c.args.own.now)) _ c.in_ok-given_number.ensures.number _ c.in_ok-given_number-2.ensures.number c.in_err-given_keyer.ensures

pub returns-in_err-given_keyer-clause-limits : goal.returns-in_err-given_keyer-clause-limits
returns-in_err-given_keyer-clause-limits c = rw c.from_residual-in_err-given_keyer.ensures tt

pub returns-clause-pairs : goal.returns-clause-pairs
returns-clause-pairs c =
    λ path given. all_settings path (pairs_texts_of (found_of c.args.own.now)) _ c.in_ok-given_number.ensures.number _ c.in_ok-given_number-2.ensures.number _ _ (some_is (c.path_in.ensures ∙ sym given)) c.in_ok-given_keyer.ensures

pub returns-clause-limits : goal.returns-clause-limits
returns-clause-limits c = (c.in_ok-given_number.ensures.limits, IfSome_then c.in_ok-given_number-2.field-0 c.in_ok-given_number-2.ensures.limits (λ bits within. within.1))
