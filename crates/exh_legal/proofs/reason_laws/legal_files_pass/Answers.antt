use Rattle.std.proofs.Common.{ℕ, ◌≤◌, List, length, sym, arith}
use Rattle.exh_prefix.specs.BitLemmas.{length-bits_of}
use Rattle.exh_prefix.specs.declared.prefix.TheConstants.{LIMIT}
use Rattle.exh_legal.specs.LegalLaws.{FittingTablesBeginWards, PagesAreFew}
use Rattle.exh_legal.specs.Pages.{bare}
use Rattle.exh_prefix.specs.Leading.{ward_prefix}
use Rattle.exh_legal.specs.LegalParts.{FileParts, HasPartRanges}
use Rattle.exh_legal.specs.ReasonLaws.{IsLegalFile, IsPassed}
use Rattle.exh_legal.specs.Reasons.{ReasonPasses}
use Rattle.exh_legal.specs.declared.reason.Reason.{Reason}
use Rattle.exh_legal.specs.declared.reason.Reason.TheVariants.{Cap, LowBounds, Leaves, Links, Forwards, Table}
use Rattle.exh_legal.proofs.Bare.{bare_bare, fits_to}
use Rattle.exh_legal.proofs.Passed.{to_legal, to_cap, to_lows, to_leaves, to_links, to_targets, to_formed}
use Rattle.exh_legal.proofs.reason_laws.legal_files_pass.Goals as goal

module _ (begin : FittingTablesBeginWards) (few : PagesAreFew) (pseudo : List ℕ → ℕ) (parts : FileParts) (ranges : HasPartRanges parts) where
  short : (number : ℕ) → length (ward_prefix parts.ward_bits number) ≤ LIMIT
  short number = omega (arith, length-bits_of parts.ward_bits number, ranges.bits)

  legal : IsPassed pseudo parts → IsLegalFile pseudo parts
  legal is = record {
    wards = λ number pages there.
        let own = to_legal (short number) (is.formed number pages there) (is.passed LowBounds number pages there) (is.passed Leaves number pages there) (is.passed Links number pages there) (is.passed Forwards number pages there) parts.cap (is.passed Cap number pages there) in
        begin parts.cap pseudo _ _ pages own (fits_to pages (bare pages) (sym (bare_bare pages)) _ _ ((is.passed Table).0 number pages there));
    strays = (is.passed Table).1;
  }

  passed : IsLegalFile pseudo parts → (reason : Reason) → ReasonPasses parts reason
  passed is Cap = λ number pages there. to_cap (is.wards number pages there).legal.legal
  passed is LowBounds = λ number pages there. to_lows (is.wards number pages there).legal.legal
  passed is Leaves = λ number pages there. to_leaves (is.wards number pages there).legal.legal
  passed is Links = λ number pages there. to_links (is.wards number pages there).legal.legal
  passed is Forwards = λ number pages there. to_targets (is.wards number pages there).legal.legal
  passed is Table = (λ number pages there. fits_to (bare pages) pages (bare_bare pages) _ _ (is.wards number pages there).fits, is.strays)

  all_passed : IsLegalFile pseudo parts → IsPassed pseudo parts
  all_passed is = record {
    formed = λ number pages there.
        let own = (is.wards number pages there).legal.legal in
        to_formed own (short number) ranges.cap (few _ pages (short number) own.linked);
    passed = passed is;
  }

pub returns : goal.returns
returns c pseudo parts ranges = (legal c.fitting_tables_begin_wards.ensures c.pages_are_few.ensures pseudo parts ranges, all_passed c.fitting_tables_begin_wards.ensures c.pages_are_few.ensures pseudo parts ranges)
