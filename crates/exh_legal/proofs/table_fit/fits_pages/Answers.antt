use Rattle.std.proofs.Common.{◌≤◌, length, sym, ◌∙◌, arith}
use Rattle.std.proofs.lemmas.Bool.{false≢true}
use Rattle.exh_prefix.specs.declared.prefix.TheConstants.{LIMIT}
use Rattle.exh_legal.proofs.Fits.{to_fits, to_recorded}
use Rattle.exh_legal.proofs.table_fit.fits_pages.Goals as goal

pub returns : goal.returns
returns g c =
    let short : length c.args.ward ≤ LIMIT = omega (arith, c.len-bits.ensures.limit, c.len-bits.ensures.length) in (
      λ is. to_fits short c.requires.lows c.requires.leaves c.requires.bounded c.args.table.now (record { entries = c.has_own_entries.ensures.0 c.if-not-has_own_entries.false; each = c.has_all_entries.ensures.0 is }),
      λ fits. c.has_all_entries.ensures.1 (to_recorded short c.requires.lows c.requires.leaves c.requires.bounded c.args.table.now fits).each,
    )

pub returns-then-not-has_own_entries : goal.returns-then-not-has_own_entries
returns-then-not-has_own_entries g c =
    let short : length c.args.ward ≤ LIMIT = omega (arith, c.len-bits.ensures.limit, c.len-bits.ensures.length) in (
      λ is. absurd (false≢true is),
      λ fits. absurd (false≢true (sym c.if-not-has_own_entries.true ∙ c.has_own_entries.ensures.1 (to_recorded short c.requires.lows c.requires.leaves c.requires.bounded c.args.table.now fits).entries)),
    )
