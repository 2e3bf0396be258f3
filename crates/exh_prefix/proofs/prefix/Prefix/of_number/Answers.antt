use Rattle.std.proofs.Common.{◌≡◌, ℕ, ◌<◌, ◌≤◌, ◌^◌, ◌∙◌, sym, arith}
use Rattle.exh_prefix.specs.declared.prefix.TheConstants.{LIMIT}
use Rattle.exh_prefix.specs.Bits.{bits_of}
use Rattle.exh_prefix.specs.BitLemmas.{length-bits_of}
use Rattle.exh_prefix.specs.Leading.{first_pseudokey}
use Rattle.exh_prefix.specs.LeadingLemmas.{low_of-number}
use Rattle.exh_prefix.proofs.Made.{IsStored, made}
use Rattle.exh_prefix.proofs.prefix.Prefix.of_number.Goals as goal

stored : (len number low : ℕ) → len ≤ LIMIT → number < 2 ^ len → low ≡ first_pseudokey len number → IsStored (bits_of len number) len low
stored len number low short small is = made (bits_of len number) len low (omega (arith, length-bits_of len number)) (sym (length-bits_of len number)) (is ∙ sym (low_of-number len number small))

pub invariant_of-result : goal.invariant_of-result
invariant_of-result c = (stored c.args.len c.args.number c.first_pseudokey.result c.requires.len c.requires.number c.first_pseudokey.ensures.first).invariant

pub returns : goal.returns
returns c = (stored c.args.len c.args.number c.first_pseudokey.result c.requires.len c.requires.number c.first_pseudokey.ensures.first).view_is
