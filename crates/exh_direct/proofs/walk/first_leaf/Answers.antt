use Rattle.std.proofs.Common.{◌≡◌, ℕ, List, Bool, take, sym, ap, ◌∙◌, arith}
use Rattle.exh_prefix.specs.BitLemmas.{bits_of-number_of}
use Rattle.exh_prefix.specs.Bits.{bits_of, word_bits}
use Rattle.exh_prefix.specs.Leading.{leading}
use Rattle.exh_prefix.specs.LeadingLemmas.{leading-lt, length-leading_bits}
use Rattle.exh_format.specs.declared.Leaf.{Leaf}
use Rattle.exh_direct.proofs.walk.first_leaf.Goals as goal

abbrev leaf_of : List Bool → Leaf
leaf_of prefix = record { prefix = prefix; page = 0 }

pub of_number-requires-clause-number : goal.of_number-requires-clause-number
of_number-requires-clause-number c = omega (arith, leading-lt c.args.ward_bits c.args.pseudokey (omega arith), c.leading.ensures)

pub returns : goal.returns
returns c =
    let bits = c.args.ward_bits in
    let front = take bits (word_bits c.args.pseudokey) in
    let is : c.of_number.result ≡ front =
    c.of_number.ensures ∙ ap (bits_of bits) c.leading.ensures ∙ ap (λ (n : ℕ). bits_of n (leading bits c.args.pseudokey)) (sym (length-leading_bits bits c.args.pseudokey (omega arith))) ∙ bits_of-number_of front in
    ap leaf_of is
