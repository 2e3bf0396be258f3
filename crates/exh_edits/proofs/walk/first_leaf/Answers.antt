use Rattle.std.proofs.Common.{◌≡◌, ℕ, List, Bool, take, sym, ap, ◌∙◌, arith}
use Rattle.exh_prefix.specs.BitLemmas.{bits_of-number_of}
use Rattle.exh_prefix.specs.Bits.{bits_of, word_bits}
use Rattle.exh_prefix.specs.Leading.{leading}
use Rattle.exh_prefix.specs.LeadingLemmas.{leading-lt, length-leading_bits}
use Rattle.exh_table.specs.declared.leaf.Leaf.{Leaf}
use Rattle.exh_edits.proofs.walk.first_leaf.Goals as goal

pub of_number-requires-clause-number : goal.of_number-requires-clause-number
of_number-requires-clause-number c = omega (arith, leading-lt c.args.ward_bits c.args.pseudokey (omega arith), c.ward_number-ward.ensures, c.from.ensures)

leaf_of : List Bool → ℕ → Leaf
leaf_of prefix page = record { prefix = prefix; page = page }

pub returns : goal.returns
unfolding leaf_of
returns c =
    let bits = c.args.ward_bits in
    let front = take bits (word_bits c.args.pseudokey) in
    let is : c.of_number.result ≡ front =
    c.of_number.ensures ∙ ap (bits_of bits) (c.from.ensures ∙ c.ward_number-ward.ensures) ∙ ap (λ (n : ℕ). bits_of n (leading bits c.args.pseudokey)) (sym (length-leading_bits bits c.args.pseudokey (omega arith))) ∙ bits_of-number_of front in
    let ward = c.from-2.ensures ∙ c.ward_number-ward.ensures in
    (λ i. leaf_of (is i) (ward i))
