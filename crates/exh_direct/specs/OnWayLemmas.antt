-- Walks for a pseudokey: the bits that they go over.
use Rattle.std.proofs.Common.{◌≡◌, ℕ, ◌<◌, ◌≤◌, Bool, false, [], ◌∷◌, ◌++◌, length, take, get_or, sym, ap, ◌∙◌, arith}
use Rattle.std.proofs.lemmas.List.{length_push, take_more}
use Rattle.exh_prefix.specs.Bits.{word_bits}
use Rattle.exh_prefix.specs.LeadingLemmas.{length-leading_bits}
use Rattle.exh_prefix.specs.PrefixLemmas.{length-word_bits}
use Rattle.exh_prefix.specs.declared.prefix.TheConstants.{LIMIT}
use Rattle.exh_format.specs.declared.Leaf.{Leaf}
use Rattle.exh_format.specs.TableWalk.{step}
use Rattle.exh_direct.specs.TableSearch.{IsOnWay, first_leaf}

pub step_on_way : (pseudokey : ℕ) (leaf : Leaf) (bit : Bool) (right : ℕ) → IsOnWay pseudokey leaf → length leaf.prefix < LIMIT → bit ≡ get_or (word_bits pseudokey) (length leaf.prefix) false → IsOnWay pseudokey (step leaf bit right)
step_on_way pseudokey leaf bit right on short is = record {
  begins =
      ap (λ (n : ℕ). take n (word_bits pseudokey)) (length_push leaf.prefix bit)
      ∙ take_more (word_bits pseudokey) (length leaf.prefix) false (omega (arith, length-word_bits pseudokey, short))
      ∙ (λ i. on.begins i ++ sym is i ∷ []);
  short = omega (arith, length_push leaf.prefix bit, short);
}

pub first_on_way : (ward_bits pseudokey : ℕ) → ward_bits ≤ LIMIT → IsOnWay pseudokey (first_leaf ward_bits pseudokey)
first_on_way ward_bits pseudokey few =
    let len : length (take ward_bits (word_bits pseudokey)) ≡ ward_bits = length-leading_bits ward_bits pseudokey (omega (arith, few)) in
    record { begins = ap (λ (n : ℕ). take n (word_bits pseudokey)) len; short = omega (arith, len, few) }
