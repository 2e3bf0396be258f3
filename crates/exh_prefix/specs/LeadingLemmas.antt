-- Leading bits of pseudokeys, as numbers.
use Rattle.std.proofs.Common.{◌≡◌, ℕ, suc, ◌+◌, ◌-◌, ◌*◌, ◌/◌, ◌^◌, ◌<◌, ◌≤◌, Bool, false, List, [], ◌∷◌, ◌++◌, length, take, drop, ◌↔◌, refl, sym, ap, ◌∙◌, subst, arith}
use Rattle.std.proofs.lemmas.List.{length-take-le, length-drop, take-append-drop, take-take, length_push}
use Rattle.std.proofs.lemmas.Nat.{div-mul-add, shl_below}
use Rattle.exh_prefix.specs.Bits.{number_of, bits_of, word_bits}
use Rattle.exh_prefix.specs.BitLemmas.{length-bits_of, number_of-lt, number_of-bits_of, number_of-append, same_bits}
use Rattle.exh_prefix.specs.Prefix.{Begins, IsFront, low_of}
use Rattle.exh_prefix.specs.PrefixLemmas.{length-word_bits, word_split, word_rest-lt, low_of-product, low_of-left_child, take-word-low_of}
use Rattle.exh_prefix.specs.Leading.{leading, first_pseudokey, ward_prefix}

pub length-leading_bits : (count pseudokey : ℕ) → count ≤ 64 → length (take count (word_bits pseudokey)) ≡ count
length-leading_bits count pseudokey short = length-take-le count (word_bits pseudokey) (omega (arith, length-word_bits pseudokey))

-- they are one of as many numbers as so many bits tell apart
pub leading-lt : (count pseudokey : ℕ) → count ≤ 64 → leading count pseudokey < 2 ^ count
leading-lt count pseudokey short = subst (λ n. leading count pseudokey < 2 ^ n) (length-leading_bits count pseudokey short) (number_of-lt (take count (word_bits pseudokey)))

-- they are what is left where the other bits are shifted out
pub leading-quotient : (count pseudokey : ℕ) → count ≤ 64 → pseudokey < 2 ^ 64 → pseudokey / 2 ^ (64 - count) ≡ leading count pseudokey
leading-quotient count pseudokey short small =
    ap (λ n. n / 2 ^ (64 - count)) (word_split count pseudokey short small)
    ∙ div-mul-add (leading count pseudokey) (2 ^ (64 - count)) (number_of (drop count (word_bits pseudokey))) (word_rest-lt count pseudokey short)

-- so are fewer of them
pub leading-fewer : (count more pseudokey : ℕ) → count + more ≤ 64 → leading (count + more) pseudokey / 2 ^ more ≡ leading count pseudokey
leading-fewer count more pseudokey short =
    let bits = take (count + more) (word_bits pseudokey) in
    let rest : length (drop count bits) ≡ more = omega (arith, length-drop count bits, length-leading_bits (count + more) pseudokey short) in
    let below : number_of (drop count bits) < 2 ^ more = subst (λ n. number_of (drop count bits) < 2 ^ n) rest (number_of-lt (drop count bits)) in
    let parts : number_of bits ≡ number_of (take count bits) * 2 ^ more + number_of (drop count bits) =
    ap number_of (sym (take-append-drop count bits)) ∙ number_of-append (take count bits) (drop count bits) ∙ ap (λ n. number_of (take count bits) * 2 ^ n + number_of (drop count bits)) rest in
    ap (λ n. n / 2 ^ more) parts
    ∙ div-mul-add (number_of (take count bits)) (2 ^ more) (number_of (drop count bits)) below
    ∙ ap number_of (take-take count (count + more) (word_bits pseudokey) (omega arith))

-- pseudokeys of one number have the same bits
pub same_leading : (count one other : ℕ) → count ≤ 64 → leading count one ≡ leading count other → take count (word_bits one) ≡ take count (word_bits other)
same_leading count one other short same = same_bits _ _ (length-leading_bits count one short ∙ sym (length-leading_bits count other short)) same

-- ---- the first pseudokey that some bits begin

pub leading-low_of : (bits : List Bool) (count : ℕ) → length bits ≡ count → count ≤ 64 → leading count (low_of bits) ≡ number_of bits
leading-low_of bits count many short = ap number_of (take-word-low_of bits count many short)

-- it is the low bound of the number's bits
pub low_of-number : (count number : ℕ) → number < 2 ^ count → low_of (bits_of count number) ≡ first_pseudokey count number
low_of-number count number small =
    low_of-product (bits_of count number) ∙ ap (λ m. m * 2 ^ (64 - length (bits_of count number))) (number_of-bits_of count number small)
    ∙ ap (λ m. number * 2 ^ (64 - m)) (length-bits_of count number)

pub first_pseudokey-lt : (count number : ℕ) → count ≤ 64 → number < 2 ^ count → first_pseudokey count number < 2 ^ 64
first_pseudokey-lt count number short small =
    let whole : count + (64 - count) ≡ 64 = omega arith in
    subst (λ n. first_pseudokey count number < 2 ^ n) whole (shl_below number count (64 - count) small)

-- the first pseudokey of a number has it
pub leading-of_place : (count number : ℕ) → count ≤ 64 → number < 2 ^ count → leading count (low_of (bits_of count number)) ≡ number
leading-of_place count number short small = leading-low_of (bits_of count number) count (length-bits_of count number) short ∙ number_of-bits_of count number small

pub leading-first : (count number : ℕ) → count ≤ 64 → number < 2 ^ count → leading count (first_pseudokey count number) ≡ number
leading-first count number short small = ap (leading count) (sym (low_of-number count number small)) ∙ leading-of_place count number short small

number_of-false : number_of (false ∷ []) ≡ 0
unfolding number_of
number_of-false = refl

-- with one bit more, its number is the first of two
pub leading-twice : (count pseudokey : ℕ) → count < 64 → leading (suc count) (low_of (take count (word_bits pseudokey))) ≡ 2 * leading count pseudokey
leading-twice count pseudokey short =
    let bits = take count (word_bits pseudokey) in
    let many : length bits ≡ count = length-leading_bits count pseudokey (omega arith) in
    ap (leading (suc count)) (sym (low_of-left_child bits (omega arith)))
    ∙ leading-low_of (bits ++ false ∷ []) (suc count) (omega (arith, length_push bits false)) (omega arith)
    ∙ number_of-append bits (false ∷ []) ∙ omega (arith, number_of-false)

-- ---- prefixes

-- a prefix begins the pseudokeys that it has as leading bits
pub leading-of_begun : (prefix : List Bool) (pseudokey : ℕ) → Begins prefix pseudokey → leading (length prefix) pseudokey ≡ number_of prefix
leading-of_begun prefix pseudokey begins = ap number_of begins

pub begins-from_leading : (prefix : List Bool) (pseudokey : ℕ) → length prefix ≤ 64 → leading (length prefix) pseudokey ≡ number_of prefix → Begins prefix pseudokey
begins-from_leading prefix pseudokey short same = same_bits _ prefix (length-leading_bits (length prefix) pseudokey short) same

-- a prefix that begins a pseudokey begins all that have at least the prefix's bits in common with it
pub begins_alike : (prefix : List Bool) (count one other : ℕ) → length prefix ≤ count → take count (word_bits one) ≡ take count (word_bits other) → Begins prefix one → Begins prefix other
begins_alike prefix count one other shorter same begins =
    sym (take-take (length prefix) count (word_bits other) shorter) ∙ ap (take (length prefix)) (sym same) ∙ take-take (length prefix) count (word_bits one) shorter ∙ begins

pub shared_begins : (prefix : List Bool) (count one other : ℕ) → length prefix ≤ count → count ≤ 64 → Begins prefix one → leading count other ≡ leading count one → Begins prefix other
shared_begins prefix count one other shorter short begins same = begins_alike prefix count one other shorter (same_leading count one other short (sym same)) begins

-- and one as long as the leading bits begins exactly those that share them
pub begins_by-sharing : (prefix : List Bool) (count one other : ℕ) → length prefix ≡ count → count ≤ 64 → Begins prefix one → Begins prefix other ↔ (leading count other ≡ leading count one)
begins_by-sharing prefix count one other long short begins =
    let own : (pseudokey : ℕ) → Begins prefix pseudokey → leading count pseudokey ≡ number_of prefix = λ pseudokey is. ap (λ n. leading n pseudokey) (sym long) ∙ leading-of_begun prefix pseudokey is in (
      λ is. own other is ∙ sym (own one begins),
      λ same. shared_begins prefix count one other (omega (arith, long)) short begins same,
    )

-- ---- wards

-- bits begin with the prefix of one ward alone
pub one_front : (ward_bits one other : ℕ) (bits : List Bool) → one < 2 ^ ward_bits → other < 2 ^ ward_bits → IsFront (ward_prefix ward_bits one) bits → IsFront (ward_prefix ward_bits other) bits → one ≡ other
one_front ward_bits one other bits fits fits_too front front_too =
    let lengths = length-bits_of ward_bits one ∙ sym (length-bits_of ward_bits other) in
    let same : bits_of ward_bits one ≡ bits_of ward_bits other = sym front ∙ ap (λ n. take n bits) lengths ∙ front_too in
    sym (number_of-bits_of ward_bits one fits) ∙ ap number_of same ∙ number_of-bits_of ward_bits other fits_too
