-- Each forwarding page has one set bit less in its target's low bound.
use Rattle.std.proofs.Common.{◌≡◌, ℕ, zero, suc, ◌+◌, ◌-◌, ◌^◌, ◌<◌, ◌≤◌, Bool, true, false, cond, List, [], ◌∷◌, ◌++◌, length, take, inl, inr, refl, sym, ap, ◌∙◌, subst, arith}
use Rattle.std.specs.Prelude.{count_by}
use Rattle.std.proofs.lemmas.Bool.{cases_Bool}
use Rattle.std.proofs.lemmas.List.{length-take-le}
use Rattle.std.proofs.lemmas.List.Sums.{sum_by-append, count_by-le-length}
use Rattle.exh_prefix.specs.declared.prefix.TheConstants.{LIMIT}
use Rattle.exh_prefix.specs.Bits.{number_of, word_bits, lowest_cleared, has_one, without_last_one}
use Rattle.exh_prefix.specs.BitLemmas.{length-without_last_one}
use Rattle.exh_prefix.specs.Prefix.{zeros, HasPrefix}
use Rattle.exh_prefix.specs.PrefixLemmas.{length-word_bits, number_of-word_bits, word_bits-number_of}
use Rattle.exh_page.specs.declared.page.Page.{Page}
use Rattle.exh_page.specs.declared.page.Page.TheVariants.{Live, Forward}
use Rattle.exh_page.specs.Page.{low_bound}
use Rattle.exh_legal.specs.Pages.{IsAt, AreLinked, bare}
use Rattle.exh_ward.specs.Distance.{IsDistance, IsForwarded, is_live, is_live_between, live_pages}
use Rattle.exh_ward.specs.CountLemmas.{counts, counts_few, count_cons, count_less}
use Rattle.exh_ward.specs.LinkLemmas.{forward_above, forward_prefix, target_cleared}
use Rattle.exh_prefix.specs.PrefixListLemmas.{one_there}

-- ---- set bits

abbrev ones : List Bool → ℕ
ones bits = count_by (λ bit. bit) bits

-- none are set
none_set : (bits : List Bool) → has_one bits ≡ false → (ones bits ≡ 0) × (ones (without_last_one bits) ≡ 0) × (number_of bits ≡ 0)
unfolding number_of
none_set [] none = (refl, refl, refl)
none_set (true ∷ bits) none = cc
none_set (false ∷ bits) none =
    let rest = none_set bits none in
    let without : without_last_one (false ∷ bits) ≡ false ∷ without_last_one bits = ap (λ b. cond b false false ∷ without_last_one bits) none in (
      omega (arith, count_cons (λ bit. bit) false bits, rest.0),
      ap ones without ∙ omega (arith, count_cons (λ bit. bit) false (without_last_one bits), rest.1),
      omega (arith, rest.2),
    )

only_here : (bit later : Bool) → cond bit true later ≡ true → later ≡ false → bit ≡ true
only_here true later some none = refl
only_here false later some none = cc

one_less_set : (bits : List Bool) → has_one bits ≡ true → ones bits ≡ suc (ones (without_last_one bits))
one_less_set [] some = cc
one_less_set (bit ∷ bits) some = elim (cases_Bool (has_one bits)) [
  | inl later ↦
      let without : without_last_one (bit ∷ bits) ≡ bit ∷ without_last_one bits = ap (λ b. cond b bit false ∷ without_last_one bits) later in
      omega (arith, count_cons (λ bit. bit) bit bits, ap ones without, count_cons (λ bit. bit) bit (without_last_one bits), one_less_set bits later)
  | inr none ↦
      let here : bit ≡ true = only_here bit (has_one bits) some none in
      let without : without_last_one (bit ∷ bits) ≡ false ∷ without_last_one bits = ap (λ b. cond b bit false ∷ without_last_one bits) none in
      let rest = none_set bits none in
      omega (arith, count_cons (λ bit. bit) bit bits, ap counts here, ap ones without, count_cons (λ bit. bit) false (without_last_one bits), rest.0, rest.1)
]

ones-zeros : (n : ℕ) → ones (zeros n) ≡ 0
ones-zeros zero = refl
ones-zeros (suc n) = omega (arith, count_cons (λ bit. bit) false (zeros n), ones-zeros n)

-- ---- set bits of low bounds

bits_cleared : (low : ℕ) → word_bits (lowest_cleared low) ≡ without_last_one (word_bits low)
unfolding lowest_cleared
bits_cleared low = word_bits-number_of (without_last_one (word_bits low)) (length-without_last_one (word_bits low) ∙ length-word_bits low)

one_cleared : (low : ℕ) → low < 2 ^ 64 → 0 < low → ones (word_bits low) ≡ suc (ones (word_bits (lowest_cleared low)))
one_cleared low small some = elim (cases_Bool (has_one (word_bits low))) [
  | inl set ↦ one_less_set (word_bits low) set ∙ ap (λ bits. suc (ones bits)) (sym (bits_cleared low))
  | inr none ↦ absurd (omega (arith, some, (none_set (word_bits low) none).2, number_of-word_bits low small))
]

few_set : (low : ℕ) → HasPrefix LIMIT low → ones (word_bits low) ≤ LIMIT
few_set low stored =
    let front = take LIMIT (word_bits low) in
    let parts : ones (front ++ zeros (64 - LIMIT)) ≡ ones front + ones (zeros (64 - LIMIT)) = sum_by-append counts front (zeros (64 - LIMIT)) in
    let short : length front ≡ LIMIT = length-take-le LIMIT (word_bits low) (omega (arith, length-word_bits low)) in
    omega (arith, ap ones stored.1, parts, ones-zeros (64 - LIMIT), count_by-le-length (λ bit. bit) front, short)

-- ---- forwarding pages

module _ (ward : List Bool) (pages : List Page) (linked : AreLinked ward (bare pages)) where
  chain_ones : (from : ℕ) (over : List ℕ) (to : ℕ) (page : Page) → IsForwarded pages from over to → IsAt pages from page → length over ≤ ones (word_bits (low_bound page))
  chain_ones from [] to page chain is = omega arith
  chain_ones from (number ∷ over) to page chain is =
      let low = chain.1.0 in
      let target = chain.1.1 in
      let same : page ≡ Forward low target = one_there pages number page (Forward low target) (subst (λ n. IsAt pages n page) chain.0 is) chain.1.2 in
      let next = target_cleared ward pages linked number low target chain.1.2 in
      let rest : length over ≤ ones (word_bits (low_bound next.0)) = chain_ones target over to next.0 chain.1.3 next.1 in
      let less = one_cleared low (forward_prefix ward pages linked number low target chain.1.2).0 (forward_above ward pages linked number low target chain.1.2) in
      omega (arith, rest, less, ap (λ low. ones (word_bits low)) next.2, ap (λ page. ones (word_bits (low_bound page))) same)

  pub chain_few : (from : ℕ) (over : List ℕ) (to : ℕ) → IsForwarded pages from over to → length over ≤ LIMIT
  chain_few from [] to chain = omega arith
  chain_few from (number ∷ over) to chain =
      let low = chain.1.0 in
      let forward = Forward low chain.1.1 in
      let there : IsAt pages from forward = subst (λ n. IsAt pages n forward) (sym chain.0) chain.1.2 in
      omega (arith, chain_ones from (number ∷ over) to forward chain there, few_set low (forward_prefix ward pages linked number low chain.1.1 chain.1.2).1)

  between_less : (low pseudokey : ℕ) (page : Page) → counts (is_live_between low pseudokey page) ≤ counts (is_live page)
  between_less low pseudokey (Live prefix right records) = counts_few (is_live_between low pseudokey (Live prefix right records))
  between_less low pseudokey (Forward bound target) = omega arith

  pub distance_few : (from pseudokey distance : ℕ) → IsDistance pages from pseudokey distance → distance ≤ LIMIT + live_pages pages
  distance_few from pseudokey distance is =
      omega (arith, is.sum, chain_few from is.over is.live is.forwarded, count_less (is_live_between (low_bound is.page) pseudokey) is_live pages (between_less (low_bound is.page) pseudokey))
