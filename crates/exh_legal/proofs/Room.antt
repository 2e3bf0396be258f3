-- The entries of a legal file are fewer than there are prefixes.
use Rattle.std.proofs.Common.{◌≡◌, ℕ, zero, suc, ◌+◌, ◌-◌, ◌*◌, ◌^◌, ◌<◌, ◌≤◌, List, [], ◌∷◌, length, get_or, sym, ap, ◌∙◌, subst, arith}
use Rattle.std.specs.FinMap.{empty, entries, len-empty, len-entries}
use Rattle.std.specs.List.{sum_by}
use Rattle.std.proofs.lemmas.List.Sums.{sum_by-cons}
use Rattle.std.proofs.lemmas.Nat.{pow-add, pow_pos}
use Rattle.std.proofs.lemmas.Option.{slice_get-get_or}
use Rattle.std.proofs.Math.Nat.{mul-le-mul_left, suc-mul}
use Rattle.exh_prefix.specs.BitLemmas.{length-bits_of}
use Rattle.exh_prefix.specs.Leading.{ward_prefix}
use Rattle.exh_prefix.specs.Prefix.{prefix_cmp}
use Rattle.exh_prefix.specs.declared.prefix.TheConstants.{LIMIT}
use Rattle.exh_table.specs.declared.Entry.{Entry}
use Rattle.exh_legal.specs.LegalLaws.{EntriesAreFew}
use Rattle.exh_table.specs.Table.{TableMap}
use Rattle.exh_legal.specs.LegalParts.{FileParts, HasPartRanges, table_of}
use Rattle.exh_legal.specs.ReasonLaws.{IsLegalFile}

abbrev entry_count : TableMap → ℕ
entry_count table = length (entries table)

-- ---- sums

module _ (most : ℕ) where
  no_more : (count : ℕ) → ((number : ℕ) → number < count → 1 ≤ most) → count ≤ count * most
  no_more zero some = omega arith
  no_more (suc count) some = let one : 1 ≤ most = some 0 (omega arith) in omega (arith, mul-le-mul_left (suc count) one)

  -- of so many tables each has fewer entries, and the others have none
  few_together : (tables : List TableMap) (count : ℕ) → ((number : ℕ) → number < count → entry_count (get_or tables number empty) < most) → ((number : ℕ) → count ≤ number → entry_count (get_or tables number empty) ≡ 0)
      → sum_by entry_count tables + count ≤ count * most
  few_together [] count few none = let least = no_more count (λ number less. let f = few number less in omega (arith, f)) in omega (arith, least)
  few_together (table ∷ tables) zero few none =
      let here = none 0 (omega arith) in
      let rest = few_together tables zero (λ number less. absurd (omega (arith, less))) (λ number past. none (suc number) (omega arith)) in
      omega (arith, sum_by-cons entry_count table tables, here, rest)
  few_together (table ∷ tables) (suc count) few none =
      let here = few 0 (omega arith) in
      let rest = few_together tables count (λ number less. few (suc number) (omega (arith, less))) (λ number past. none (suc number) (omega (arith, past))) in
      omega (arith, sum_by-cons entry_count table tables, here, rest, suc-mul count most)

-- ---- the tables of a legal file

none_in_empty : entry_count (empty {X = Entry} {R = prefix_cmp}) ≡ 0
none_in_empty = sym (len-entries (empty {X = Entry} {R = prefix_cmp})) ∙ len-empty prefix_cmp Entry

module _ (law : EntriesAreFew) (pseudo : List ℕ → ℕ) (parts : FileParts) (ranges : HasPartRanges parts) (count : length parts.wards ≡ 2 ^ parts.ward_bits) (legal : IsLegalFile pseudo parts) where
  few_in_ward : (number : ℕ) → number < 2 ^ parts.ward_bits → entry_count (table_of parts number) < 2 ^ (LIMIT - parts.ward_bits)
  few_in_ward number less =
      let own = ward_prefix parts.ward_bits number in
      let pages = get_or parts.wards number [] in
      let long : length own ≡ parts.ward_bits = length-bits_of parts.ward_bits number in
      let is = legal.wards number pages (slice_get-get_or parts.wards number [] (omega (arith, less, count))) in
      let short : length own ≤ LIMIT = omega (arith, long, ranges.bits) in
      let few = law own (table_of parts number) pages short is.legal.legal.linked is.fits in
      subst (λ (bits : ℕ). entry_count (table_of parts number) < 2 ^ (LIMIT - bits)) long few

  none_of_strays : (number : ℕ) → 2 ^ parts.ward_bits ≤ number → entry_count (table_of parts number) ≡ 0
  none_of_strays number past = ap entry_count (legal.strays number (omega (arith, past, count))) ∙ none_in_empty

  pub has_room : sum_by entry_count parts.tables < 2 ^ LIMIT
  has_room =
      let bits = ranges.bits in
      let most : ℕ = 2 ^ (LIMIT - parts.ward_bits) in
      let all = few_together most parts.tables (2 ^ parts.ward_bits) few_in_ward none_of_strays in
      let whole : 2 ^ LIMIT ≡ 2 ^ parts.ward_bits * 2 ^ (LIMIT - parts.ward_bits) = ap (λ (n : ℕ). 2 ^ n) (let split : LIMIT ≡ parts.ward_bits + (LIMIT - parts.ward_bits) = omega (arith, bits) in split) ∙ pow-add 2 parts.ward_bits (LIMIT - parts.ward_bits) in
      omega (arith, all, whole, pow_pos parts.ward_bits)
