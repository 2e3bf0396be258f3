-- How many pages a header of version 3 counts, and how many cells a walk block has.
use Rattle.std.proofs.Common.{◌≡◌, ℕ, ◌+◌, ◌-◌, ◌*◌, ◌^◌, ◌≤◌, List, [], ◌∷◌, length, take, ap, ◌∙◌, sym, arith}
use Rattle.std.specs.List.{AllByRecursion, sum}
use Rattle.std.proofs.Math.Nat.{suc-mul}
use Rattle.std.proofs.lemmas.List.{length-take}
use Rattle.std.proofs.lemmas.List.Sums.{sum_by-cons}
use Rattle.std.proofs.lemmas.Nat.{pow-add}
use Rattle.exh_format.specs.HeaderImage.{IsPageCount}
use Rattle.exh_format.specs.HeaderLemmas.{all_counted, few_wards}
use Rattle.exh_cells.specs.declared.stamped_header.StampedHeader.{StampedHeader}
use Rattle.exh_cells.specs.StampedHeader.{IsStampedHeader, placed_format, plain_header}

-- ---- of counts, of which each is at least 1 and at most as large as there are prefixes

many_counts : (limit bits : ℕ) (counts : List ℕ) → AllByRecursion (IsPageCount limit bits) counts → length counts ≤ sum counts
many_counts limit bits [] all = omega arith
many_counts limit bits (count ∷ counts) all = omega (arith, sum_by-cons (λ (count : ℕ). count) count counts, all.0.0, many_counts limit bits counts all.1)

few_counts : (limit bits : ℕ) (counts : List ℕ) → AllByRecursion (IsPageCount limit bits) counts → sum counts ≤ length counts * 2 ^ (limit - bits)
few_counts limit bits [] all = omega arith
few_counts limit bits (count ∷ counts) all =
    omega (arith, sum_by-cons (λ (count : ℕ). count) count counts, all.0.1, few_counts limit bits counts all.1, suc-mul (length counts) (2 ^ (limit - bits)))

-- ---- of a header

module _ (header : StampedHeader) (valid : IsStampedHeader header) where
  pub few_bits : header.settings.ward_bits ≤ 4
  few_bits = few_wards header.settings.ward_bits valid.plain.wards

  abbrev own_counts : List ℕ
  own_counts = take (2 ^ header.settings.ward_bits) header.page_counts

  length-counts : length own_counts ≡ 2 ^ header.settings.ward_bits
  length-counts = (let wards = valid.plain.wards in omega (arith, length-take (2 ^ header.settings.ward_bits) header.page_counts, valid.plain.counts))

  all_there : sum own_counts ≡ sum header.page_counts
  all_there = all_counted placed_format (plain_header header) valid.plain

  -- a page for each ward
  pub some_pages : 2 ^ header.settings.ward_bits ≤ sum header.page_counts
  some_pages = omega (arith, length-counts, all_there, many_counts 20 header.settings.ward_bits own_counts valid.plain.pages)

  pub few_pages : sum header.page_counts ≤ 2 ^ 20
  few_pages =
      let bits = header.settings.ward_bits in
      let most : length own_counts * 2 ^ (20 - bits) ≡ 2 ^ 20 =
      ap (λ (n : ℕ). n * 2 ^ (20 - bits)) length-counts ∙ sym (pow-add 2 bits (20 - bits)) ∙ (let whole : bits + (20 - bits) ≡ 20 = omega (arith, few_bits) in ap (λ (n : ℕ). 2 ^ n) whole) in
      omega (arith, all_there, few_counts 20 bits own_counts valid.plain.pages, most)
