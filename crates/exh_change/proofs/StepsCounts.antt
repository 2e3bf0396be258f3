-- How many pages a header of version 3 counts.
use Rattle.std.proofs.Common.{◌≡◌, ℕ, ◌^◌, ◌≤◌, List, [], ◌∷◌, length, take, arith}
use Rattle.std.specs.List.{AllByRecursion, sum}
use Rattle.std.proofs.lemmas.List.{length-take}
use Rattle.std.proofs.lemmas.List.Sums.{sum_by-cons}
use Rattle.exh_edits.specs.HeaderImage.{IsPageCount}
use Rattle.exh_edits.specs.HeaderLemmas.{all_counted, few_wards}
use Rattle.exh_cells.specs.declared.stamped_header.StampedHeader.{StampedHeader}
use Rattle.exh_cells.specs.StampedHeader.{IsStampedHeader, placed_format, plain_header}

many_counts : (limit bits : ℕ) (counts : List ℕ) → AllByRecursion (IsPageCount limit bits) counts → length counts ≤ sum counts
many_counts limit bits [] all = omega arith
many_counts limit bits (count ∷ counts) all = omega (arith, sum_by-cons (λ (count : ℕ). count) count counts, all.0.0, many_counts limit bits counts all.1)

module _ (header : StampedHeader) (valid : IsStampedHeader header) where
  pub few_bits : header.settings.ward_bits ≤ 4
  few_bits = few_wards header.settings.ward_bits valid.plain.wards

  -- there is a count for each ward that a file can have
  pub all_counts : length header.page_counts ≡ 16
  all_counts = valid.plain.counts

  abbrev own_counts : List ℕ
  own_counts = take (2 ^ header.settings.ward_bits) header.page_counts

  length-counts : length own_counts ≡ 2 ^ header.settings.ward_bits
  length-counts = (let wards = valid.plain.wards in omega (arith, length-take (2 ^ header.settings.ward_bits) header.page_counts, valid.plain.counts))

  all_there : sum own_counts ≡ sum header.page_counts
  all_there = all_counted placed_format (plain_header header) valid.plain

  -- a page for each ward
  pub some_pages : 2 ^ header.settings.ward_bits ≤ sum header.page_counts
  some_pages = omega (arith, length-counts, all_there, many_counts 20 header.settings.ward_bits own_counts valid.plain.pages)
