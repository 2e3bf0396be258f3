-- How many pages a header of version 3 counts.
use Rattle.std.proofs.Common.{◌≡◌, ℕ, zero, suc, refl, subst, slice_set, ◌+◌, ◌-◌, ◌*◌, ◌^◌, ◌<◌, ◌≤◌, List, [], ◌∷◌, length, slice_index, take, ap, ◌∙◌, sym, arith}
use Rattle.std.specs.List.{AllByRecursion, sum}
use Rattle.std.proofs.Math.Nat.{suc-mul}
use Rattle.std.proofs.lemmas.List.{drop-set-lt, length-set, length-take}
use Rattle.exh_edits.specs.PlacedEdits.{counted_more}
use Rattle.std.proofs.lemmas.List.Sums.{get_or-le-sum_by, sum_by-cons}
use Rattle.std.proofs.lemmas.Nat.{pow-add}
use Rattle.exh_format.specs.HeaderImage.{IsPageCount}
use Rattle.exh_format.specs.HeaderLemmas.{all_counted, few_wards}
use Rattle.exh_cells.specs.declared.stamped_header.StampedHeader.{StampedHeader}
use Rattle.exh_cells.specs.StampedHeader.{IsStampedHeader, placed_format, plain_header}

-- ---- of counts, of which each is at most as large as there are prefixes

few_counts : (limit bits : ℕ) (counts : List ℕ) → AllByRecursion (IsPageCount limit bits) counts → sum counts ≤ length counts * 2 ^ (limit - bits)
few_counts limit bits [] all = omega arith
few_counts limit bits (count ∷ counts) all =
    omega (arith, sum_by-cons (λ (count : ℕ). count) count counts, all.0.1, few_counts limit bits counts all.1, suc-mul (length counts) (2 ^ (limit - bits)))

take_set : (n : ℕ) (xs : List ℕ) (i x : ℕ) → i < n → take n (slice_set xs i x) ≡ slice_set (take n xs) i x
take_set zero xs i x less = absurd (omega (arith, less))
take_set (suc n) [] i x less = refl
take_set (suc n) (y ∷ xs) zero x less = refl
take_set (suc n) (y ∷ xs) (suc i) x less = ap (λ (xs : List ℕ). y ∷ xs) (take_set n xs i x (omega (arith, less)))

all_set : (P : ℕ → Type 0) (xs : List ℕ) (i x : ℕ) → P x → AllByRecursion P xs → AllByRecursion P (slice_set xs i x)
all_set P [] i x holds all = tt
all_set P (y ∷ xs) zero x holds all = (holds, all.1)
all_set P (y ∷ xs) (suc i) x holds all = (all.0, all_set P xs i x holds all.1)

-- ---- of a header

module _ (header : StampedHeader) (valid : IsStampedHeader header) where
  pub few_bits : header.settings.ward_bits ≤ 4
  few_bits = few_wards header.settings.ward_bits valid.plain.wards

  abbrev own_counts : List ℕ
  own_counts = take (2 ^ header.settings.ward_bits) header.page_counts

  length-counts : length own_counts ≡ 2 ^ header.settings.ward_bits
  length-counts = (let wards = valid.plain.wards in omega (arith, length-take (2 ^ header.settings.ward_bits) header.page_counts, valid.plain.counts))

  all_there : sum own_counts ≡ sum header.page_counts
  all_there = all_counted placed_format (plain_header header) valid.plain

  pub few_pages : sum header.page_counts ≤ 2 ^ 20
  few_pages =
      let bits = header.settings.ward_bits in
      let most : length own_counts * 2 ^ (20 - bits) ≡ 2 ^ 20 =
      ap (λ (n : ℕ). n * 2 ^ (20 - bits)) length-counts ∙ sym (pow-add 2 bits (20 - bits)) ∙ (let whole : bits + (20 - bits) ≡ 20 = omega (arith, few_bits) in ap (λ (n : ℕ). 2 ^ n) whole) in
      omega (arith, all_there, few_counts 20 bits own_counts valid.plain.pages, most)

  -- no ward has more
  pub few_of : (ward : ℕ) → ward < 16 → slice_index header.page_counts ward ≤ 2 ^ 20
  few_of ward within = omega (arith, get_or-le-sum_by (λ (count : ℕ). count) header.page_counts ward 0 (omega (arith, within, valid.plain.counts)), few_pages)

  -- with one page more of a ward that has room for it
  pub counted_valid : (ward : ℕ) → ward < 2 ^ header.settings.ward_bits → slice_index header.page_counts ward < 2 ^ (20 - header.settings.ward_bits) → IsStampedHeader (counted_more ward header)
  counted_valid ward own room =
      let bits = header.settings.ward_bits in
      let more = slice_index header.page_counts ward + 1 in
      let plain = valid.plain in
      record {
        plain = record {
          some = plain.some;
          few = plain.few;
          wards = plain.wards;
          entries = plain.entries;
          counts = length-set header.page_counts ward more ∙ plain.counts;
          pages = subst (AllByRecursion (IsPageCount 20 bits)) (sym (take_set (2 ^ bits) header.page_counts ward more own)) (all_set (IsPageCount 20 bits) (take (2 ^ bits) header.page_counts) ward more (omega arith, omega (arith, room)) plain.pages);
          others = subst (AllByRecursion (λ (count : ℕ). count ≡ 0)) (sym (drop-set-lt (2 ^ bits) header.page_counts ward more own)) plain.others;
        };
        stamp = valid.stamp;
        before = valid.before;
      }
