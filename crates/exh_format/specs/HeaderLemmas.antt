-- How many wards and pages a header counts.
use Rattle.std.proofs.Common.{◌≡◌, ℕ, ◌*◌, ◌-◌, ◌^◌, ◌≤◌, inl, inr, List, [], ◌∷◌, length, take, drop, refl, ◌∙◌, arith}
use Rattle.std.specs.List.{AllByRecursion, sum}
use Rattle.std.proofs.lemmas.Bool.{cases_lt}
use Rattle.std.proofs.lemmas.List.Sums.{sum_by-cons, sum_by-take-drop}
use Rattle.std.proofs.lemmas.Nat.{pow_below}
use Rattle.std.proofs.Math.Nat.{pow-le-pow_right}
use Rattle.exh_prefix.specs.declared.prefix.TheConstants.{LIMIT}
use Rattle.exh_format.specs.declared.header.Header.{Header}
use Rattle.exh_format.specs.FileVersion.{FileVersion}
use Rattle.exh_format.specs.HeaderImage.{IsHeader, IsPageCount}

pub few_wards : (bits : ℕ) → 2 ^ bits ≤ 16 → bits ≤ 4
few_wards bits few = elim (cases_lt 4 bits) [
  | inl more ↦ absurd (omega (arith, few, pow_below 4 bits more))
  | inr within ↦ within
]

zero_sum : (counts : List ℕ) → AllByRecursion (λ count. count ≡ 0) counts → sum counts ≡ 0
zero_sum [] all = refl
zero_sum (count ∷ counts) all = sum_by-cons (λ (count : ℕ). count) count counts ∙ (omega (arith, all.0, zero_sum counts all.1))

pub all_counted : (version : FileVersion) (header : Header) → IsHeader version header → sum (take (2 ^ header.settings.ward_bits) header.page_counts) ≡ sum header.page_counts
all_counted version header valid =
    omega (arith, sum_by-take-drop (λ (count : ℕ). count) header.page_counts (2 ^ header.settings.ward_bits), zero_sum (drop (2 ^ header.settings.ward_bits) header.page_counts) valid.others)

pub small_sum : (limit bits : ℕ) (counts : List ℕ) → limit ≤ LIMIT → AllByRecursion (IsPageCount limit bits) counts → sum counts ≤ length counts * 2 ^ LIMIT
small_sum limit bits [] small all = omega arith
small_sum limit bits (count ∷ counts) small all =
    let below : limit - bits ≤ LIMIT = omega (arith, small) in
    let most : 2 ^ (limit - bits) ≤ 2 ^ LIMIT = pow-le-pow_right {n = 2} (omega arith) below in
    omega (arith, sum_by-cons (λ (count : ℕ). count) count counts, all.0.1, most, small_sum limit bits counts small all.1)
