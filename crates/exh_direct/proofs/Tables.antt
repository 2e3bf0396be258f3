-- How many pages and entries a header counts, in every version that the code knows.
use Rattle.std.proofs.Common.{ℕ, zero, suc, ◌≡◌, ◌+◌, ◌*◌, ◌<◌, ◌≤◌, ◌^◌, get_or, take, arith}
use Rattle.std.specs.List.{sum}
use Rattle.std.proofs.Math.Nat.{pow-suc}
use Rattle.std.proofs.lemmas.List.{length-take}
use Rattle.std.proofs.lemmas.List.Sums.{sum_by_more_le, sum_by-take-le}
use Rattle.exh_prefix.specs.declared.prefix.TheConstants.{LIMIT}
use Rattle.exh_prefix.specs.declared.version.Version.{Version as KnownVersion}
use Rattle.exh_prefix.specs.declared.version.Version.TheVariants.{First, Second}
use Rattle.exh_prefix.specs.Layout.{layout}
use Rattle.exh_prefix.specs.LayoutLemmas.{layout_short}
use Rattle.exh_format.specs.declared.header.Header.{Header}
use Rattle.exh_format.specs.FileVersion.{file_version}
use Rattle.exh_format.specs.HeaderImage.{IsHeader, IsKnownHeader}
use Rattle.exh_format.specs.HeaderLemmas.{all_counted, small_sum}

pub few_pages : (header : Header) → IsKnownHeader header → sum header.page_counts ≤ 16 * 2 ^ LIMIT
few_pages header (version, valid) =
    let counts = take (2 ^ header.settings.ward_bits) header.page_counts in
    omega (
      arith,
      all_counted (file_version version) header valid,
      small_sum (layout version).limit header.settings.ward_bits counts (layout_short version) valid.pages,
      length-take (2 ^ header.settings.ward_bits) header.page_counts,
      valid.counts,
      valid.wards,
    )

pub few_before : (header : Header) (ward : ℕ) → IsKnownHeader header → sum (take ward header.page_counts) ≤ 16 * 2 ^ LIMIT
few_before header ward known = omega (arith, few_pages header known, sum_by-take-le (λ (count : ℕ). count) header.page_counts ward)

pub few_in_ward : (header : Header) (ward : ℕ) → IsKnownHeader header → ward < 16 → get_or header.page_counts ward 0 ≤ 16 * 2 ^ LIMIT
few_in_ward header ward known within = omega (arith, few_pages header known, sum_by_more_le (λ (count : ℕ). count) header.page_counts ward 0 (omega (arith, known.1.counts, within)))

pub few_entries : (version : KnownVersion) (header : Header) → IsHeader (file_version version) header → header.entry_count < 2 ^ 20
few_entries First header valid = omega (arith, valid.entries)
few_entries Second header valid = valid.entries

-- ---- halves

-- what is left of fewer than a power of two, once half of it at most is
pub halved : (left gap half : ℕ) → gap < 2 ^ left → 0 < gap → half + half ≤ gap → (less : ℕ) × (left ≡ less + 1) × (half < 2 ^ less)
halved zero gap half few some less = absurd (omega (arith, few, some))
halved (suc left) gap half few some less =
    let twice : 2 ^ suc left ≡ 2 ^ left * 2 = pow-suc 2 left in
    (left, omega arith, omega (arith, few, less, twice))
