-- What linked pages say of pages with their records.
use Rattle.std.proofs.Common.{◌≡◌, ℕ, zero, suc, ◌-◌, ◌^◌, ◌<◌, ◌≤◌, Bool, List, [], length, None, Some, sym, ap, ◌∙◌, subst, arith}
use Rattle.std.proofs.lemmas.Nat.{and_le_r}
use Rattle.exh_prefix.specs.declared.prefix.TheConstants.{LIMIT}
use Rattle.exh_prefix.specs.Bits.{lowest_cleared}
use Rattle.exh_prefix.specs.Prefix.{HasPrefix, low_of}
use Rattle.exh_prefix.specs.PrefixLemmas.{begins_low, lowest_cleared-and}
use Rattle.exh_page.specs.declared.page.Page.{Page}
use Rattle.exh_page.specs.declared.page.Page.TheVariants.{Live, Forward}
use Rattle.exh_page.specs.declared.record.Record.{Record}
use Rattle.exh_page.specs.Page.{IsLive, low_bound, with_records}
use Rattle.exh_legal.specs.BareLemmas.{bare_at, at_bare, bare_low}
use Rattle.exh_prefix.specs.LowLemmas.{front_shorter}
use Rattle.exh_legal.specs.Pages.{IsAt, IsHome, IsWithin, IsRightLink, AreLinked, bare}
use Rattle.exh_legal.specs.LegalPlaceLemmas.{bare_live, home_bare, home_between, home_of_low, live_of_bare}
use Rattle.exh_prefix.specs.PrefixListLemmas.{one_there}

within_full : (ward : List Bool) (page : Page) → IsWithin ward (with_records [] page) → IsWithin ward page
within_full ward (Live prefix right records) within = within
within_full ward (Forward low target) within = within

ward_short : (ward : List Bool) (page : Page) → IsWithin ward page → IsLive page → length ward ≤ LIMIT
ward_short ward (Live prefix right records) within live = omega (arith, front_shorter ward prefix within.0, within.1)
ward_short ward (Forward low target) within live = absurd live

-- the live page with the next greater low bound
pub record IsNext (pages : List Page) (page : Page) (number : ℕ) (next : Page) : Type 0 where
  pub there : IsAt pages number next
  pub live : IsLive next
  pub greater : low_bound page < low_bound next
  pub least : (other : ℕ) (beyond : Page) → IsAt pages other beyond → IsLive beyond → low_bound page < low_bound beyond → low_bound next ≤ low_bound beyond

module _ (ward : List Bool) (pages : List Page) (linked : AreLinked ward (bare pages)) where
  pub apart : (one other : ℕ) (page twin : Page) → IsAt pages one page → IsAt pages other twin → low_bound page ≡ low_bound twin → one ≡ other
  apart one other page twin is is_twin same =
      linked.apart one other (with_records [] page) (with_records [] twin) (bare_at pages one page is) (bare_at pages other twin is_twin) (bare_low page ∙ same ∙ sym (bare_low twin))

  pub one_home : (pseudokey one other : ℕ) (page twin : Page) → IsAt pages one page → IsAt pages other twin → IsHome page pseudokey → IsHome twin pseudokey → one ≡ other
  one_home pseudokey one other page twin is is_twin home home_twin =
      linked.one_home pseudokey one other (with_records [] page) (with_records [] twin) (bare_at pages one page is) (bare_at pages other twin is_twin) (home_bare page pseudokey home) (home_bare twin pseudokey home_twin)

  pub within_at : (number : ℕ) (page : Page) → IsAt pages number page → IsWithin ward page
  within_at number page is = within_full ward page (linked.within number (with_records [] page) (bare_at pages number page is))

  pub first_page : (page : Page) × IsAt pages 0 page × IsLive page × (low_bound page ≡ low_of ward)
  first_page =
      let first = linked.first in
      let full = at_bare pages 0 first.0 first.1 in
      (full.0, full.1, live_of_bare full.0 (subst IsLive full.2 first.2), sym (bare_low full.0) ∙ sym (ap low_bound full.2) ∙ first.3)

  pub ward_few : length ward ≤ LIMIT
  ward_few = let first = first_page in ward_short ward first.0 (within_at 0 first.0 first.1) first.2

  -- ---- forwarding pages

  -- none has the low bound 0, which is page 0's where it is of the ward
  pub forward_above : (number low target : ℕ) → IsAt pages number (Forward low target) → 0 < low
  forward_above zero low target is =
      let first = first_page in
      absurd (subst IsLive (one_there pages 0 first.0 (Forward low target) first.1 is) first.2)
  forward_above (suc number) zero target is =
      let first = first_page in
      let within = within_at (suc number) (Forward zero target) is in
      let low_is : low_of ward ≡ 0 = omega (arith, (begins_low ward 0 (omega (arith, ward_few)) within.0 within.1).0) in
      let same : suc number ≡ 0 = apart (suc number) 0 (Forward zero target) first.0 is first.1 (sym (first.3 ∙ low_is)) in
      absurd (omega (arith, same))
  forward_above (suc number) (suc low) target is = omega arith

  pub target_cleared : (number low target : ℕ) → IsAt pages number (Forward low target) → (page : Page) × IsAt pages target page × (low_bound page ≡ lowest_cleared low)
  target_cleared number low target is =
      let next = linked.links number (Forward low target) (bare_at pages number (Forward low target) is) in
      let full = at_bare pages target next.0 next.1 in
      (full.0, full.1, sym (bare_low full.0) ∙ sym (ap low_bound full.2) ∙ next.2)

  pub forward_prefix : (number low target : ℕ) → IsAt pages number (Forward low target) → (low < 2 ^ 64) × HasPrefix LIMIT low
  forward_prefix number low target is = let within = within_at number (Forward low target) is in (within.0, within.2)

  -- the target's low bound is lower
  pub target_below : (number low target : ℕ) → IsAt pages number (Forward low target) → (page : Page) × IsAt pages target page × (low_bound page < low)
  target_below number low target is =
      let next = target_cleared number low target is in
      let small = (forward_prefix number low target is).0 in
      (next.0, next.1, omega (arith, next.2, lowest_cleared-and low small, and_le_r low (low - 1), forward_above number low target is))

  -- ---- right links

  next_from : (prefix : List Bool) (records : List Record) (right : ℕ) → IsRightLink (bare pages) (Live prefix (Some right) []) (Some right) → (next : Page) × IsNext pages (Live prefix (Some right) records) right next
  next_from prefix records right link =
      let full = at_bare pages right link.0 link.1.there in
      let low_is : low_bound link.0 ≡ low_bound full.0 = ap low_bound full.2 ∙ bare_low full.0 in (
        full.0,
        record {
          there = full.1;
          live = live_of_bare full.0 (subst IsLive full.2 link.1.live);
          greater = omega (arith, link.1.greater, low_is);
          least = λ other beyond is live above.
              omega (arith, low_is, bare_low beyond, link.2 other (with_records [] beyond) (record { there = bare_at pages other beyond is; live = bare_live beyond live; greater = omega (arith, above, bare_low beyond) }));
        },
      )

  pub next_live : (number : ℕ) (prefix : List Bool) (right : ℕ) (records : List Record) → IsAt pages number (Live prefix (Some right) records) → (next : Page) × IsNext pages (Live prefix (Some right) records) right next
  next_live number prefix right records is = next_from prefix records right (linked.links number (Live prefix (Some right) []) (bare_at pages number (Live prefix (Some right) records) is))

  none_from : (prefix : List Bool) (records : List Record) → IsRightLink (bare pages) (Live prefix None []) None → (other : ℕ) (beyond : Page) → IsAt pages other beyond → IsLive beyond → low_of prefix < low_bound beyond → ⊥
  none_from prefix records none other beyond is live above =
      none other (with_records [] beyond) (record { there = bare_at pages other beyond is; live = bare_live beyond live; greater = omega (arith, above, bare_low beyond) })

  -- a live page without a right link is the last
  pub last_live : (number : ℕ) (prefix : List Bool) (records : List Record) → IsAt pages number (Live prefix None records) → (other : ℕ) (beyond : Page) → IsAt pages other beyond → IsLive beyond → low_of prefix < low_bound beyond → ⊥
  last_live number prefix records is = none_from prefix records (linked.links number (Live prefix None []) (bare_at pages number (Live prefix None records) is))

  -- ---- homes

  -- no other live page has a low bound between its home's and the pseudokey
  pub none_beyond_home : (pseudokey home : ℕ) (page : Page) → IsAt pages home page → pseudokey < 2 ^ 64 → IsHome page pseudokey → (other : ℕ) (beyond : Page) → IsAt pages other beyond → IsLive beyond → low_bound page < low_bound beyond → low_bound beyond ≤ pseudokey → ⊥
  none_beyond_home pseudokey home page is small begins other beyond is_beyond live above below =
      let begun = home_between ward page pseudokey (low_bound beyond) (within_at home page is) small begins (omega (arith, above)) below in
      let own = home_of_low beyond ward (within_at other beyond is_beyond) live in
      let same : home ≡ other = one_home (low_bound beyond) home other page beyond is is_beyond begun own in
      let pages_same : page ≡ beyond = one_there pages other page beyond (subst (λ n. IsAt pages n page) same is) is_beyond in
      omega (arith, above, ap low_bound pages_same)
