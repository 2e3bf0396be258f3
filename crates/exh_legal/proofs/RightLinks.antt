-- Where a live page that isn't a pseudokey's home leads to.
use Rattle.std.proofs.Common.{◌≡◌, ℕ, ◌-◌, ◌<◌, ◌≤◌, ◌^◌, Bool, List, Option, None, Some, inl, inr, refl, subst, arith}
use Rattle.std.proofs.lemmas.Bool.{cases_lt}
use Rattle.std.proofs.lemmas.Nat.{and_le_l}
use Rattle.exh_prefix.specs.Prefix.{Begins, low_of}
use Rattle.exh_prefix.specs.PrefixLemmas.{begins_low, lowest_cleared-and}
use Rattle.exh_prefix.specs.PrefixListLemmas.{one_there}
use Rattle.exh_page.specs.declared.page.Page.{Page}
use Rattle.exh_page.specs.declared.page.Page.TheVariants.{Live, Forward}
use Rattle.exh_page.specs.declared.record.Record.{Record}
use Rattle.exh_page.specs.Page.{IsLive, low_bound}
use Rattle.exh_legal.specs.Pages.{IsAt, IsHome, IsWithin, IsRightOf, IsRightLink, AreLinked}
use Rattle.exh_legal.specs.LegalLaws.{LeadsOn}
use Rattle.exh_legal.specs.LegalPlaceLemmas.{home_live, home_of_low, home_between}

-- the low bound of a home is at most the pseudokey, and what lies between it begins
home_below : (ward : List Bool) (page : Page) (pseudokey : ℕ) → IsWithin ward page → pseudokey < 2 ^ 64 → IsHome page pseudokey → low_bound page ≤ pseudokey
home_below ward (Live prefix right records) pseudokey within small home = (begins_low prefix pseudokey (omega (arith, within.1)) small home).0
home_below ward (Forward low target) pseudokey within small home = absurd home

module _ {ward : List Bool} {pages : List Page} (linked : AreLinked ward pages) (number : ℕ) (page : Page) (is : IsAt pages number page) (live : IsLive page) (pseudokey : ℕ) (small : pseudokey < 2 ^ 64) (covered : Begins ward pseudokey)
    (reached : low_bound page ≤ pseudokey) (else : IsHome page pseudokey → ⊥) where
  -- the home is to the right
  home_right : (home : ℕ) × (other : Page) × IsRightOf pages page home other × (low_bound other ≤ pseudokey)
  home_right =
      let home = linked.home pseudokey small covered in
      let within = linked.within home.0 home.1 home.2 in
      let below = home_below ward home.1 pseudokey within small home.3 in
      elim (cases_lt (low_bound page) (low_bound home.1)) [
        | inl greater ↦ (home.0, home.1, record { there = home.2; live = home_live home.1 pseudokey home.3; greater = greater }, below)
        | inr before ↦
            let begins = home_between ward home.1 pseudokey (low_bound page) within small home.3 before reached in
            let own = home_of_low page ward (linked.within number page is) live in
            let same = linked.one_home (low_bound page) home.0 number home.1 page home.2 is begins own in
            let pages_same : home.1 ≡ page = one_there pages number home.1 page (subst (λ n. IsAt pages n home.1) same home.2) is in
            absurd (else (subst (λ page. IsHome page pseudokey) pages_same home.3))
      ]

  leads : (link : Option ℕ) → IsRightLink pages page link → LeadsOn pages link pseudokey
  leads None none = let right = home_right in absurd (none right.0 right.1 right.2)
  leads (Some next) is_next =
      let right = home_right in
      (next, refl, is_next.0, is_next.1.there, omega (arith, right.3, is_next.2 right.0 right.1 right.2))

pub live_leads : {ward : List Bool} {pages : List Page} → AreLinked ward pages → (number : ℕ) (prefix : List Bool) (link : Option ℕ) (records : List Record) → IsAt pages number (Live prefix link records) → (pseudokey : ℕ) → pseudokey < 2 ^ 64
    → Begins ward pseudokey → low_of prefix ≤ pseudokey → (Begins prefix pseudokey → ⊥) → LeadsOn pages link pseudokey
live_leads linked number prefix link records is pseudokey small covered reached else =
    leads linked number (Live prefix link records) is tt pseudokey small covered reached else link (linked.links number (Live prefix link records) is)

-- a forwarding page's target has no greater low bound
pub forward_leads : {ward : List Bool} {pages : List Page} → AreLinked ward pages → (number low target : ℕ) → IsAt pages number (Forward low target) → (page : Page) × IsAt pages target page × (low_bound page ≤ low)
forward_leads linked number low target is =
    let next = linked.links number (Forward low target) is in
    let within = linked.within number (Forward low target) is in
    (next.0, next.1, omega (arith, next.2, lowest_cleared-and low within.0, and_le_l low (low - 1)))
