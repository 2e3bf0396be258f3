-- A full page that is shorter than LIMIT is split, unless memory is wanting or a page is out of reach.
use Rattle.std.proofs.Common.{◌≡◌, ℕ, ◌<◌, length, subst, arith}
use Rattle.std.proofs.lemmas.Option.{slice_get_within}
use Rattle.exh_prefix.specs.PrefixListLemmas.{one_there}
use Rattle.exh_page.specs.declared.page.Page.{Page as PageType}
use Rattle.exh_page.specs.declared.page.Page.TheVariants.{Live}
use Rattle.exh_legal.specs.Pages.{IsAt}
use Rattle.exh_ward.specs.WardFault.{SplitRefused, SplitRefusedAt, IsStoreFault}
use Rattle.exh_ward.specs.WardState.{WardState}
use Rattle.exh_ward.specs.declared.ward_fault.WardFault.{WardFault}
use Rattle.exh_ward.specs.declared.ward_fault.WardFault.TheVariants.{NoPage, NotLive, NotFull, AtLimit, NoBuddy, BuddySplit, TooMany, Worn, Memory, Page}
use Rattle.exh_file.specs.WardChange.{IsFullAt}

module _ {K : Type 0} (ward : WardState K) (at : ℕ) (full : IsFullAt ward at) where
  here : (page : PageType) → IsAt ward.pages at page → page ≡ Live full.prefix full.link full.records
  here page there = one_there ward.pages at page (Live full.prefix full.link full.records) there full.there

  within : at < length ward.pages
  within = slice_get_within ward.pages at (Live full.prefix full.link full.records) full.there

  refused_here : (fault : WardFault) → SplitRefusedAt ward.cap (Live full.prefix full.link full.records) fault → IsStoreFault fault
  refused_here NoPage refusal = absurd refusal
  refused_here NotLive refusal = absurd (refusal tt)
  refused_here NotFull refusal = absurd (omega (arith, refusal, full.full))
  refused_here AtLimit refusal = absurd (omega (arith, refusal.1, full.short))
  refused_here NoBuddy refusal = absurd refusal
  refused_here BuddySplit refusal = absurd refusal
  refused_here (TooMany sum) refusal = absurd refusal
  refused_here Worn refusal = absurd refusal
  refused_here Memory refusal = tt
  refused_here Page refusal = tt

  refused_page : (fault : WardFault) → ((page : PageType) × IsAt ward.pages at page × SplitRefusedAt ward.cap page fault) → IsStoreFault fault
  refused_page fault refusal = refused_here fault (subst (λ p. SplitRefusedAt ward.cap p fault) (here refusal.0 refusal.1) refusal.2)

  pub refused_full : (fault : WardFault) → SplitRefused ward.cap ward.pages at fault → IsStoreFault fault
  refused_full NoPage refusal = absurd (omega (arith, refusal, within))
  refused_full NotLive refusal = refused_page NotLive refusal
  refused_full NotFull refusal = refused_page NotFull refusal
  refused_full AtLimit refusal = refused_page AtLimit refusal
  refused_full NoBuddy refusal = refused_page NoBuddy refusal
  refused_full BuddySplit refusal = refused_page BuddySplit refusal
  refused_full (TooMany sum) refusal = refused_page (TooMany sum) refusal
  refused_full Worn refusal = refused_page Worn refusal
  refused_full Memory refusal = tt
  refused_full Page refusal = tt
