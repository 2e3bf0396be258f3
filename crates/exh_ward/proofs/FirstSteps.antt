-- The way to the first live page, and the count from there, so far.
use Rattle.std.proofs.Common.{◌≡◌, ℕ, suc, ◌+◌, ◌-◌, ◌<◌, ◌≤◌, ◌^◌, Bool, List, [], ◌∷◌, ◌++◌, length, Option, None, Some, ◌⊎◌, inl, inr, refl, sym, ap, ◌∙◌, subst, arith}
use Rattle.std.proofs.lemmas.List.{length_push}
use Rattle.std.proofs.lemmas.List.Sums.{count_by-le-length}
use Rattle.std.proofs.lemmas.Option.{slice_get_within}
use Rattle.std.proofs.Math.Pow.{pow_mono}
use Rattle.exh_prefix.specs.declared.prefix.TheConstants.{LIMIT}
use Rattle.exh_prefix.specs.Prefix.{low_of}
use Rattle.exh_page.specs.declared.page.Page.{Page}
use Rattle.exh_page.specs.declared.page.Page.TheVariants.{Live, Forward}
use Rattle.exh_page.specs.declared.page_head.PageHead.{PageHead}
use Rattle.exh_page.specs.declared.page_head.PageHead.TheVariants.{Live as LiveHead, Forward as ForwardHead}
use Rattle.exh_page.specs.Page.{IsLive, low_bound}
use Rattle.exh_page.specs.PageHead.{head_of}
use Rattle.exh_legal.specs.LegalLaws.{PagesAreFew}
use Rattle.exh_legal.specs.Pages.{IsAt, AreLinked, bare}
use Rattle.exh_ward.specs.WardFault.{PageRefused}
use Rattle.exh_ward.specs.WardState.{WardState, IsSound, IsUnchanged, own_prefix}
use Rattle.exh_ward.specs.declared.ward_fault.WardFault.{WardFault}
use Rattle.exh_ward.specs.declared.ward_fault.WardFault.TheVariants.{NoPage, Memory, Page as OutOfReach}
use Rattle.exh_ward.specs.Distance.{IsForwarded, is_live_between, live_between}
use Rattle.exh_ward.specs.FirstLive.{IsLivePage, IsFirstLive}
use Rattle.exh_ward.specs.LinkLemmas.{IsNext, last_live, next_live, target_cleared, ward_few}
use Rattle.exh_ward.specs.LiveCountLemmas.{none_between, one_less_right}
use Rattle.exh_ward.specs.DistanceLemmas.{chain_few}
use Rattle.exh_prefix.specs.PrefixListLemmas.{one_there}

-- as many forwarding pages as were counted lead to the page
abbrev pub HasForwarded : List Page → ℕ → ℕ → ℕ → Type 0
HasForwarded pages from forwards at = (over : List ℕ) × IsForwarded pages from over at × (forwards ≡ length over)

-- the live pages so far, and those to the right of the last, are all that are to be counted
abbrev pub HasCounted : List Page → ℕ → ℕ → ℕ → Option ℕ → Type 0
HasCounted pages low pseudokey count next = (number last : ℕ) × IsLivePage pages number last next × (live_between pages low pseudokey ≡ count + live_between pages last pseudokey)

-- ---- what a page's head tells

live_head : (pages : List Page) (number : ℕ) (prefix : List Bool) (right : Option ℕ) (count : ℕ) (page : Page) → IsAt pages number page → LiveHead prefix right count ≡ head_of page → IsLivePage pages number (low_of prefix) right
live_head pages number prefix right count (Live own link records) is same =
    let right_is : link ≡ right = cc in
    let prefix_is : prefix ≡ own = cc in
    record { prefix = own; records = records; there = is ∙ ap (λ link. Some (Live own link records)) right_is; low_is = ap low_of prefix_is }
live_head pages number prefix right count (Forward bound target) is same = cc

forward_head : (pages : List Page) (number low target : ℕ) (page : Page) → IsAt pages number page → ForwardHead low target ≡ head_of page → (bound : ℕ) × IsAt pages number (Forward bound target)
forward_head pages number low target (Live prefix link records) is same = cc
forward_head pages number low target (Forward bound other) is same =
    let target_is : other ≡ target = cc in
    (bound, is ∙ ap (λ n. Some (Forward bound n)) target_is)

-- ---- one forwarding page more

chain_push : (pages : List Page) (from : ℕ) (over : List ℕ) (at low target : ℕ) → IsForwarded pages from over at → IsAt pages at (Forward low target) → IsForwarded pages from (over ++ at ∷ []) target
chain_push pages from [] at low target chain is = (chain, (low, target, is, refl))
chain_push pages from (number ∷ over) at low target chain is = (chain.0, (chain.1.0, chain.1.1, chain.1.2, chain_push pages chain.1.1 over at low target chain.1.3 is))

pub forwarded_more : (pages : List Page) (from forwards at low target : ℕ) → HasForwarded pages from forwards at → IsAt pages at (Forward low target) → HasForwarded pages from (forwards + 1) target
forwarded_more pages from forwards at low target has is = (has.0 ++ at ∷ [], chain_push pages from has.0 at low target has.1 is, omega (arith, has.2, length_push has.0 at))

module _ (ward : List Bool) (pages : List Page) (linked : AreLinked ward (bare pages)) where
  pub forwarded_few : (from forwards at : ℕ) → HasForwarded pages from forwards at → forwards ≤ LIMIT
  forwarded_few from forwards at has = omega (arith, has.2, chain_few ward pages linked from has.0 at has.1)

  -- what forwarding leads to is there
  led_to : (from : ℕ) (over : List ℕ) (to : ℕ) → IsForwarded pages from over to → (from ≡ to) ⊎ ((page : Page) × IsAt pages to page)
  led_to from [] to chain = inl chain
  led_to from (number ∷ over) to chain =
      let target = target_cleared ward pages linked number chain.1.0 chain.1.1 chain.1.2 in
      elim (led_to chain.1.1 over to chain.1.3) [
        | inl same ↦ inr (target.0, subst (λ n. IsAt pages n target.0) same target.1)
        | inr there ↦ inr there
      ]

  none_from : (from at : ℕ) → (from ≡ at) ⊎ ((page : Page) × IsAt pages at page) → length pages ≤ at → length pages ≤ from
  none_from from at (inl same) beyond = omega (arith, same, beyond)
  none_from from at (inr there) beyond = absurd (omega (arith, slice_get_within pages at there.0 there.1, beyond))

  -- so only the first page may be missing
  pub refused_from : (from forwards at : ℕ) → HasForwarded pages from forwards at → (fault : WardFault) → PageRefused pages at fault → PageRefused pages from fault
  refused_from from forwards at has NoPage refused = none_from from at (led_to from has.0 at has.1) refused
  refused_from from forwards at has Memory refused = tt
  refused_from from forwards at has OutOfReach refused = tt
  refused_from from forwards at has fault refused = refused

-- ---- a step of the loops, over the ward as it was

abbrev pub IsHeadAt : List Page → ℕ → PageHead → Type 0
IsHeadAt pages number head = (page : Page) × IsAt pages number page × (head ≡ head_of page)

pub live_from : (pages : List Page) (number low count : ℕ) (prefix : List Bool) (right : Option ℕ) (head : PageHead) → IsHeadAt pages number head → head ≡ LiveHead prefix right count → low ≡ low_of prefix → IsLivePage pages number low right
live_from pages number low count prefix right head is same low_is =
    subst (λ low. IsLivePage pages number low right) (sym low_is) (live_head pages number prefix right count is.0 is.1 (sym same ∙ is.2))

module _ {K : Type 0} (old now : WardState K) where
  pub pages_same : now ≡ old → now.pages ≡ old.pages
  pages_same same = ap (λ (w : WardState K). w.pages) same

  pub pages_unchanged : IsUnchanged old now → now.pages ≡ old.pages
  pages_unchanged same = ap (λ (w : WardState K). w.pages) same

  pub head_before : now ≡ old → (number : ℕ) (head : PageHead) → IsHeadAt now.pages number head → IsHeadAt old.pages number head
  head_before same number head is = subst (λ pages. IsHeadAt pages number head) (pages_same same) is

  pub live_before : now ≡ old → (number low : ℕ) (right : Option ℕ) → IsLivePage now.pages number low right → IsLivePage old.pages number low right
  live_before same number low right is = subst (λ pages. IsLivePage pages number low right) (pages_same same) is

pub linked_before : {K : Type 0} (pseudo : List ℕ → ℕ) (new : WardState K) (pages : List Page) → IsSound pseudo new → new.pages ≡ pages → AreLinked (own_prefix new) (bare pages)
linked_before pseudo new pages sound same = subst (λ pages. AreLinked (own_prefix new) (bare pages)) same sound.legal.legal.legal.linked

pub first_found : (pages : List Page) (from forwards at low count : ℕ) (prefix : List Bool) (right : Option ℕ) (head : PageHead) → HasForwarded pages from forwards at → IsHeadAt pages at head → head ≡ LiveHead prefix right count → low ≡ low_of prefix
    → IsFirstLive pages from (record { forwards = forwards; low = low; right = right })
first_found pages from forwards at low count prefix right head has is same low_is = record {
  over = has.0;
  live = at;
  forwarded = has.1;
  counted = has.2;
  is = live_from pages at low count prefix right head is same low_is;
}

pub goes_forward : (pages : List Page) (from forwards at low target : ℕ) (head : PageHead) → HasForwarded pages from forwards at → IsHeadAt pages at head → head ≡ ForwardHead low target → HasForwarded pages from (forwards + 1) target
goes_forward pages from forwards at low target head has is same =
    let forward = forward_head pages at low target is.0 is.1 (sym same ∙ is.2) in
    forwarded_more pages from forwards at forward.0 target has forward.1

-- ---- the count

live_page_of : (pages : List Page) (number : ℕ) (page : Page) → IsAt pages number page → IsLive page → (low : ℕ) × (right : Option ℕ) × IsLivePage pages number low right
live_page_of pages number (Live prefix right records) is live = (low_of prefix, right, record { prefix = prefix; records = records; there = is; low_is = refl })
live_page_of pages number (Forward low target) is live = absurd live

module _ (ward : List Bool) (pages : List Page) (linked : AreLinked ward (bare pages)) where
  -- the next live page
  next_of : (number last next : ℕ) (is : IsLivePage pages number last (Some next)) → (page : Page) × IsNext pages (Live is.prefix (Some next) is.records) next page
  next_of number last next is = next_live ward pages linked number is.prefix next is.records is.there

  pub next_lives : (low pseudokey count next : ℕ) (link : Option ℕ) → link ≡ Some next → HasCounted pages low pseudokey count link → (bound : ℕ) × (right : Option ℕ) × IsLivePage pages next bound right
  next_lives low pseudokey count next link link_is has =
      let counted = subst (HasCounted pages low pseudokey count) link_is has in
      let found = next_of counted.0 counted.1 next counted.2 in
      live_page_of pages next found.0 found.1.there found.1.live

  low_there : (number low : ℕ) (right : Option ℕ) (page : Page) → IsLivePage pages number low right → IsAt pages number page → low ≡ low_bound page
  low_there number low right page is there = is.low_is ∙ ap low_bound (one_there pages number (Live is.prefix right is.records) page is.there there)

  -- it is beyond the pseudokey
  pub counted_beyond : (low pseudokey count next bound : ℕ) (link right : Option ℕ) → link ≡ Some next → HasCounted pages low pseudokey count link → IsLivePage pages next bound right → pseudokey < bound → live_between pages low pseudokey ≡ count
  counted_beyond low pseudokey count next bound link right link_is has is beyond =
      let counted = subst (HasCounted pages low pseudokey count) link_is has in
      let found = next_of counted.0 counted.1 next counted.2 in
      let low_is = low_there next bound right found.0 is found.1.there in
      let none : live_between pages counted.1 pseudokey ≡ 0 = none_between pages counted.1 pseudokey (λ other page is_page live above within.
      omega (arith, found.1.least other page is_page live (omega (arith, above, counted.2.low_is)), low_is, beyond, within)) in
      omega (arith, counted.3, none)

  -- there is none
  counted_none : (low pseudokey count : ℕ) → HasCounted pages low pseudokey count None → live_between pages low pseudokey ≡ count
  counted_none low pseudokey count counted =
      let is = counted.2 in
      let none : live_between pages counted.1 pseudokey ≡ 0 = none_between pages counted.1 pseudokey (λ other page is_page live above within.
      last_live ward pages linked counted.0 is.prefix is.records is.there other page is_page live (omega (arith, above, is.low_is))) in
      omega (arith, counted.3, none)

  pub counted_all : (low pseudokey count : ℕ) (next : Option ℕ) → HasCounted pages low pseudokey count next → ((number : ℕ) → next ≡ Some number → ⊥) → live_between pages low pseudokey ≡ count
  counted_all low pseudokey count None counted none = counted_none low pseudokey count counted
  counted_all low pseudokey count (Some next) counted none = absurd (none next refl)

  -- it is counted
  pub counted_more : (low pseudokey count next bound : ℕ) (link right : Option ℕ) → link ≡ Some next → HasCounted pages low pseudokey count link → IsLivePage pages next bound right → bound ≤ pseudokey → HasCounted pages low pseudokey (count + 1) right
  counted_more low pseudokey count next bound link right link_is has is within =
      let counted = subst (HasCounted pages low pseudokey count) link_is has in
      let found = next_of counted.0 counted.1 next counted.2 in
      let low_is = low_there next bound right found.0 is found.1.there in
      let less : live_between pages (low_bound (Live counted.2.prefix (Some next) counted.2.records)) pseudokey ≡ suc (live_between pages (low_bound found.0) pseudokey) =
      one_less_right ward pages linked pseudokey (Live counted.2.prefix (Some next) counted.2.records) next found.0 found.1 (omega (arith, low_is, within)) in
      let last_is : live_between pages counted.1 pseudokey ≡ live_between pages (low_of counted.2.prefix) pseudokey = ap (λ low. live_between pages low pseudokey) counted.2.low_is in
      let bound_is : live_between pages bound pseudokey ≡ live_between pages (low_bound found.0) pseudokey = ap (λ low. live_between pages low pseudokey) low_is in
      (next, bound, is, omega (arith, counted.3, last_is, less, bound_is))

  pub between_few : PagesAreFew → (low pseudokey : ℕ) → live_between pages low pseudokey ≤ 2 ^ LIMIT
  between_few pages_few low pseudokey =
      let few = pages_few ward pages (ward_few ward pages linked) linked in
      let short : LIMIT - length ward ≤ LIMIT = omega arith in
      let most : 2 ^ (LIMIT - length ward) ≤ 2 ^ LIMIT = pow_mono short in
      omega (arith, few, most, count_by-le-length (is_live_between low pseudokey) pages)
