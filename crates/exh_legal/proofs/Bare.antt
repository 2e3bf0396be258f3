-- Lists of pages that differ in their records alone have the same links and fit the same tables.
use Rattle.std.proofs.Common.{◌≡◌, ℕ, Bool, List, [], ◌∷◌, Option, None, Some, refl, sym, ap, ◌∙◌, subst, arith}
use Rattle.exh_table.specs.Table.{TableMap}
use Rattle.exh_page.specs.declared.page.Page.{Page}
use Rattle.exh_page.specs.declared.page.Page.TheVariants.{Live, Forward}
use Rattle.exh_page.specs.declared.record.Record.{Record}
use Rattle.exh_page.specs.Page.{IsLive, low_bound, with_records}
use Rattle.exh_legal.specs.BareLemmas.{at_bare, bare_at, bare_low}
use Rattle.exh_legal.specs.Fit.{IsInner, FitsPages}
use Rattle.exh_legal.specs.Growth.{IsLiveAt, IsPageOf}
use Rattle.exh_legal.specs.LegalPlaceLemmas.{bare_live, forward_of_bare, home_bare, home_full, live_of_bare}
use Rattle.exh_legal.specs.Pages.{IsAt, IsHome, IsRightOf, IsRightLink, IsTarget, bare}

pub bare_bare : (pages : List Page) → bare (bare pages) ≡ bare pages
bare_bare [] = refl
bare_bare (Live prefix right records ∷ pages) = ap (λ rest. Live prefix right [] ∷ rest) (bare_bare pages)
bare_bare (Forward low target ∷ pages) = ap (λ rest. Forward low target ∷ rest) (bare_bare pages)

pub same_low : (page twin : Page) → with_records [] page ≡ with_records [] twin → low_bound page ≡ low_bound twin
same_low page twin same = sym (bare_low page) ∙ ap low_bound same ∙ bare_low twin

pub live_twin : (twin : Page) (prefix : List Bool) (right : Option ℕ) → Live prefix right [] ≡ with_records [] twin → (held : List Record) × (twin ≡ Live prefix right held)
live_twin (Live own link held) prefix right is =
    let own_is : own ≡ prefix = cc in
    let link_is : link ≡ right = cc in
    (held, λ i. Live (own_is i) (link_is i) held)
live_twin (Forward low target) prefix right is = cc

pub same_live : (page twin : Page) → with_records [] page ≡ with_records [] twin → IsLive page → IsLive twin
same_live page twin same is = live_of_bare twin (subst IsLive same (bare_live page is))

pub same_home : (page twin : Page) (pseudokey : ℕ) → with_records [] page ≡ with_records [] twin → IsHome page pseudokey → IsHome twin pseudokey
same_home page twin pseudokey same is = home_full twin pseudokey (subst (λ p. IsHome p pseudokey) same (home_bare page pseudokey is))

-- the page of the same number, but for its records
pub twin_at : (one other : List Page) → bare one ≡ bare other → (number : ℕ) (page : Page) → IsAt one number page → (twin : Page) × IsAt other number twin × (with_records [] page ≡ with_records [] twin)
twin_at one other alike number page is = at_bare other number (with_records [] page) (subst (λ pages. IsAt pages number (with_records [] page)) alike (bare_at one number page is))

pub live_at : (one other : List Page) → bare one ≡ bare other → (prefix : List Bool) (number : ℕ) → IsLiveAt one prefix number → IsLiveAt other prefix number
live_at one other alike prefix number is =
    let twin = twin_at one other alike number _ is.2 in
    let held = live_twin twin.0 prefix is.0 twin.2 in
    (is.0, held.0, subst (IsAt other number) held.1 twin.1)

pub forward_at : (one other : List Page) → bare one ≡ bare other → (number low target : ℕ) → IsAt one number (Forward low target) → IsAt other number (Forward low target)
forward_at one other alike number low target is =
    let twin = twin_at one other alike number _ is in
    subst (IsAt other number) (forward_of_bare twin.0 low target twin.2) twin.1

pub page_of : (one other : List Page) → bare one ≡ bare other → (low number : ℕ) → IsPageOf one low number → IsPageOf other low number
page_of one other alike low number is =
    let twin = twin_at one other alike number is.0 is.1 in
    (twin.0, twin.1, sym (same_low is.0 twin.0 twin.2) ∙ is.2)

-- ---- links

beyond : (one other : List Page) → bare one ≡ bare other → (page twin : Page) → low_bound page ≡ low_bound twin → (number : ℕ) (next : Page) → IsRightOf one page number next
    → (after : Page) × IsRightOf other twin number after × (low_bound next ≡ low_bound after)
beyond one other alike page twin same number next is =
    let after = twin_at one other alike number next is.there in
    let low : low_bound next ≡ low_bound after.0 = same_low next after.0 after.2 in
    (after.0, record { there = after.1; live = same_live next after.0 after.2 is.live; greater = omega (arith, is.greater, same, low) }, low)

pub link_to : (one other : List Page) → bare one ≡ bare other → (page twin : Page) → low_bound page ≡ low_bound twin → (right : Option ℕ) → IsRightLink one page right → IsRightLink other twin right
link_to one other alike page twin same None none = λ number next is. let back = beyond other one (sym alike) twin page (sym same) number next is in none number back.0 back.1
link_to one other alike page twin same (Some right) is =
    let next = beyond one other alike page twin same right is.0 is.1 in
    (next.0, next.1, λ number after there. let back = beyond other one (sym alike) twin page (sym same) number after there in omega (arith, is.2 number back.0 back.1, back.2, next.2))

pub target_to : (one other : List Page) → bare one ≡ bare other → (low target : ℕ) → IsTarget one low target → IsTarget other low target
target_to one other alike low target is =
    let twin = twin_at one other alike target is.0 is.1 in
    (twin.0, twin.1, sym (same_low is.0 twin.0 twin.2) ∙ is.2)

-- ---- tables

inner_to : (one other : List Page) → bare one ≡ bare other → (prefix : List Bool) → IsInner one prefix → IsInner other prefix
inner_to one other alike prefix is = (is.0, is.1, live_at one other alike is.0 is.1 is.2, is.3)

pub fits_to : (one other : List Page) → bare one ≡ bare other → (ward : List Bool) (table : TableMap) → FitsPages ward table one → FitsPages ward table other
fits_to one other alike ward table fits = record {
  entries = fits.entries;
  splits = λ prefix. (
    λ is. let inner = (fits.splits prefix).0 is in (inner.0, inner_to one other alike prefix inner.1),
    λ is. (fits.splits prefix).1 (is.0, inner_to other one (sym alike) prefix is.1),
  );
  merges = λ prefix. (
    λ is. let forward = (fits.merges prefix).0 is in (forward.0, (forward.1.0, (forward.1.1.0, forward_at one other alike forward.1.0 _ forward.1.1.0 forward.1.1.1))),
    λ is. (fits.merges prefix).1 (is.0, (is.1.0, (is.1.1.0, forward_at other one (sym alike) is.1.0 _ is.1.1.0 is.1.1.1))),
  );
  rights = λ prefix right is. page_of one other alike _ right (fits.rights prefix right is);
}
