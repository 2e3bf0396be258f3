-- Where the leaves of a ward are legal, a live page's right link is the page whose low bound is where its prefix ends.
use Rattle.std.proofs.Common.{◌≡◌, ℕ, ◌-◌, ◌<◌, ◌≤◌, ◌^◌, Bool, List, length, Option, None, Some, inl, inr, refl, sym, ap, ◌∙◌, subst, arith}
use Rattle.std.proofs.lemmas.Bool.Decides.{leb_tells}
use Rattle.exh_prefix.specs.declared.prefix.TheConstants.{LIMIT}
use Rattle.exh_prefix.specs.Prefix.{Begins, low_of}
use Rattle.exh_prefix.specs.PrefixLemmas.{begins_low, begins_from_low}
use Rattle.exh_page.specs.declared.page.Page.{Page}
use Rattle.exh_page.specs.declared.page.Page.TheVariants.{Live, Forward}
use Rattle.exh_page.specs.declared.record.Record.{Record}
use Rattle.exh_page.specs.Page.{IsLive, low_bound}
use Rattle.exh_legal.specs.Growth.{IsPageOf}
use Rattle.exh_prefix.specs.LowLemmas.{begins_own_low}
use Rattle.exh_legal.specs.Pages.{IsAt, IsHome, IsRightLink}
use Rattle.exh_legal.specs.LegalParts.{IsBounded}
use Rattle.exh_legal.specs.BuiltIndex.{AreIndex, IsAimedBy, IsLinkedBy, end_of, next_of, page_number_at}
use Rattle.exh_prefix.specs.Bits.{lowest_cleared}
use Rattle.exh_legal.specs.Reasons.{HasLows, HasLeaves, HasLinks, HasTargets}
use Rattle.exh_legal.proofs.Index.{same_page}
use Rattle.exh_legal.proofs.LeafTests.{home_begun}
use Rattle.exh_legal.proofs.Tiles.{end_above, end_small}

module _ {ward : List Bool} {pages : List Page} (short : length ward ≤ LIMIT) (lows : HasLows ward pages) (leaves : HasLeaves ward pages) (bounded : (number : ℕ) (page : Page) → IsAt pages number page → IsBounded page) where
  -- a home of a pseudokey, as its prefix
  pub record IsHomeOf (pseudokey number : ℕ) (page : Page) : Type 0 where
    pub at : IsAt pages number page
    pub home : IsHome page pseudokey
    pub live : IsLive page
    pub above : low_bound page ≤ pseudokey

  home_of : (pseudokey number : ℕ) (page : Page) → pseudokey < 2 ^ 64 → IsAt pages number page → IsHome page pseudokey → IsHomeOf pseudokey number page
  home_of pseudokey number (Live prefix right records) small at home = record { at = at; home = home; live = tt; above = (begins_low prefix pseudokey (omega (arith, bounded number _ at)) small home).0 }
  home_of pseudokey number (Forward low target) small at home = absurd home

  own_home : (number : ℕ) (page : Page) → IsAt pages number page → IsLive page → IsHome page (low_bound page)
  own_home number (Live prefix right records) at live = begins_own_low prefix (bounded number _ at)
  own_home number (Forward low target) at live = absurd live

  small_low : (number : ℕ) (page : Page) → IsAt pages number page → low_bound page < 2 ^ 64
  small_low number (Live prefix right records) at = omega (arith, end_above prefix, end_small prefix (bounded number _ at))
  small_low number (Forward low target) at = bounded number _ at

  one : (pseudokey number other : ℕ) (page twin : Page) → pseudokey < 2 ^ 64 → IsAt pages number page → IsAt pages other twin → IsHome page pseudokey → IsHome twin pseudokey → number ≡ other
  one pseudokey number other page twin small at too home twin_home = leaves.one_home pseudokey small (home_begun short lows bounded leaves number page pseudokey at home) number other page twin at too home twin_home

  module _ (number : ℕ) (prefix : List Bool) (right : Option ℕ) (records : List Record) (at : IsAt pages number (Live prefix right records)) where
    few : length prefix ≤ LIMIT
    few = bounded number _ at

    own : Page
    own = Live prefix right records

    within : (pseudokey : ℕ) → low_of prefix ≤ pseudokey → pseudokey < end_of prefix → Begins prefix pseudokey
    within pseudokey above below = begins_from_low prefix pseudokey (omega (arith, few)) above below

    -- a live page with a greater low bound begins where this one ends, or later
    past : (other : ℕ) (page : Page) → IsAt pages other page → IsLive page → low_of prefix < low_bound page → end_of prefix ≤ low_bound page
    past other page is live greater = elim (leb_tells (end_of prefix) (low_bound page)) [
      | inl far ↦ far.1
      | inr near ↦
          let same = one (low_bound page) other number page (Live prefix right records) (small_low other page is) is at (own_home other page is live) (within (low_bound page) (omega arith) near.1) in
          let alike = same_page pages number page (Live prefix right records) (subst (λ n. IsAt pages n page) same is) at in
          absurd (omega (arith, greater, ap low_bound alike))
    ]

    early : (other : ℕ) (page : Page) → IsAt pages other page → IsHome page (end_of prefix) → end_of prefix < 2 ^ 64 → low_bound page < end_of prefix → ⊥
    early other (Live twin link held) is home small less =
        let reach = begins_low twin (end_of prefix) (omega (arith, bounded other _ is)) small home in
        let above = end_above prefix in
        let last : Begins twin (end_of prefix - 1) = begins_from_low twin (end_of prefix - 1) (omega (arith, bounded other _ is)) (omega (arith, less)) (omega (arith, reach.1, above)) in
        let same = one (end_of prefix - 1) other number (Live twin link held) (Live prefix right records) (omega (arith, small)) is at last (within (end_of prefix - 1) (omega (arith, above)) (omega (arith, above))) in
        let alike = same_page pages number (Live twin link held) (Live prefix right records) (subst (λ n. IsAt pages n (Live twin link held)) same is) at in
        let equal : twin ≡ prefix = cc in
        absurd (omega (arith, reach.1, ap end_of equal))
    early other (Forward low target) is home small less = home

    -- the home of the end begins there
    next_home : end_of prefix < 2 ^ 64 → Begins ward (end_of prefix) → (other : ℕ) × (page : Page) × IsAt pages other page × IsLive page × (low_bound page ≡ end_of prefix)
    next_home small begun =
        let found = leaves.home (end_of prefix) small begun in
        let home = home_of (end_of prefix) found.0 found.1 small found.2 found.3 in
        elim (leb_tells (end_of prefix) (low_bound found.1)) [
          | inl reached ↦ (found.0, found.1, found.2, home.live, omega (arith, reached.1, home.above))
          | inr before ↦ absurd (early found.0 found.1 found.2 found.3 small before.1)
        ]

    abbrev IsOwnLink : Option ℕ → Type 0
    IsOwnLink link = IsRightLink pages (Live prefix right records) link

    end_begun : (other : ℕ) (page : Page) → IsAt pages other page → end_of prefix ≤ low_bound page → Begins ward (end_of prefix)
    end_begun other page is far =
        let reach = begins_low ward (low_bound page) (omega (arith, short)) (small_low other page is) (lows.within other page is) in
        let own_reach = begins_low ward (low_of prefix) (omega (arith, short)) (small_low number _ at) (lows.within number _ at) in
        begins_from_low ward (end_of prefix) (omega (arith, short)) (omega (arith, own_reach.0, end_above prefix)) (omega (arith, far, reach.1))

    none_link : ((other : ℕ) → IsPageOf pages (end_of prefix) other → ⊥) → IsOwnLink None
    none_link none other page beyond =
        let far = past other page beyond.there beyond.live beyond.greater in
        let next = next_home (omega (arith, far, small_low other page beyond.there)) (end_begun other page beyond.there far) in
        none next.0 (next.1, next.2, next.4)

    some_link : (other : ℕ) → IsPageOf pages (end_of prefix) other → IsOwnLink (Some other)
    some_link other page =
        let small : end_of prefix < 2 ^ 64 = omega (arith, page.2, small_low other page.0 page.1) in
        let next = next_home small (end_begun other page.0 page.1 (omega (arith, page.2))) in
        let same = lows.apart next.0 other next.1 page.0 next.2 page.1 (next.4 ∙ sym page.2) in
        let alike = same_page pages other next.1 page.0 (subst (λ n. IsAt pages n next.1) same next.2) page.1 in (
          page.0,
          record { there = page.1; live = subst IsLive alike next.3; greater = omega (arith, page.2, end_above prefix) },
          λ further twin beyond. omega (arith, page.2, past further twin beyond.there beyond.live beyond.greater),
        )

    one_link : (link other : Option ℕ) → IsOwnLink link → IsOwnLink other → link ≡ other
    one_link None None is too = refl
    one_link None (Some next) is too = absurd (is next too.0 too.1)
    one_link (Some next) None is too = absurd (too next is.0 is.1)
    one_link (Some next) (Some other) is too =
        let same = lows.apart next other is.0 too.0 is.1.there too.1.there (omega (arith, is.2 other too.0 too.1, too.2 next is.0 is.1)) in
        ap (λ n. Some n) same

    module _ (entries : List (ℕ × ℕ)) (index : AreIndex entries pages) where
      indexed : IsOwnLink (next_of entries prefix)
      indexed = elim (page_number_at entries (end_of prefix)) as (λ found. page_number_at entries (end_of prefix) ≡ found → IsOwnLink found) [
        | None ↦ λ none. none_link (λ other page. let clash : None ≡ Some other = sym none ∙ (index (end_of prefix) other).1 page in cc)
        | Some other ↦ λ found. some_link other ((index (end_of prefix) other).0 found)
      ] refl

      pub next_linked : right ≡ next_of entries prefix → IsRightLink pages (Live prefix right records) right
      next_linked same = subst IsOwnLink (sym same) indexed

      pub linked_next : IsRightLink pages (Live prefix right records) right → right ≡ next_of entries prefix
      linked_next is = one_link right (next_of entries prefix) is indexed

low_small : (page : Page) → IsBounded page → low_bound page < 2 ^ 64
low_small (Live prefix right records) is = omega (arith, end_above prefix, end_small prefix is)
low_small (Forward low target) is = is

pub index_small : (pages : List Page) (entries : List (ℕ × ℕ)) → ((number : ℕ) (page : Page) → IsAt pages number page → IsBounded page) → AreIndex entries pages → (low number : ℕ) → page_number_at entries low ≡ Some number → low < 2 ^ 64
index_small pages entries bounded index low number found =
    let page = (index low number).0 found in
    omega (arith, page.2, low_small page.0 (bounded number page.0 page.1))

-- ---- all links, all targets

module _ {ward : List Bool} {pages : List Page} (short : length ward ≤ LIMIT) (lows : HasLows ward pages) (leaves : HasLeaves ward pages) (bounded : (number : ℕ) (page : Page) → IsAt pages number page → IsBounded page) (entries : List (ℕ × ℕ)) (index : AreIndex entries pages) where
  pub links_from : ((number : ℕ) (page : Page) → IsAt pages number page → IsLinkedBy entries page) → HasLinks pages
  links_from each number prefix right records is = next_linked short lows leaves bounded number prefix right records is entries index (each number _ is)

  pub links_to : HasLinks pages → (number : ℕ) (page : Page) → IsAt pages number page → IsLinkedBy entries page
  links_to links number (Live prefix right records) is = linked_next short lows leaves bounded number prefix right records is entries index (links number prefix right records is)
  links_to links number (Forward low target) is = tt

pub targets_from : (pages : List Page) (entries : List (ℕ × ℕ)) → AreIndex entries pages → ((number : ℕ) (page : Page) → IsAt pages number page → IsAimedBy entries page) → HasTargets pages
targets_from pages entries index each number low target is = (index (lowest_cleared low) target).0 (each number _ is)

pub targets_to : (pages : List Page) (entries : List (ℕ × ℕ)) → AreIndex entries pages → HasTargets pages → (number : ℕ) (page : Page) → IsAt pages number page → IsAimedBy entries page
targets_to pages entries index targets number (Live prefix right records) is = tt
targets_to pages entries index targets number (Forward low target) is = (index (lowest_cleared low) target).1 (targets number low target is)
