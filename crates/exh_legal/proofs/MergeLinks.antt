-- A merge leaves the pages linked.
use Rattle.std.proofs.Common.{◌≡◌, ℕ, ◌+◌, ◌<◌, ◌≤◌, ◌^◌, Bool, true, false, List, [], ◌∷◌, ◌++◌, length, slice_get, Option, None, Some, ◌⊎◌, inl, inr, refl, sym, ap, ◌∙◌, subst, arith}
use Rattle.std.proofs.lemmas.Bool.{cases_eq, cases_lt, false≢true}
use Rattle.std.proofs.lemmas.List.{length_push, same_from_push, take_all, take-append-le}
use Rattle.exh_prefix.specs.declared.prefix.TheConstants.{LIMIT}
use Rattle.exh_prefix.specs.Bits.{word_bits}
use Rattle.exh_prefix.specs.Prefix.{IsFront, Begins, low_of}
use Rattle.exh_prefix.specs.PrefixLemmas.{child_of_begun, parent_begins, front_of_front, begins_low, lowest_cleared-right_child}
use Rattle.exh_page.specs.declared.page.Page.{Page}
use Rattle.exh_page.specs.declared.page.Page.TheVariants.{Live, Forward}
use Rattle.exh_page.specs.Page.{IsLive, low_bound}
use Rattle.exh_legal.specs.Pages.{IsAt, IsHome, IsWithin, IsRightOf, IsRightLink, IsLinkedPage, AreLinked}
use Rattle.exh_legal.specs.LegalPlaceLemmas.{home_of_low}
use Rattle.exh_prefix.specs.LowLemmas.{front_shorter, low_of-small, begins_own_low, right_above, left_keeps, begins_between, low_of-HasPrefix}
use Rattle.exh_prefix.specs.PrefixListLemmas.{one_there}

-- a merge, of pages without records: the page at `right` sends callers on to the one at `at`
pub record IsJoined (pages : List Page) (at : ℕ) (prefix : List Bool) (left_link : Option ℕ) (right : ℕ) (link : Option ℕ) (new : List Page) : Type 0 where
  pub there : IsAt pages at (Live (prefix ++ false ∷ []) left_link [])
  pub buddy : IsAt pages right (Live (prefix ++ true ∷ []) link [])
  pub merged : IsAt new at (Live prefix link [])
  pub forwards : IsAt new right (Forward (low_of (prefix ++ true ∷ [])) at)
  pub others : (number : ℕ) → (number ≡ at → ⊥) → (number ≡ right → ⊥) → slice_get new number ≡ slice_get pages number

-- the ward that has both children in it has the parent in it
parent_within : (ward prefix : List Bool) → IsFront ward (prefix ++ false ∷ []) → IsFront ward (prefix ++ true ∷ []) → IsFront ward prefix
parent_within ward prefix left right = elim (cases_lt (length prefix) (length ward)) [
  | inl longer ↦
      let whole : (bit : Bool) → IsFront ward (prefix ++ bit ∷ []) → ward ≡ prefix ++ bit ∷ [] =
      λ bit front. sym front ∙ take_all (length ward) (prefix ++ bit ∷ []) (omega (arith, length_push prefix bit, longer)) in
      let same : false ≡ true = (same_from_push prefix prefix false true (sym (whole false left) ∙ whole true right)).1 in
      absurd (false≢true same)
  | inr fits ↦ sym (take-append-le (length ward) prefix (false ∷ []) fits) ∙ left
]

module _ {ward : List Bool} {pages : List Page} {at : ℕ} {prefix : List Bool} {left_link : Option ℕ} {right : ℕ} {link : Option ℕ} {new : List Page} (linked : AreLinked ward pages) (joined : IsJoined pages at prefix left_link right link new) where
  abbrev left_page : Page
  left_page = Live (prefix ++ false ∷ []) left_link []

  abbrev right_page : Page
  right_page = Live (prefix ++ true ∷ []) link []

  abbrev high : ℕ
  high = low_of (prefix ++ true ∷ [])

  abbrev parent : Page
  parent = Live prefix link []

  abbrev gone : Page
  gone = Forward high at

  pub short : length prefix < LIMIT
  short = omega (arith, length_push prefix true, (linked.within right right_page joined.buddy).1)

  above : low_of prefix < high
  above = right_above prefix short

  same_low : low_of (prefix ++ false ∷ []) ≡ low_of prefix
  same_low = left_keeps prefix short

  apart_halves : at ≡ right → ⊥
  apart_halves same =
      let both = ap low_bound (one_there pages at left_page right_page joined.there (subst (λ n. IsAt pages n right_page) (sym same) joined.buddy)) in
      omega (arith, both, same_low, above)

  -- the page at a number after the merge: the parent, the forwarding page, or the old one
  abbrev Became : ℕ → Page → Type 0
  Became number page = ((number ≡ at) × (page ≡ parent)) ⊎ (((number ≡ right) × (page ≡ gone)) ⊎ ((number ≡ at → ⊥) × (number ≡ right → ⊥) × IsAt pages number page))

  pub became : (number : ℕ) (page : Page) → IsAt new number page → Became number page
  became number page is = elim (cases_eq number at) [
    | inl here ↦ inl (here, one_there new at page parent (subst (λ n. IsAt new n page) here is) joined.merged)
    | inr else ↦ elim (cases_eq number right) [
      | inl there ↦ inr (inl (there, one_there new right page gone (subst (λ n. IsAt new n page) there is) joined.forwards))
      | inr elsewhere ↦ inr (inr (else, elsewhere, sym (joined.others number else elsewhere) ∙ is))
    ]
  ]

  -- the old page at a number: the left half, the right half, or one that stays
  abbrev Was : ℕ → Page → Type 0
  Was number page = ((number ≡ at) × (page ≡ left_page)) ⊎ (((number ≡ right) × (page ≡ right_page)) ⊎ ((number ≡ at → ⊥) × (number ≡ right → ⊥) × IsAt new number page))

  pub was : (number : ℕ) (page : Page) → IsAt pages number page → Was number page
  was number page is = elim (cases_eq number at) [
    | inl here ↦ inl (here, one_there pages at page left_page (subst (λ n. IsAt pages n page) here is) joined.there)
    | inr else ↦ elim (cases_eq number right) [
      | inl there ↦ inr (inl (there, one_there pages right page right_page (subst (λ n. IsAt pages n page) there is) joined.buddy))
      | inr elsewhere ↦ inr (inr (else, elsewhere, joined.others number else elsewhere ∙ is))
    ]
  ]

  -- each page keeps its number and low bound, and a live one other than the right half stays live
  pub stays : (number : ℕ) (page : Page) → IsAt pages number page → (after : Page) × IsAt new number after × (low_bound after ≡ low_bound page) × ((number ≡ right → ⊥) → IsLive page → IsLive after)
  stays number page is = elim (was number page is) [
    | inl here ↦ (parent, subst (λ n. IsAt new n parent) (sym here.0) joined.merged, sym same_low ∙ sym (ap low_bound here.1), λ else live. tt)
    | inr rest ↦ elim rest [
      | inl there ↦ (gone, subst (λ n. IsAt new n gone) (sym there.0) joined.forwards, sym (ap low_bound there.1), λ else live. absurd (else there.0))
      | inr old ↦ (page, old.2, refl, λ else live. live)
    ]
  ]

  -- a page of the new list has a number and a low bound of the old one
  pub old_low : (number : ℕ) (page : Page) → IsAt new number page → (old : Page) × IsAt pages number old × (low_bound old ≡ low_bound page)
  old_low number page is = elim (became number page is) [
    | inl here ↦ (left_page, subst (λ n. IsAt pages n left_page) (sym here.0) joined.there, same_low ∙ sym (ap low_bound here.1))
    | inr rest ↦ elim rest [
      | inl there ↦ (right_page, subst (λ n. IsAt pages n right_page) (sym there.0) joined.buddy, sym (ap low_bound there.1))
      | inr old ↦ (page, old.2, refl)
    ]
  ]

  -- the home of what a half begins is that half
  pub home_is_half : (pseudokey number : ℕ) (page : Page) → IsAt pages number page → IsHome page pseudokey → Begins prefix pseudokey → (number ≡ at) ⊎ (number ≡ right)
  home_is_half pseudokey number page is home begins = elim (child_of_begun prefix pseudokey (omega (arith, short)) begins) [
    | inl lower ↦ inl (linked.one_home pseudokey number at page left_page is joined.there home lower)
    | inr upper ↦ inr (linked.one_home pseudokey number right page right_page is joined.buddy home upper)
  ]

  -- no live page but the halves has a low bound from the parent's to the right half's
  none_between : (number : ℕ) (page : Page) → IsAt pages number page → IsLive page → (number ≡ at → ⊥) → (number ≡ right → ⊥) → low_of prefix ≤ low_bound page → low_bound page < high → ⊥
  none_between number page is live else elsewhere from below =
      elim (home_is_half (low_bound page) number page is (home_of_low page ward (linked.within number page is) live) (begins_between prefix (low_bound page) short from below)) [
        | inl here ↦ else here
        | inr there ↦ elsewhere there
      ]

  -- a live page elsewhere above the parent is above the right half
  beyond : (number : ℕ) (page : Page) → IsAt pages number page → IsLive page → (number ≡ at → ⊥) → (number ≡ right → ⊥) → low_of prefix < low_bound page → high < low_bound page
  beyond number page is live else elsewhere over = elim (cases_lt high (low_bound page)) [
    | inl higher ↦ higher
    | inr lower ↦ elim (cases_eq (low_bound page) high) [
      | inl same ↦ absurd (elsewhere (linked.apart number right page right_page is joined.buddy same))
      | inr differs ↦ absurd (none_between number page is live else elsewhere (omega (arith, over)) (omega (arith, lower, differs)))
    ]
  ]

  -- ---- the parts

  pub parent_in_ward : IsFront ward prefix
  parent_in_ward = parent_within ward prefix (linked.within at left_page joined.there).0 (linked.within right right_page joined.buddy).0

  pub first_else : (page : Page) → IsAt pages 0 page → low_bound page ≡ low_of ward → 0 ≡ right → ⊥
  first_else page is low here =
      let begins : Begins ward (low_of prefix) = front_of_front ward prefix (word_bits (low_of prefix)) (front_shorter ward prefix parent_in_ward) parent_in_ward (begins_own_low prefix (omega (arith, short))) in
      let least = (begins_low ward (low_of prefix) (omega (arith, front_shorter ward prefix parent_in_ward, short)) (low_of-small prefix (omega (arith, short))) begins).0 in
      let same = ap low_bound (one_there pages 0 page right_page is (subst (λ n. IsAt pages n right_page) (sym here) joined.buddy)) in
      omega (arith, least, same, low, above)

  first : (page : Page) × IsAt new 0 page × IsLive page × (low_bound page ≡ low_of ward)
  first =
      let old = linked.first in
      let after = stays 0 old.0 old.1 in
      (after.0, after.1, after.3 (first_else old.0 old.1 old.3) old.2, after.2 ∙ old.3)

  apart : (one other : ℕ) (page twin : Page) → IsAt new one page → IsAt new other twin → low_bound page ≡ low_bound twin → one ≡ other
  apart one other page twin is too same =
      let first = old_low one page is in
      let second = old_low other twin too in
      linked.apart one other first.0 second.0 first.1 second.1 (first.2 ∙ same ∙ sym second.2)

  within : (number : ℕ) (page : Page) → IsAt new number page → IsWithin ward page
  within number page is =
      let buddy = linked.within right right_page joined.buddy in
      let begins : Begins ward high = front_of_front ward (prefix ++ true ∷ []) (word_bits high) (front_shorter ward (prefix ++ true ∷ []) buddy.0) buddy.0 (begins_own_low (prefix ++ true ∷ []) buddy.1) in
      elim (became number page is) [
        | inl here ↦ subst (IsWithin ward) (sym here.1) (parent_in_ward, omega (arith, short))
        | inr rest ↦ elim rest [
          | inl there ↦ subst (IsWithin ward) (sym there.1) (low_of-small (prefix ++ true ∷ []) buddy.1, begins, low_of-HasPrefix (prefix ++ true ∷ []) buddy.1)
          | inr old ↦ linked.within number page old.2
        ]
      ]

  home : (pseudokey : ℕ) → pseudokey < 2 ^ 64 → Begins ward pseudokey → (number : ℕ) × (page : Page) × IsAt new number page × IsHome page pseudokey
  home pseudokey small begins =
      let old = linked.home pseudokey small begins in
      elim (was old.0 old.1 old.2) [
        | inl here ↦ (at, parent, joined.merged, parent_begins prefix pseudokey false (subst (λ page. IsHome page pseudokey) here.1 old.3))
        | inr rest ↦ elim rest [
          | inl there ↦ (at, parent, joined.merged, parent_begins prefix pseudokey true (subst (λ page. IsHome page pseudokey) there.1 old.3))
          | inr stay ↦ (old.0, old.1, stay.2, old.3)
        ]
      ]

  -- where the home of a pseudokey stood before
  old_home : (pseudokey number : ℕ) (page : Page) → IsAt new number page → IsHome page pseudokey
      → ((number ≡ at) × Begins prefix pseudokey) ⊎ ((number ≡ at → ⊥) × (number ≡ right → ⊥) × IsAt pages number page)
  old_home pseudokey number page is home = elim (became number page is) [
    | inl here ↦ inl (here.0, subst (λ page. IsHome page pseudokey) here.1 home)
    | inr rest ↦ elim rest [
      | inl there ↦ absurd (subst (λ page. IsHome page pseudokey) there.1 home)
      | inr old ↦ inr old
    ]
  ]

  -- the parent and another page can't both be its home
  clash : (pseudokey number : ℕ) (page : Page) → Begins prefix pseudokey → (number ≡ at → ⊥) → (number ≡ right → ⊥) → IsAt pages number page → IsHome page pseudokey → ⊥
  clash pseudokey number page begins else elsewhere is home = elim (home_is_half pseudokey number page is home begins) [
    | inl here ↦ else here
    | inr there ↦ elsewhere there
  ]

  one_home : (pseudokey one other : ℕ) (page twin : Page) → IsAt new one page → IsAt new other twin → IsHome page pseudokey → IsHome twin pseudokey → one ≡ other
  one_home pseudokey one other page twin is too home twin_home = elim (old_home pseudokey one page is home) [
    | inl a ↦ elim (old_home pseudokey other twin too twin_home) [
      | inl b ↦ a.0 ∙ sym b.0
      | inr b ↦ absurd (clash pseudokey other twin a.1 b.0 b.1 b.2 twin_home)
    ]
    | inr a ↦ elim (old_home pseudokey other twin too twin_home) [
      | inl b ↦ absurd (clash pseudokey one page b.1 a.0 a.1 a.2 home)
      | inr b ↦ linked.one_home pseudokey one other page twin a.2 b.2 home twin_home
    ]
  ]

  -- ---- links

  -- a live page after the merge: the parent, or an old one elsewhere
  live_after : (number : ℕ) (page : Page) → IsAt new number page → IsLive page → (low_bound page ≡ low_of prefix) ⊎ ((number ≡ at → ⊥) × (number ≡ right → ⊥) × IsAt pages number page)
  live_after number page is live = elim (became number page is) [
    | inl here ↦ inl (ap low_bound here.1)
    | inr rest ↦ elim rest [
      | inl there ↦ absurd (subst IsLive there.1 live)
      | inr old ↦ inr old
    ]
  ]

  -- what is to the right of the parent was to the right of the right half
  right_of_parent : (number : ℕ) (other : Page) → IsRightOf new parent number other → IsRightOf pages right_page number other
  right_of_parent number other is_right = elim (live_after number other is_right.there is_right.live) [
    | inl same ↦ absurd (omega (arith, is_right.greater, same))
    | inr old ↦ record { there = old.2; live = is_right.live; greater = beyond number other old.2 is_right.live old.0 old.1 is_right.greater }
  ]

  parent_link : (next : Option ℕ) → IsRightLink pages right_page next → IsRightLink new parent next
  parent_link None none = λ number other is_right. none number other (right_of_parent number other is_right)
  parent_link (Some next) is =
      let page = is.0 in
      let after = stays next page is.1.there in
      let elsewhere : next ≡ right → ⊥ = λ there.
      let same = ap low_bound (one_there pages right page right_page (subst (λ n. IsAt pages n page) there is.1.there) joined.buddy) in
      omega (arith, is.1.greater, same) in (
        after.0,
        record { there = after.1; live = after.3 elsewhere is.1.live; greater = omega (arith, is.1.greater, above, after.2) },
        λ number other is_right. omega (arith, after.2, is.2 number other (right_of_parent number other is_right)),
      )

  -- a live page elsewhere
  module _ (number : ℕ) (page : Page) (is_there : IsAt pages number page) (live : IsLive page) (else : number ≡ at → ⊥) (elsewhere : number ≡ right → ⊥) where
    -- what is to its right after the merge is no nearer than what was
    nearest : (bound other_number : ℕ) (other : Page) → IsRightOf new page other_number other → ((old_number : ℕ) (old : Page) → IsRightOf pages page old_number old → bound ≤ low_bound old) → bound ≤ low_bound other
    nearest bound other_number other is_right least = elim (live_after other_number other is_right.there is_right.live) [
      | inl same ↦ omega (arith, same, same_low, least at left_page (record { there = joined.there; live = tt; greater = omega (arith, is_right.greater, same, same_low) }))
      | inr old ↦ least other_number other (record { there = old.2; live = is_right.live; greater = is_right.greater })
    ]

    -- its right link isn't the right half, since the left one is nearer
    not_right : (next : ℕ) (target : Page) → IsRightOf pages page next target → ((old_number : ℕ) (old : Page) → IsRightOf pages page old_number old → low_bound target ≤ low_bound old) → next ≡ right → ⊥
    not_right next target is_right least there =
        let high_is : low_bound target ≡ high = ap low_bound (one_there pages right target right_page (subst (λ n. IsAt pages n target) there is_right.there) joined.buddy) in
        elim (cases_lt (low_bound page) (low_of prefix)) [
          | inl lower ↦ absurd (omega (arith, high_is, above, same_low, least at left_page (record { there = joined.there; live = tt; greater = omega (arith, lower, same_low) })))
          | inr over ↦ absurd (none_between number page is_there live else elsewhere over (omega (arith, is_right.greater, high_is)))
        ]

    other_link : (next : Option ℕ) → IsRightLink pages page next → IsRightLink new page next
    other_link None none = λ other_number other is_right.
        absurd (omega (arith, nearest (low_bound other + 1) other_number other is_right (λ old_number old is_old. absurd (none old_number old is_old))))
    other_link (Some next) is =
        let after = stays next is.0 is.1.there in (
          after.0,
          record { there = after.1; live = after.3 (not_right next is.0 is.1 is.2) is.1.live; greater = omega (arith, is.1.greater, after.2) },
          λ other_number other is_right. omega (arith, after.2, nearest (low_bound is.0) other_number other is_right is.2),
        )

  -- a page that isn't merged leads where it led
  leads : (number : ℕ) (page : Page) → IsAt pages number page → (number ≡ at → ⊥) → (number ≡ right → ⊥) → IsLinkedPage pages page → IsLinkedPage new page
  leads number (Live own next records) is else elsewhere linked = other_link number (Live own next records) is tt else elsewhere next linked
  leads number (Forward low target) is else elsewhere linked =
      let after = stays target linked.0 linked.1 in
      (after.0, after.1, after.2 ∙ linked.2)

  links : (number : ℕ) (page : Page) → IsAt new number page → IsLinkedPage new page
  links number page is = elim (became number page is) [
    | inl here ↦ subst (IsLinkedPage new) (sym here.1) (parent_link link (linked.links right right_page joined.buddy))
    | inr rest ↦ elim rest [
      | inl there ↦ subst (IsLinkedPage new) (sym there.1) (parent, joined.merged, sym (lowest_cleared-right_child prefix (omega (arith, short))))
      | inr old ↦ leads number page old.2 old.0 old.1 (linked.links number page old.2)
    ]
  ]

  pub joined_linked : AreLinked ward new
  joined_linked = record { first = first; apart = apart; within = within; home = home; one_home = one_home; links = links }
