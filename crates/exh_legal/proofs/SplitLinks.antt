-- A split leaves the pages linked.
use Rattle.std.proofs.Common.{◌≡◌, ℕ, ◌+◌, ◌<◌, ◌≤◌, ◌^◌, Bool, true, false, List, [], ◌∷◌, ◌++◌, length, slice_get, Option, None, Some, ◌⊎◌, inl, inr, refl, sym, ap, ◌∙◌, subst, arith}
use Rattle.std.proofs.lemmas.Bool.{cases_eq, cases_lt}
use Rattle.exh_prefix.specs.declared.prefix.TheConstants.{LIMIT}
use Rattle.exh_prefix.specs.Prefix.{Begins, low_of}
use Rattle.exh_prefix.specs.PrefixLemmas.{child_of_begun, one_child_begins, parent_begins}
use Rattle.exh_page.specs.declared.page.Page.{Page}
use Rattle.exh_page.specs.declared.page.Page.TheVariants.{Live, Forward}
use Rattle.exh_page.specs.Page.{IsLive, low_bound}
use Rattle.exh_legal.specs.Pages.{IsAt, IsHome, IsWithin, IsRightOf, IsRightLink, IsLinkedPage, AreLinked}
use Rattle.exh_legal.specs.LegalPlaceLemmas.{home_live, home_of_low}
use Rattle.exh_prefix.specs.LowLemmas.{front_of_longer, right_above, left_keeps, child_short, begins_between}
use Rattle.exh_prefix.specs.PrefixListLemmas.{one_there}

-- a split, of pages without records: the page at `right` takes the right child
pub record IsParted (pages : List Page) (at : ℕ) (prefix : List Bool) (link : Option ℕ) (right : ℕ) (new : List Page) : Type 0 where
  pub there : IsAt pages at (Live prefix link [])
  pub short : length prefix < LIMIT
  pub left : IsAt new at (Live (prefix ++ false ∷ []) (Some right) [])
  pub right_half : IsAt new right (Live (prefix ++ true ∷ []) link [])
  pub others : (number : ℕ) → (number ≡ at → ⊥) → (number ≡ right → ⊥) → slice_get new number ≡ slice_get pages number
  -- what stood at `right`, if anything, was a forwarding page of the right child's low bound, and nothing else has that
  pub was : (page : Page) → IsAt pages right page → (IsLive page → ⊥) × (low_bound page ≡ low_of (prefix ++ true ∷ []))
  pub alone : (number : ℕ) (page : Page) → IsAt pages number page → low_bound page ≡ low_of (prefix ++ true ∷ []) → number ≡ right

module _ {ward : List Bool} {pages : List Page} {at : ℕ} {prefix : List Bool} {link : Option ℕ} {right : ℕ} {new : List Page} (linked : AreLinked ward pages) (parted : IsParted pages at prefix link right new) where
  abbrev parent : Page
  parent = Live prefix link []

  abbrev left_page : Page
  left_page = Live (prefix ++ false ∷ []) (Some right) []

  abbrev right_page : Page
  right_page = Live (prefix ++ true ∷ []) link []

  abbrev high : ℕ
  high = low_of (prefix ++ true ∷ [])

  above : low_of prefix < high
  above = right_above prefix parted.short

  same_low : low_of (prefix ++ false ∷ []) ≡ low_of prefix
  same_low = left_keeps prefix parted.short

  pub apart_halves : at ≡ right → ⊥
  apart_halves same = (parted.was parent (subst (λ n. IsAt pages n parent) same parted.there)).0 tt

  -- the page at a number after the split: the left half, the right half, or the old one
  abbrev Became : ℕ → Page → Type 0
  Became number page = ((number ≡ at) × (page ≡ left_page)) ⊎ (((number ≡ right) × (page ≡ right_page)) ⊎ ((number ≡ at → ⊥) × (number ≡ right → ⊥) × IsAt pages number page))

  pub became : (number : ℕ) (page : Page) → IsAt new number page → Became number page
  became number page is = elim (cases_eq number at) [
    | inl here ↦ inl (here, one_there new at page left_page (subst (λ n. IsAt new n page) here is) parted.left)
    | inr else ↦ elim (cases_eq number right) [
      | inl there ↦ inr (inl (there, one_there new right page right_page (subst (λ n. IsAt new n page) there is) parted.right_half))
      | inr elsewhere ↦ inr (inr (else, elsewhere, sym (parted.others number else elsewhere) ∙ is))
    ]
  ]

  -- each page keeps its number and low bound, and a live one stays live
  pub stays : (number : ℕ) (page : Page) → IsAt pages number page → (after : Page) × IsAt new number after × (low_bound after ≡ low_bound page) × (IsLive page → IsLive after)
  stays number page is = elim (cases_eq number at) [
    | inl here ↦
        let is_parent = one_there pages at page parent (subst (λ n. IsAt pages n page) here is) parted.there in
        (left_page, subst (λ n. IsAt new n left_page) (sym here) parted.left, same_low ∙ ap low_bound (sym is_parent), λ live. tt)
    | inr else ↦ elim (cases_eq number right) [
      | inl there ↦
          let was = parted.was page (subst (λ n. IsAt pages n page) there is) in
          (right_page, subst (λ n. IsAt new n right_page) (sym there) parted.right_half, sym was.1, λ live. tt)
      | inr elsewhere ↦ (page, parted.others number else elsewhere ∙ is, refl, λ live. live)
    ]
  ]

  -- an old live page isn't at `right`
  pub live_elsewhere : (number : ℕ) (page : Page) → IsAt pages number page → IsLive page → number ≡ right → ⊥
  live_elsewhere number page is live there = (parted.was page (subst (λ n. IsAt pages n page) there is)).0 live

  -- no other live page's low bound lies between the halves
  none_between : (number : ℕ) (page : Page) → IsAt pages number page → IsLive page → (number ≡ at → ⊥) → low_of prefix ≤ low_bound page → low_bound page < high → ⊥
  none_between number page is live else from below =
      else (linked.one_home (low_bound page) number at page parent is parted.there (home_of_low page ward (linked.within number page is) live) (begins_between prefix (low_bound page) parted.short from below))

  -- the low bound of the right half is no other live page's
  none_at : (number : ℕ) (page : Page) → IsAt pages number page → IsLive page → low_bound page ≡ high → ⊥
  none_at number page is live same = live_elsewhere number page is live (parted.alone number page is same)

  -- a live page above the parent is above the right half
  beyond : (number : ℕ) (page : Page) → IsAt pages number page → IsLive page → low_of prefix < low_bound page → high < low_bound page
  beyond number page is live over = elim (cases_lt high (low_bound page)) [
    | inl higher ↦ higher
    | inr lower ↦ elim (cases_eq (low_bound page) high) [
      | inl same ↦ absurd (none_at number page is live same)
      | inr differs ↦
          let else : number ≡ at → ⊥ = λ here.
          let is_parent = one_there pages at page parent (subst (λ n. IsAt pages n page) here is) parted.there in
          omega (arith, over, ap low_bound is_parent) in
          absurd (none_between number page is live else (omega (arith, over)) (omega (arith, lower, differs)))
    ]
  ]

  -- a live page below the right half is the parent, or below it
  below : (number : ℕ) (page : Page) → IsAt pages number page → IsLive page → (number ≡ at → ⊥) → low_bound page < high → low_bound page < low_of prefix
  below number page is live else under = elim (cases_lt (low_bound page) (low_of prefix)) [
    | inl lower ↦ lower
    | inr over ↦ absurd (none_between number page is live else over under)
  ]

  -- ---- the parts

  first : (page : Page) × IsAt new 0 page × IsLive page × (low_bound page ≡ low_of ward)
  first =
      let old = linked.first in
      let after = stays 0 old.0 old.1 in
      (after.0, after.1, after.3 old.2, after.2 ∙ old.3)

  -- an old page of the low bound, or the right half
  old_low : (number : ℕ) (page : Page) → IsAt new number page → ((number ≡ right) × (low_bound page ≡ high)) ⊎ ((old : Page) × IsAt pages number old × (low_bound old ≡ low_bound page))
  old_low number page is = elim (became number page is) [
    | inl here ↦ inr (parent, subst (λ n. IsAt pages n parent) (sym here.0) parted.there, sym same_low ∙ sym (ap low_bound here.1))
    | inr rest ↦ elim rest [
      | inl there ↦ inl (there.0, ap low_bound there.1)
      | inr old ↦ inr (page, old.2, refl)
    ]
  ]

  apart : (one other : ℕ) (page twin : Page) → IsAt new one page → IsAt new other twin → low_bound page ≡ low_bound twin → one ≡ other
  apart one other page twin is too same = elim (old_low one page is) [
    | inl first ↦ elim (old_low other twin too) [
      | inl second ↦ first.0 ∙ sym second.0
      | inr second ↦ first.0 ∙ sym (parted.alone other second.0 second.1 (second.2 ∙ sym same ∙ first.1))
    ]
    | inr first ↦ elim (old_low other twin too) [
      | inl second ↦ parted.alone one first.0 first.1 (first.2 ∙ same ∙ second.1) ∙ sym second.0
      | inr second ↦ linked.apart one other first.0 second.0 first.1 second.1 (first.2 ∙ same ∙ sym second.2)
    ]
  ]

  within : (number : ℕ) (page : Page) → IsAt new number page → IsWithin ward page
  within number page is =
      let own = linked.within at parent parted.there in
      let child : (bit : Bool) (next : Option ℕ) → IsWithin ward (Live (prefix ++ bit ∷ []) next []) = λ bit next. (front_of_longer ward prefix (bit ∷ []) own.0, child_short prefix bit parted.short) in
      elim (became number page is) [
        | inl here ↦ subst (IsWithin ward) (sym here.1) (child false (Some right))
        | inr rest ↦ elim rest [
          | inl there ↦ subst (IsWithin ward) (sym there.1) (child true link)
          | inr old ↦ linked.within number page old.2
        ]
      ]

  home : (pseudokey : ℕ) → pseudokey < 2 ^ 64 → Begins ward pseudokey → (number : ℕ) × (page : Page) × IsAt new number page × IsHome page pseudokey
  home pseudokey small begins =
      let old = linked.home pseudokey small begins in
      elim (cases_eq old.0 at) [
        | inl here ↦
            let is_parent = one_there pages at old.1 parent (subst (λ n. IsAt pages n old.1) here old.2) parted.there in
            elim (child_of_begun prefix pseudokey (omega (arith, parted.short)) (subst (λ page. IsHome page pseudokey) is_parent old.3)) [
              | inl lower ↦ (at, left_page, parted.left, lower)
              | inr upper ↦ (right, right_page, parted.right_half, upper)
            ]
        | inr else ↦ (old.0, old.1, parted.others old.0 else (live_elsewhere old.0 old.1 old.2 (home_live old.1 pseudokey old.3)) ∙ old.2, old.3)
      ]

  -- where the home of a pseudokey stood before
  old_home : (pseudokey number : ℕ) (page : Page) → IsAt new number page → IsHome page pseudokey
      → ((number ≡ at) × Begins (prefix ++ false ∷ []) pseudokey) ⊎ (((number ≡ right) × Begins (prefix ++ true ∷ []) pseudokey) ⊎ ((number ≡ at → ⊥) × IsAt pages number page))
  old_home pseudokey number page is home = elim (became number page is) [
    | inl here ↦ inl (here.0, subst (λ page. IsHome page pseudokey) here.1 home)
    | inr rest ↦ elim rest [
      | inl there ↦ inr (inl (there.0, subst (λ page. IsHome page pseudokey) there.1 home))
      | inr old ↦ inr (inr (old.0, old.2))
    ]
  ]

  -- a child's home and another one can't both be
  clash : (pseudokey number : ℕ) (page : Page) (bit : Bool) → Begins (prefix ++ bit ∷ []) pseudokey → (number ≡ at → ⊥) → IsAt pages number page → IsHome page pseudokey → ⊥
  clash pseudokey number page bit begins else is home = else (linked.one_home pseudokey number at page parent is parted.there home (parent_begins prefix pseudokey bit begins))

  one_home : (pseudokey one other : ℕ) (page twin : Page) → IsAt new one page → IsAt new other twin → IsHome page pseudokey → IsHome twin pseudokey → one ≡ other
  one_home pseudokey one other page twin is too home twin_home = elim (old_home pseudokey one page is home) [
    | inl a ↦ elim (old_home pseudokey other twin too twin_home) [
      | inl b ↦ a.0 ∙ sym b.0
      | inr rest ↦ elim rest [
        | inl b ↦ absurd (one_child_begins prefix pseudokey a.1 b.1)
        | inr b ↦ absurd (clash pseudokey other twin false a.1 b.0 b.1 twin_home)
      ]
    ]
    | inr remaining ↦ elim remaining [
      | inl a ↦ elim (old_home pseudokey other twin too twin_home) [
        | inl b ↦ absurd (one_child_begins prefix pseudokey b.1 a.1)
        | inr rest ↦ elim rest [
          | inl b ↦ a.0 ∙ sym b.0
          | inr b ↦ absurd (clash pseudokey other twin true a.1 b.0 b.1 twin_home)
        ]
      ]
      | inr a ↦ elim (old_home pseudokey other twin too twin_home) [
        | inl b ↦ absurd (clash pseudokey one page false b.1 a.0 a.1 home)
        | inr rest ↦ elim rest [
          | inl b ↦ absurd (clash pseudokey one page true b.1 a.0 a.1 home)
          | inr b ↦ linked.one_home pseudokey one other page twin a.1 b.1 home twin_home
        ]
      ]
    ]
  ]

  -- ---- links

  -- a live page after the split: a half, or an old one elsewhere
  live_after : (number : ℕ) (page : Page) → IsAt new number page → IsLive page
      → (low_bound page ≡ low_of prefix) ⊎ ((low_bound page ≡ high) ⊎ ((number ≡ at → ⊥) × IsAt pages number page))
  live_after number page is live = elim (became number page is) [
    | inl here ↦ inl (ap low_bound here.1 ∙ same_low)
    | inr rest ↦ elim rest [
      | inl there ↦ inr (inl (ap low_bound there.1))
      | inr old ↦ inr (inr (old.0, old.2))
    ]
  ]

  left_link : IsRightLink new left_page (Some right)
  left_link = (
    right_page,
    record { there = parted.right_half; live = tt; greater = omega (arith, above, same_low) },
    λ number other is_right. elim (live_after number other is_right.there is_right.live) [
      | inl same ↦ absurd (omega (arith, is_right.greater, same, same_low))
      | inr rest ↦ elim rest [
        | inl same ↦ omega (arith, same)
        | inr old ↦ omega (arith, beyond number other old.1 is_right.live (omega (arith, is_right.greater, same_low)))
      ]
    ],
  )

  right_link : (next : Option ℕ) → IsRightLink pages parent next → IsRightLink new right_page next
  right_link None none = λ number other is_right. elim (live_after number other is_right.there is_right.live) [
    | inl same ↦ absurd (omega (arith, is_right.greater, same, above))
    | inr rest ↦ elim rest [
      | inl same ↦ absurd (omega (arith, is_right.greater, same))
      | inr old ↦ none number other (record { there = old.1; live = is_right.live; greater = omega (arith, is_right.greater, above) })
    ]
  ]
  right_link (Some next) is =
      let page = is.0 in
      let else : next ≡ at → ⊥ = λ here.
      let is_parent = one_there pages at page parent (subst (λ n. IsAt pages n page) here is.1.there) parted.there in
      omega (arith, is.1.greater, ap low_bound is_parent) in (
        page,
        record {
          there = parted.others next else (live_elsewhere next page is.1.there is.1.live) ∙ is.1.there;
          live = is.1.live;
          greater = beyond next page is.1.there is.1.live is.1.greater;
        },
        λ number other is_right. elim (live_after number other is_right.there is_right.live) [
          | inl same ↦ absurd (omega (arith, is_right.greater, same, above))
          | inr rest ↦ elim rest [
            | inl same ↦ absurd (omega (arith, is_right.greater, same))
            | inr old ↦ is.2 number other (record { there = old.1; live = is_right.live; greater = omega (arith, is_right.greater, above) })
          ]
        ],
      )

  -- a live page elsewhere
  module _ (number : ℕ) (page : Page) (is_there : IsAt pages number page) (live : IsLive page) (else : number ≡ at → ⊥) where
    -- what is to its right after the split is no nearer than what was
    nearest : (bound other_number : ℕ) (other : Page) → IsRightOf new page other_number other → ((old_number : ℕ) (old : Page) → IsRightOf pages page old_number old → bound ≤ low_bound old) → bound ≤ low_bound other
    nearest bound other_number other is_right least = elim (live_after other_number other is_right.there is_right.live) [
      | inl same ↦ omega (arith, same, least at parent (record { there = parted.there; live = tt; greater = omega (arith, is_right.greater, same) }))
      | inr rest ↦ elim rest [
        | inl same ↦
            let under = below number page is_there live else (omega (arith, is_right.greater, same)) in
            omega (arith, same, above, least at parent (record { there = parted.there; live = tt; greater = under }))
        | inr old ↦ least other_number other (record { there = old.1; live = is_right.live; greater = is_right.greater })
      ]
    ]

    other_link : (next : Option ℕ) → IsRightLink pages page next → IsRightLink new page next
    other_link None none = λ other_number other is_right.
        absurd (omega (arith, nearest (low_bound other + 1) other_number other is_right (λ old_number old is_old. absurd (none old_number old is_old))))
    other_link (Some next) is =
        let after = stays next is.0 is.1.there in (
          after.0,
          record { there = after.1; live = after.3 is.1.live; greater = omega (arith, is.1.greater, after.2) },
          λ other_number other is_right. omega (arith, after.2, nearest (low_bound is.0) other_number other is_right is.2),
        )

  -- a page that isn't split leads where it led
  leads : (number : ℕ) (page : Page) → IsAt pages number page → (number ≡ at → ⊥) → IsLinkedPage pages page → IsLinkedPage new page
  leads number (Live own next records) is else linked = other_link number (Live own next records) is tt else next linked
  leads number (Forward low target) is else linked =
      let after = stays target linked.0 linked.1 in
      (after.0, after.1, after.2 ∙ linked.2)

  links : (number : ℕ) (page : Page) → IsAt new number page → IsLinkedPage new page
  links number page is = elim (became number page is) [
    | inl here ↦ subst (IsLinkedPage new) (sym here.1) left_link
    | inr rest ↦ elim rest [
      | inl there ↦ subst (IsLinkedPage new) (sym there.1) (right_link link (linked.links at parent parted.there))
      | inr old ↦ leads number page old.2 old.0 (linked.links number page old.2)
    ]
  ]

  pub parted_linked : AreLinked ward new
  parted_linked = record { first = first; apart = apart; within = within; home = home; one_home = one_home; links = links }
