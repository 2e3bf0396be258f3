-- Live pages in the order of their low bounds, each beginning where the one before ends.
use Rattle.std.proofs.Common.{◌≡◌, ℕ, ◌-◌, ◌<◌, ◌≤◌, ◌^◌, Bool, true, false, cond, ◌&&◌, leb, eqb, List, [], ◌∷◌, map, length, Option, None, Some, ◌⊎◌, inl, inr, refl, sym, ap, ◌∙◌, subst, arith}
use Rattle.std.specs.BTreeMap.{is_at}
use Rattle.std.specs.List.{AllByRecursion, slice_get}
use Rattle.std.specs.List.Sorted.{IsStrictlySortedBy}
use Rattle.std.specs.Option.{option_map_or}
use Rattle.std.specs.Ordering.{nat_cmp}
use Rattle.std.specs.declared.cmp.Ordering.TheVariants.{Less}
use Rattle.std.proofs.lemmas.Cmp.{ranked}
use Rattle.std.proofs.lemmas.Bool.{cases_eq, eqb-true, le-leb, leb-true, eq-eqb}
use Rattle.std.proofs.lemmas.Bool.Decides.{leb_tells}
use Rattle.std.proofs.lemmas.Nat.{pow_pos}
use Rattle.exh_prefix.specs.declared.prefix.TheConstants.{LIMIT}
use Rattle.exh_prefix.specs.Prefix.{Begins, low_of}
use Rattle.exh_prefix.specs.PrefixLemmas.{begins_low, begins_from_low, low_of-lt}
use Rattle.exh_page.specs.declared.page.Page.{Page}
use Rattle.exh_page.specs.declared.page.Page.TheVariants.{Live, Forward}
use Rattle.exh_page.specs.Page.{low_bound}
use Rattle.exh_legal.specs.Growth.{IsPageOf}
use Rattle.exh_prefix.specs.LowLemmas.{begins_own_low, low_of-small}
use Rattle.exh_legal.specs.Pages.{IsAt, IsHome}
use Rattle.exh_legal.specs.LegalParts.{IsBounded}
use Rattle.exh_legal.specs.BuiltIndex.{way_end_after, end_of, end_over, page_number_at}
use Rattle.exh_legal.proofs.Index.{at_same, at_other, same_page}

-- the entries have the number
abbrev pub Among : List (ℕ × ℕ) → ℕ → Type 0
Among [] number = ⊥
Among (entry ∷ entries) number = (entry.1 ≡ number) ⊎ Among entries number

-- the page of a number among the entries
pub record IsListed (pages : List Page) (entries : List (ℕ × ℕ)) (number : ℕ) (page : Page) : Type 0 where
  pub among : Among entries number
  pub at : IsAt pages number page

abbrev pub InSpan : ℕ → ℕ → ℕ → Page → Type 0
InSpan least from to (Live prefix right records) = (least ≤ length prefix) × (from ≤ low_of prefix) × (end_of prefix ≤ to)
InSpan least from to (Forward low target) = Unit {0}

pub record AreTiled (pages : List Page) (least from to : ℕ) (entries : List (ℕ × ℕ)) : Type 0 where
  pub between : from ≤ to
  pub spans : (number : ℕ) (page : Page) → IsListed pages entries number page → InSpan least from to page
  pub home : (pseudokey : ℕ) → from ≤ pseudokey → pseudokey < to → (number : ℕ) × (page : Page) × IsListed pages entries number page × IsHome page pseudokey
  pub one : (pseudokey : ℕ) → pseudokey < 2 ^ 64 → (one other : ℕ) (page twin : Page) → IsListed pages entries one page → IsListed pages entries other twin → IsHome page pseudokey → IsHome twin pseudokey → one ≡ other

-- each entry is a page with its low bound, and the low bounds rise
abbrev pub AreRising : List Page → List (ℕ × ℕ) → Type 0
AreRising pages [] = Unit {0}
AreRising pages (entry ∷ entries) = IsPageOf pages entry.0 entry.1 × ((number : ℕ) (page : Page) → IsListed pages entries number page → entry.0 < low_bound page) × AreRising pages entries

-- ---- a home lies between the ends of its prefix

home_between : (page : Page) (prefix : List Bool) (pseudokey : ℕ) → length prefix ≤ LIMIT → pseudokey < 2 ^ 64 → Begins prefix pseudokey → (low_of prefix ≤ pseudokey) × (pseudokey < end_of prefix)
home_between page prefix pseudokey short small begins = begins_low prefix pseudokey (omega (arith, short)) small begins

pub end_above : (prefix : List Bool) → low_of prefix < end_of prefix
end_above prefix = omega (arith, pow_pos (64 - length prefix))

pub end_small : (prefix : List Bool) → length prefix ≤ LIMIT → end_of prefix ≤ 2 ^ 64
end_small prefix short = low_of-lt prefix (omega (arith, short))

-- ---- one page more

more : (pages : List Page) (entry : ℕ × ℕ) (entries : List (ℕ × ℕ)) (number : ℕ) (page : Page) → IsListed pages entries number page → IsListed pages (entry ∷ entries) number page
more pages entry entries number page is = record { among = inr is.among; at = is.at }

here : (pages : List Page) (entry : ℕ × ℕ) (entries : List (ℕ × ℕ)) (page : Page) → IsAt pages entry.1 page → IsListed pages (entry ∷ entries) entry.1 page
here pages entry entries page is = record { among = inl refl; at = is }

-- a listed page is the first or listed among the others
listed_cases : (pages : List Page) (entry : ℕ × ℕ) (entries : List (ℕ × ℕ)) (first : Page) → IsAt pages entry.1 first → (number : ℕ) (page : Page) → IsListed pages (entry ∷ entries) number page → ((number ≡ entry.1) × (page ≡ first)) ⊎ IsListed pages entries number page
listed_cases pages entry entries first is number page listed = elim listed.among [
  | inl same ↦ inl (sym same, same_page pages number page first listed.at (subst (λ n. IsAt pages n first) same is))
  | inr rest ↦ inr (record { among = rest; at = listed.at })
]

module _ (pages : List Page) (bounded : (number : ℕ) (page : Page) → IsAt pages number page → IsBounded page) (least : ℕ) where
  -- ---- what ends at a number is tiled

  span_more : (from next to : ℕ) (page : Page) → from ≤ next → InSpan least next to page → InSpan least from to page
  span_more from next to (Live prefix right records) less span = (span.0, omega (arith, less, span.1), span.2)
  span_more from next to (Forward low target) less span = tt

  span_wider : (from next to : ℕ) (page : Page) → next ≤ to → InSpan least from next page → InSpan least from to page
  span_wider from next to (Live prefix right records) less span = (span.0, span.1, omega (arith, less, span.2))
  span_wider from next to (Forward low target) less span = tt

  below_span : (from to pseudokey number : ℕ) (page : Page) → IsAt pages number page → pseudokey < 2 ^ 64 → InSpan least from to page → IsHome page pseudokey → from ≤ pseudokey
  below_span from to pseudokey number (Live prefix right records) is small span home =
      let between = home_between (Live prefix right records) prefix pseudokey (bounded number _ is) small home in
      omega (arith, between.0, span.1)
  below_span from to pseudokey number (Forward low target) is small span home = absurd home

  no_tiles : (from to : ℕ) → from ≡ to → AreTiled pages least from to []
  no_tiles from to same = record {
    between = omega (arith, same);
    spans = λ number page is. absurd is.among;
    home = λ pseudokey above below. absurd (omega (arith, same, above, below));
    one = λ pseudokey small one other page twin is too home twin_home. absurd is.among;
  }

  forward_tiles : (from to : ℕ) (entry : ℕ × ℕ) (entries : List (ℕ × ℕ)) (low target : ℕ) → IsAt pages entry.1 (Forward low target) → AreTiled pages least from to entries → AreTiled pages least from to (entry ∷ entries)
  forward_tiles from to entry entries low target is tiled = record {
    between = tiled.between;
    spans = λ number page listed. elim (listed_cases pages entry entries _ is number page listed) [
      | inl first ↦ subst (InSpan least from to) (sym first.1) tt
      | inr rest ↦ tiled.spans number page rest
    ];
    home = λ pseudokey above below. let found = tiled.home pseudokey above below in (found.0, found.1, more pages entry entries found.0 found.1 found.2, found.3);
    one = λ pseudokey small one other page twin listed too home twin_home. elim (listed_cases pages entry entries _ is one page listed) [
      | inl first ↦ absurd (subst (λ p. IsHome p pseudokey) first.1 home)
      | inr rest ↦ elim (listed_cases pages entry entries _ is other twin too) [
        | inl first ↦ absurd (subst (λ p. IsHome p pseudokey) first.1 twin_home)
        | inr last ↦ tiled.one pseudokey small one other page twin rest last home twin_home
      ]
    ];
  }

  live_tiles : (to : ℕ) (entry : ℕ × ℕ) (entries : List (ℕ × ℕ)) (page : Page) (prefix : List Bool) → IsAt pages entry.1 page → InSpan least (low_of prefix) (end_of prefix) page → length prefix ≤ LIMIT
      → ((pseudokey : ℕ) → IsHome page pseudokey → Begins prefix pseudokey) → ((pseudokey : ℕ) → Begins prefix pseudokey → IsHome page pseudokey)
      → AreTiled pages least (end_of prefix) to entries → AreTiled pages least (low_of prefix) to (entry ∷ entries)
  live_tiles to entry entries page prefix is own short begins homes tiled =
      let reach : low_of prefix ≤ end_of prefix = omega (arith, end_above prefix) in
      let after : (pseudokey number : ℕ) (other : Page) → pseudokey < 2 ^ 64 → IsListed pages entries number other → IsHome other pseudokey → IsHome page pseudokey → ⊥ =
      λ pseudokey number other small rest home own.
      let between = home_between page prefix pseudokey short small (begins pseudokey own) in
      absurd (omega (arith, between.1, below_span (end_of prefix) to pseudokey number other rest.at small (tiled.spans number other rest) home)) in
      record {
        between = omega (arith, reach, tiled.between);
        spans = λ number other listed. elim (listed_cases pages entry entries page is number other listed) [
          | inl first ↦ subst (InSpan least (low_of prefix) to) (sym first.1) (span_wider (low_of prefix) (end_of prefix) to page tiled.between own)
          | inr rest ↦ span_more (low_of prefix) (end_of prefix) to other reach (tiled.spans number other rest)
        ];
        home = λ pseudokey above below. elim (leb_tells (end_of prefix) pseudokey) [
          | inl past ↦ let found = tiled.home pseudokey past.1 below in (found.0, found.1, more pages entry entries found.0 found.1 found.2, found.3)
          | inr within ↦ (entry.1, page, here pages entry entries page is, homes pseudokey (begins_from_low prefix pseudokey (omega (arith, short)) above within.1))
        ];
        one = λ pseudokey small one other first twin listed too home twin_home. elim (listed_cases pages entry entries page is one first listed) [
          | inl left ↦ elim (listed_cases pages entry entries page is other twin too) [
            | inl right ↦ left.0 ∙ sym right.0
            | inr rest ↦ absurd (after pseudokey other twin small rest twin_home (subst (λ p. IsHome p pseudokey) left.1 home))
          ]
          | inr rest ↦ elim (listed_cases pages entry entries page is other twin too) [
            | inl right ↦ absurd (after pseudokey one first small rest home (subst (λ p. IsHome p pseudokey) right.1 twin_home))
            | inr last ↦ tiled.one pseudokey small one other first twin rest last home twin_home
          ]
        ];
      }

  abbrev onward : List (ℕ × ℕ) → Option ℕ → Option ℕ
  onward entries next = option_map_or (λ from. end_over pages least from entries) next None

  sound_page : (entry : ℕ × ℕ) (entries : List (ℕ × ℕ)) → ((from to : ℕ) → end_over pages least from entries ≡ Some to → AreTiled pages least from to entries)
      → (from to : ℕ) (page : Page) → IsAt pages entry.1 page → onward entries (way_end_after least from page) ≡ Some to → AreTiled pages least from to (entry ∷ entries)
  sound_page entry entries rest from to (Live prefix right records) at is =
      let short : length prefix ≤ LIMIT = bounded entry.1 _ at in
      elim (leb least (length prefix)) as (λ b. leb least (length prefix) ≡ b → onward entries (cond (b && eqb (low_of prefix) from) (Some (end_of prefix)) None) ≡ Some to → AreTiled pages least from to (entry ∷ entries)) [
        | false ↦ λ _ is. cc
        | true ↦ λ long is. elim (eqb (low_of prefix) from) as (λ b. eqb (low_of prefix) from ≡ b → onward entries (cond (true && b) (Some (end_of prefix)) None) ≡ Some to → AreTiled pages least from to (entry ∷ entries)) [
          | false ↦ λ _ is. cc
          | true ↦ λ same is.
              subst (λ n. AreTiled pages least n to (entry ∷ entries)) (eqb-true (low_of prefix) from same)
              (live_tiles to entry entries (Live prefix right records) prefix at (leb-true least (length prefix) long, omega arith, omega arith) short (λ pseudokey home. home) (λ pseudokey home. home) (rest (end_of prefix) to is))
        ] refl is
      ] refl is
  sound_page entry entries rest from to (Forward low target) at is = forward_tiles from to entry entries low target at (rest from to is)

  pub sound : (entries : List (ℕ × ℕ)) (from to : ℕ) → end_over pages least from entries ≡ Some to → AreTiled pages least from to entries
  sound [] from to is = let same : from ≡ to = cc in no_tiles from to same
  sound (entry ∷ entries) from to is =
      elim (slice_get pages entry.1) as (λ found. slice_get pages entry.1 ≡ found → option_map_or (λ page. onward entries (way_end_after least from page)) found None ≡ Some to → AreTiled pages least from to (entry ∷ entries)) [
        | None ↦ λ at is. cc
        | Some page ↦ λ at is. sound_page entry entries (sound entries) from to page at is
      ] refl is

  -- ---- what is tiled ends there

  home_low : (number : ℕ) (page : Page) (pseudokey : ℕ) → IsAt pages number page → pseudokey < 2 ^ 64 → IsHome page pseudokey → low_bound page ≤ pseudokey
  home_low number (Live prefix right records) pseudokey at small home = (home_between (Live prefix right records) prefix pseudokey (bounded number _ at) small home).0
  home_low number (Forward low target) pseudokey at small home = absurd home

  one_less : (from to : ℕ) (entry : ℕ × ℕ) (entries : List (ℕ × ℕ)) (low target : ℕ) → IsAt pages entry.1 (Forward low target) → AreTiled pages least from to (entry ∷ entries) → AreTiled pages least from to entries
  one_less from to entry entries low target at tiled = record {
    between = tiled.between;
    spans = λ number page is. tiled.spans number page (more pages entry entries number page is);
    home = λ pseudokey above below.
        let found = tiled.home pseudokey above below in
        elim (listed_cases pages entry entries _ at found.0 found.1 found.2) [
          | inl first ↦ absurd (subst (λ p. IsHome p pseudokey) first.1 found.3)
          | inr rest ↦ (found.0, found.1, rest, found.3)
        ];
    one = λ pseudokey small one other page twin is too. tiled.one pseudokey small one other page twin (more pages entry entries one page is) (more pages entry entries other twin too);
  }

  past_first : (to : ℕ) (entry : ℕ × ℕ) (entries : List (ℕ × ℕ)) (page : Page) (prefix : List Bool) → to ≤ 2 ^ 64 → IsAt pages entry.1 page → low_bound page ≡ low_of prefix → length prefix ≤ LIMIT
      → ((pseudokey : ℕ) → Begins prefix pseudokey → IsHome page pseudokey) → ((number : ℕ) (other : Page) → IsListed pages entries number other → low_of prefix < low_bound other) → (from : ℕ) → AreTiled pages least from to (entry ∷ entries)
      → (number : ℕ) (other : Page) → IsListed pages entries number other → InSpan least (end_of prefix) to other
  past_first to entry entries page prefix few at low short homes rises from tiled number (Live own right records) is =
      let span = tiled.spans number _ (more pages entry entries number _ is) in
      let own_short : length own ≤ LIMIT = bounded number _ is.at in
      let above = rises number _ is in
      elim (leb_tells (end_of prefix) (low_of own)) [
        | inl past ↦ (span.0, past.1, span.2)
        | inr within ↦
            let small : low_of own < 2 ^ 64 = low_of-small own own_short in
            let same = tiled.one (low_of own) small number entry.1 (Live own right records) page (more pages entry entries number _ is) (here pages entry entries page at) (begins_own_low own own_short)
            (homes (low_of own) (begins_from_low prefix (low_of own) (omega (arith, short)) (omega (arith, above)) within.1)) in
            let alike : Live own right records ≡ page = same_page pages entry.1 _ page (subst (λ n. IsAt pages n (Live own right records)) same is.at) at in
            absurd (omega (arith, above, ap low_bound alike, low))
      ]
  past_first to entry entries page prefix few at low short homes rises from tiled number (Forward own target) is = tt

  complete_page : (entry : ℕ × ℕ) (entries : List (ℕ × ℕ)) (to : ℕ) → to ≤ 2 ^ 64 → ((from : ℕ) → AreTiled pages least from to entries → end_over pages least from entries ≡ Some to)
      → (from : ℕ) (page : Page) → IsAt pages entry.1 page → ((number : ℕ) (other : Page) → IsListed pages entries number other → low_bound page < low_bound other) → AreTiled pages least from to (entry ∷ entries) → onward entries (way_end_after least from page) ≡ Some to
  complete_page entry entries to few rest from (Live prefix right records) at rises tiled =
      let page : Page = Live prefix right records in
      let short : length prefix ≤ LIMIT = bounded entry.1 _ at in
      let span = tiled.spans entry.1 _ (here pages entry entries _ at) in
      let less : from < to = omega (arith, span.1, span.2, end_above prefix) in
      let home = tiled.home from (omega arith) less in
      let small : from < 2 ^ 64 = omega (arith, less, few) in
      let above : low_of prefix ≤ from = elim (listed_cases pages entry entries _ at home.0 home.1 home.2) [
        | inl first ↦ (home_between page prefix from short small (subst (λ p. IsHome p from) first.1 home.3)).0
        | inr other ↦ omega (arith, rises home.0 home.1 other, home_low home.0 home.1 from (other.at) small home.3)
      ] in
      let same : low_of prefix ≡ from = omega (arith, above, span.1) in
      let long : leb least (length prefix) ≡ true = le-leb least (length prefix) span.0 in
      let equal : eqb (low_of prefix) from ≡ true = eq-eqb (low_of prefix) from same in
      let tiled_rest : AreTiled pages least (end_of prefix) to entries = record {
        between = span.2;
        spans = past_first to entry entries _ prefix few at refl short (λ pseudokey begins. begins) rises from tiled;
        home = λ pseudokey past below.
            let found = tiled.home pseudokey (omega (arith, past, same, end_above prefix)) below in
            elim (listed_cases pages entry entries _ at found.0 found.1 found.2) [
              | inl first ↦ absurd (omega (arith, past, (home_between page prefix pseudokey short (omega (arith, below, few)) (subst (λ p. IsHome p pseudokey) first.1 found.3)).1))
              | inr other ↦ (found.0, found.1, other, found.3)
            ];
        one = λ pseudokey small one other page twin is too. tiled.one pseudokey small one other page twin (more pages entry entries one page is) (more pages entry entries other twin too);
      } in
      ap (λ b. onward entries (cond (b && eqb (low_of prefix) from) (Some (end_of prefix)) None)) long ∙ ap (λ b. onward entries (cond (true && b) (Some (end_of prefix)) None)) equal ∙ rest (end_of prefix) tiled_rest
  complete_page entry entries to few rest from (Forward low target) at rises tiled = rest from (one_less from to entry entries low target at tiled)

  pub complete : (entries : List (ℕ × ℕ)) (from to : ℕ) → to ≤ 2 ^ 64 → AreRising pages entries → AreTiled pages least from to entries → end_over pages least from entries ≡ Some to
  complete [] from to few rising tiled = elim (leb_tells to from) [
    | inl reached ↦ let same : from ≡ to = omega (arith, reached.1, tiled.between) in ap (λ n. Some n) same
    | inr before ↦ absurd (tiled.home from (omega arith) before.1).2.among
  ]
  complete (entry ∷ entries) from to few rising tiled =
      let first = rising.0 in
      ap (λ found. option_map_or (λ page. onward entries (way_end_after least from page)) found None) first.1
      ∙ complete_page entry entries to few (λ next. complete entries next to few rising.2) from first.0 first.1 (λ number other is. omega (arith, rising.1 number other is, first.2)) tiled

-- ---- the entries of an index rise

above_found : (key : ℕ) (entries : List (ℕ × ℕ)) → AllByRecursion (λ y. nat_cmp key y ≡ Less) (map (λ e. e.0) entries) → (low number : ℕ) → page_number_at entries low ≡ Some number → key < low
above_found key [] all low number is = cc
above_found key (entry ∷ entries) all low number is = elim (cases_eq low entry.0) [
  | inl same ↦ omega (arith, ranked key entry.0 Less (sym all.0), same)
  | inr differ ↦ above_found key entries all.1 low number (sym (ap (λ b. cond b (Some entry.1) (page_number_at entries low)) (at_other low entry.0 differ)) ∙ is)
]

above_listed : (pages : List Page) (key : ℕ) (entries : List (ℕ × ℕ)) → AllByRecursion (λ y. nat_cmp key y ≡ Less) (map (λ e. e.0) entries) → AreRising pages entries → (number : ℕ) (page : Page) → IsListed pages entries number page → key < low_bound page
above_listed pages key [] all rising number page is = absurd is.among
above_listed pages key (entry ∷ entries) all rising number page is = elim (listed_cases pages entry entries rising.0.0 rising.0.1 number page is) [
  | inl first ↦ omega (arith, ranked key entry.0 Less (sym all.0), ap low_bound first.1, rising.0.2)
  | inr rest ↦ above_listed pages key entries all.1 rising.2 number page rest
]

pub rising : (pages : List Page) (entries : List (ℕ × ℕ)) → IsStrictlySortedBy nat_cmp (map (λ e. e.0) entries) → ((low number : ℕ) → page_number_at entries low ≡ Some number → IsPageOf pages low number) → AreRising pages entries
unfolding IsStrictlySortedBy
rising pages [] sorted each = tt
rising pages (entry ∷ entries) sorted each =
    let rest : AreRising pages entries = rising pages entries sorted.1 (λ low number is.
    let less = above_found entry.0 entries sorted.0 low number is in
    each low number (ap (λ b. cond b (Some entry.1) (page_number_at entries low)) (at_other low entry.0 (λ same. absurd (omega (arith, less, same)))) ∙ is)) in
    (each entry.0 entry.1 (ap (λ b. cond b (Some entry.1) (page_number_at entries entry.0)) (at_same entry.0 entry.0 refl)), above_listed pages entry.0 entries sorted.0 rest, rest)

pub among_found : (entries : List (ℕ × ℕ)) (low number : ℕ) → page_number_at entries low ≡ Some number → Among entries number
among_found [] low number is = cc
among_found (entry ∷ entries) low number is = elim (is_at (nat_cmp low) entry.0) as (λ b. cond b (Some entry.1) (page_number_at entries low) ≡ Some number → Among (entry ∷ entries) number) [
  | true ↦ λ is. inl (let same : entry.1 ≡ number = cc in same)
  | false ↦ λ is. inr (among_found entries low number is)
] is
