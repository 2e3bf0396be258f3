-- The index of a ward's pages, as it is made page by page.
use Rattle.std.proofs.Common.{◌≡◌, ◌≢◌, ◌↔◌, ℕ, ◌+◌, ◌<◌, Bool, true, false, cond, List, [], ◌∷◌, length, None, Some, inl, inr, refl, sym, ap, ◌∙◌, subst, arith}
use Rattle.std.specs.BTreeMap.{is_at}
use Rattle.std.specs.Cmp.{nat_cmp_is}
use Rattle.std.specs.Ordering.{is_eq, nat_cmp}
use Rattle.std.specs.declared.cmp.Ordering.TheVariants.{Less, Equal, Greater}
use Rattle.std.specs.Prelude.{is_some}
use Rattle.std.proofs.lemmas.Bool.{cases_eq, false≢true}
use Rattle.std.proofs.lemmas.Bool.Decides.{leb_tells}
use Rattle.std.proofs.lemmas.Option.{slice_get_within}
use Rattle.exh_prefix.specs.Prefix.{Begins, low_of}
use Rattle.exh_page.specs.declared.page.Page.{Page}
use Rattle.exh_page.specs.Page.{IsLive, low_bound}
use Rattle.exh_legal.specs.Growth.{IsPageOf}
use Rattle.exh_legal.specs.Pages.{IsAt}
use Rattle.exh_legal.specs.BuiltIndex.{page_number_at, AreIndex}
use Rattle.exh_legal.specs.Reasons.{HasLows}

pub at_same : (key query : ℕ) → key ≡ query → is_at (nat_cmp key) query ≡ true
at_same key query same = sym (ap is_eq (nat_cmp_is key query Equal same))

pub at_other : (key query : ℕ) → key ≢ query → is_at (nat_cmp key) query ≡ false
at_other key query differ = elim (leb_tells key query) [
  | inl less ↦ sym (ap is_eq (nat_cmp_is key query Less (omega (arith, less.1, differ))))
  | inr more ↦ sym (ap is_eq (nat_cmp_is key query Greater (omega (arith, more.1))))
]

pub same_page : (pages : List Page) (number : ℕ) (one other : Page) → IsAt pages number one → IsAt pages number other → one ≡ other
same_page pages number one other is too = let both : Some one ≡ Some other = sym is ∙ too in cc

-- the index of the pages before a number, each of the ward
pub record IsBegunIndex (ward : List Bool) (pages : List Page) (count : ℕ) (entries : List (ℕ × ℕ)) : Type 0 where
  pub found : (low number : ℕ) → (page_number_at entries low ≡ Some number) ↔ ((number < count) × IsPageOf pages low number)
  pub within : (number : ℕ) (page : Page) → number < count → IsAt pages number page → Begins ward (low_bound page)

pub no_index : (ward : List Bool) (pages : List Page) (entries : List (ℕ × ℕ)) → entries ≡ [] → IsBegunIndex ward pages 0 entries
no_index ward pages [] none = record { found = λ low number. (λ is. cc, λ is. absurd (omega (arith, is.0))); within = λ number page less is. absurd (omega (arith, less)) }
no_index ward pages (entry ∷ entries) none = cc

pub more_index : (ward : List Bool) (pages : List Page) (count : ℕ) (entries new : List (ℕ × ℕ)) (page : Page) → IsBegunIndex ward pages count entries → IsAt pages count page → Begins ward (low_bound page)
    → page_number_at entries (low_bound page) ≡ None → ((query : ℕ) → page_number_at new query ≡ cond (is_at (nat_cmp (low_bound page)) query) (Some count) (page_number_at entries query)) → IsBegunIndex ward pages (count + 1) new
more_index ward pages count entries new page begun is within none updates =
    let here : (low number : ℕ) → low_bound page ≡ low → page_number_at new low ≡ Some number → number ≡ count =
    λ low number same found. let value : Some number ≡ Some count = sym found ∙ updates low ∙ ap (λ b. cond b (Some count) (page_number_at entries low)) (at_same (low_bound page) low same) in cc in
    let elsewhere : (low : ℕ) → low_bound page ≢ low → page_number_at new low ≡ page_number_at entries low =
    λ low differ. updates low ∙ ap (λ b. cond b (Some count) (page_number_at entries low)) (at_other (low_bound page) low differ) in
    record {
      found = λ low number. (
        λ found. elim (cases_eq (low_bound page) low) [
          | inl same ↦ let last = here low number same found in (omega (arith, last), subst (IsPageOf pages low) (sym last) (page, is, same))
          | inr differ ↦ let old = (begun.found low number).0 (sym (elsewhere low differ) ∙ found) in (omega (arith, old.0), old.1)
        ],
        λ there. elim (cases_eq number count) [
          | inl last ↦
              let own : low_bound page ≡ low = ap low_bound (same_page pages count page there.1.0 is (subst (λ n. IsAt pages n there.1.0) last there.1.1)) ∙ there.1.2 in
              updates low ∙ ap (λ b. cond b (Some count) (page_number_at entries low)) (at_same (low_bound page) low own) ∙ ap (λ n. Some n) (sym last)
          | inr before ↦
              let old = (begun.found low number).1 (omega (arith, there.0, before), there.1) in
              elim (cases_eq (low_bound page) low) [
                | inl same ↦ let clash : Some number ≡ None = sym old ∙ ap (page_number_at entries) (sym same) ∙ none in cc
                | inr differ ↦ elsewhere low differ ∙ old
              ]
        ],
      );
      within = λ number other less there. elim (cases_eq number count) [
        | inl last ↦ subst (λ p. Begins ward (low_bound p)) (same_page pages count page other is (subst (λ n. IsAt pages n other) last there)) within
        | inr before ↦ begun.within number other (omega (arith, less, before)) there
      ];
    }

abbrev IsFirstUnpassed : List Bool → List Page → Type 0
IsFirstUnpassed ward pages = (page : Page) × IsAt pages 0 page × IsLive page × (low_bound page ≡ low_of ward)

pub all_indexed : (ward : List Bool) (pages : List Page) (entries : List (ℕ × ℕ)) → IsBegunIndex ward pages (length pages) entries → IsFirstUnpassed ward pages → HasLows ward pages × AreIndex entries pages
all_indexed ward pages entries begun first = (
  record {
    first = first;
    within = λ number page is. begun.within number page (slice_get_within pages number page is) is;
    apart = λ one other page twin is too same.
        let left = (begun.found (low_bound page) one).1 (slice_get_within pages one page is, (page, is, refl)) in
        let right = (begun.found (low_bound page) other).1 (slice_get_within pages other twin too, (twin, too, sym same)) in
        let both : Some one ≡ Some other = sym left ∙ right in
        cc;
  },
  λ low number. (
    λ found. ((begun.found low number).0 found).1,
    λ is. (begun.found low number).1 (slice_get_within pages number is.0 is.1, is),
  ),
)

-- a low bound that is there already is shared
pub shared_low : (ward : List Bool) (pages : List Page) (count : ℕ) (entries : List (ℕ × ℕ)) (page : Page) (number : ℕ) → IsBegunIndex ward pages count entries → IsAt pages count page → page_number_at entries (low_bound page) ≡ Some number → HasLows ward pages → ⊥
shared_low ward pages count entries page number begun is found lows =
    let old = (begun.found (low_bound page) number).0 found in
    absurd (omega (arith, old.0, lows.apart number count old.1.0 page old.1.1 is old.1.2))

pub shared_low_found : (ward : List Bool) (pages : List Page) (count : ℕ) (entries : List (ℕ × ℕ)) (page : Page) → IsBegunIndex ward pages count entries → IsAt pages count page → (low : ℕ) → low ≡ low_bound page → is_some (page_number_at entries low) ≡ true → HasLows ward pages → ⊥
shared_low_found ward pages count entries page begun is low same some lows = elim (page_number_at entries low) as (λ found. page_number_at entries low ≡ found → is_some found ≡ true → ⊥) [
  | None ↦ λ found some. absurd (false≢true some)
  | Some number ↦ λ found some. shared_low ward pages count entries page number begun is (ap (page_number_at entries) (sym same) ∙ found) lows
] refl some

pub none_found : (entries : List (ℕ × ℕ)) (low other : ℕ) → low ≡ other → is_some (page_number_at entries low) ≡ false → page_number_at entries other ≡ None
none_found entries low other same none = elim (page_number_at entries low) as (λ found. page_number_at entries low ≡ found → is_some found ≡ false → page_number_at entries other ≡ None) [
  | None ↦ λ found none. ap (page_number_at entries) (sym same) ∙ found
  | Some number ↦ λ found none. absurd (false≢true (sym none))
] refl none
