-- Where the right link of a live left child leads.
use Rattle.std.proofs.Common.{◌≡◌, ℕ, ◌<◌, ◌≤◌, Bool, true, false, List, [], ◌∷◌, ◌++◌, length, Option, Some, inl, inr, sym, ap, subst, arith}
use Rattle.std.proofs.lemmas.Bool.{cases_lt}
use Rattle.std.proofs.lemmas.List.{length_push}
use Rattle.exh_prefix.specs.declared.prefix.TheConstants.{LIMIT}
use Rattle.exh_prefix.specs.Bits.{word_bits}
use Rattle.exh_prefix.specs.Prefix.{IsFront, Begins, low_of}
use Rattle.exh_prefix.specs.PrefixLemmas.{begins_low, child_of_begun, front_of_front, one_child_begins}
use Rattle.exh_page.specs.declared.page.Page.{Page}
use Rattle.exh_page.specs.declared.page.Page.TheVariants.{Live}
use Rattle.exh_page.specs.declared.record.Record.{Record}
use Rattle.exh_page.specs.Page.{low_bound}
use Rattle.exh_legal.specs.BareLemmas.{bare_at}
use Rattle.exh_legal.specs.Growth.{IsLiveAt, IsPageOf}
use Rattle.exh_legal.specs.LegalLaws.{LeadsOn}
use Rattle.exh_prefix.specs.LowLemmas.{front_shorter, front_of_longer, low_of-small, begins_own_low, right_above, left_keeps, child_short, begins_between, front_of_child}
use Rattle.exh_prefix.specs.PrefixListLemmas.{one_there}
use Rattle.exh_legal.specs.Pages.{IsAt, IsRightLink, AreLinked, bare}
use Rattle.exh_legal.proofs.RightLinks.{live_leads}
use Rattle.exh_legal.specs.LegalPlaceLemmas.{home_of_low}

-- a live page is the page of its prefix's low bound
pub live_is_page : {ward : List Bool} (pages : List Page) → AreLinked ward (bare pages) → (prefix : List Bool) (right number : ℕ) → IsPageOf (bare pages) (low_of prefix) right → IsLiveAt pages prefix number → number ≡ right
live_is_page pages linked prefix right number is live = linked.apart number right _ _ (bare_at pages number _ live.2) is.1 (sym is.2)

module _ {ward : List Bool} {pages : List Page} (linked : AreLinked ward pages) (number : ℕ) (prefix : List Bool) (link : Option ℕ) (records : List Record) (is : IsAt pages number (Live (prefix ++ false ∷ []) link records)) (longer : length ward ≤ length prefix) where
  abbrev left : Page
  left = Live (prefix ++ false ∷ []) link records

  abbrev high : ℕ
  high = low_of (prefix ++ true ∷ [])

  short : length prefix < LIMIT
  short = omega (arith, length_push prefix false, (linked.within number left is).1)

  sibling_short : length (prefix ++ true ∷ []) ≤ LIMIT
  sibling_short = child_short prefix true short

  sibling_begins : Begins (prefix ++ true ∷ []) high
  sibling_begins = begins_own_low (prefix ++ true ∷ []) sibling_short

  -- the sibling is of the ward too
  covered : Begins ward high
  covered =
      let front : IsFront ward (prefix ++ true ∷ []) = front_of_longer ward prefix (true ∷ []) (front_of_child ward prefix false (linked.within number left is).0 longer) in
      front_of_front ward (prefix ++ true ∷ []) (word_bits high) (front_shorter ward (prefix ++ true ∷ []) front) front sibling_begins

  below : low_of (prefix ++ false ∷ []) < high
  below = omega (arith, left_keeps prefix short, right_above prefix short)

  -- the left child begins all from its own low bound to the sibling's
  begins_below : (low : ℕ) → low_of (prefix ++ false ∷ []) ≤ low → low < high → Begins (prefix ++ false ∷ []) low
  begins_below low from under =
      let begun : Begins prefix low = begins_between prefix low short (omega (arith, from, left_keeps prefix short)) under in
      elim (child_of_begun prefix low (omega (arith, short)) begun) [
        | inl lower ↦ lower
        | inr upper ↦ absurd (omega (arith, under, (begins_low (prefix ++ true ∷ []) low (omega (arith, sibling_short)) (omega (arith, under, low_of-small (prefix ++ true ∷ []) sibling_short)) upper).0))
      ]

  leads : LeadsOn pages link high
  leads = live_leads linked number (prefix ++ false ∷ []) link records is high (low_of-small (prefix ++ true ∷ []) sibling_short) covered (omega (arith, below)) (λ lower. one_child_begins prefix high lower sibling_begins)

  -- the right link leads to the page of the sibling's low bound: between the two the left child is home
  pub sibling_linked : (right : ℕ) × (link ≡ Some right) × IsPageOf pages (low_of (prefix ++ true ∷ [])) right
  sibling_linked =
      let link_is : IsRightLink pages left (Some leads.0) = subst (IsRightLink pages left) leads.1 (linked.links number left is) in
      let next = link_is.0 in
      let right_of = link_is.1 in
      let same : leads.2 ≡ next = one_there pages leads.0 leads.2 next leads.3 right_of.there in
      let low_is : low_bound next ≡ high = elim (cases_lt (low_bound next) high) [
        | inl under ↦
            let own = home_of_low next ward (linked.within leads.0 next right_of.there) right_of.live in
            let here : leads.0 ≡ number = linked.one_home (low_bound next) leads.0 number next left right_of.there is own (begins_below (low_bound next) (omega (arith, right_of.greater)) under) in
            let page_is : next ≡ left = one_there pages number next left (subst (λ n. IsAt pages n next) here right_of.there) is in
            absurd (omega (arith, right_of.greater, ap low_bound page_is))
        | inr over ↦ omega (arith, over, leads.4, ap low_bound same)
      ] in
      (leads.0, leads.1, (next, right_of.there, low_is))
