-- A split of a ward's page: the pages that it leaves, and its notice.
use Rattle.std.proofs.Common.{◌≡◌, ℕ, ◌-◌, ◌%◌, ◌<◌, ◌≤◌, ◌^◌, Bool, true, false, List, [], ◌∷◌, ◌++◌, length, slice_get, Some, inl, inr, refl, sym, ap, ◌∙◌, subst, arith}
use Rattle.std.specs.Prelude.{slice_set}
use Rattle.std.proofs.lemmas.Bool.{cases_lt}
use Rattle.std.proofs.lemmas.List.{length-append, length-set}
use Rattle.std.proofs.lemmas.Option.{slice_get_within, slice_get_past}
use Rattle.std.proofs.Math.Pow.{pow_mono}
use Rattle.exh_prefix.specs.declared.prefix.TheConstants.{LIMIT, WARD_BITS_LIMIT}
use Rattle.exh_prefix.specs.BitLemmas.{length-bits_of}
use Rattle.exh_prefix.specs.Prefix.{low_of}
use Rattle.exh_prefix.specs.PrefixListLemmas.{set_here, set_else, at_front, at_last}
use Rattle.exh_notice.specs.declared.entry.Kind.TheVariants.{Split}
use Rattle.exh_notice.specs.declared.notice.Notice.{Notice}
use Rattle.exh_page.specs.declared.page.TheConstants.{CAP_LIMIT}
use Rattle.exh_page.specs.declared.page.Page.{Page}
use Rattle.exh_page.specs.declared.page.Page.TheVariants.{Live, Forward}
use Rattle.exh_page.specs.Page.{IsLive, IsWellFormed, low_bound, begun_by}
use Rattle.exh_legal.specs.Change.{IsForwardOf, IsSplit}
use Rattle.exh_legal.specs.Growth.{IsLiveAt}
use Rattle.exh_legal.specs.LegalLaws.{LivePagesSplit, PagesAreFew, SplitsKeepLegal}
use Rattle.exh_legal.specs.MapLemmas.{page_at}
use Rattle.exh_legal.specs.ChangeNumbers.{number_at, next_notice}
use Rattle.exh_legal.specs.Pages.{IsAt, IsLegalPage}
use Rattle.exh_ward.specs.SplitStep.{IsHalved, IsSplitStep}
use Rattle.exh_ward.specs.Told.{IsChangedTo, IsTold}
use Rattle.exh_ward.specs.WardState.{WardState, IsSound, own_prefix}
use Rattle.exh_ward.proofs.StepsKeepSound.{well_formed}

-- the pages after a split, with the two that it made
pub record IsMade {K : Type 0} (w : WardState K) (at : ℕ) (prefix : List Bool) (right : ℕ) (left twin : Page) (new : List Page) : Type 0 where
  pub split : IsSplit w.cap w.pages at prefix right new
  pub left_at : IsAt new at left
  pub left_live : IsLive left
  pub twin_at : IsAt new right twin
  pub twin_live : IsLive twin

module _ {K : Type 0} {w : WardState K} {at : ℕ} {prefix : List Bool} (is : IsHalved w at prefix) where
  abbrev pub low : ℕ
  low = low_of (prefix ++ true ∷ [])

  abbrev pub left_page : ℕ → Page
  left_page right = Live (prefix ++ false ∷ []) (Some right) (begun_by (prefix ++ false ∷ []) is.records)

  abbrev pub right_page : Page
  right_page = Live (prefix ++ true ∷ []) is.link (begun_by (prefix ++ true ∷ []) is.records)

  pub live_there : (number : ℕ) × IsLiveAt w.pages prefix number
  live_there = (at, (is.link, is.records, is.there))

  pub at_within : at < length w.pages
  at_within = slice_get_within w.pages at _ is.there

  pub apart : (right : ℕ) → IsForwardOf w.pages low right → at ≡ right → ⊥
  apart right forward same =
      let both : Some (Live prefix is.link is.records) ≡ Some (Forward low forward.0) = sym is.there ∙ ap (slice_get w.pages) same ∙ forward.1 in
      cc

  -- a split that makes a forwarding page live again
  pub revived : (right : ℕ) → IsForwardOf w.pages low right → IsSplit w.cap w.pages at prefix right (slice_set (slice_set w.pages at (left_page right)) right right_page)
  revived right forward =
      let first = slice_set w.pages at (left_page right) in
      let differ = apart right forward in
      let forward_first : IsAt first right (Forward low forward.0) = set_else w.pages at right (left_page right) (λ same. differ (sym same)) ∙ forward.1 in
      record {
        link = is.link;
        records = is.records;
        there = is.there;
        full = is.full;
        short = is.short;
        left = set_else first right at right_page differ ∙ set_here w.pages at _ (left_page right) is.there;
        right_half = set_here first right _ right_page forward_first;
        place = inl (forward, length-set first right right_page ∙ length-set w.pages at (left_page right));
        others = λ number else elsewhere. set_else first right number right_page elsewhere ∙ set_else w.pages at number (left_page right) else;
      }

  -- a split that makes a new page
  pub fresh : ((number : ℕ) (page : Page) → IsAt w.pages number page → low_bound page ≡ low → ⊥) → IsSplit w.cap w.pages at prefix (length w.pages) (slice_set w.pages at (left_page (length w.pages)) ++ right_page ∷ [])
  fresh none =
      let right = length w.pages in
      let front = slice_set w.pages at (left_page right) in
      let same : length front ≡ right = length-set w.pages at (left_page right) in
      record {
        link = is.link;
        records = is.records;
        there = is.there;
        full = is.full;
        short = is.short;
        left = at_front front (right_page ∷ []) at (omega (arith, same, at_within)) ∙ set_here w.pages at _ (left_page right) is.there;
        right_half = ap (slice_get (front ++ right_page ∷ [])) (sym same) ∙ at_last front right_page;
        place = inr (record { none = none; last = refl; more = omega (arith, length-append front (right_page ∷ []), same) });
        others = λ number else elsewhere. elim (cases_lt number right) [
          | inl before ↦ at_front front (right_page ∷ []) number (omega (arith, same, before)) ∙ set_else w.pages at number (left_page right) else
          | inr after ↦
              slice_get_past (front ++ right_page ∷ []) number (omega (arith, after, elsewhere, length-append front (right_page ∷ []), same))
              ∙ sym (slice_get_past w.pages number (omega (arith, after)))
        ];
      }

  -- the pages after a split, with the two that it makes
  pub made_revived : (right : ℕ) → IsForwardOf w.pages low right → IsMade w at prefix right (left_page right) right_page (slice_set (slice_set w.pages at (left_page right)) right right_page)
  made_revived right forward =
      let first = slice_set w.pages at (left_page right) in
      let differ = apart right forward in
      let forward_first : IsAt first right (Forward low forward.0) = set_else w.pages at right (left_page right) (λ same. differ (sym same)) ∙ forward.1 in
      record {
        split = revived right forward;
        left_live = tt;
        twin_live = tt;
        left_at = set_else first right at right_page differ ∙ set_here w.pages at _ (left_page right) is.there;
        twin_at = set_here first right _ right_page forward_first;
      }

  pub made_fresh : ((number : ℕ) (page : Page) → IsAt w.pages number page → low_bound page ≡ low → ⊥)
      → IsMade w at prefix (length w.pages) (left_page (length w.pages)) right_page (slice_set w.pages at (left_page (length w.pages)) ++ right_page ∷ [])
  made_fresh none =
      let last = length w.pages in
      let front = slice_set w.pages at (left_page last) in
      let same : length front ≡ last = length-set w.pages at (left_page last) in
      record {
        split = fresh none;
        left_live = tt;
        twin_live = tt;
        left_at = at_front front (right_page ∷ []) at (omega (arith, same, at_within)) ∙ set_here w.pages at _ (left_page last) is.there;
        twin_at = ap (slice_get (front ++ right_page ∷ [])) (sym same) ∙ at_last front right_page;
      }

  module _ {pseudo : List ℕ → ℕ} (sound : IsSound pseudo w) where
    pub number_even : LivePagesSplit → (number_at w.table prefix) % 2 ≡ 0
    number_even law = (law w.cap pseudo (own_prefix w) w.start w.notices w.table w.pages prefix at sound.legal (is.link, is.records, is.there) is.short).even

    pub not_greatest : LivePagesSplit → number_at w.table prefix ≡ 2 ^ 32 - 1 → ⊥
    not_greatest law same =
        let parity : (number_at w.table prefix) % 2 ≡ 1 = ap (λ n. n % 2) same in
        omega (arith, parity, number_even law)

    module _ (law : SplitsKeepLegal) (right : ℕ) (new : List Page) (split : IsSplit w.cap w.pages at prefix right new) (notice : Notice) (next : notice ≡ next_notice w.number w.table prefix (Split right)) where
      pub split_changed : IsChangedTo pseudo w notice new
      split_changed = law w.cap pseudo (own_prefix w) w.start w.notices w.table w.pages at prefix right new notice sound.legal split
          (ap (λ (n : Notice). n.prefix) next) (ap (λ (n : Notice). n.number) next) (ap (λ (n : Notice). n.kind) next)

      -- the halves are well formed
      few_new : PagesAreFew → w.ward_bits ≤ WARD_BITS_LIMIT → length new < 2 ^ 32 - 1
      few_new few bits =
          let len : length (own_prefix w) ≡ w.ward_bits = length-bits_of w.ward_bits w.number in
          let most = few (own_prefix w) new (omega (arith, len, bits)) split_changed.legal.legal.linked in
          let room : 2 ^ (LIMIT - length (own_prefix w)) ≤ 2 ^ LIMIT = pow_mono {i = LIMIT - length (own_prefix w)} {j = LIMIT} (omega arith) in
          omega (arith, most, room)

      pub formed : PagesAreFew → w.ward_bits ≤ WARD_BITS_LIMIT → w.cap ≤ CAP_LIMIT → (number : ℕ) (page : Page) → IsAt new number page → IsLive page → IsWellFormed pseudo page
      formed few bits cap number (Live prefix link records) there live =
          let legal = split_changed.legal.legal in
          well_formed new legal.linked (few_new few bits) cap number prefix link records records there (page_at (IsLegalPage w.cap pseudo) new number _ legal.each there)
      formed few bits cap number (Forward from target) there live = absurd live

      pub split_step : (after : WardState K) → IsTold w notice new after → IsSplitStep w at notice after
      split_step after told =
          let P : WardState K → Type 0 = λ after. IsSplitStep w at notice after in
          let at_prefix : prefix ≡ notice.prefix = sym (ap (λ (n : Notice). n.prefix) next) in
          let Q : List Bool → Type 0 = λ p. IsSplit w.cap w.pages at p right new in
          let R : List Bool → Type 0 = λ p. notice ≡ next_notice w.number w.table p (Split right) in
          subst P (sym told) (record {
            right = right;
            split = subst Q at_prefix split;
            notice_is = subst R at_prefix next;
            map = split_changed.map;
            places = split_changed.places;
            others = refl;
          })

-- the step, where the ward and its notice are as they are seen
pub step_seen : {K : Type 0} {w now : WardState K} → w ≡ now → (at : ℕ) (notice made : Notice) → made ≡ notice → (after : WardState K) → IsSplitStep w at notice after → IsSplitStep now at made after
step_seen {K = K} {now = now} seen at notice made same after step =
    let P : WardState K → Type 0 = λ old. IsSplitStep old at notice after in
    let Q : Notice → Type 0 = λ notice. IsSplitStep now at notice after in
    subst Q (sym same) (subst P seen step)
