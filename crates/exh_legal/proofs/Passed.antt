-- A ward's pages pass the tests exactly where they are legal.
use Rattle.std.proofs.Common.{◌≡◌, ◌≢◌, ℕ, zero, suc, ◌+◌, ◌-◌, ◌*◌, ◌^◌, ◌<◌, ◌≤◌, Bool, true, leb, List, [], ◌∷◌, length, replicate, Option, None, Some, inl, inr, refl, sym, ap, ◌∙◌, subst, arith}
use Rattle.std.proofs.lemmas.Bool.{le-leb}
use Rattle.std.proofs.lemmas.Bool.Decides.{leb_tells}
use Rattle.std.proofs.lemmas.List.{length-map}
use Rattle.std.proofs.lemmas.Nat.{pow_pos}
use Rattle.std.proofs.Math.Nat.{pow-le-pow_right, pow-suc}
use Rattle.exh_prefix.specs.declared.prefix.TheConstants.{LIMIT}
use Rattle.exh_prefix.specs.Bits.{bits_of, word_bits}
use Rattle.exh_prefix.specs.Prefix.{IsFront, Begins, low_of}
use Rattle.exh_prefix.specs.PrefixLemmas.{begins_low, front_of_front, fronts_nest}
use Rattle.exh_page.specs.declared.page.Page.{Page}
use Rattle.exh_page.specs.declared.page.Page.TheVariants.{Live, Forward}
use Rattle.exh_page.specs.declared.page.TheConstants.{CAP_LIMIT}
use Rattle.exh_page.specs.Page.{IsLive, IsWellFormed, low_bound, records_of, with_records}
use Rattle.exh_legal.specs.BareLemmas.{at_bare, bare_at, bare_low}
use Rattle.exh_prefix.specs.LowLemmas.{begins_own_low, front_shorter}
use Rattle.exh_legal.specs.MapLemmas.{all_pages, page_at}
use Rattle.exh_legal.specs.Pages.{IsAt, IsHome, IsLegal, IsLegalPage, IsLinkedPage, IsRightLink, IsWithin, AreLinked, bare}
use Rattle.exh_legal.specs.LegalParts.{IsBounded}
use Rattle.exh_legal.specs.ReasonLaws.{AreFormed}
use Rattle.exh_legal.specs.Reasons.{KeepsCap, HasLows, HasLeaves, HasLinks, HasTargets}
use Rattle.exh_legal.specs.LegalPlaceLemmas.{bare_live, home_bare, home_full, live_of_bare}
use Rattle.exh_legal.proofs.Bare.{bare_bare, link_to, target_to}

-- ---- numbers that are too great for a pseudokey have its greatest bits

full : (n number : ℕ) → 2 ^ n ≤ number + 1 → bits_of n number ≡ replicate n true
unfolding bits_of
full zero number enough = refl
full (suc n) number enough =
    let double : 2 ^ (suc n) ≡ 2 ^ n * 2 = pow-suc 2 n in
    let fits : leb (2 ^ n) number ≡ true = le-leb _ _ (omega (arith, double, pow_pos n, enough)) in
    rw (fits, full n (number - 2 ^ n) (omega (arith, double, pow_pos n, enough))) refl

abbrev greatest : ℕ
greatest = 18446744073709551615

same_word : (number : ℕ) → 2 ^ 64 ≤ number → word_bits number ≡ word_bits greatest
unfolding word_bits
same_word number large = full 64 number (omega (arith, large)) ∙ sym (full 64 greatest (omega arith))

same_begun : (prefix : List Bool) (number : ℕ) → 2 ^ 64 ≤ number → Begins prefix number → Begins prefix greatest
same_begun prefix number large is = subst (IsFront prefix) (same_word number large) is

same_begun_home : (page : Page) (number : ℕ) → 2 ^ 64 ≤ number → IsHome page number → IsHome page greatest
same_begun_home (Live prefix right records) number large is = same_begun prefix number large is
same_begun_home (Forward low target) number large is = is

-- ---- from the tests

module _ {pseudo : List ℕ → ℕ} {ward : List Bool} {pages : List Page} (short : length ward ≤ LIMIT) (formed : AreFormed pseudo pages) (lows : HasLows ward pages) (leaves : HasLeaves ward pages) where
  page_within : (number : ℕ) (page : Page) → IsAt pages number page → IsWithin ward page
  page_within number (Live prefix right records) is =
      let few : length prefix ≤ LIMIT = formed.bounded number _ is in
      let long = leaves.long prefix number (right, records, is) in
      (fronts_nest ward prefix (word_bits (low_of prefix)) long (lows.within number _ is) (begins_own_low prefix few), few)
  page_within number (Forward low target) is = (formed.bounded number _ is, lows.within number _ is, (formed.formed number _ is).1)

  -- a home is the ward's
  home_within : (number : ℕ) (page : Page) (pseudokey : ℕ) → IsAt pages number page → IsHome page pseudokey → Begins ward pseudokey
  home_within number (Live prefix right records) pseudokey is home =
      let within = page_within number _ is in
      front_of_front ward prefix (word_bits pseudokey) (front_shorter ward prefix within.0) within.0 home
  home_within number (Forward low target) pseudokey is home = absurd home

  pub only_home : (pseudokey one other : ℕ) (page twin : Page) → IsAt pages one page → IsAt pages other twin → IsHome page pseudokey → IsHome twin pseudokey → one ≡ other
  only_home pseudokey one other page twin is too home twin_home = elim (leb_tells (2 ^ 64) pseudokey) [
    | inl large ↦
        let first = same_begun_home page pseudokey large.1 home in
        leaves.one_home greatest (omega arith) (home_within one page greatest is first) one other page twin is too first (same_begun_home twin pseudokey large.1 twin_home)
    | inr small ↦ leaves.one_home pseudokey small.1 (home_within one page pseudokey is home) one other page twin is too home twin_home
  ]

  module _ (links : HasLinks pages) (targets : HasTargets pages) where
    page_linked : (number : ℕ) (full : Page) → IsAt pages number full → IsLinkedPage (bare pages) (with_records [] full)
    page_linked number (Live prefix right records) is = link_to pages (bare pages) (sym (bare_bare pages)) (Live prefix right records) (Live prefix right []) refl right (links number prefix right records is)
    page_linked number (Forward low target) is = target_to pages (bare pages) (sym (bare_bare pages)) low target (targets number low target is)

    bare_within : (number : ℕ) (full : Page) → IsAt pages number full → IsWithin ward (with_records [] full)
    bare_within number (Live prefix right records) is = page_within number _ is
    bare_within number (Forward low target) is = page_within number _ is

    pub to_linked : AreLinked ward (bare pages)
    to_linked = record {
      first = (with_records [] lows.first.0, bare_at pages 0 lows.first.0 lows.first.1, bare_live lows.first.0 lows.first.2, bare_low lows.first.0 ∙ lows.first.3);
      apart = λ one other page twin is too same.
          let full = at_bare pages one page is in
          let more = at_bare pages other twin too in
          lows.apart one other full.0 more.0 full.1 more.1 (sym (bare_low full.0) ∙ sym (ap low_bound full.2) ∙ same ∙ ap low_bound more.2 ∙ bare_low more.0);
      within = λ number page is. let full = at_bare pages number page is in subst (IsWithin ward) (sym full.2) (bare_within number full.0 full.1);
      home = λ pseudokey small begins.
          let found = leaves.home pseudokey small begins in
          (found.0, with_records [] found.1, bare_at pages found.0 found.1 found.2, home_bare found.1 pseudokey found.3);
      one_home = λ pseudokey one other page twin is too home twin_home.
          let full = at_bare pages one page is in
          let more = at_bare pages other twin too in
          only_home pseudokey one other full.0 more.0 full.1 more.1 (home_full full.0 pseudokey (subst (λ p. IsHome p pseudokey) full.2 home)) (home_full more.0 pseudokey (subst (λ p. IsHome p pseudokey) more.2 twin_home));
      links = λ number page is. let full = at_bare pages number page is in subst (IsLinkedPage (bare pages)) (sym full.2) (page_linked number full.0 full.1);
    }

    legal_page : (cap number : ℕ) (page : Page) → IsAt pages number page → length (records_of page) ≤ cap → IsLegalPage cap pseudo page
    legal_page cap number (Live prefix right records) is few = ((formed.formed number _ is).0, few)
    legal_page cap number (Forward low target) is few = tt

    pub to_legal : (cap : ℕ) → KeepsCap cap pages → IsLegal cap pseudo ward pages
    to_legal cap kept = record {
      each = all_pages (IsLegalPage cap pseudo) pages (λ number page is. legal_page cap number page is (kept number page is));
      linked = to_linked;
    }

-- ---- to the tests

below_length : (pages : List Page) (number : ℕ) (page : Page) → IsAt pages number page → number < length pages
below_length [] number page is = cc
below_length (first ∷ pages) zero page is = omega arith
below_length (first ∷ pages) (suc number) page is = omega (arith, below_length pages number page is)

module _ {cap : ℕ} {pseudo : List ℕ → ℕ} {ward : List Bool} {pages : List Page} (legal : IsLegal cap pseudo ward pages) where
  abbrev lean : List Page
  lean = bare pages

  linked : AreLinked ward lean
  linked = legal.linked

  bare_page : (number : ℕ) (page : Page) → IsAt pages number page → IsAt lean number (with_records [] page)
  bare_page number page is = bare_at pages number page is

  records_few : (page : Page) → IsLegalPage cap pseudo page → length (records_of page) ≤ cap
  records_few (Live prefix right records) is = is.1
  records_few (Forward low target) is = omega arith

  pub to_cap : KeepsCap cap pages
  to_cap number page is = records_few page (page_at (IsLegalPage cap pseudo) pages number page legal.each is)

  lean_bounded : (number : ℕ) (page : Page) → IsAt pages number page → IsWithin ward page
  lean_bounded number (Live prefix right records) is = linked.within number _ (bare_page number _ is)
  lean_bounded number (Forward low target) is = linked.within number _ (bare_page number _ is)

  begun_low : (number : ℕ) (page : Page) → IsAt pages number page → Begins ward (low_bound page)
  begun_low number (Live prefix right records) is =
      let within = lean_bounded number _ is in
      front_of_front ward prefix (word_bits (low_of prefix)) (front_shorter ward prefix within.0) within.0 (begins_own_low prefix within.1)
  begun_low number (Forward low target) is = (lean_bounded number _ is).1

  pub to_lows : HasLows ward pages
  to_lows = record {
    first = let full = at_bare pages 0 linked.first.0 linked.first.1 in
        (full.0, full.1, live_of_bare full.0 (subst IsLive full.2 linked.first.2), sym (bare_low full.0) ∙ sym (ap low_bound full.2) ∙ linked.first.3);
    within = begun_low;
    apart = λ one other page twin is too same. linked.apart one other (with_records [] page) (with_records [] twin) (bare_page one page is) (bare_page other twin too) (bare_low page ∙ same ∙ sym (bare_low twin));
  }

  pub to_leaves : HasLeaves ward pages
  to_leaves = record {
    long = λ prefix number is. front_shorter ward prefix (lean_bounded number _ is.2).0;
    home = λ pseudokey small begins.
        let found = linked.home pseudokey small begins in
        let full = at_bare pages found.0 found.1 found.2 in
        (found.0, full.0, full.1, home_full full.0 pseudokey (subst (λ p. IsHome p pseudokey) full.2 found.3));
    one_home = λ pseudokey small begins one other page twin is too home twin_home.
        linked.one_home pseudokey one other (with_records [] page) (with_records [] twin) (bare_page one page is) (bare_page other twin too) (home_bare page pseudokey home) (home_bare twin pseudokey twin_home);
  }

  pub to_links : HasLinks pages
  to_links number prefix right records is = link_to lean pages (bare_bare pages) (Live prefix right []) (Live prefix right records) refl right (linked.links number _ (bare_page number _ is))

  pub to_targets : HasTargets pages
  to_targets number low target is = target_to lean pages (bare_bare pages) low target (linked.links number _ (bare_page number _ is))

  module _ (short : length ward ≤ LIMIT) (capped : cap ≤ CAP_LIMIT) (few : length pages ≤ 2 ^ (LIMIT - length ward)) where
    most : length pages ≤ 2 ^ LIMIT
    most = let less : LIMIT - length ward ≤ LIMIT = omega arith in omega (arith, few, pow-le-pow_right {n = 2} (omega arith) less)

    link_small : (page : Page) (right : Option ℕ) → IsRightLink lean page right → right ≢ Some (2 ^ 32 - 1)
    link_small page None is same = cc
    link_small page (Some right) is same =
        let equal : right ≡ 2 ^ 32 - 1 = cc in
        absurd (omega (arith, equal, most, below_length lean right is.0 is.1.there, length-map pages (with_records [])))

    low_positive : (number low target : ℕ) → IsAt pages number (Forward low target) → low ≢ 0
    low_positive number low target is none =
        let within = lean_bounded number _ is in
        let reach = begins_low ward low (omega (arith, short)) within.0 within.1 in
        let same = linked.apart number 0 (Forward low target) linked.first.0 (bare_page number _ is) linked.first.1 (omega (arith, none, reach.0, linked.first.3)) in
        let there : IsAt lean 0 (Forward low target) = subst (λ n. IsAt lean n (Forward low target)) same (bare_page number _ is) in
        let page : Some linked.first.0 ≡ Some (Forward low target) = sym linked.first.1 ∙ there in
        let alike : linked.first.0 ≡ Forward low target = cc in
        absurd (subst IsLive alike linked.first.2)

    well_formed : (number : ℕ) (page : Page) → IsAt pages number page → IsLegalPage cap pseudo page → IsWellFormed pseudo page
    well_formed number (Live prefix right records) is own = (own.0, omega (arith, own.1, capped), link_small (Live prefix right []) right (linked.links number _ (bare_page number _ is)))
    well_formed number (Forward low target) is own = (low_positive number low target is, (lean_bounded number _ is).2)

    bounded : (number : ℕ) (page : Page) → IsAt pages number page → IsBounded page
    bounded number (Live prefix right records) is = (lean_bounded number _ is).1
    bounded number (Forward low target) is = (lean_bounded number _ is).0

    pub to_formed : AreFormed pseudo pages
    to_formed = record {
      formed = λ number page is. well_formed number page is (page_at (IsLegalPage cap pseudo) pages number page legal.each is);
      bounded = bounded;
    }
