-- Pages that each answer for a notice are no more than the notices.
use Rattle.std.proofs.Common.{◌≡◌, ℕ, suc, ◌+◌, ◌<◌, ◌≤◌, Bool, true, false, not, ◌&&◌, nat_lt, eqb, List, [], ◌∷◌, ◌++◌, length, slice_get, Some, inl, inr, refl, sym, ap, ◌∙◌, arith}
use Rattle.std.specs.Prelude.{count_by}
use Rattle.std.proofs.lemmas.Bool.{and_parts, cases_Bool, cases_lt, eq-eqb, eqb-true, false_from_ne_true, false≢true, le-ltb, lt-ltb}
use Rattle.exh_prefix.specs.Prefix.{low_of}
use Rattle.exh_notice.specs.declared.notice.Notice.{Notice}
use Rattle.exh_page.specs.declared.page.Page.{Page}
use Rattle.exh_page.specs.Page.{low_bound}
use Rattle.exh_legal.specs.Pages.{IsAt}
use Rattle.exh_ward.specs.CountLemmas.{counts, counts_few, count_cons, count_less, count_none}
use Rattle.exh_walk.proofs.LaterNotices.{AnyNotice, IsChangeAt}

-- ---- counts

counts_either : (t e : Bool) → counts t ≤ counts (t && not e) + counts e
counts_either true true = omega arith
counts_either true false = omega arith
counts_either false e = omega arith

module _ {A : Type 0} where
  count_either : (t e : A → Bool) (xs : List A) → count_by t xs ≤ count_by (λ x. t x && not (e x)) xs + count_by e xs
  count_either t e [] = omega arith
  count_either t e (x ∷ xs) =
      omega (arith, count_cons t x xs, count_cons (λ x. t x && not (e x)) x xs, count_cons e x xs, counts_either (t x) (e x), count_either t e xs)

  -- at most one passes
  count_one : (e : A → Bool) (xs : List A) → ((one other : ℕ) (x y : A) → slice_get xs one ≡ Some x → slice_get xs other ≡ Some y → e x ≡ true → e y ≡ true → one ≡ other) → count_by e xs ≤ 1
  count_one e [] alone = omega arith
  count_one e (x ∷ xs) alone = elim (cases_Bool (e x)) [
    | inl passes ↦
        let none : count_by e xs ≡ 0 = count_none e xs (λ place y is. false_from_ne_true (e y) (λ passes_too. let clash : 0 ≡ suc place = alone 0 (suc place) x y refl is passes passes_too in absurd (omega (arith, clash)))) in
        omega (arith, count_cons e x xs, counts_few (e x), none)
    | inr fails ↦
        let rest = count_one e xs (λ one other y z is is_too first second. let both : suc one ≡ suc other = alone (suc one) (suc other) y z is is_too first second in omega (arith, both)) in
        omega (arith, count_cons e x xs, ap counts fails, rest)
  ]

-- ---- pages

abbrev IsRightLow : Page → Notice → Type 0
IsRightLow page notice = low_bound page ≡ low_of (notice.prefix ++ true ∷ [])

module _ (pages : List Page) (apart : (one other : ℕ) (page twin : Page) → IsAt pages one page → IsAt pages other twin → low_bound page ≡ low_bound twin → one ≡ other) where
  pub count_covered : (later : List Notice) (t : Page → Bool) → ((number : ℕ) (page : Page) → IsAt pages number page → t page ≡ true → AnyNotice (λ notice. low_bound page ≡ low_of (notice.prefix ++ true ∷ [])) later) → count_by t pages ≤ length later
  count_covered [] t each = omega (arith, count_none t pages (λ number page is. false_from_ne_true (t page) (λ passes. each number page is passes)))
  count_covered (notice ∷ later) t each =
      let low = low_of (notice.prefix ++ true ∷ []) in
      let e : Page → Bool = λ page. eqb (low_bound page) low in
      let one = count_one e pages (λ one other page twin is is_too first second. apart one other page twin is is_too (eqb-true (low_bound page) low first ∙ sym (eqb-true (low_bound twin) low second))) in
      let rest = count_covered later (λ page. t page && not (e page)) (λ number page is passes.
      let both = and_parts (t page) (not (e page)) passes in
      elim (each number page is both.0) [
        | inl here ↦ absurd (false≢true (sym (ap not (eq-eqb (low_bound page) low here)) ∙ both.1))
        | inr there ↦ there
      ]) in
      omega (arith, count_either t e pages, one, rest)

-- ---- notices at shorter prefixes

shorter_less : (n one other : ℕ) → one ≤ other → counts (nat_lt n one) ≤ counts (nat_lt n other)
shorter_less n one other less = elim (cases_lt n one) [
  | inl below ↦ omega (arith, counts_few (nat_lt n one), ap counts (lt-ltb n other (omega (arith, below, less))))
  | inr above ↦ omega (arith, ap counts (le-ltb n one above))
]

-- a notice at a prefix is one more of those at shorter prefixes than some length
pub more_below : (prefix : List Bool) (most : ℕ) → length prefix < most → (later : List Notice) → AnyNotice (IsChangeAt prefix) later
    → suc (count_by (λ notice. nat_lt (length notice.prefix) (length prefix)) later) ≤ count_by (λ notice. nat_lt (length notice.prefix) most) later
more_below prefix most less [] none = absurd none
more_below prefix most less (notice ∷ later) (inl here) =
    let short : Notice → Bool = λ notice. nat_lt (length notice.prefix) (length prefix) in
    let long : Notice → Bool = λ notice. nat_lt (length notice.prefix) most in
    let same : length notice.prefix ≡ length prefix = ap length here in
    let fails = ap counts (le-ltb (length notice.prefix) (length prefix) (omega (arith, same))) in
    let passes = ap counts (lt-ltb (length notice.prefix) most (omega (arith, same, less))) in
    let rest = count_less short long later (λ other. shorter_less (length other.prefix) (length prefix) most (omega (arith, less))) in
    omega (arith, count_cons short notice later, count_cons long notice later, fails, passes, rest)
more_below prefix most less (notice ∷ later) (inr there) =
    let short : Notice → Bool = λ notice. nat_lt (length notice.prefix) (length prefix) in
    let long : Notice → Bool = λ notice. nat_lt (length notice.prefix) most in
    omega (arith, count_cons short notice later, count_cons long notice later, shorter_less (length notice.prefix) (length prefix) most (omega (arith, less)), more_below prefix most less later there)
