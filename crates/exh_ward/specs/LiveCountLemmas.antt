-- How many live pages lie between two numbers.
use Rattle.std.proofs.Common.{◌≡◌, ℕ, suc, ◌<◌, ◌≤◌, Bool, true, false, List, inl, inr, refl, sym, ap, ◌∙◌, arith}
use Rattle.std.specs.Prelude.{◌&&◌, nat_lt, nat_le}
use Rattle.std.proofs.lemmas.Bool.{cases_lt, lt-ltb, le-ltb, le-leb, lt-leb}
use Rattle.exh_prefix.specs.Prefix.{low_of}
use Rattle.exh_page.specs.declared.page.Page.{Page}
use Rattle.exh_page.specs.declared.page.Page.TheVariants.{Live, Forward}
use Rattle.exh_page.specs.Page.{IsLive, low_bound}
use Rattle.exh_legal.specs.Pages.{IsAt, AreLinked, bare}
use Rattle.exh_ward.specs.Distance.{is_live_between, live_between}
use Rattle.exh_ward.specs.CountLemmas.{count_none, count_one_more}
use Rattle.exh_ward.specs.LinkLemmas.{IsNext, apart}

-- ---- the test that counts live pages

-- a number above the next low bound is above the first, and none other is
above_same : (low next bound : ℕ) → low < next → (low < bound → next ≤ bound) → (bound ≡ next → ⊥) → nat_lt low bound ≡ nat_lt next bound
above_same low next bound less least differs = elim (cases_lt low bound) [
  | inl above ↦ lt-ltb low bound above ∙ sym (lt-ltb next bound (omega (arith, least above, differs)))
  | inr below ↦ le-ltb low bound below ∙ sym (le-ltb next bound (omega (arith, below, less)))
]

not_between : (low pseudokey : ℕ) (page : Page) → (IsLive page → low < low_bound page → low_bound page ≤ pseudokey → ⊥) → is_live_between low pseudokey page ≡ false
not_between low pseudokey (Forward bound target) none = refl
not_between low pseudokey (Live prefix right records) none = elim (cases_lt low (low_of prefix)) [
  | inl above ↦ elim (cases_lt pseudokey (low_of prefix)) [
    | inl beyond ↦ ap (λ b. b && nat_le (low_of prefix) pseudokey) (lt-ltb low (low_of prefix) above) ∙ lt-leb (low_of prefix) pseudokey beyond
    | inr within ↦ absurd (none tt above within)
  ]
  | inr below ↦ ap (λ b. b && nat_le (low_of prefix) pseudokey) (le-ltb low (low_of prefix) below)
]

pub is_between : (low pseudokey : ℕ) (page : Page) → IsLive page → low < low_bound page → low_bound page ≤ pseudokey → is_live_between low pseudokey page ≡ true
is_between low pseudokey (Live prefix right records) live above within = ap (λ b. b && nat_le (low_of prefix) pseudokey) (lt-ltb low (low_of prefix) above) ∙ le-leb (low_of prefix) pseudokey within
is_between low pseudokey (Forward bound target) live above within = absurd live

same_between : (low next pseudokey : ℕ) (page : Page) → low < next → (IsLive page → low < low_bound page → next ≤ low_bound page) → (low_bound page ≡ next → ⊥) → is_live_between low pseudokey page ≡ is_live_between next pseudokey page
same_between low next pseudokey (Live prefix right records) less least differs = ap (λ b. b && nat_le (low_of prefix) pseudokey) (above_same low next (low_of prefix) less (least tt) differs)
same_between low next pseudokey (Forward bound target) less least differs = refl

-- ---- the count

-- none
pub none_between : (pages : List Page) (low pseudokey : ℕ) → ((other : ℕ) (beyond : Page) → IsAt pages other beyond → IsLive beyond → low < low_bound beyond → low_bound beyond ≤ pseudokey → ⊥) → live_between pages low pseudokey ≡ 0
none_between pages low pseudokey none = count_none (is_live_between low pseudokey) pages (λ other beyond is. not_between low pseudokey beyond (none other beyond is))

-- the next live page has one less to its right
pub one_less_right : (ward : List Bool) (pages : List Page) → AreLinked ward (bare pages) → (pseudokey : ℕ) (page : Page) (right : ℕ) (next : Page) → IsNext pages page right next → low_bound next ≤ pseudokey
    → live_between pages (low_bound page) pseudokey ≡ suc (live_between pages (low_bound next) pseudokey)
one_less_right ward pages linked pseudokey page right next is within =
    count_one_more (is_live_between (low_bound page) pseudokey) (is_live_between (low_bound next) pseudokey) pages right next is.there
    (is_between (low_bound page) pseudokey next is.live is.greater within)
    (not_between (low_bound next) pseudokey next (λ live above below. omega (arith, above)))
    (λ other beyond is_beyond differs.
    same_between (low_bound page) (low_bound next) pseudokey beyond is.greater (is.least other beyond is_beyond) (λ same. differs (apart ward pages linked other right beyond next is_beyond is.there same)))
