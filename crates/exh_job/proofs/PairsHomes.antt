-- The pages of a legal file: each is legal, and no pseudokey has two homes.
use Rattle.std.proofs.Common.{◌≡◌, ◌∙◌, ◌+◌, ℕ, suc, ◌<◌, ◌≤◌, ◌^◌, Bool, List, [], ◌∷◌, ◌++◌, length, slice_get, Some, refl, sym, ap, subst, arith}
use Rattle.std.specs.List.{AllByRecursion, flat_map}
use Rattle.std.proofs.lemmas.List.{length-take}
use Rattle.std.proofs.lemmas.Option.{slice_get_within}
use Rattle.exh_prefix.specs.BitLemmas.{length-bits_of, number_of-bits_of}
use Rattle.exh_prefix.specs.Bits.{word_bits}
use Rattle.exh_prefix.specs.Leading.{leading, ward_of, ward_prefix}
use Rattle.exh_prefix.specs.LeadingLemmas.{leading-of_begun}
use Rattle.exh_prefix.specs.PrefixListLemmas.{AllByRecursion-append, AllByRecursion-weaker}
use Rattle.exh_prefix.specs.Prefix.{Begins}
use Rattle.exh_prefix.specs.PrefixLemmas.{front_of_front}
use Rattle.exh_keyer.specs.Pseudokey.{any_pseudokey}
use Rattle.exh_page.specs.Page.{with_records}
use Rattle.exh_page.specs.declared.page.Page.{Page}
use Rattle.exh_page.specs.declared.page.Page.TheVariants.{Live, Forward}
use Rattle.exh_legal.specs.BareLemmas.{bare_at}
use Rattle.exh_legal.specs.MapLemmas.{all_pages}
use Rattle.exh_legal.specs.LegalPlaceLemmas.{home_bare}
use Rattle.exh_legal.specs.Pages.{IsAt, IsHome, IsLegal, IsLegalPage, IsWithin}
use Rattle.exh_format.specs.PageFile.{PageFile, pages_of}
use Rattle.exh_format.specs.LegalFileLemmas.{count_of_wards}
use Rattle.exh_report.specs.VersionLaws.{IsKnownLegal}
use Rattle.exh_job.proofs.PairsFit.{AreApartPages, HaveOneHome, IsShort}

-- ---- pages of a list

homes_from : (pages : List Page) → ((one other : ℕ) (page twin : Page) (pseudokey : ℕ) → IsAt pages one page → IsAt pages other twin → IsHome page pseudokey → IsHome twin pseudokey → one ≡ other) → HaveOneHome pages
homes_from [] one_home = tt
homes_from (page ∷ pages) one_home = (
  all_pages (AreApartPages page) pages (λ number other there pseudokey home twin. let never : 0 ≡ suc number = one_home 0 (suc number) page other pseudokey refl there home twin in absurd (omega (arith, never))),
  homes_from pages (λ one other page twin pseudokey at at_too home home_too. let same : suc one ≡ suc other = one_home (suc one) (suc other) page twin pseudokey at at_too home home_too in omega (arith, same)),
)

homes_both : (a b : List Page) → HaveOneHome a → HaveOneHome b → AllByRecursion (λ page. AllByRecursion (AreApartPages page) b) a → HaveOneHome (a ++ b)
homes_both [] b first second cross = second
homes_both (page ∷ a) b first second cross = (AllByRecursion-append (AreApartPages page) a b first.0 cross.0, homes_both a b first.1 second cross.1)

-- ---- pages of wards

of_ward : (ward : List Bool) (page : Page) → IsWithin ward (with_records [] page) → (pseudokey : ℕ) → IsHome page pseudokey → Begins ward pseudokey
of_ward ward (Live prefix right records) within pseudokey home =
    let shorter : length ward ≤ length prefix = omega (arith, length-take (length ward) prefix, ap length within.0) in
    front_of_front ward prefix (word_bits pseudokey) shorter within.0 home
of_ward ward (Forward low target) within pseudokey home = absurd home

short_of : (ward : List Bool) (page : Page) → IsWithin ward (with_records [] page) → IsShort page
short_of ward (Live prefix right records) within = within.1
short_of ward (Forward low target) within = tt

module _ (cap bits : ℕ) (pseudo : List ℕ → ℕ) where
  abbrev IsOf : ℕ → Page → Type 0
  IsOf number page = (pseudokey : ℕ) → IsHome page pseudokey → ward_of bits pseudokey ≡ number

  abbrev IsFrom : ℕ → Page → Type 0
  IsFrom number page = (pseudokey : ℕ) → IsHome page pseudokey → number ≤ ward_of bits pseudokey

  record IsGood (number : ℕ) (pages : List Page) : Type 0 where
    homes : HaveOneHome pages
    own : AllByRecursion (IsOf number) pages
    legal : AllByRecursion (IsLegalPage cap pseudo) pages
    short : AllByRecursion IsShort pages

  -- the pages of a legal ward
  ward_good : (number less : ℕ) (pages : List Page) → number < 2 ^ bits → less ≤ cap → IsLegal less pseudo (ward_prefix bits number) pages → IsGood number pages
  ward_good number less pages small lesser legal = record {
    homes = homes_from pages (λ one other page twin pseudokey at at_too home home_too.
        legal.linked.one_home pseudokey one other (with_records [] page) (with_records [] twin) (bare_at pages one page at) (bare_at pages other twin at_too) (home_bare page pseudokey home) (home_bare twin pseudokey home_too));
    own = all_pages (IsOf number) pages (λ at page there pseudokey home.
        let begun = of_ward (ward_prefix bits number) page (legal.linked.within at (with_records [] page) (bare_at pages at page there)) pseudokey home in
        ap (λ n. leading n pseudokey) (sym (length-bits_of bits number)) ∙ leading-of_begun (ward_prefix bits number) pseudokey begun ∙ number_of-bits_of bits number small);
    legal = AllByRecursion-weaker (IsLegalPage less pseudo) (IsLegalPage cap pseudo) (larger less lesser) pages legal.each;
    short = all_pages IsShort pages (λ at page there. short_of (ward_prefix bits number) page (legal.linked.within at (with_records [] page) (bare_at pages at page there)));
  }
    where
      larger : (less : ℕ) → less ≤ cap → (page : Page) → IsLegalPage less pseudo page → IsLegalPage cap pseudo page
      larger less lesser (Live prefix right records) legal = (legal.0, omega (arith, legal.1, lesser))
      larger less lesser (Forward low target) legal = tt

  crossed : (from : ℕ) (a b : List Page) → AllByRecursion (IsOf from) a → AllByRecursion (IsFrom (suc from)) b → AllByRecursion (λ page. AllByRecursion (AreApartPages page) b) a
  crossed from a b of others =
      AllByRecursion-weaker (IsOf from) (λ page. AllByRecursion (AreApartPages page) b)
      (λ page own. AllByRecursion-weaker (IsFrom (suc from)) (AreApartPages page) (λ other later pseudokey home twin. absurd (omega (arith, own pseudokey home, later pseudokey twin))) b others) a of

  pub record AreGood (from : ℕ) (pages : List Page) : Type 0 where
    pub homes : HaveOneHome pages
    own : AllByRecursion (IsFrom from) pages
    pub legal : AllByRecursion (IsLegalPage cap pseudo) pages
    pub short : AllByRecursion IsShort pages

  wards_good : (wards : List (List Page)) (from : ℕ) → ((number : ℕ) (pages : List Page) → slice_get wards number ≡ Some pages → IsGood (from + number) pages) → AreGood from (flat_map (λ ward. ward) wards)
  wards_good [] from each = record { homes = tt; own = tt; legal = tt; short = tt }
  wards_good (pages ∷ wards) from each =
      let next : (n : ℕ) → from + suc n ≡ suc from + n = λ n. omega arith in
      let own : IsGood from pages = subst (λ n. IsGood n pages) (let none : from + 0 ≡ from = omega arith in none) (each 0 pages refl) in
      let others = wards_good wards (suc from) (λ number pages there. subst (λ n. IsGood n pages) (next number) (each (suc number) pages there)) in
      let rest = flat_map (λ (ward : List Page). ward) wards in record {
        homes = homes_both pages rest own.homes others.homes (crossed from pages rest own.own others.own);
        own = AllByRecursion-append (IsFrom from) pages rest
            (AllByRecursion-weaker (IsOf from) (IsFrom from) (λ page of pseudokey home. omega (arith, of pseudokey home)) pages own.own)
            (AllByRecursion-weaker (IsFrom (suc from)) (IsFrom from) (λ page later pseudokey home. omega (arith, later pseudokey home)) rest others.own);
        legal = AllByRecursion-append (IsLegalPage cap pseudo) pages rest own.legal others.legal;
        short = AllByRecursion-append IsShort pages rest own.short others.short;
      }

-- all pages of a legal file, by a cap that is no smaller than the file's
pub file_good : (file : PageFile) (cap : ℕ) → IsKnownLegal file → file.header.settings.cap ≤ cap
    → AreGood cap file.header.settings.ward_bits (any_pseudokey file.header.settings.keyer) 0 (pages_of file.wards)
file_good file cap legal lesser =
    let settings = file.header.settings in
    wards_good cap settings.ward_bits (any_pseudokey settings.keyer) file.wards 0 (λ number pages there.
    let same : number ≡ 0 + number = omega arith in
    let small : number < 2 ^ settings.ward_bits = omega (arith, slice_get_within file.wards number pages there, count_of_wards file legal.is_known) in
    subst (λ n. IsGood cap settings.ward_bits (any_pseudokey settings.keyer) n pages) same
    (ward_good cap settings.ward_bits (any_pseudokey settings.keyer) number settings.cap pages small lesser (legal.legal.wards number pages there).legal.legal))
