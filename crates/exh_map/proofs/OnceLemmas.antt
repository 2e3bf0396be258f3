-- No key stands twice among the pairs of wards, each of which is sound.
use Rattle.std.proofs.Common.{nat_cmp, ◌≡◌, ◌≢◌, ◌∙◌, ◌+◌, ℕ, zero, suc, ◌<◌, ◌≤◌, ◌^◌, Bool, List, [], ◌∷◌, ◌++◌, length, map, slice_get, None, Some, false, cond, refl, sym, ap, subst, arith}
use Rattle.std.specs.Prelude.{⊤}
use Rattle.std.specs.List.{AllByRecursion, flat_map}
use Rattle.std.specs.declared.cmp.Ordering.TheVariants.{Equal, Less}
use Rattle.std.specs.FinMap as fin
use Rattle.std.specs.Ordering.{eq_by_cmp}
use Rattle.std.specs.Option.{is_some, option_map}
use Rattle.std.specs.Cmp.Lexicographic.{slice_cmp}
use Rattle.std.proofs.lemmas.Bool.{false_from_ne_true}
use Rattle.std.proofs.lemmas.Cmp.{nat_list_cmp_total, tied_itself}
use Rattle.std.proofs.lemmas.Map.Lookups.{exact_bytes}
use Rattle.exh_prefix.specs.PrefixListLemmas.{is_equal, AllByRecursion-append, AllByRecursion-weaker}
use Rattle.std.proofs.lemmas.List.{length-map, length-take, map-append}
use Rattle.std.proofs.lemmas.Option.{slice_get-map, slice_get_within}
use Rattle.exh_prefix.specs.BitLemmas.{length-bits_of, number_of-bits_of}
use Rattle.exh_prefix.specs.Bits.{word_bits}
use Rattle.exh_prefix.specs.Leading.{leading, ward_of, ward_prefix}
use Rattle.exh_prefix.specs.LeadingLemmas.{leading-of_begun}
use Rattle.exh_prefix.specs.Prefix.{Begins}
use Rattle.exh_prefix.specs.PrefixLemmas.{front_of_front}
use Rattle.exh_keyer.specs.Pseudokey.{any_pseudokey}
use Rattle.exh_keyer.specs.declared.any_keyer.AnyKeyer.{AnyKeyer}
use Rattle.exh_page.specs.KeyMap.{KeyMap, pair_of}
use Rattle.exh_page.specs.Page.{records_of, with_records}
use Rattle.exh_page.specs.Place.{Place, place_cmp, place_of}
use Rattle.exh_page.specs.Records.{IsRising}
use Rattle.exh_page.specs.RecordsLemmas.{place_cmp-total}
use Rattle.exh_page.specs.declared.page.Page.{Page}
use Rattle.exh_page.specs.declared.page.Page.TheVariants.{Live, Forward}
use Rattle.exh_page.specs.declared.record.Record.{Record}
use Rattle.exh_legal.specs.BareLemmas.{bare_at}
use Rattle.exh_legal.specs.MapLemmas.{all_pages}
use Rattle.exh_legal.specs.LegalPlaceLemmas.{home_bare}
use Rattle.exh_legal.specs.Pages.{IsAt, IsHome, IsLegal, IsLegalPage, IsWithin}
use Rattle.exh_format.specs.PageFile.{pages_of}
use Rattle.exh_ward.specs.WardState.{WardState, own_prefix}
use Rattle.exh_in_place.specs.FileChange.{HasMap, IsPart, maps_in}
use Rattle.exh_in_place.specs.Opened.{AreWardsOf, IsWardOf, OpenedState}
use Rattle.exh_in_place.specs.Saved.{AreSound, pages_of_all}
use Rattle.exh_map.specs.Pairs.{AreOnce, pairs_in, pairs_of}
use Rattle.exh_map.proofs.AgainLemmas.{all_pairs}
use Rattle.exh_map.proofs.LeftLemmas.{own_map}
use Rattle.exh_map.proofs.WholeMap.{found, one_in}

-- ---- lists of pairs

abbrev HasNot : List ℕ × List ℕ → List (List ℕ × List ℕ) → Type 0
HasNot pair pairs = AllByRecursion (λ other. other.0 ≢ pair.0) pairs

once_both : (a b : List (List ℕ × List ℕ)) → AreOnce a → AreOnce b → AllByRecursion (λ pair. HasNot pair b) a → AreOnce (a ++ b)
once_both [] b first second cross = second
once_both (pair ∷ a) b first second cross = (AllByRecursion-append (λ other. other.0 ≢ pair.0) a b first.0 cross.0, once_both a b first.1 second cross.1)

of_records : (P : List ℕ × List ℕ → Type 0) (records : List Record) → AllByRecursion (λ r. P (pair_of r)) records → AllByRecursion P (map pair_of records)
of_records P [] all = tt
of_records P (r ∷ records) all = (all.0, of_records P records all.1)

all_of : {A : Type 0} (P : A → Type 0) (items : List A) → ((item : A) → P item) → AllByRecursion P items
all_of P [] each = tt
all_of P (item ∷ items) each = (each item, all_of P items each)

-- ---- pages of a list

-- no pseudokey is begun by both pages
abbrev AreApartPages : Page → Page → Type 0
AreApartPages page other = (pseudokey : ℕ) → IsHome page pseudokey → IsHome other pseudokey → ⊥

-- none is begun by two of them
abbrev HaveOneHome : List Page → Type 0
HaveOneHome [] = ⊤
HaveOneHome (page ∷ pages) = AllByRecursion (AreApartPages page) pages × HaveOneHome pages

homes_from : (pages : List Page) → ((one other : ℕ) (page twin : Page) (pseudokey : ℕ) → IsAt pages one page → IsAt pages other twin → IsHome page pseudokey → IsHome twin pseudokey → one ≡ other) → HaveOneHome pages
homes_from [] one_home = tt
homes_from (page ∷ pages) one_home = (
  all_pages (AreApartPages page) pages (λ number other there pseudokey home twin. let never : 0 ≡ suc number = one_home 0 (suc number) page other pseudokey refl there home twin in absurd (omega (arith, never))),
  homes_from pages (λ one other page twin pseudokey at at_too home home_too. let same : suc one ≡ suc other = one_home (suc one) (suc other) page twin pseudokey at at_too home home_too in omega (arith, same)),
)

homes_both : (a b : List Page) → HaveOneHome a → HaveOneHome b → AllByRecursion (λ page. AllByRecursion (AreApartPages page) b) a → HaveOneHome (a ++ b)
homes_both [] b first second cross = second
homes_both (page ∷ a) b first second cross = (AllByRecursion-append (AreApartPages page) a b first.0 cross.0, homes_both a b first.1 second cross.1)

-- ---- pages of wards

of_ward : (ward : List Bool) (page : Page) → IsWithin ward (with_records [] page) → (pseudokey : ℕ) → IsHome page pseudokey → Begins ward pseudokey
of_ward ward (Live prefix right records) within pseudokey home =
    let shorter : length ward ≤ length prefix = omega (arith, length-take (length ward) prefix, ap length within.0) in
    front_of_front ward prefix (word_bits pseudokey) shorter within.0 home
of_ward ward (Forward low target) within pseudokey home = absurd home

module _ (cap bits : ℕ) (pseudo : List ℕ → ℕ) where
  -- ---- records of pages

  -- a record that stands behind another one of its page has another key
  other_key : (r s : Record) → r.pseudokey ≡ pseudo r.key → s.pseudokey ≡ pseudo s.key → place_cmp (place_of r) (place_of s) ≡ Less → s.key ≢ r.key
  other_key r s hashed twin_hashed before same =
      let same_place : place_of s ≡ place_of r = ap (λ (k : ℕ). let p : Place = (k, s.key) in p) (twin_hashed ∙ ap pseudo same ∙ sym hashed) ∙ ap (λ (key : List ℕ). let p : Place = (r.pseudokey, key) in p) same in
      let tied : place_cmp (place_of r) (place_of r) ≡ Equal = tied_itself place_cmp-total (place_of r) in
      let never : Less ≡ Equal = sym (subst (λ (p : Place). place_cmp (place_of r) p ≡ Less) same_place before) ∙ tied in
      cc

  others_keys : (r : Record) (rest : List Record) → r.pseudokey ≡ pseudo r.key → AllByRecursion (λ s. s.pseudokey ≡ pseudo s.key) rest → AllByRecursion (λ s. place_cmp (place_of r) (place_of s) ≡ Less) rest → AllByRecursion (λ s. s.key ≢ r.key) rest
  others_keys r [] hashed all rising = tt
  others_keys r (s ∷ rest) hashed all rising = (other_key r s hashed all.0 rising.0, others_keys r rest hashed all.1 rising.1)

  rising_once : (records : List Record) → IsRising records → AllByRecursion (λ r. r.pseudokey ≡ pseudo r.key) records → AreOnce (map pair_of records)
  rising_once [] rising hashed = tt
  rising_once (r ∷ rest) rising hashed = (of_records (λ other. other.0 ≢ r.key) rest (others_keys r rest hashed.0 hashed.1 rising.0), rising_once rest rising.1 hashed.1)

  page_once : (page : Page) → IsLegalPage cap pseudo page → AreOnce (map pair_of (records_of page))
  page_once (Live prefix right records) legal = rising_once records legal.0.rising legal.0.hashed
  page_once (Forward low target) legal = tt

  -- a page is the home of its records' keys
  homes_of : (prefix : List Bool) (records : List Record) → AllByRecursion (λ r. r.pseudokey ≡ pseudo r.key) records → AllByRecursion (λ r. Begins prefix r.pseudokey) records → AllByRecursion (λ r. Begins prefix (pseudo r.key)) records
  homes_of prefix [] hashed begun = tt
  homes_of prefix (r ∷ rest) hashed begun = (subst (Begins prefix) hashed.0 begun.0, homes_of prefix rest hashed.1 begun.1)

  own_home : (page : Page) → IsLegalPage cap pseudo page → AllByRecursion (λ r. IsHome page (pseudo r.key)) (records_of page)
  own_home (Live prefix right records) legal = homes_of prefix records legal.0.hashed legal.0.begun
  own_home (Forward low target) legal = tt

  -- a key whose home is another page isn't there
  not_there : (page : Page) (key : List ℕ) → (IsHome page (pseudo key) → ⊥) → AllByRecursion (λ r. IsHome page (pseudo r.key)) (records_of page) → AllByRecursion (λ r. r.key ≢ key) (records_of page)
  not_there page key else homes =
      AllByRecursion-weaker (λ r. IsHome page (pseudo r.key)) (λ r. r.key ≢ key) (λ r home same. else (subst (λ (k : List ℕ). IsHome page (pseudo k)) same home)) (records_of page) homes

  nowhere : (pages : List Page) (key : List ℕ) → AllByRecursion (λ page. IsHome page (pseudo key) → ⊥) pages → AllByRecursion (IsLegalPage cap pseudo) pages → AllByRecursion (λ r. r.key ≢ key) (flat_map records_of pages)
  nowhere [] key else legal = tt
  nowhere (page ∷ pages) key else legal =
      AllByRecursion-append (λ r. r.key ≢ key) (records_of page) (flat_map records_of pages) (not_there page key else.0 (own_home page legal.0)) (nowhere pages key else.1 legal.1)

  crossing : (page : Page) (pages : List Page) (records : List Record) → AllByRecursion (λ r. IsHome page (pseudo r.key)) records → AllByRecursion (AreApartPages page) pages → AllByRecursion (IsLegalPage cap pseudo) pages
      → AllByRecursion (λ pair. HasNot pair (map pair_of (flat_map records_of pages))) (map pair_of records)
  crossing page pages records homes apart legal =
      of_records (λ pair. HasNot pair (map pair_of (flat_map records_of pages))) records
      (AllByRecursion-weaker (λ r. IsHome page (pseudo r.key)) (λ r. HasNot (pair_of r) (map pair_of (flat_map records_of pages)))
      (λ r home. of_records (λ other. other.0 ≢ r.key) (flat_map records_of pages)
      (nowhere pages r.key (AllByRecursion-weaker (AreApartPages page) (λ other. IsHome other (pseudo r.key) → ⊥) (λ other apart twin. apart (pseudo r.key) home twin) pages apart) legal)) records homes)

  pages_once : (pages : List Page) → AllByRecursion (IsLegalPage cap pseudo) pages → HaveOneHome pages → AreOnce (map pair_of (flat_map records_of pages))
  pages_once [] legal homes = tt
  pages_once (page ∷ pages) legal homes =
      subst AreOnce (sym (map-append pair_of (records_of page) (flat_map records_of pages)))
      (once_both (map pair_of (records_of page)) (map pair_of (flat_map records_of pages)) (page_once page legal.0) (pages_once pages legal.1 homes.1)
      (crossing page pages (records_of page) (own_home page legal.0) homes.0 legal.1))

  -- ---- pages of wards

  abbrev IsOf : ℕ → Page → Type 0
  IsOf number page = (pseudokey : ℕ) → IsHome page pseudokey → ward_of bits pseudokey ≡ number

  abbrev IsFrom : ℕ → Page → Type 0
  IsFrom number page = (pseudokey : ℕ) → IsHome page pseudokey → number ≤ ward_of bits pseudokey

  record IsGood (number : ℕ) (pages : List Page) : Type 0 where
    homes : HaveOneHome pages
    own : AllByRecursion (IsOf number) pages
    legal : AllByRecursion (IsLegalPage cap pseudo) pages

  ward_good : (number : ℕ) (pages : List Page) → number < 2 ^ bits → IsLegal cap pseudo (ward_prefix bits number) pages → IsGood number pages
  ward_good number pages small legal = record {
    homes = homes_from pages (λ one other page twin pseudokey at at_too home home_too.
        legal.linked.one_home pseudokey one other (with_records [] page) (with_records [] twin) (bare_at pages one page at) (bare_at pages other twin at_too) (home_bare page pseudokey home) (home_bare twin pseudokey home_too));
    own = all_pages (IsOf number) pages (λ at page there pseudokey home.
        let begun = of_ward (ward_prefix bits number) page (legal.linked.within at (with_records [] page) (bare_at pages at page there)) pseudokey home in
        ap (λ n. leading n pseudokey) (sym (length-bits_of bits number)) ∙ leading-of_begun (ward_prefix bits number) pseudokey begun ∙ number_of-bits_of bits number small);
    legal = legal.each;
  }

  crossed : (from : ℕ) (a b : List Page) → AllByRecursion (IsOf from) a → AllByRecursion (IsFrom (suc from)) b → AllByRecursion (λ page. AllByRecursion (AreApartPages page) b) a
  crossed from a b of others =
      AllByRecursion-weaker (IsOf from) (λ page. AllByRecursion (AreApartPages page) b)
      (λ page own. AllByRecursion-weaker (IsFrom (suc from)) (AreApartPages page) (λ other later pseudokey home twin. absurd (omega (arith, own pseudokey home, later pseudokey twin))) b others) a of

  record AreGood (from : ℕ) (pages : List Page) : Type 0 where
    homes : HaveOneHome pages
    own : AllByRecursion (IsFrom from) pages
    legal : AllByRecursion (IsLegalPage cap pseudo) pages

  wards_good : (wards : List (List Page)) (from : ℕ) → ((number : ℕ) (pages : List Page) → slice_get wards number ≡ Some pages → IsGood (from + number) pages) → AreGood from (flat_map (λ ward. ward) wards)
  wards_good [] from each = record { homes = tt; own = tt; legal = tt }
  wards_good (pages ∷ wards) from each =
      let next : (n : ℕ) → from + suc n ≡ suc from + n = λ n. omega arith in
      let own : IsGood from pages = subst (λ n. IsGood n pages) (let none : from + 0 ≡ from = omega arith in none) (each 0 pages refl) in
      let others = wards_good wards (suc from) (λ number pages there. subst (λ n. IsGood n pages) (next number) (each (suc number) pages there)) in
      let rest = flat_map (λ (ward : List Page). ward) wards in record {
        homes = homes_both pages rest own.homes others.homes (crossed from pages rest own.own others.own);
        own = AllByRecursion-append (IsFrom from) pages rest
            (AllByRecursion-weaker (IsOf from) (IsFrom from) (λ page of pseudokey home. omega (arith, of pseudokey home)) pages own.own)
            (AllByRecursion-weaker (IsFrom (suc from)) (IsFrom from) (λ page later pseudokey home. omega (arith, later pseudokey home)) rest others.own);
        legal = AllByRecursion-append (IsLegalPage cap pseudo) pages rest own.legal others.legal;
      }

  pub wards_once : (wards : List (List Page)) → ((number : ℕ) (pages : List Page) → slice_get wards number ≡ Some pages → (number < 2 ^ bits) × IsLegal cap pseudo (ward_prefix bits number) pages) → AreOnce (map pair_of (flat_map records_of (pages_of wards)))
  wards_once wards each =
      let good = wards_good wards 0 (λ number pages there. let is = each number pages there in let same : number ≡ 0 + number = omega arith in subst (λ n. IsGood n pages) same (ward_good number pages is.0 is.1)) in
      pages_once (pages_of wards) good.legal good.homes

-- ---- the wards of a file

module _ (file : OpenedState) (are : AreWardsOf file) (sound : AreSound file.wards) where
  pages_there : (wards : List (WardState AnyKeyer)) (number : ℕ) (pages : List Page) → slice_get (pages_of_all wards) number ≡ Some pages → (ward : WardState AnyKeyer) × (slice_get wards number ≡ Some ward) × (ward.pages ≡ pages)
  pages_there [] number pages there = cc
  pages_there (ward ∷ wards) zero pages there = let same : ward.pages ≡ pages = cc in (ward, refl, same)
  pages_there (ward ∷ wards) (suc number) pages there = pages_there wards number pages there

  ward_legal : (number : ℕ) (pages : List Page) → slice_get (pages_of_all file.wards) number ≡ Some pages → (number < 2 ^ file.ward_bits) × IsLegal file.cap (any_pseudokey file.keyer) (ward_prefix file.ward_bits number) pages
  ward_legal number pages there =
      let found = pages_there file.wards number pages there in
      let ward = found.0 in
      let own : IsWardOf file number ward = are.each number ward found.1 in
      let legal = (sound number ward found.1).legal.legal.legal in
      let with_cap = subst (λ (cap : ℕ). IsLegal cap (any_pseudokey ward.keyer) (own_prefix ward) ward.pages) own.cap legal in
      let with_keyer = subst (λ (keyer : AnyKeyer). IsLegal file.cap (any_pseudokey keyer) (own_prefix ward) ward.pages) own.keyer with_cap in
      let with_bits = subst (λ (bits : ℕ). IsLegal file.cap (any_pseudokey file.keyer) (ward_prefix bits ward.number) ward.pages) own.bits with_keyer in
      let with_number = subst (λ (n : ℕ). IsLegal file.cap (any_pseudokey file.keyer) (ward_prefix file.ward_bits n) ward.pages) own.number_is with_bits in (
        omega (arith, slice_get_within file.wards number ward found.1, are.count),
        subst (IsLegal file.cap (any_pseudokey file.keyer) (ward_prefix file.ward_bits number)) found.2 with_number,
      )

  pub file_once : AreOnce (pairs_in file.wards)
  file_once = subst AreOnce (all_pairs file.wards) (wards_once file.cap file.ward_bits (any_pseudokey file.keyer) (pages_of_all file.wards) ward_legal)

-- ---- how many keys they have

gone : (key : List ℕ) (pairs : List (List ℕ × List ℕ)) → AllByRecursion (λ other. other.0 ≢ key) pairs → found key pairs ≡ None
gone key [] else = refl
gone key (pair ∷ pairs) else =
    let misses : eq_by_cmp (slice_cmp nat_cmp) key pair.0 ≡ false = false_from_ne_true _ (λ tied. else.0 (sym (exact_bytes key pair.0 (is_equal (slice_cmp nat_cmp key pair.0) tied)))) in
    ap (λ b. cond b (Some pair.1) (found key pairs)) misses ∙ gone key pairs else.1

abbrev all_of_pairs : List (List ℕ × List ℕ) → KeyMap
all_of_pairs pairs = fin.from_entries pairs

pub once_len : (pairs : List (List ℕ × List ℕ)) → AreOnce pairs → fin.len (all_of_pairs pairs) ≡ length pairs
once_len [] once = fin.len-empty (slice_cmp nat_cmp) (List ℕ)
once_len (pair ∷ pairs) once =
    let m = all_of_pairs pairs in
    let absent : fin.get m pair.0 ≡ None = fin.get-from_entries nat_list_cmp_total pairs pair.0 ∙ gone pair.0 pairs once.0 in
    let rest = once_len pairs once.1 in
    let grown : fin.len (fin.insert m pair.0 pair.1) ≡ fin.len m + 1 = fin.len-insert nat_list_cmp_total m pair.0 pair.1 ∙ ap (λ found. cond (is_some found) (fin.len m) (fin.len m + 1)) absent in
    omega (arith, grown, rest)

pub counted : (pairs : List (List ℕ × List ℕ)) (count : ℕ) (whole : KeyMap) → count ≡ length pairs → AreOnce pairs → all_of_pairs pairs ≡ whole → count ≡ fin.len whole
counted pairs count whole is once same = is ∙ sym (once_len pairs once) ∙ ap (λ (m : KeyMap). fin.len m) same

-- ---- the map that the wards have together

module _ (cap bits number : ℕ) (pseudo : List ℕ → ℕ) where
  -- each record of a ward's pages has a key of the ward
  keys_of : (pages : List Page) → AllByRecursion (IsOf cap bits pseudo number) pages → AllByRecursion (IsLegalPage cap pseudo) pages → AllByRecursion (λ r. ward_of bits (pseudo r.key) ≡ number) (flat_map records_of pages)
  keys_of [] own legal = tt
  keys_of (page ∷ pages) own legal =
      AllByRecursion-append (λ r. ward_of bits (pseudo r.key) ≡ number) (records_of page) (flat_map records_of pages)
      (AllByRecursion-weaker (λ r. IsHome page (pseudo r.key)) (λ r. ward_of bits (pseudo r.key) ≡ number) (λ r home. own.0 (pseudo r.key) home) (records_of page) (own_home cap bits pseudo page legal.0))
      (keys_of pages own.1 legal.1)

  -- so a key of another ward isn't there
  none_there : (pages : List Page) (key : List ℕ) → number < 2 ^ bits → IsLegal cap pseudo (ward_prefix bits number) pages → (ward_of bits (pseudo key) ≡ number → ⊥) → found key (map pair_of (flat_map records_of pages)) ≡ None
  none_there pages key small legal else =
      let good = ward_good cap bits pseudo number pages small legal in
      gone key (map pair_of (flat_map records_of pages))
      (of_records (λ other. other.0 ≢ key) (flat_map records_of pages)
      (AllByRecursion-weaker (λ r. ward_of bits (pseudo r.key) ≡ number) (λ r. r.key ≢ key) (λ r is same. else (subst (λ (k : List ℕ). ward_of bits (pseudo k) ≡ number) same is)) (flat_map records_of pages) (keys_of pages good.own good.legal)))

module _ (file : OpenedState) (are : AreWardsOf file) (sound : AreSound file.wards) where
  maps_there : (wards : List (WardState AnyKeyer)) (number : ℕ) (own : KeyMap) → slice_get (map own_map wards) number ≡ Some own → (ward : WardState AnyKeyer) × (slice_get wards number ≡ Some ward) × (own_map ward ≡ own)
  maps_there [] number own there = cc
  maps_there (ward ∷ wards) zero own there = let same : own_map ward ≡ own = cc in (ward, refl, same)
  maps_there (ward ∷ wards) (suc number) own there = maps_there wards number own there

  pages_at : (wards : List (WardState AnyKeyer)) (number : ℕ) (ward : WardState AnyKeyer) → slice_get wards number ≡ Some ward → slice_get (pages_of_all wards) number ≡ Some ward.pages
  pages_at wards number ward there = slice_get-map (λ (w : WardState AnyKeyer). w.pages) wards number ∙ ap (option_map (λ (w : WardState AnyKeyer). w.pages)) there

  elsewhere : (number : ℕ) (ward : WardState AnyKeyer) → slice_get file.wards number ≡ Some ward → (key : List ℕ) → (ward_of file.ward_bits (any_pseudokey file.keyer key) ≡ number → ⊥) → found key (pairs_of ward.pages) ≡ None
  elsewhere number ward there key else =
      let is = ward_legal file are sound number ward.pages (pages_at file.wards number ward there) in
      none_there file.cap file.ward_bits number (any_pseudokey file.keyer) ward.pages key is.0 is.1 else

  in_own : (ward : WardState AnyKeyer) (own : KeyMap) (key : List ℕ) → own_map ward ≡ own → fin.get own key ≡ found key (pairs_of ward.pages)
  in_own ward own key same = ap (λ (m : KeyMap). fin.get m key) (sym same) ∙ fin.get-from_entries nat_list_cmp_total (pairs_of ward.pages) key

  in_all : (number : ℕ) (ward : WardState AnyKeyer) (key : List ℕ) → slice_get file.wards number ≡ Some ward → ward_of file.ward_bits (any_pseudokey file.keyer key) ≡ number → found key (pairs_of ward.pages) ≡ fin.get (all_of_pairs (pairs_in file.wards)) key
  in_all number ward key there here =
      sym (one_in key file.wards number ward there (λ other one is else. elsewhere other one is key (λ same. else (sym same ∙ here))))
      ∙ sym (fin.get-from_entries nat_list_cmp_total (pairs_in file.wards) key)

  part_of : (number : ℕ) (own : KeyMap) → slice_get (maps_in file) number ≡ Some own → IsPart file.ward_bits (any_pseudokey file.keyer) (all_of_pairs (pairs_in file.wards)) number own
  part_of number own there =
      let found_ward = maps_there file.wards number own there in
      let ward = found_ward.0 in
      record {
        own_keys = λ key here. in_own ward own key found_ward.2 ∙ in_all number ward key found_ward.1 here;
        no_others = λ key else. in_own ward own key found_ward.2 ∙ elsewhere number ward found_ward.1 key else;
      }

  -- the wards have one map together, which is that of all their pairs
  pub has_all : HasMap file (all_of_pairs (pairs_in file.wards))
  has_all = record { count = length-map file.wards own_map ∙ are.count; each = part_of }
