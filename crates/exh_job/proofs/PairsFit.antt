-- The records of a legal file, put in the order of its pages: each is new and finds room.
use Rattle.std.proofs.Common.{◌≡◌, ◌∙◌, ◌+◌, ℕ, suc, ◌<◌, ◌≤◌, Bool, true, false, cond, List, [], ◌∷◌, ◌++◌, length, map, find, None, refl, sym, ap, ap₂, subst, nat_cmp, append-nil, append_assoc, length-append, arith}
use Rattle.std.specs.Prelude.{⊤}
use Rattle.std.specs.FinMap as fin
use Rattle.std.specs.List.{AllByRecursion, flat_map}
use Rattle.std.specs.Option.{option_map}
use Rattle.std.specs.declared.cmp.Ordering.TheVariants.{Less}
use Rattle.std.specs.Cmp.Lexicographic.{slice_cmp}
use Rattle.std.specs.Ordering.{is_eq}
use Rattle.std.proofs.lemmas.Bool.{eqb-true, false_from_ne_true}
use Rattle.std.proofs.lemmas.Bool.Decides.{nat_tests}
use Rattle.std.proofs.lemmas.Cmp.{nat_list_cmp_total}
use Rattle.exh_prefix.specs.LeadingLemmas.{shared_begins}
use Rattle.exh_prefix.specs.PrefixListLemmas.{AllByRecursion-append, AllByRecursion-append_left, AllByRecursion-append_right, AllByRecursion-weaker}
use Rattle.exh_prefix.specs.Prefix.{Begins}
use Rattle.exh_prefix.specs.declared.prefix.TheConstants.{LIMIT}
use Rattle.exh_page.specs.KeyMap.{KeyMap, pair_of}
use Rattle.exh_page.specs.Page.{AreRecordsOf, records_of}
use Rattle.exh_page.specs.Place.{Place, place_cmp, place_of}
use Rattle.exh_page.specs.Records.{IsRising, is_at, value_at}
use Rattle.exh_page.specs.declared.page.Page.{Page}
use Rattle.exh_page.specs.declared.page.Page.TheVariants.{Live, Forward}
use Rattle.exh_page.specs.declared.record.Record.{Record}
use Rattle.exh_calls.specs.Effect.{Effect, Set, effect_of}
use Rattle.exh_calls.specs.MapMachine.{changed, effect_in, is_full, map_after, sharing}
use Rattle.exh_calls.specs.SharingLemmas.{sharing-le, sharing_same}
use Rattle.exh_calls.specs.declared.call.Call.TheVariants.{Put}
use Rattle.exh_calls.specs.declared.reply.Reply.TheVariants.{New}
use Rattle.exh_legal.specs.MapLemmas.{AreHashed, get-map_of_records, map_of_records, place_of_key, pseudokey_at, skip}
use Rattle.exh_legal.specs.Pages.{IsHome, IsLegalPage}
use Rattle.exh_load.specs.OneMap.{puts_left}

-- no pseudokey is begun by both pages
abbrev pub AreApartPages : Page → Page → Type 0
AreApartPages page other = (pseudokey : ℕ) → IsHome page pseudokey → IsHome other pseudokey → ⊥

-- none is begun by two of them
abbrev pub HaveOneHome : List Page → Type 0
HaveOneHome [] = ⊤
HaveOneHome (page ∷ pages) = AllByRecursion (AreApartPages page) pages × HaveOneHome pages

abbrev pub IsShort : Page → Type 0
IsShort (Live prefix right records) = length prefix ≤ LIMIT
IsShort (Forward low target) = ⊤

module _ (cap : ℕ) (pseudo : List ℕ → ℕ) where
  -- behind those that are done the others are put in order, and each of them is new and finds room
  abbrev pub AllFit : List Record → List Record → Type 0
  AllFit done [] = ⊤
  AllFit done (r ∷ rest) = (fin.get (map_of_records done) r.key ≡ None) × (sharing pseudo (map_of_records done) r.key < cap) × AllFit (done ++ r ∷ []) rest

  pub fits_both : (done a b : List Record) → AllFit done a → AllFit (done ++ a) b → AllFit done (a ++ b)
  fits_both done [] b first second = subst (λ l. AllFit l b) (append-nil done) second
  fits_both done (r ∷ a) b first second = (first.0, first.1, fits_both (done ++ r ∷ []) a b first.2 (subst (λ l. AllFit l b) (sym (append_assoc done (r ∷ []) a)) second))

  -- ---- one put

  pub put_new : (m : KeyMap) (key value : List ℕ) → fin.get m key ≡ None → sharing pseudo m key < cap → effect_in cap pseudo m (Put key value) ≡ record { reply = New; change = Set value }
  put_new m key value none room =
      let open_still : is_full cap pseudo m key ≡ false = grind (arith, nat_tests) in
      ap₂ (λ full found. effect_of (Put key value) full found) open_still none

  pairs_push : (done : List Record) (r : Record) → map pair_of (done ++ r ∷ []) ≡ map pair_of done ++ pair_of r ∷ []
  pairs_push [] r = refl
  pairs_push (first ∷ done) r = ap (λ l. pair_of first ∷ l) (pairs_push done r)

  pub pushed : (done : List Record) (r : Record) → fin.get (map_of_records done) r.key ≡ None → fin.insert (map_of_records done) r.key r.value ≡ map_of_records (done ++ r ∷ [])
  pushed done r none =
      let absent = sym (fin.get-from_entries nat_list_cmp_total (map pair_of done) r.key) ∙ none in
      sym (ap fin.from_entries (pairs_push done r) ∙ fin.from_entries_push nat_list_cmp_total (fin.slice_cmp-IsAntisymmetric fin.nat_cmp-IsAntisymmetric) (map pair_of done) r.key r.value absent)

  pub put_next : (done : List Record) (r : Record) → fin.get (map_of_records done) r.key ≡ None → sharing pseudo (map_of_records done) r.key < cap
      → map_after cap pseudo (map_of_records done) (Put r.key r.value) ≡ map_of_records (done ++ r ∷ [])
  put_next done r none room = ap (λ (e : Effect). changed e.change r.key (map_of_records done)) (put_new (map_of_records done) r.key r.value none room) ∙ pushed done r none

  -- ---- all puts

  pub puts_fit : (done rest : List Record) → AllFit done rest → puts_left cap pseudo (map_of_records done) (map pair_of rest) ≡ map_of_records (done ++ rest)
  puts_fit done [] fit = ap map_of_records (sym (append-nil done))
  puts_fit done (r ∷ rest) fit =
      ap (λ m. puts_left cap pseudo m (map pair_of rest)) (put_next done r fit.0 fit.1) ∙ puts_fit (done ++ r ∷ []) rest fit.2 ∙ ap map_of_records (append_assoc done (r ∷ []) rest)

  -- ---- the records of one page

  abbrev pairs_map : List (List ℕ × List ℕ) → KeyMap
  pairs_map es = fin.from_entries es

  -- records that are no page's that begins so
  abbrev AreApart : List Bool → List Record → Type 0
  AreApart prefix done = AllByRecursion (λ d. Begins prefix d.pseudokey → ⊥) done

  none_apart : (prefix : List Bool) (place : Place) (done : List Record) → AreApart prefix done → Begins prefix place.0 → find (is_at place) done ≡ None
  none_apart prefix place [] apart begun = refl
  none_apart prefix place (d ∷ done) apart begun =
      let misses : is_at place d ≡ false = false_from_ne_true _ (λ here. apart.0 (subst (Begins prefix) (sym (pseudokey_at place d here)) begun)) in
      rw misses (none_apart prefix place done apart.1 begun)

  none_before : (front rest : List Record) (r : Record) → IsRising (front ++ r ∷ rest) → find (is_at (place_of r)) front ≡ None
  none_before [] rest r rising = refl
  none_before (f ∷ front) rest r rising =
      let before : place_cmp (place_of f) (place_of r) ≡ Less = (AllByRecursion-append_right (λ s. place_cmp (place_of f) (place_of s) ≡ Less) front (r ∷ rest) rising.0).0 in
      let misses : is_at (place_of r) f ≡ false = ap is_eq before in
      rw misses (none_before front rest r rising.1)

  one_more : (there : Bool) (len before count : ℕ) → len ≡ cond there before (before + 1) → before ≤ count → len ≤ suc count
  one_more true len before count is few = omega (arith, is, few)
  one_more false len before count is few = omega (arith, is, few)

  few_entries : (es : List (List ℕ × List ℕ)) → fin.len (pairs_map es) ≤ length es
  few_entries [] = let none : fin.len (pairs_map []) ≡ 0 = fin.len-empty (slice_cmp nat_cmp) (List ℕ) in omega (arith, none)
  few_entries (e ∷ es) =
      one_more (fin.contains_key (pairs_map es) e.0) (fin.len (pairs_map (e ∷ es))) (fin.len (pairs_map es)) (length es) (fin.len-insert nat_list_cmp_total (pairs_map es) e.0 e.1) (few_entries es)

  module _ (prefix : List Bool) (short : length prefix ≤ LIMIT) (done : List Record) (hashed : AreHashed pseudo done) (apart : AreApart prefix done) where
    -- what is done before doesn't matter for keys that the prefix begins
    get_own : (own : List Record) → AreHashed pseudo own → (key : List ℕ) → Begins prefix (pseudo key) → fin.get (map_of_records (done ++ own)) key ≡ fin.get (map_of_records own) key
    get_own own own_hashed key begun =
        get-map_of_records pseudo (done ++ own) key (AllByRecursion-append (λ r. r.pseudokey ≡ pseudo r.key) done own hashed own_hashed)
        ∙ ap (option_map (λ r. r.value)) (skip (is_at (place_of_key pseudo key)) done own (none_apart prefix (place_of_key pseudo key) done apart begun))
        ∙ sym (get-map_of_records pseudo own key own_hashed)

    page_fits : (front rest : List Record) → AreRecordsOf pseudo prefix (front ++ rest) → length (front ++ rest) ≤ cap → AllFit (done ++ front) rest
    page_fits front [] are few = tt
    page_fits front (r ∷ rest) are few =
        let front_hashed = AllByRecursion-append_left (λ r. r.pseudokey ≡ pseudo r.key) front (r ∷ rest) are.hashed in
        let own = AllByRecursion-append_right (λ r. r.pseudokey ≡ pseudo r.key) front (r ∷ rest) are.hashed in
        let own_begun = AllByRecursion-append_right (λ r. Begins prefix r.pseudokey) front (r ∷ rest) are.begun in
        let begun : Begins prefix (pseudo r.key) = subst (Begins prefix) own.0 own_begun.0 in
        let place_is : place_of_key pseudo r.key ≡ place_of r = ap (λ (k : ℕ). (k, r.key)) (sym own.0) in
        let new : fin.get (map_of_records front) r.key ≡ None =
        get-map_of_records pseudo front r.key front_hashed ∙ ap (λ place. value_at place front) place_is ∙ ap (option_map (λ r. r.value)) (none_before front rest r are.rising) in
        let same = sharing_same pseudo r.key (map_of_records (done ++ front)) (map_of_records front)
        (λ q shared. get_own front front_hashed q (shared_begins prefix LIMIT (pseudo r.key) (pseudo q) short (omega arith) begun (eqb-true _ _ shared))) in
        let few_shared = sharing-le pseudo r.key (map_of_records front) in
        let few_keys = few_entries (map pair_of front) in
        let many = length-append front (r ∷ rest) in
        let all = append_assoc front (r ∷ []) rest in (
          get_own front front_hashed r.key begun ∙ new,
          omega (arith, same, few_shared, few_keys, length_pairs front, many, few),
          subst (λ l. AllFit l rest) (sym (append_assoc done front (r ∷ [])))
              (page_fits (front ++ r ∷ []) rest (subst (AreRecordsOf pseudo prefix) (sym all) are) (subst (λ l. length l ≤ cap) (sym all) few)),
        )
      where
        length_pairs : (records : List Record) → length (map pair_of records) ≡ length records
        length_pairs [] = refl
        length_pairs (r ∷ records) = ap suc (length_pairs records)

  -- ---- the records of pages

  -- records of which the page begins none
  abbrev AreElsewhere : List Record → Page → Type 0
  AreElsewhere done page = AllByRecursion (λ d. IsHome page d.pseudokey → ⊥) done

  one_page : (page : Page) (done : List Record) → IsLegalPage cap pseudo page → IsShort page → AreHashed pseudo done → AreElsewhere done page → AllFit done (records_of page)
  one_page (Live prefix right records) done legal short hashed elsewhere = subst (λ l. AllFit l records) (append-nil done) (page_fits prefix short done hashed elsewhere [] records legal.0 legal.1)
  one_page (Forward low target) done legal short hashed elsewhere = tt

  own_home : (page : Page) → IsLegalPage cap pseudo page → AllByRecursion (λ d. IsHome page d.pseudokey) (records_of page)
  own_home (Live prefix right records) legal = legal.0.begun
  own_home (Forward low target) legal = tt

  own_hashed : (page : Page) → IsLegalPage cap pseudo page → AreHashed pseudo (records_of page)
  own_hashed (Live prefix right records) legal = legal.0.hashed
  own_hashed (Forward low target) legal = tt

  -- a page's records are done, too
  still_elsewhere : (page : Page) → IsLegalPage cap pseudo page → (done : List Record) (pages : List Page) → AllByRecursion (AreApartPages page) pages
      → AllByRecursion (AreElsewhere done) pages → AllByRecursion (AreElsewhere (done ++ records_of page)) pages
  still_elsewhere page legal done [] apart elsewhere = tt
  still_elsewhere page legal done (other ∷ pages) apart elsewhere = (
    AllByRecursion-append (λ d. IsHome other d.pseudokey → ⊥) done (records_of page) elsewhere.0
        (AllByRecursion-weaker (λ d. IsHome page d.pseudokey) (λ d. IsHome other d.pseudokey → ⊥) (λ d home. apart.0 d.pseudokey home) (records_of page) (own_home page legal)),
    still_elsewhere page legal done pages apart.1 elsewhere.1,
  )

  pub pages_fit : (pages : List Page) (done : List Record) → AllByRecursion (IsLegalPage cap pseudo) pages → AllByRecursion IsShort pages → HaveOneHome pages → AreHashed pseudo done → AllByRecursion (AreElsewhere done) pages
      → AllFit done (flat_map records_of pages)
  pages_fit [] done legal short homes hashed elsewhere = tt
  pages_fit (page ∷ pages) done legal short homes hashed elsewhere =
      fits_both done (records_of page) (flat_map records_of pages) (one_page page done legal.0 short.0 hashed elsewhere.0)
      (pages_fit pages (done ++ records_of page) legal.1 short.1 homes.1 (AllByRecursion-append (λ r. r.pseudokey ≡ pseudo r.key) done (records_of page) hashed (own_hashed page legal.0)) (still_elsewhere page legal.0 done pages homes.0 elsewhere.1))

  nothing_elsewhere : (pages : List Page) → AllByRecursion (AreElsewhere []) pages
  nothing_elsewhere [] = tt
  nothing_elsewhere (page ∷ pages) = (tt, nothing_elsewhere pages)

  -- so all of them fit
  pub all_fit : (pages : List Page) → AllByRecursion (IsLegalPage cap pseudo) pages → AllByRecursion IsShort pages → HaveOneHome pages → AllFit [] (flat_map records_of pages)
  all_fit pages legal short homes = pages_fit pages [] legal short homes tt (nothing_elsewhere pages)
