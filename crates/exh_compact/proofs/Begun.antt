-- How many keys of a map pass a test, and how many a prefix begins.
use Rattle.std.proofs.Common.{◌≡◌, ℕ, ◌+◌, ◌≤◌, Bool, true, false, cond, List, length, Option, None, Some, refl, sym, ap, ◌∙◌, arith, nat_cmp}
use Rattle.std.specs.FinMap as fin
use Rattle.std.specs.Option.{is_some, option_map}
use Rattle.std.specs.Ordering.{eq_by_cmp}
use Rattle.std.specs.Cmp.Lexicographic.{slice_cmp}
use Rattle.std.proofs.lemmas.Bool.{false≢true}
use Rattle.std.proofs.lemmas.Cmp.{nat_list_cmp_total}
use Rattle.std.proofs.lemmas.Map.Lookups.{exact_bytes}
use Rattle.exh_prefix.specs.Bits.{word_bits}
use Rattle.exh_prefix.specs.Prefix.{begins}
use Rattle.exh_prefix.specs.PrefixLemmas.{IsFront-from_test, is_front-true}
use Rattle.exh_prefix.specs.PrefixListLemmas.{is_equal}
use Rattle.exh_page.specs.KeyMap.{KeyMap}
use Rattle.exh_page.specs.KeyMapLemmas.{same_maps}
use Rattle.exh_page.specs.declared.page.Page.TheVariants.{Live}
use Rattle.exh_page.specs.declared.record.Record.{Record}
use Rattle.exh_page.specs.Page.{AreRecordsOf}
use Rattle.exh_legal.specs.MapLemmas.{get-map_of, get-map_of_records, map_of_records, none_of_others, page_at, place_of_key}
use Rattle.exh_legal.specs.Pages.{IsAt, IsLegal, IsLegalPage, map_of}
use Rattle.exh_compact.specs.Needed.{begun_in}
use Rattle.exh_compact.proofs.RecordCount.{len-map_of_records}

abbrev tied : List ℕ → List ℕ → Bool
tied one other = eq_by_cmp (slice_cmp nat_cmp) one other

-- a test before or behind an insertion
mixed : (t e tq : Bool) (v : List ℕ) (f : Option (List ℕ)) → (e ≡ true → tq ≡ t) → cond tq (cond e (Some v) f) None ≡ cond t (cond e (Some v) (cond tq f None)) (cond tq f None)
mixed true true tq v f same = ap (λ b. cond b (Some v) None) (same refl)
mixed true false tq v f same = refl
mixed false true tq v f same = ap (λ b. cond b (Some v) None) (same refl) ∙ sym (ap (λ b. cond b f None) (same refl))
mixed false false tq v f same = refl

get_cond : (t : Bool) (a b : KeyMap) (q : List ℕ) → cond t (fin.get a q) (fin.get b q) ≡ fin.get (cond t a b) q
get_cond true a b q = refl
get_cond false a b q = refl

same_both : (t : Bool) (f : Option (List ℕ)) → cond t f f ≡ f
same_both true f = refl
same_both false f = refl

at_least : (t : Bool) (n : ℕ) → n ≤ cond t n (n + 1)
at_least true n = omega arith
at_least false n = omega arith

module _ (test : List ℕ → Bool) where
  -- the entries whose keys pass
  abbrev pub those : KeyMap → KeyMap
  those m = fin.retain_keys m test

  pub get_those : (m : KeyMap) (q : List ℕ) → fin.get (those m) q ≡ cond (test q) (fin.get m q) None
  get_those m q = fin.get-retain_keys m test q (λ x is. ap test (sym (exact_bytes q x is)))

  module _ (m : KeyMap) (k v : List ℕ) where
    abbrev more : KeyMap
    more = fin.insert m k v

    get_more : (q : List ℕ) → fin.get (those more) q ≡ fin.get (cond (test k) (fin.insert (those m) k v) (those m)) q
    get_more q =
        get_those more q
        ∙ ap (λ (f : Option (List ℕ)). cond (test q) f None) (fin.get-insert nat_list_cmp_total m k v q)
        ∙ mixed (test k) (tied q k) (test q) v (fin.get m q) (λ is. ap test (exact_bytes q k (is_equal (slice_cmp nat_cmp q k) is)))
        ∙ sym (ap (λ (f : Option (List ℕ)). cond (test k) f (fin.get (those m) q)) (fin.get-insert nat_list_cmp_total (those m) k v q ∙ ap (cond (tied q k) (Some v)) (get_those m q))
        ∙ ap (cond (test k) (cond (tied q k) (Some v) (cond (test q) (fin.get m q) None))) (get_those m q))
        ∙ get_cond (test k) (fin.insert (those m) k v) (those m) q

    those_more : those more ≡ cond (test k) (fin.insert (those m) k v) (those m)
    those_more = same_maps (those more) (cond (test k) (fin.insert (those m) k v) (those m)) get_more

    grown : fin.len (fin.insert (those m) k v) ≡ cond (fin.contains_key (those m) k) (fin.len (those m)) (fin.len (those m) + 1)
    grown = fin.len-insert nat_list_cmp_total (those m) k v

    -- with a new key that passes there is one more
    pub one_more : fin.get m k ≡ None → test k ≡ true → fin.len (those more) ≡ fin.len (those m) + 1
    one_more absent passes =
        let none : fin.get (those m) k ≡ None = get_those m k ∙ ap (λ (f : Option (List ℕ)). cond (test k) f None) absent ∙ same_both (test k) None in
        ap fin.len (those_more ∙ ap (λ b. cond b (fin.insert (those m) k v) (those m)) passes)
        ∙ grown ∙ ap (λ (f : Option (List ℕ)). cond (is_some f) (fin.len (those m)) (fin.len (those m) + 1)) none

    -- with one that doesn't there are as many
    pub none_more : test k ≡ false → fin.len (those more) ≡ fin.len (those m)
    none_more fails = ap fin.len (those_more ∙ ap (λ b. cond b (fin.insert (those m) k v) (those m)) fails)

    -- with any key there are no fewer
    pub no_fewer : fin.len (those m) ≤ fin.len (those more)
    no_fewer = elim (test k) as (λ b. test k ≡ b → fin.len (those m) ≤ fin.len (those more)) [
      | true ↦ λ passes.
          let is = ap fin.len (those_more ∙ ap (λ b. cond b (fin.insert (those m) k v) (those m)) passes) in
          omega (arith, is, grown, at_least (fin.contains_key (those m) k) (fin.len (those m)))
      | false ↦ λ fails. omega (arith, none_more fails)
    ] refl

-- ---- a page

module _ (cap : ℕ) (pseudo : List ℕ → ℕ) (own : List Bool) (pages : List _) (at : ℕ) (prefix : List Bool) (link : Option ℕ) (records : List Record) (legal : IsLegal cap pseudo own pages) (there : IsAt pages at (Live prefix link records)) where
  are : AreRecordsOf pseudo prefix records
  are = (page_at (IsLegalPage cap pseudo) pages at (Live prefix link records) legal.each there).0

  page_get : (q : List ℕ) → cond (begins prefix (pseudo q)) (fin.get (map_of pages) q) None ≡ fin.get (map_of_records records) q
  page_get q = elim (begins prefix (pseudo q)) as (λ b. begins prefix (pseudo q) ≡ b → cond b (fin.get (map_of pages) q) None ≡ fin.get (map_of_records records) q) [
    | true ↦ λ is. get-map_of cap pseudo own pages at (Live prefix link records) q legal there (IsFront-from_test prefix (word_bits (pseudo q)) is) ∙ sym (get-map_of_records pseudo records q are.hashed)
    | false ↦ λ is. sym (get-map_of_records pseudo records q are.hashed ∙ ap (option_map (λ (r : Record). r.value))
        (none_of_others prefix (place_of_key pseudo q) records are.begun (λ begun. false≢true (sym is ∙ is_front-true prefix (word_bits (pseudo q)) begun))))
  ] refl

  -- its prefix begins as many keys of the map as it has records
  pub page_begun : begun_in pseudo (map_of pages) prefix ≡ length records
  page_begun =
      ap fin.len (same_maps (those (λ key. begins prefix (pseudo key)) (map_of pages)) (map_of_records records) (λ q. get_those (λ key. begins prefix (pseudo key)) (map_of pages) q ∙ page_get q))
      ∙ len-map_of_records pseudo records are.rising are.hashed
