-- How many keys of a map share their leading bits with a key.
use Rattle.std.proofs.Common.{◌≡◌, ℕ, suc, ◌≤◌, Bool, true, false, cond, List, [], ◌∷◌, length, map, filter, Option, None, refl, sym, ap, ◌∙◌, nat_cmp, ◌==◌, arith}
use Rattle.std.specs.Prelude.{count_by, T}
use Rattle.std.specs.FinMap as fin
use Rattle.std.specs.FinMap.Entries.{where_key, is_sorted, is_sorted-where_key, find-where_key}
use Rattle.std.specs.Cmp.Lexicographic.{slice_cmp}
use Rattle.std.proofs.lemmas.List.{length-map}
use Rattle.std.proofs.lemmas.List.Sums.{count_by-le-length, length-filter}
use Rattle.std.proofs.lemmas.Map.Lookups.{exact_bytes}
use Rattle.exh_page.specs.KeyMap.{KeyMap}
use Rattle.exh_page.specs.KeyMapLemmas.{same_maps}
use Rattle.exh_calls.specs.MapMachine.{sharing}
use Rattle.exh_page.specs.Leading.{leading}
use Rattle.exh_page.specs.PrefixLimits.{LIMIT}

abbrev pub shares : (List ℕ → ℕ) → List ℕ → List ℕ → Bool
shares pseudo key other = leading LIMIT (pseudo other) == leading LIMIT (pseudo key)

module _ (pseudo : List ℕ → ℕ) (key : List ℕ) where
  abbrev kept : List (List ℕ × List ℕ) → List (List ℕ × List ℕ)
  kept es = where_key (slice_cmp nat_cmp) (shares pseudo key) es

  filtered : (es : List (List ℕ × List ℕ)) → length (filter (shares pseudo key) (map (λ (e : List ℕ × List ℕ). e.0) es)) ≡ length (kept es)
  filtered [] = refl
  filtered (e ∷ es) =
      elim (shares pseudo key e.0) as (λ b. length (cond b (e.0 ∷ filter (shares pseudo key) (map (λ (e : List ℕ × List ℕ). e.0) es)) (filter (shares pseudo key) (map (λ (e : List ℕ × List ℕ). e.0) es))) ≡ length (cond b (e ∷ kept es) (kept es))) [
        | true ↦ ap suc (filtered es)
        | false ↦ filtered es
      ]

  counted : (es : List (List ℕ × List ℕ)) → count_by (shares pseudo key) (map (λ (e : List ℕ × List ℕ). e.0) es) ≡ length (kept es)
  counted es = sym (length-filter (shares pseudo key) (map (λ (e : List ℕ × List ℕ). e.0) es)) ∙ filtered es

  kept_sorted : (m : KeyMap) → T (is_sorted (slice_cmp nat_cmp) (kept (fin.entries m)))
  kept_sorted m = is_sorted-where_key (slice_cmp nat_cmp) (shares pseudo key) (fin.entries m) (fin.entries_sorted m)

  abbrev retained : KeyMap → KeyMap
  retained m = fin.from_sorted (kept (fin.entries m))

  len_retained : (m : KeyMap) → sharing pseudo m key ≡ fin.len (retained m)
  len_retained m = counted (fin.entries m) ∙ ap length (sym (fin.entries-from_sorted (slice_cmp nat_cmp) (kept (fin.entries m)) (kept_sorted m))) ∙ sym (fin.len-entries (retained m))

  get_retained : (m : KeyMap) (q : List ℕ) → fin.get (retained m) q ≡ cond (shares pseudo key q) (fin.get m q) None
  get_retained m q =
      fin.get-from_sorted (slice_cmp nat_cmp) (kept (fin.entries m)) q (kept_sorted m)
      ∙ find-where_key (slice_cmp nat_cmp) (shares pseudo key) q (λ x tied. ap (shares pseudo key) (sym (exact_bytes q x tied))) (fin.entries m)
      ∙ ap (λ found. cond (shares pseudo key q) found None) (sym (fin.get-entries m q))

  only_shared : (b : Bool) (one other : Option (List ℕ)) → (b ≡ true → one ≡ other) → cond b one None ≡ cond b other None
  only_shared true one other same = same refl
  only_shared false one other same = refl

  none_else : (b : Bool) (one : Option (List ℕ)) → (b ≡ false → one ≡ None) → cond b one None ≡ one
  none_else true one none = refl
  none_else false one none = sym (none refl)

  -- maps that have the same at the keys that share have as many of them
  pub sharing_same : (m n : KeyMap) → ((q : List ℕ) → shares pseudo key q ≡ true → fin.get m q ≡ fin.get n q) → sharing pseudo m key ≡ sharing pseudo n key
  sharing_same m n same =
      len_retained m ∙ ap fin.len (same_maps (retained m) (retained n) (λ q. get_retained m q ∙ only_shared (shares pseudo key q) (fin.get m q) (fin.get n q) (same q) ∙ sym (get_retained n q))) ∙ sym (len_retained n)

  -- a map whose keys all share has as many that do as it has keys
  pub sharing_all : (m : KeyMap) → ((q : List ℕ) → shares pseudo key q ≡ false → fin.get m q ≡ None) → sharing pseudo m key ≡ fin.len m
  sharing_all m none = len_retained m ∙ ap fin.len (same_maps (retained m) m (λ q. get_retained m q ∙ none_else (shares pseudo key q) (fin.get m q) (none q)))

-- no more keys share than there are keys
pub sharing-le : (pseudo : List ℕ → ℕ) (key : List ℕ) (m : KeyMap) → sharing pseudo m key ≤ fin.len m
sharing-le pseudo key m =
    omega (arith, count_by-le-length (shares pseudo key) (fin.keys m), length-map (fin.entries m) (λ (e : List ℕ × List ℕ). e.0), fin.len-entries m)
