-- Look-ups in the entries of a cache.
use Rattle.std.proofs.Common.{◌≡◌, ◌≢◌, ℕ, zero, suc, ◌-◌, Bool, true, false, cond, nat_eq, List, [], ◌∷◌, take, Option, Some, None, refl, sym, ap, ◌∙◌, inl, inr}
use Rattle.std.specs.Cmp.{nat_eq_equiv}
use Rattle.std.specs.List.{IsDistinct}
use Rattle.std.specs.Map.{keys_of, lookup, lookup_entry, remove_entry, AreApart}
use Rattle.std.specs.Option.{option_map, option_map_or}
use Rattle.std.proofs.lemmas.Bool.{cases_eq, eq-eqb, eqb-true}
use Rattle.std.proofs.lemmas.Map.{lookup-remove_entry}
use Rattle.lru.specs.LruCache.{LruCache, put_entries, promoted}
use Rattle.lru.proofs.CallerLemmas.{Contains-lookup_entry}
use Rattle.lru.proofs.Pairs.{lookup-lookup_entry}

-- a number is no other's
pub apart : (one other : ℕ) → other ≢ one → AreApart (nat_eq one) (nat_eq other)
apart one other differ k here = elim (nat_eq other k) as (λ b. nat_eq other k ≡ b → b ≡ false) [
  | true ↦ λ is. absurd (differ (eqb-true other k is ∙ sym (eqb-true one k here)))
  | false ↦ λ _. refl
] refl

module _ {V : Type 0} where
  lookup_first : (test : ℕ → Bool) (e : ℕ × V) (es : List (ℕ × V)) (b : Bool) → test e.0 ≡ b → lookup test (e ∷ es) ≡ cond b (Some e.1) (lookup test es)
  lookup_first test e es b is = ap (λ b. cond b (Some e.1) (lookup test es)) is

  lookup-take : (test : ℕ → Bool) (n : ℕ) (es : List (ℕ × V)) (v : V) → lookup test (take n es) ≡ Some v → lookup test es ≡ Some v
  lookup-take test zero es v found = cc
  lookup-take test (suc n) [] v found = found
  lookup-take test (suc n) (e ∷ es) v found = elim (test e.0) as (λ b. cond b (Some e.1) (lookup test (take n es)) ≡ Some v → cond b (Some e.1) (lookup test es) ≡ Some v) [
    | true ↦ λ here. here
    | false ↦ λ later. lookup-take test n es v later
  ] found

  -- the entry of another number stays
  lookup-removed : (test other : ℕ → Bool) → AreApart test other → (es : List (ℕ × V)) → lookup other (remove_entry test es) ≡ lookup other es
  lookup-removed test other apart [] = refl
  lookup-removed test other apart (e ∷ es) = elim (test e.0) as (λ b. test e.0 ≡ b → lookup other (cond b es (e ∷ remove_entry test es)) ≡ lookup other (e ∷ es)) [
    | true ↦ λ here. sym (lookup_first other e es false (apart e.0 here))
    | false ↦ λ _. ap (λ (found : Option V). cond (other e.0) (Some e.1) found) (lookup-removed test other apart es)
  ] refl

  module _ (es : List (ℕ × V)) (number : ℕ) where
    -- what stands first in place of the entry of a number is no other number's
    others_behind : (other : ℕ) (e : ℕ × V) (v : V) → other ≢ number → lookup_entry (nat_eq number) es ≡ Some e
        → lookup (nat_eq other) ((e.0, v) ∷ remove_entry (nat_eq number) es) ≡ lookup (nat_eq other) es
    others_behind other e v differ here =
        let passes = (Contains-lookup_entry (nat_eq number) es e here).1 in
        lookup_first (nat_eq other) (e.0, v) (remove_entry (nat_eq number) es) false (apart number other differ e.0 passes)
        ∙ lookup-removed (nat_eq number) (nat_eq other) (apart number other differ) es

    promoted_entry : (other : ℕ) (entry : Option (ℕ × V)) → lookup_entry (nat_eq number) es ≡ entry
        → lookup (nat_eq other) (option_map_or (λ e. e ∷ remove_entry (nat_eq number) es) entry es) ≡ lookup (nat_eq other) es
    promoted_entry other None here = refl
    promoted_entry other (Some e) here = elim (cases_eq other number) [
      | inl same ↦
          let passes = (Contains-lookup_entry (nat_eq number) es e here).1 in
          let there : lookup (nat_eq number) es ≡ Some e.1 = sym (lookup-lookup_entry (nat_eq number) es) ∙ ap (option_map (λ (e : ℕ × V). e.1)) here in
          ap (λ (n : ℕ). lookup (nat_eq n) (e ∷ remove_entry (nat_eq number) es)) same ∙ lookup_first (nat_eq number) e (remove_entry (nat_eq number) es) true passes
          ∙ sym there ∙ ap (λ (n : ℕ). lookup (nat_eq n) es) (sym same)
      | inr differ ↦ others_behind other e e.1 differ here
    ]

    -- a promotion changes no look-up
    pub lookup-promoted : (other : ℕ) → lookup (nat_eq other) (promoted (nat_eq number) es) ≡ lookup (nat_eq other) es
    lookup-promoted other = promoted_entry other (lookup_entry (nat_eq number) es) refl

  module _ (cache : LruCache ℕ V) (number : ℕ) (value : V) where
    put_entry : (other : ℕ) (found : V) (entry : Option (ℕ × V)) → other ≢ number → lookup_entry (nat_eq number) cache.entries ≡ entry
        → lookup (nat_eq other) (option_map_or (λ e. (e.0, value) ∷ remove_entry (nat_eq number) cache.entries) entry ((number, value) ∷ take (cache.cap - 1) cache.entries)) ≡ Some found
        → lookup (nat_eq other) cache.entries ≡ Some found
    put_entry other found None differ here is =
        let first : nat_eq other number ≡ false = apart number other differ number (eq-eqb number number refl) in
        lookup-take (nat_eq other) (cache.cap - 1) cache.entries found (sym (lookup_first (nat_eq other) (number, value) (take (cache.cap - 1) cache.entries) false first) ∙ is)
    put_entry other found (Some e) differ here is = sym (others_behind cache.entries number other e value differ here) ∙ is

    -- what a put leaves of other numbers was there
    pub others-put : (other : ℕ) (found : V) → other ≢ number → lookup (nat_eq other) (put_entries nat_eq cache number value) ≡ Some found → lookup (nat_eq other) cache.entries ≡ Some found
    others-put other found differ is = put_entry other found (lookup_entry (nat_eq number) cache.entries) differ refl is

  -- ---- an entry that is taken out

  pub removed_same : (es : List (ℕ × V)) (number : ℕ) → IsDistinct nat_eq (keys_of es) → lookup (nat_eq number) (remove_entry (nat_eq number) es) ≡ None
  removed_same es number distinct =
      lookup-remove_entry nat_eq_equiv (nat_eq number) (λ x y same. nat_eq_equiv.congr number x y same) number es distinct
      ∙ ap (λ b. cond b None (lookup (nat_eq number) es)) (eq-eqb number number refl)

  pub removed_other : (es : List (ℕ × V)) (number other : ℕ) → other ≢ number → lookup (nat_eq other) (remove_entry (nat_eq number) es) ≡ lookup (nat_eq other) es
  removed_other es number other differ = lookup-removed (nat_eq number) (nat_eq other) (apart number other differ) es
