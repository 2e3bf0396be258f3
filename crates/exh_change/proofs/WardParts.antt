-- A call on a map, and on a ward's part of it.
use Rattle.std.proofs.Common.{◌≡◌, ◌≢◌, ℕ, ◌+◌, ◌-◌, ◌/◌, ◌≤◌, ◌^◌, Bool, true, false, cond, List, Option, Some, None, refl, sym, ap, ◌∙◌, nat_cmp, arith}
use Rattle.std.specs.Prelude.{nat_le}
use Rattle.std.specs.FinMap as fin
use Rattle.std.specs.Ordering.{eq_by_cmp}
use Rattle.std.specs.Cmp.Lexicographic.{slice_cmp}
use Rattle.std.proofs.lemmas.Bool.{eqb-true}
use Rattle.std.proofs.lemmas.Cmp.{nat_list_cmp_total}
use Rattle.std.proofs.lemmas.Map.Lookups.{exact_bytes}
use Rattle.exh_prefix.specs.Leading.{leading, ward_of}
use Rattle.exh_prefix.specs.LeadingLemmas.{leading-fewer}
use Rattle.exh_prefix.specs.PrefixListLemmas.{is_equal}
use Rattle.exh_prefix.specs.declared.prefix.TheConstants.{LIMIT, WARD_BITS_LIMIT}
use Rattle.exh_page.specs.KeyMap.{KeyMap}
use Rattle.exh_calls.specs.Call.{key_of}
use Rattle.exh_calls.specs.Effect.{Change, Keep, Set, Remove, Effect, effect_of}
use Rattle.exh_calls.specs.MapMachine.{changed, effect_in, map_after, reply_of}
use Rattle.exh_calls.specs.SharingLemmas.{shares, sharing_same}
use Rattle.exh_calls.specs.declared.call.Call.{Call}

-- ---- a change of a key

not_tied : (key other : List ℕ) (tied : Bool) (one otherwise : Option (List ℕ)) → eq_by_cmp (slice_cmp nat_cmp) other key ≡ tied → other ≢ key → cond tied one otherwise ≡ otherwise
not_tied key other true one otherwise is differ = absurd (differ (exact_bytes other key (is_equal (slice_cmp nat_cmp other key) is)))
not_tied key other false one otherwise is differ = refl

-- other keys have what they had
changed_else : (change : Change) (key other : List ℕ) (m : KeyMap) → other ≢ key → fin.get (changed change key m) other ≡ fin.get m other
changed_else Keep key other m differ = refl
changed_else (Set value) key other m differ = fin.get-insert nat_list_cmp_total m key value other ∙ not_tied key other _ (Some value) (fin.get m other) refl differ
changed_else Remove key other m differ = fin.get-remove nat_list_cmp_total m key other ∙ not_tied key other _ None (fin.get m other) refl differ

-- maps that have the same at a key have the same there after one change
changed_same : (change : Change) (key other : List ℕ) (m n : KeyMap) → fin.get m other ≡ fin.get n other → fin.get (changed change key m) other ≡ fin.get (changed change key n) other
changed_same Keep key other m n same = same
changed_same (Set value) key other m n same =
    let tied = eq_by_cmp (slice_cmp nat_cmp) other key in
    fin.get-insert nat_list_cmp_total m key value other ∙ ap (λ found. cond tied (Some value) found) same ∙ sym (fin.get-insert nat_list_cmp_total n key value other)
changed_same Remove key other m n same =
    let tied = eq_by_cmp (slice_cmp nat_cmp) other key in
    fin.get-remove nat_list_cmp_total m key other ∙ ap (λ found. cond tied None found) same ∙ sym (fin.get-remove nat_list_cmp_total n key other)

-- ---- a call, where a map has the same at the keys of the call's ward

module _ (cap ward_bits : ℕ) (pseudo : List ℕ → ℕ) (few : ward_bits ≤ WARD_BITS_LIMIT) (call : Call) (own whole : KeyMap)
    (part : (key : List ℕ) → ward_of ward_bits (pseudo key) ≡ ward_of ward_bits (pseudo (key_of call)) → fin.get own key ≡ fin.get whole key) where
  abbrev key : List ℕ
  key = key_of call

  -- keys that share their leading bits, as Full counts them, are of one ward
  same_ward : (other : List ℕ) → shares pseudo key other ≡ true → ward_of ward_bits (pseudo other) ≡ ward_of ward_bits (pseudo key)
  same_ward other shared =
      let more = LIMIT - ward_bits in
      let all : ward_bits + more ≡ LIMIT = omega (arith, few) in
      let fewer : (k : ℕ) → leading LIMIT k / 2 ^ more ≡ ward_of ward_bits k = λ k. ap (λ (n : ℕ). leading n k / 2 ^ more) (sym all) ∙ leading-fewer ward_bits more k (omega (arith, all)) in
      sym (fewer (pseudo other)) ∙ ap (λ (n : ℕ). n / 2 ^ more) (eqb-true _ _ shared) ∙ fewer (pseudo key)

  same_effect : effect_in cap pseudo own call ≡ effect_in cap pseudo whole call
  same_effect =
      ap (effect_of call (nat_le cap _)) (part key refl)
      ∙ ap (λ (sharers : ℕ). effect_of call (nat_le cap sharers) (fin.get whole key)) (sharing_same pseudo key own whole (λ other shared. part other (same_ward other shared)))

  pub reply_same : reply_of cap pseudo own call ≡ reply_of cap pseudo whole call
  reply_same = ap (λ (effect : Effect). effect.reply) same_effect

  pub own_after : (other : List ℕ) → ward_of ward_bits (pseudo other) ≡ ward_of ward_bits (pseudo key) → fin.get (map_after cap pseudo own call) other ≡ fin.get (map_after cap pseudo whole call) other
  own_after other here =
      changed_same (effect_in cap pseudo own call).change key other own whole (part other here)
      ∙ ap (λ (effect : Effect). fin.get (changed effect.change key whole) other) same_effect

  pub else_after : (other : List ℕ) → ward_of ward_bits (pseudo other) ≢ ward_of ward_bits (pseudo key) → fin.get (map_after cap pseudo whole call) other ≡ fin.get whole other
  else_after other differ = changed_else (effect_in cap pseudo whole call).change key other whole (λ same. differ (ap (λ (k : List ℕ). ward_of ward_bits (pseudo k)) same))
