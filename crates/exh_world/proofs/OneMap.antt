-- What the map machine answers depends on the keys that share the leading bits alone.
use Rattle.std.proofs.Common.{◌≡◌, ℕ, Bool, true, false, cond, List, Option, None, Some, refl, sym, ap, ◌∙◌, subst, nat_cmp}
use Rattle.std.specs.Prelude.{nat_le}
use Rattle.std.specs.FinMap as fin
use Rattle.std.specs.Ordering.{eq_by_cmp}
use Rattle.std.specs.Cmp.Lexicographic.{slice_cmp}
use Rattle.std.proofs.lemmas.Bool.{eq-eqb}
use Rattle.std.proofs.lemmas.Cmp.{nat_list_cmp_total}
use Rattle.std.proofs.lemmas.Map.Lookups.{exact_bytes}
use Rattle.exh_page.specs.KeyMap.{KeyMap}
use Rattle.exh_calls.specs.Call.{key_of}
use Rattle.exh_calls.specs.Effect.{Change, Keep, Set, Remove, Effect, effect_of}
use Rattle.exh_calls.specs.SharingLemmas.{shares, sharing_same}
use Rattle.exh_calls.specs.MapMachine.{is_full, effect_in, changed, reply_of, map_after}
use Rattle.exh_calls.specs.declared.call.Call.{Call}
use Rattle.exh_prefix.specs.declared.prefix.TheConstants.{LIMIT}
use Rattle.exh_prefix.specs.Leading.{leading}
use Rattle.exh_prefix.specs.PrefixListLemmas.{is_equal}

-- ---- a part of a map answers as the whole does

-- the maps have the same at every key that shares the leading bits of the call's
abbrev pub AreAlike : (List ℕ → ℕ) → KeyMap → KeyMap → List ℕ → Type 0
AreAlike pseudo whole own key = (other : List ℕ) → shares pseudo key other ≡ true → fin.get whole other ≡ fin.get own other

module _ (cap : ℕ) (pseudo : List ℕ → ℕ) (whole own : KeyMap) where
  same_full : (key : List ℕ) → AreAlike pseudo whole own key → is_full cap pseudo whole key ≡ is_full cap pseudo own key
  same_full key alike = ap (nat_le cap) (sharing_same pseudo key whole own alike)

  own_shares : (key : List ℕ) → shares pseudo key key ≡ true
  own_shares key = eq-eqb (leading LIMIT (pseudo key)) (leading LIMIT (pseudo key)) refl

  same_here : (key : List ℕ) → AreAlike pseudo whole own key → fin.get whole key ≡ fin.get own key
  same_here key alike = alike key (own_shares key)

  same_effect : (call : Call) → AreAlike pseudo whole own (key_of call) → effect_in cap pseudo whole call ≡ effect_in cap pseudo own call
  same_effect call alike =
      ap (effect_of call (is_full cap pseudo whole (key_of call))) (same_here (key_of call) alike)
      ∙ ap (λ full. effect_of call full (fin.get own (key_of call))) (same_full (key_of call) alike)

  pub same_reply : (call : Call) → AreAlike pseudo whole own (key_of call) → reply_of cap pseudo whole call ≡ reply_of cap pseudo own call
  same_reply call alike = ap (λ (effect : Effect). effect.reply) (same_effect call alike)

  -- what isn't changed is the same, at the call's key by the part
  unchanged : (key other : List ℕ) → AreAlike pseudo whole own key → (tied : Bool) → eq_by_cmp (slice_cmp nat_cmp) other key ≡ tied → fin.get whole other ≡ cond tied (fin.get own other) (fin.get whole other)
  unchanged key other alike true is = let same = exact_bytes other key (is_equal (slice_cmp nat_cmp other key) is) in subst (λ k. fin.get whole k ≡ fin.get own k) (sym same) (same_here key alike)
  unchanged key other alike false is = refl

  -- what is inserted or removed at the call's key is so in the part too
  shadowed : (tied : Bool) (here there else : Option (List ℕ)) → cond tied here else ≡ cond tied (cond tied here there) else
  shadowed true here there else = refl
  shadowed false here there else = refl

  inserted : (key value other : List ℕ) → fin.get (fin.insert whole key value) other ≡ cond (eq_by_cmp (slice_cmp nat_cmp) other key) (fin.get (fin.insert own key value) other) (fin.get whole other)
  inserted key value other =
      fin.get-insert nat_list_cmp_total whole key value other
      ∙ shadowed (eq_by_cmp (slice_cmp nat_cmp) other key) (Some value) (fin.get own other) (fin.get whole other)
      ∙ ap (λ found. cond (eq_by_cmp (slice_cmp nat_cmp) other key) found (fin.get whole other)) (sym (fin.get-insert nat_list_cmp_total own key value other))

  left_by_change : (change : Change) (key other : List ℕ) → AreAlike pseudo whole own key
      → fin.get (changed change key whole) other ≡ cond (eq_by_cmp (slice_cmp nat_cmp) other key) (fin.get (changed change key own) other) (fin.get whole other)
  left_by_change Keep key other alike = unchanged key other alike _ refl
  left_by_change (Set value) key other alike = inserted key value other
  left_by_change Remove key other alike =
      fin.get-remove nat_list_cmp_total whole key other
      ∙ shadowed (eq_by_cmp (slice_cmp nat_cmp) other key) None (fin.get own other) (fin.get whole other)
      ∙ ap (λ found. cond (eq_by_cmp (slice_cmp nat_cmp) other key) found (fin.get whole other)) (sym (fin.get-remove nat_list_cmp_total own key other))

  -- after a call each key has what it had, but the call's key what the part has then
  pub left_by_call : (call : Call) (other : List ℕ) → AreAlike pseudo whole own (key_of call)
      → fin.get (map_after cap pseudo whole call) other ≡ cond (eq_by_cmp (slice_cmp nat_cmp) other (key_of call)) (fin.get (map_after cap pseudo own call) other) (fin.get whole other)
  left_by_call call other alike =
      ap (λ (effect : Effect). fin.get (changed effect.change (key_of call) whole) other) (same_effect call alike)
      ∙ left_by_change (effect_in cap pseudo own call).change (key_of call) other alike
