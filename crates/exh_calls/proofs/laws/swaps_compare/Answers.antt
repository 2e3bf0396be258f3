use Rattle.std.proofs.Common.{◌≡◌, ℕ, Bool, true, false, cond, List, Option, Some, None, refl, sym, ap, ◌∙◌, nat_cmp}
use Rattle.std.specs.Prelude.{bytes_eq}
use Rattle.std.specs.FinMap as fin
use Rattle.std.specs.Ordering.{eq_by_cmp}
use Rattle.std.specs.Cmp.Lexicographic.{slice_cmp}
use Rattle.std.proofs.lemmas.Cmp.{eq_by_cmp_equiv, nat_list_cmp_total}
use Rattle.std.proofs.lemmas.Map.Lookups.{exact_bytes}
use Rattle.std.proofs.lemmas.Slice.Eq.{bytes_eq-Decides}
use Rattle.exh_page.specs.PrefixListLemmas.{is_equal}
use Rattle.exh_page.specs.KeyMap.{KeyMap}
use Rattle.exh_calls.specs.Effect.{Effect, Keep, Set, effect_of}
use Rattle.exh_calls.specs.CallLaws.{IsSwap}
use Rattle.exh_calls.specs.MapMachine.{is_full, effect_in, changed, reply_of, map_after}
use Rattle.exh_calls.specs.declared.call.Call.TheVariants.{Swap}
use Rattle.exh_calls.specs.declared.reply.Reply.{Reply}
use Rattle.exh_calls.specs.declared.reply.Reply.TheVariants.{None as Absent, Swapped, Differs}
use Rattle.exh_calls.proofs.laws.swaps_compare.Goals as goal

some_same : {one other : List ℕ} → Some one ≡ Some other → one ≡ other
some_same same = cc

module _ (cap : ℕ) (pseudo : List ℕ → ℕ) (m : KeyMap) (key old new : List ℕ) where
  abbrev reply : Reply
  reply = reply_of cap pseudo m (Swap key old new)

  abbrev after : KeyMap
  after = map_after cap pseudo m (Swap key old new)

  reply_is : (effect : Effect) → effect_in cap pseudo m (Swap key old new) ≡ effect → reply ≡ effect.reply
  reply_is effect is = ap (λ (e : Effect). e.reply) is

  after_is : (effect : Effect) → effect_in cap pseudo m (Swap key old new) ≡ effect → after ≡ changed effect.change key m
  after_is effect is = ap (λ (e : Effect). changed e.change key m) is

  -- ---- the map with the new value

  at_key : fin.get (fin.insert m key new) key ≡ Some new
  at_key = fin.get-insert nat_list_cmp_total m key new key ∙ ap (λ b. cond b (Some new) (fin.get m key)) ((eq_by_cmp_equiv nat_list_cmp_total).refl key)

  else_where : (other : List ℕ) (tied : Bool) → eq_by_cmp (slice_cmp nat_cmp) other key ≡ tied → (other ≡ key → ⊥) → cond tied (Some new) (fin.get m other) ≡ fin.get m other
  else_where other true is apart = absurd (apart (exact_bytes other key (is_equal (slice_cmp nat_cmp other key) is)))
  else_where other false is apart = refl

  at_other : (other : List ℕ) → (other ≡ key → ⊥) → fin.get (fin.insert m key new) other ≡ fin.get m other
  at_other other apart = fin.get-insert nat_list_cmp_total m key new other ∙ else_where other (eq_by_cmp (slice_cmp nat_cmp) other key) refl apart

  -- ---- by what the key has

  stands : fin.get m key ≡ Some old → effect_in cap pseudo m (Swap key old new) ≡ record { reply = Swapped; change = Set new } → IsSwap cap pseudo m key old new
  stands there is =
      let told = reply_is _ is in
      let left = after_is _ is in
      record {
        swapped = (λ _. there, λ _. told);
        differs = λ value. (λ says. cc, λ other. absurd (other.1 (some_same (sym other.0 ∙ there))));
        absent = (λ says. cc, λ none. cc);
        given = λ _. ap (λ (n : KeyMap). fin.get n key) left ∙ at_key;
        others = λ other apart. ap (λ (n : KeyMap). fin.get n other) left ∙ at_other other apart;
        same = λ never. absurd (never there);
      }

  another : (value : List ℕ) → fin.get m key ≡ Some value → (value ≡ old → ⊥) → effect_in cap pseudo m (Swap key old new) ≡ record { reply = Differs value; change = Keep } → IsSwap cap pseudo m key old new
  another value there apart is =
      let told = reply_is _ is in
      let left = after_is _ is in
      record {
        swapped = (λ says. cc, λ stood. absurd (apart (some_same (sym there ∙ stood))));
        differs = λ other. (λ says. let same : value ≡ other = cc in (there ∙ ap (λ v. Some v) same, λ is_old. apart (same ∙ is_old)), λ found. let same : value ≡ other = some_same (sym there ∙ found.0) in told ∙ ap (λ v. Differs v) same);
        absent = (λ says. cc, λ none. cc);
        given = λ stood. absurd (apart (some_same (sym there ∙ stood)));
        others = λ other never. ap (λ (n : KeyMap). fin.get n other) left;
        same = λ _. left;
      }

  lacks : fin.get m key ≡ None → effect_in cap pseudo m (Swap key old new) ≡ record { reply = Absent; change = Keep } → IsSwap cap pseudo m key old new
  lacks none is =
      let told = reply_is _ is in
      let left = after_is _ is in
      record {
        swapped = (λ says. cc, λ stood. cc);
        differs = λ value. (λ says. cc, λ found. let there = found.0 in cc);
        absent = (λ _. none, λ _. told);
        given = λ stood. cc;
        others = λ other never. ap (λ (n : KeyMap). fin.get n other) left;
        same = λ _. left;
      }

  -- the effect on a value, by whether it is the old one
  abbrev tested : List ℕ → Bool → Effect
  tested value is_old = cond is_old (record { reply = Swapped; change = Set new }) (record { reply = Differs value; change = Keep })

  effect_is : (value : List ℕ) (is_old : Bool) → bytes_eq value old ≡ is_old → fin.get m key ≡ Some value → effect_in cap pseudo m (Swap key old new) ≡ tested value is_old
  effect_is value is_old test there = ap (effect_of (Swap key old new) (is_full cap pseudo m key)) there ∙ ap (tested value) test

  by_test : (value : List ℕ) (is_old : Bool) → bytes_eq value old ≡ is_old → fin.get m key ≡ Some value → IsSwap cap pseudo m key old new
  by_test value true test there =
      stands (there ∙ ap (λ v. Some v) ((bytes_eq-Decides value old).0 test)) (effect_is value true test there)
  by_test value false test there =
      another value there (λ same. let yes = (bytes_eq-Decides value old).1 same in cc) (effect_is value false test there)

  by_found : (found : Option (List ℕ)) → fin.get m key ≡ found → IsSwap cap pseudo m key old new
  by_found (Some value) is = by_test value (bytes_eq value old) refl is
  by_found None is = lacks is (ap (effect_of (Swap key old new) (is_full cap pseudo m key)) is)

pub returns : goal.returns
returns c cap pseudo m key old new = by_found cap pseudo m key old new (fin.get m key) refl
