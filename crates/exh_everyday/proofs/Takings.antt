-- Keys that are taken out of a map, one behind the other.
use Rattle.std.proofs.Common.{◌≡◌, ◌≢◌, ◌∙◌, ◌⊎◌, inl, inr, ℕ, ◌+◌, ◌<◌, Bool, true, false, cond, List, [], ◌∷◌, ◌++◌, length, take, get_or, Option, None, Some, Ordering, refl, sym, ap, subst, append_assoc, append-nil, nat_cmp}
use Rattle.std.specs.FinMap as fin
use Rattle.std.specs.declared.cmp.Ordering.TheVariants.{Less, Equal, Greater}
use Rattle.std.specs.Ordering.{eq_by_cmp, is_eq}
use Rattle.std.specs.Cmp.Lexicographic.{slice_cmp}
use Rattle.std.proofs.lemmas.Cmp.{eq_by_cmp_equiv, nat_list_cmp_total}
use Rattle.std.proofs.lemmas.List.{map-append}
use Rattle.std.proofs.lemmas.Map.Lookups.{exact_bytes}
use Rattle.exh_page.specs.KeyMap.{KeyMap}
use Rattle.exh_calls.specs.Effect.{effect_of}
use Rattle.exh_calls.specs.MapMachine.{changed}
use Rattle.exh_calls.specs.declared.call.Call.TheVariants.{Del}
use Rattle.exh_transfer.specs.FileChange.{HasMap}
use Rattle.exh_transfer.specs.Opened.{OpenedState}
use Rattle.exh_transfer.specs.FileMap.{map_then}
use Rattle.exh_everyday.specs.declared.found.Found.{Found}
use Rattle.exh_everyday.specs.Founds.{AreOut, AreTaken, Asked, IsAmong, IsLeft, IsOut, IsTakenOne, IsWithout, keys_of}
use Rattle.exh_everyday.proofs.Founds.{added_none, added_one}

-- ---- a del of one key

is_equal : (r : Ordering) → is_eq r ≡ true → r ≡ Equal
is_equal Less is = cc
is_equal Equal is = refl
is_equal Greater is = cc

removed_here : (m : KeyMap) (key : List ℕ) (stood : Option (List ℕ)) (full : Bool) → fin.get m key ≡ stood → fin.get (changed (effect_of (Del key) full stood).change key m) key ≡ None
removed_here m key None full is = is
removed_here m key (Some value) full is = fin.get-remove nat_list_cmp_total m key key ∙ ap (λ tied. cond tied None (fin.get m key)) ((eq_by_cmp_equiv nat_list_cmp_total).refl key)

still_none : (m : KeyMap) (key other : List ℕ) (stood : Option (List ℕ)) (full : Bool) → fin.get m other ≡ None → fin.get (changed (effect_of (Del key) full stood).change key m) other ≡ None
still_none m key other None full is = is
still_none m key other (Some value) full is = fin.get-remove nat_list_cmp_total m key other ∙ none (eq_by_cmp (slice_cmp nat_cmp) other key) (fin.get m other) is
  where
    none : (tied : Bool) (found : Option (List ℕ)) → found ≡ None → cond tied None found ≡ None
    none true found is = refl
    none false found is = is

not_tied : (key other : List ℕ) (tied : Bool) (found : Option (List ℕ)) → eq_by_cmp (slice_cmp nat_cmp) other key ≡ tied → other ≢ key → cond tied None found ≡ found
not_tied key other true found is differ = absurd (differ (exact_bytes other key (is_equal (slice_cmp nat_cmp other key) is)))
not_tied key other false found is differ = refl

others_stay : (m : KeyMap) (key other : List ℕ) (stood : Option (List ℕ)) (full : Bool) → other ≢ key → fin.get (changed (effect_of (Del key) full stood).change key m) other ≡ fin.get m other
others_stay m key other None full differ = refl
others_stay m key other (Some value) full differ = fin.get-remove nat_list_cmp_total m key other ∙ not_tied key other _ (fin.get m other) refl differ

-- ---- keys of a list

among_last : (key last : List ℕ) (keys : List (List ℕ)) → IsAmong key (keys ++ last ∷ []) → IsAmong key keys ⊎ (key ≡ last)
among_last key last [] (inl same) = inr same
among_last key last [] (inr none) = absurd none
among_last key last (first ∷ keys) (inl same) = inl (inl same)
among_last key last (first ∷ keys) (inr among) = elim (among_last key last keys among) [
  | inl before ↦ inl (inr before)
  | inr same ↦ inr same
]

among_front : (key last : List ℕ) (keys : List (List ℕ)) → IsAmong key keys → IsAmong key (keys ++ last ∷ [])
among_front key last [] none = absurd none
among_front key last (first ∷ keys) (inl same) = inl same
among_front key last (first ∷ keys) (inr among) = inr (among_front key last keys among)

among_end : (last : List ℕ) (keys : List (List ℕ)) → IsAmong last (keys ++ last ∷ [])
among_end last [] = inl refl
among_end last (first ∷ keys) = inr (among_end last keys)

-- ---- one key more

without_more : (whole left : KeyMap) (keys : List (List ℕ)) (key : List ℕ) (full : Bool) → IsWithout whole keys left → IsWithout whole (keys ++ key ∷ []) (changed (effect_of (Del key) full (fin.get left key)).change key left)
without_more whole left keys key full was =
    let stood = fin.get left key in
    record {
      out = λ other among. elim (among_last other key keys among) [
        | inl before ↦ still_none left key other stood full (was.out other before)
        | inr same ↦ subst (λ (k : List ℕ). fin.get (changed (effect_of (Del key) full stood).change key left) k ≡ None) (sym same) (removed_here left key stood full refl)
      ];
      others = λ other not.
          others_stay left key other stood full (λ same. not (subst (λ (k : List ℕ). IsAmong k (keys ++ key ∷ [])) (sym same) (among_end key keys)))
          ∙ was.others other (λ among. not (among_front other key keys among));
    }

out_more : (whole : KeyMap) (before : List (List ℕ)) (asked : List Asked) (key : List ℕ) (value : Option (List ℕ)) → AreOut whole before asked → IsOut whole (before ++ keys_of asked) key value → AreOut whole before (asked ++ (key, value) ∷ [])
out_more whole before [] key value out last = (subst (λ (keys : List (List ℕ)). IsOut whole keys key value) (append-nil before) last, tt)
out_more whole before (one ∷ asked) key value out last =
    (out.0, out_more whole (before ++ one.0 ∷ []) asked key value out.1 (subst (λ (keys : List (List ℕ)). IsOut whole keys key value) (sym (append_assoc before (one.0 ∷ []) (keys_of asked))) last))

left_more : (whole : KeyMap) (asked : List Asked) (key : List ℕ) (value : Option (List ℕ)) (now new : OpenedState)
    → (was : IsLeft whole asked now) → value ≡ fin.get was.left key → HasMap new (map_then now was.left (Del key)) → IsLeft whole (asked ++ (key, value) ∷ []) new
left_more whole asked key value now new was is has = record {
  had = out_more whole [] asked key value was.had (record { left = was.left; without = was.without; is = is });
  left = map_then now was.left (Del key);
  map = has;
  without = subst (λ (keys : List (List ℕ)). IsWithout whole keys (map_then now was.left (Del key))) (sym (map-append (λ (one : Asked). one.0) asked ((key, value) ∷ []))) (without_more whole was.left (keys_of asked) key true was.without);
}

-- ---- all of them

pub taken_none : (old : OpenedState) (found : Found) → AreTaken old [] found found old
taken_none old found = record {
  asked = [];
  added = added_none found;
  taken = λ whole has. record { had = tt; left = whole; map = has; without = record { out = λ key among. absurd among; others = λ key other. refl } };
}

pub taken_one : (old now new : OpenedState) (keys : List (List ℕ)) (at : ℕ) (key : List ℕ) (before found after : Found) → at < length keys → key ≡ get_or keys at key
    → AreTaken old (take at keys) before found now → IsTakenOne now key found after new → AreTaken old (take (at + 1) keys) before after new
taken_one old now new keys at key before found after within is so_far one = record {
  asked = so_far.asked ++ (key, one.0) ∷ [];
  added = added_one keys at key before found after so_far.asked one.0 within is so_far.added one.1.1;
  taken = λ whole has.
      let was = so_far.taken whole has in
      let removed = one.1.0 was.left was.map in
      left_more whole so_far.asked key one.0 now new was removed.answer_is removed.map;
}
