-- Known places as one is noted, and as some are forgotten.
use Rattle.std.proofs.Common.{◌≡◌, ℕ, Bool, true, false, cond, not, ◌||◌, Ordering, Less, Equal, Greater, List, [], ◌∷◌, ◌++◌, refl, sym, ap, ◌∙◌, subst, nat_cmp}
use Rattle.std.specs.Ordering.{is_eq, match_ordering}
use Rattle.std.specs.Cmp.{nat_cmp_is}
use Rattle.std.specs.Set.{remove_key}
use Rattle.std.specs.BTreeMap.{is_at}
use Rattle.std.specs.BTreeSet.{BTreeSet, contains, insert_key}
use Rattle.std.specs.FinMap.{nat_cmp-IsAntisymmetric}
use Rattle.std.specs.List.{list_any}
use Rattle.std.proofs.lemmas.Bool.{true≢false}
use Rattle.exh_prefix.specs.PrefixListLemmas.{is_equal}
use Rattle.exh_table.specs.Table.{TableMap}
use Rattle.exh_array.specs.KnownCopy.{AreKnown, IsSentUpTo, forgotten, places_left}

module _ (sent : List TableMap) (own : TableMap) (old new : BTreeSet ℕ) (place : ℕ) (known : AreKnown sent old own) (up : IsSentUpTo sent own place) where
  noted_at : (at : ℕ) (here : Bool) → is_at (nat_cmp place) at ≡ here → contains nat_cmp new at ≡ cond here true (contains nat_cmp old at) → contains nat_cmp new at ≡ true → IsSentUpTo sent own at
  noted_at at true tie is found = subst (IsSentUpTo sent own) (nat_cmp-IsAntisymmetric place at (is_equal (nat_cmp place at) tie)) up
  noted_at at false tie is found = known at (sym is ∙ found)

  -- one more is known
  pub known_more : ((at : ℕ) → contains nat_cmp new at ≡ cond (is_at (nat_cmp place) at) true (contains nat_cmp old at)) → AreKnown sent new own
  known_more updates at found = noted_at at (is_at (nat_cmp place) at) refl (updates at) found

-- the same are known
pub known_same : (sent : List TableMap) (own : TableMap) (old new : BTreeSet ℕ) → new.keys ≡ old.keys → AreKnown sent old own → AreKnown sent new own
known_same sent own old new same known at found = known at (sym (ap (list_any (is_at (nat_cmp at))) same) ∙ found)

-- a place compares equal to itself
own_equal : (place : ℕ) → is_at (nat_cmp place) place ≡ true
own_equal place = sym (ap is_eq (nat_cmp_is place place Equal refl))

not_true : (b : Bool) → not b ≡ true → b ≡ false
not_true true is = absurd (true≢false (sym is))
not_true false is = refl

module _ (place : ℕ) where
  abbrev pub out_of : List ℕ → List ℕ
  out_of places = remove_key (is_at (nat_cmp place)) places

  out_by : (first : ℕ) (places : List ℕ) (o : Ordering) → nat_cmp place first ≡ o → (is_eq o || list_any (is_at (nat_cmp place)) places) ≡ false
      → (list_any (is_at (nat_cmp place)) places ≡ false → out_of (insert_key nat_cmp places place) ≡ places)
      → out_of (match_ordering o (place ∷ first ∷ places) (first ∷ places) (first ∷ insert_key nat_cmp places place)) ≡ first ∷ places
  out_by first places Less is absent rest = ap (λ here. cond here (first ∷ places) (place ∷ out_of (first ∷ places))) (own_equal place)
  out_by first places Equal is absent rest = absurd (true≢false absent)
  out_by first places Greater is absent rest =
      ap (λ o. cond (is_eq o) (insert_key nat_cmp places place) (first ∷ out_of (insert_key nat_cmp places place))) is ∙ ap (λ left. first ∷ left) (rest absent)

  -- what was put in and is taken out again leaves what was there
  pub out_again : (places : List ℕ) → list_any (is_at (nat_cmp place)) places ≡ false → out_of (insert_key nat_cmp places place) ≡ places
  out_again [] absent = ap (λ here. cond here [] (place ∷ [])) (own_equal place)
  out_again (first ∷ places) absent = out_by first places (nat_cmp place first) refl absent (out_again places)

  -- so it does of those that are left once others are taken out too
  pub left_push : (noted places : List ℕ) → places_left (noted ++ place ∷ []) places ≡ places_left noted (out_of places)
  left_push [] places = refl
  left_push (one ∷ noted) places = ap (remove_key (is_at (nat_cmp one))) (left_push noted places)

-- a place that was newly noted is forgotten first
pub forgotten_noted : (noted more : List ℕ) (old new : BTreeSet ℕ) (place : ℕ) (is_new : Bool) → more ≡ noted ++ place ∷ [] → new.keys ≡ insert_key nat_cmp old.keys place
    → is_new ≡ not (contains nat_cmp old place) → is_new ≡ true → forgotten more new ≡ forgotten noted old
forgotten_noted noted more old new place is_new pushed put added is =
    let absent = not_true (contains nat_cmp old place) (sym added ∙ is) in
    let left : places_left more new.keys ≡ places_left noted old.keys =
    ap (λ all. places_left all new.keys) pushed ∙ left_push place noted new.keys ∙ ap (λ keys. places_left noted (remove_key (is_at (nat_cmp place)) keys)) put ∙ ap (places_left noted) (out_again place old.keys absent) in
    λ i. record { keys = left i }

-- one is forgotten, and those before it are left
pub forgotten_last : (all noted : List ℕ) (old new : BTreeSet ℕ) (place : ℕ) → all ≡ noted ++ place ∷ [] → new.keys ≡ remove_key (is_at (nat_cmp place)) old.keys → forgotten noted new ≡ forgotten all old
forgotten_last all noted old new place popped out =
    let left : places_left noted new.keys ≡ places_left all old.keys = ap (places_left noted) out ∙ sym (left_push place noted old.keys) ∙ sym (ap (λ places. places_left places old.keys) popped) in
    λ i. record { keys = left i }

-- one that was newly noted is out again
pub out_noted : (old put new : BTreeSet ℕ) (place : ℕ) (is_new : Bool) → put.keys ≡ insert_key nat_cmp old.keys place → is_new ≡ not (contains nat_cmp old place) → is_new ≡ true
    → new.keys ≡ remove_key (is_at (nat_cmp place)) put.keys → new ≡ old
out_noted old put new place is_new put_in added is out =
    let absent = not_true (contains nat_cmp old place) (sym added ∙ is) in
    let left : new.keys ≡ old.keys = out ∙ ap (remove_key (is_at (nat_cmp place))) put_in ∙ out_again place old.keys absent in
    λ i. record { keys = left i }
