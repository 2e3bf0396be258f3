-- The path of a walk, and the leaf at its end.
use Rattle.std.proofs.Common.{◌≡◌, ℕ, zero, suc, ◌+◌, ◌<◌, ◌≤◌, ◌^◌, Bool, true, false, if◌then◌else◌, List, [], ◌∷◌, ◌++◌, length, take, drop, slice_get, Option, Some, None, IsSome, refl, sym, ap, ◌∙◌, subst, arith}
use Rattle.std.specs.Option.{option_map_or}
use Rattle.std.proofs.lemmas.List.{append_assoc, append-nil, append_cancel_left, length-append, take_at, take-append-drop, take-take, length-drop}
use Rattle.std.proofs.lemmas.Option.{same_Some, slice_get_within}
use Rattle.exh_prefix.specs.Bits.{word_bits}
use Rattle.exh_prefix.specs.Prefix.{IsFront, Begins}
use Rattle.exh_prefix.specs.PrefixLemmas.{front_of_front}
use Rattle.exh_prefix.specs.declared.prefix.TheConstants.{LIMIT}
use Rattle.exh_prefix.specs.LeadingLemmas.{length-leading_bits}
use Rattle.exh_table.specs.declared.leaf.Leaf.{Leaf}
use Rattle.exh_table.specs.Table.{TableMap}
use Rattle.exh_table.specs.TableWalk.{split_at, step, walk_on, walk_in}
use Rattle.exh_table.specs.Leaves.{IsLeafIn}
use Rattle.exh_table.specs.TableLaws.{IsPath, IsParted}

-- a walk's way from one place to another, over some of the bits
pub record IsWay (splits : List Bool → Option ℕ) (bits : List Bool) (at leaf : Leaf) : Type 0 where
  pub over : List Bool
  pub rest : List Bool
  pub parts : bits ≡ over ++ rest
  pub along : leaf.prefix ≡ at.prefix ++ over
  pub passes : (n : ℕ) → n < length over → IsSome (splits (at.prefix ++ take n over))
  pub stops : length over < length bits → splits leaf.prefix ≡ None
  pub turned : (n : ℕ) → slice_get over n ≡ Some true → ((later : ℕ) → n < later → later < length over → slice_get over later ≡ Some false) → splits (at.prefix ++ take n over) ≡ Some leaf.page
  pub straight : ((n : ℕ) → n < length over → slice_get over n ≡ Some false) → leaf.page ≡ at.page

no_way : (splits : List Bool → Option ℕ) (bits : List Bool) (at : Leaf) → (0 < length bits → splits at.prefix ≡ None) → IsWay splits bits at at
no_way splits bits at stops = record {
  over = [];
  rest = bits;
  parts = refl;
  along = sym (append-nil at.prefix);
  passes = λ n within. absurd (omega arith);
  stops = stops;
  turned = λ n is later. absurd (omega (arith, slice_get_within {A = Bool} [] n true is));
  straight = λ all. refl;
}

-- the first bit taken, and then the rest of the way
longer_way : (splits : List Bool → Option ℕ) (bit : Bool) (bits : List Bool) (at leaf : Leaf) (right : ℕ) → splits at.prefix ≡ Some right → IsWay splits bits (step at bit right) leaf → IsWay splits (bit ∷ bits) at leaf
longer_way splits bit bits at leaf right split way =
    let here : splits (at.prefix ++ []) ≡ Some right = ap splits (append-nil at.prefix) ∙ split in
    let further = λ (n : ℕ). append_assoc at.prefix (bit ∷ []) (take n way.over) in
    record {
      over = bit ∷ way.over;
      rest = way.rest;
      parts = ap (λ bits. bit ∷ bits) way.parts;
      along = way.along ∙ append_assoc at.prefix (bit ∷ []) way.over;
      passes = λ n. elim n as (λ n. n < suc (length way.over) → IsSome (splits (at.prefix ++ take n (bit ∷ way.over)))) [
        | zero ↦ λ within. subst IsSome (sym here) refl
        | suc n ↦ λ within. subst (λ p. IsSome (splits p)) (further n) (way.passes n (omega arith))
      ];
      stops = λ less. way.stops (omega arith);
      turned = λ n. elim n as (λ n. slice_get (bit ∷ way.over) n ≡ Some true → ((later : ℕ) → n < later → later < suc (length way.over) → slice_get (bit ∷ way.over) later ≡ Some false)
          → splits (at.prefix ++ take n (bit ∷ way.over)) ≡ Some leaf.page) [
            | zero ↦ λ is later. here ∙ ap Some (ap (λ b. if b then right else at.page) (sym (same_Some bit true is)) ∙ sym (way.straight (λ n within. later (suc n) (omega arith) (omega arith))))
            | suc n ↦ λ is later. ap splits (sym (further n)) ∙ way.turned n is (λ m above within. later (suc m) (omega arith) (omega arith))
          ];
      straight = λ all. way.straight (λ n within. all (suc n) (omega arith)) ∙ ap (λ b. if b then right else at.page) (same_Some bit false (all 0 (omega arith)));
    }

pub walk_has_way : (splits : List Bool → Option ℕ) (bits : List Bool) (at : Leaf) → IsWay splits bits at (walk_on splits bits at)
walk_has_way splits [] at = no_way splits [] at (λ none. absurd (omega arith))
walk_has_way splits (bit ∷ bits) at =
    elim (splits at.prefix) as (λ split. splits at.prefix ≡ split → IsWay splits (bit ∷ bits) at (option_map_or (λ right. walk_on splits bits (step at bit right)) split at)) [
      | None ↦ λ none. no_way splits (bit ∷ bits) at (λ some. none)
      | Some right ↦ λ split. longer_way splits bit bits at (walk_on splits bits (step at bit right)) right split (walk_has_way splits bits (step at bit right))
    ] refl

-- ---- where two walks end at one leaf

-- the first bits are the same where what follows them is
same_first : (prefix over rest other : List Bool) (bit next : Bool) → ((prefix ++ bit ∷ []) ++ over) ++ rest ≡ prefix ++ next ∷ other → bit ∷ (over ++ rest) ≡ next ∷ other
same_first prefix over rest other bit next is =
    append_cancel_left prefix _ _ (sym (append_assoc prefix (bit ∷ []) (over ++ rest)) ∙ sym (append_assoc (prefix ++ bit ∷ []) over rest) ∙ is)

head_is : (bit next : Bool) (over other : List Bool) → bit ∷ over ≡ next ∷ other → bit ≡ next
head_is bit next over other is = cc

-- bits that go on from the end of a walk lead to the same end
pub same_walk : (splits : List Bool → Option ℕ) (bits other rest : List Bool) (at : Leaf) → length other ≡ length bits → (walk_on splits bits at).prefix ++ rest ≡ at.prefix ++ other
    → walk_on splits other at ≡ walk_on splits bits at
same_walk splits [] [] rest at long is = refl
same_walk splits [] (next ∷ other) rest at long is = absurd (omega arith)
same_walk splits (bit ∷ bits) [] rest at long is = absurd (omega arith)
same_walk splits (bit ∷ bits) (next ∷ other) rest at long is =
    elim (splits at.prefix) as (λ split. (option_map_or (λ right. walk_on splits bits (step at bit right)) split at).prefix ++ rest ≡ at.prefix ++ next ∷ other
    → option_map_or (λ right. walk_on splits other (step at next right)) split at ≡ option_map_or (λ right. walk_on splits bits (step at bit right)) split at) [
      | None ↦ λ is. refl
      | Some right ↦ λ is.
          let way = walk_has_way splits bits (step at bit right) in
          let first = head_is bit next _ other (same_first at.prefix way.over rest other bit next (ap (λ p. p ++ rest) (sym way.along) ∙ is)) in
          ap (λ b. walk_on splits other (step at b right)) (sym first)
          ∙ same_walk splits bits other rest (step at bit right) (omega arith) (is ∙ ap (λ b. at.prefix ++ b ∷ other) (sym first) ∙ sym (append_assoc at.prefix (bit ∷ []) other))
    ] is

-- ---- the walks of a ward

-- a front of a pseudokey, and what follows it up to LIMIT
pub front_and_rest : (prefix : List Bool) (pseudokey : ℕ) → length prefix ≤ LIMIT → Begins prefix pseudokey → prefix ++ drop (length prefix) (take LIMIT (word_bits pseudokey)) ≡ take LIMIT (word_bits pseudokey)
front_and_rest prefix pseudokey short begins =
    ap (λ front. front ++ drop (length prefix) (take LIMIT (word_bits pseudokey))) (sym (take-take (length prefix) LIMIT (word_bits pseudokey) short ∙ begins))
    ∙ take-append-drop (length prefix) (take LIMIT (word_bits pseudokey))

pub walk_is_path : (table : TableMap) (ward : List Bool) (pseudokey : ℕ) → length ward ≤ LIMIT → Begins ward pseudokey → IsPath table ward pseudokey (walk_in table ward pseudokey)
walk_is_path table ward pseudokey short begins =
    let word = word_bits pseudokey in
    let bits = drop (length ward) (take LIMIT word) in
    let leaf = walk_in table ward pseudokey in
    let way = walk_has_way (split_at table) bits (record { prefix = ward; page = 0 }) in
    let whole : leaf.prefix ++ way.rest ≡ take LIMIT word =
    ap (λ p. p ++ way.rest) way.along ∙ append_assoc ward way.over way.rest ∙ ap (λ bits. ward ++ bits) (sym way.parts) ∙ front_and_rest ward pseudokey short begins in
    let within : length leaf.prefix ≤ LIMIT = omega (arith, sym (length-append leaf.prefix way.rest) ∙ ap length whole ∙ length-leading_bits LIMIT pseudokey (omega arith)) in
    let front : IsFront leaf.prefix (take LIMIT word) = ap (take (length leaf.prefix)) (sym whole) ∙ take_at leaf.prefix way.rest (length leaf.prefix) refl in
    let wide : length ward + length bits ≡ LIMIT = sym (length-append ward bits) ∙ ap length (front_and_rest ward pseudokey short begins) ∙ length-leading_bits LIMIT pseudokey (omega arith) in
    let long : length leaf.prefix ≡ length ward + length way.over = ap length way.along ∙ length-append ward way.over in
    record {
      over = way.over;
      along = way.along;
      begins = front_of_front leaf.prefix (take LIMIT word) word (omega (arith, length-leading_bits LIMIT pseudokey (omega arith))) front (ap (λ n. take n word) (length-leading_bits LIMIT pseudokey (omega arith)));
      short = within;
      passes = way.passes;
      stops = λ less. way.stops (omega (arith, wide, long));
      turned = way.turned;
      straight = way.straight;
    }

pub walk_to_leaf : (table : TableMap) (ward : List Bool) (pseudokey : ℕ) (leaf : Leaf) → length ward ≤ LIMIT → Begins ward pseudokey → IsLeafIn table ward leaf → Begins leaf.prefix pseudokey → walk_in table ward pseudokey ≡ leaf
walk_to_leaf table ward pseudokey leaf short begins (other, small, covers, ends) begun =
    let bits = λ (k : ℕ). drop (length ward) (take LIMIT (word_bits k)) in
    let within : length leaf.prefix ≤ LIMIT = subst (λ (leaf : Leaf). length leaf.prefix ≤ LIMIT) ends (walk_is_path table ward other short covers).short in
    let as_long : length (bits pseudokey) ≡ length (bits other) = omega (arith, length-drop (length ward) (take LIMIT (word_bits pseudokey)), length-drop (length ward) (take LIMIT (word_bits other)), length-leading_bits LIMIT pseudokey (omega arith), length-leading_bits LIMIT other (omega arith)) in
    let follows : (walk_in table ward other).prefix ++ drop (length leaf.prefix) (take LIMIT (word_bits pseudokey)) ≡ ward ++ bits pseudokey =
    ap (λ (end : Leaf). end.prefix ++ drop (length leaf.prefix) (take LIMIT (word_bits pseudokey))) ends ∙ front_and_rest leaf.prefix pseudokey within begun ∙ sym (front_and_rest ward pseudokey short begins) in
    same_walk (split_at table) (bits other) (bits pseudokey) _ (record { prefix = ward; page = 0 }) as_long follows ∙ ends

pub parted : (table : TableMap) (ward : List Bool) (pseudokey : ℕ) → length ward ≤ LIMIT → pseudokey < 2 ^ 64 → Begins ward pseudokey → IsParted table ward pseudokey
parted table ward pseudokey short small begins = record {
  name = record {
    leaf = ((walk_in table ward pseudokey).page, (pseudokey, small, begins, refl));
    begins = (walk_is_path table ward pseudokey short begins).begins;
    only = λ other is begun. sym (ap (λ (leaf : Leaf). leaf.prefix) (walk_to_leaf table ward pseudokey (record { prefix = other; page = is.0 }) short begins is.1 begun));
  };
  leaf = λ leaf is begun. walk_to_leaf table ward pseudokey leaf short begins is begun;
}
