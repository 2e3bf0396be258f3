-- Walks: where they end, and what they look at.
use Rattle.std.proofs.Common.{◌≡◌, ℕ, suc, ◌+◌, ◌<◌, ◌≤◌, Bool, true, false, IsTrue, ◌↔◌, nat_lt, if◌then◌else◌, cond, List, [], ◌∷◌, ◌++◌, length, take, drop, get_or, Option, Some, None, refl, sym, ap, ◌∙◌, arith, inl, inr, is_some}
use Rattle.std.specs.Option.{option_map_or}
use Rattle.std.proofs.lemmas.Bool.{false≢true, false_from_ne_true, true≢false, lt-ltb, le-ltb}
use Rattle.std.proofs.lemmas.List.{append_assoc, take_more, length_push, same_from_push, length-take-le, append-nil, take-take, take-append-drop, get_or-take, drop_all}
use Rattle.std.proofs.Common.{drop-cons, add-one}
use Rattle.std.proofs.lemmas.Bool.Decides.{leb_tells}
use Rattle.exh_prefix.specs.Bits.{word_bits}
use Rattle.exh_prefix.specs.Prefix.{Begins}
use Rattle.exh_prefix.specs.PrefixLemmas.{length-word_bits}
use Rattle.exh_prefix.specs.declared.prefix.TheConstants.{LIMIT}
use Rattle.exh_table.specs.declared.leaf.Leaf.{Leaf}
use Rattle.exh_table.specs.Table.{TableMap}
use Rattle.exh_table.specs.TableWalk.{split_at, step, walk_on, walk_of}
use Rattle.exh_table.specs.Below.{splits_above}

-- ---- the next bit of a pseudokey

next_by : (bit right : Bool) (prefix : List Bool) (pseudokey : ℕ) → take (length prefix + 1) (word_bits pseudokey) ≡ prefix ++ bit ∷ []
    → IsTrue right ↔ Begins (prefix ++ true ∷ []) pseudokey → right ≡ bit
next_by true right prefix pseudokey is tells = tells.1 (ap (λ n. take n (word_bits pseudokey)) (length_push prefix true) ∙ is)
next_by false right prefix pseudokey is tells =
    false_from_ne_true right (λ goes. false≢true (same_from_push prefix prefix false true (sym is ∙ ap (λ n. take n (word_bits pseudokey)) (sym (length_push prefix true)) ∙ tells.0 goes)).1)

-- it is 1 exactly where the right child begins the pseudokey
pub next_bit_if_begins : (prefix : List Bool) (pseudokey : ℕ) (right : Bool) → length prefix < 64 → Begins prefix pseudokey
    → IsTrue right ↔ Begins (prefix ++ true ∷ []) pseudokey → right ≡ get_or (word_bits pseudokey) (length prefix) false
next_bit_if_begins prefix pseudokey right short begins tells =
    next_by _ right prefix pseudokey
    (take_more (word_bits pseudokey) (length prefix) false (omega (arith, length-word_bits pseudokey)) ∙ ap (λ bits. bits ++ get_or (word_bits pseudokey) (length prefix) false ∷ []) begins)
    tells

-- ---- one step

-- a walk stops where there is no split
pub walk_on-stop : (splits : List Bool → Option ℕ) (bits : List Bool) (at : Leaf) → splits at.prefix ≡ None → walk_on splits bits at ≡ at
walk_on-stop splits [] at none = refl
walk_on-stop splits (bit ∷ bits) at none = ap (λ split. option_map_or (λ right. walk_on splits bits (step at bit right)) split at) none

-- and goes on over a split
pub walk_on-step : (splits : List Bool → Option ℕ) (bit : Bool) (bits : List Bool) (at : Leaf) (right : ℕ) → splits at.prefix ≡ Some right
    → walk_on splits (bit ∷ bits) at ≡ walk_on splits bits (step at bit right)
walk_on-step splits bit bits at right split = ap (λ split. option_map_or (λ right. walk_on splits bits (step at bit right)) split at) split

-- ---- the wards' own bits

above_is : (table : TableMap) (ward_bits : ℕ) (prefix : List Bool) → length prefix < ward_bits → splits_above table ward_bits prefix ≡ Some 0
above_is table ward_bits prefix short = ap (λ above. cond above (Some 0) (split_at table prefix)) (lt-ltb (length prefix) ward_bits short)

pub past_is : (table : TableMap) (ward_bits : ℕ) (prefix : List Bool) → ward_bits ≤ length prefix → splits_above table ward_bits prefix ≡ split_at table prefix
past_is table ward_bits prefix long = ap (λ above. cond above (Some 0) (split_at table prefix)) (le-ltb (length prefix) ward_bits long)

same_page : (bit : Bool) → ◌≡◌ {A = ℕ} (if bit then 0 else 0) 0
same_page true = refl
same_page false = refl

-- above the wards, walks go along with page 0
walk_above : (table : TableMap) (ward_bits : ℕ) (front rest prefix : List Bool) → length prefix + length front ≤ ward_bits
    → walk_on (splits_above table ward_bits) (front ++ rest) (record { prefix = prefix; page = 0 }) ≡ walk_on (splits_above table ward_bits) rest (record { prefix = prefix ++ front; page = 0 })
walk_above table ward_bits [] rest prefix short = ap (λ p. walk_on (splits_above table ward_bits) rest (record { prefix = p; page = 0 })) (sym (append-nil prefix))
walk_above table ward_bits (bit ∷ front) rest prefix short =
    walk_on-step (splits_above table ward_bits) bit (front ++ rest) (record { prefix = prefix; page = 0 }) 0 (above_is table ward_bits prefix (omega arith))
    ∙ ap (λ page. walk_on (splits_above table ward_bits) (front ++ rest) (record { prefix = prefix ++ bit ∷ []; page = page })) (same_page bit)
    ∙ walk_above table ward_bits front rest (prefix ++ bit ∷ []) (omega (arith, length_push prefix bit))
    ∙ ap (λ p. walk_on (splits_above table ward_bits) rest (record { prefix = p; page = 0 })) (append_assoc prefix (bit ∷ []) front)

-- past them, by the table
walk_past : (table : TableMap) (ward_bits : ℕ) (bits : List Bool) (at : Leaf) → ward_bits ≤ length at.prefix → walk_on (splits_above table ward_bits) bits at ≡ walk_on (split_at table) bits at
walk_past table ward_bits [] at long = refl
walk_past table ward_bits (bit ∷ bits) at long =
    ap (λ split. option_map_or (λ right. walk_on (splits_above table ward_bits) bits (step at bit right)) split at) (past_is table ward_bits at.prefix long)
    ∙ elim (split_at table at.prefix) as (λ split. option_map_or (λ right. walk_on (splits_above table ward_bits) bits (step at bit right)) split at ≡ option_map_or (λ right. walk_on (split_at table) bits (step at bit right)) split at) [
      | None ↦ refl
      | Some right ↦ walk_past table ward_bits bits (step at bit right) (omega (arith, length_push at.prefix bit))
    ]

-- the walk for a pseudokey, from the empty prefix on
pub walk_from_root : (table : TableMap) (ward_bits pseudokey : ℕ) → ward_bits ≤ LIMIT
    → walk_on (splits_above table ward_bits) (take LIMIT (word_bits pseudokey)) (record { prefix = []; page = 0 }) ≡ walk_of table ward_bits pseudokey
walk_from_root table ward_bits pseudokey short =
    let word = word_bits pseudokey in
    let ward = take ward_bits word in
    let rest = drop (length ward) (take LIMIT word) in
    let long : length ward ≡ ward_bits = length-take-le ward_bits word (omega (arith, length-word_bits pseudokey)) in
    let front : take (length ward) (take LIMIT word) ≡ ward = ap (λ n. take n (take LIMIT word)) long ∙ take-take ward_bits LIMIT word short in
    ap (λ bits. walk_on (splits_above table ward_bits) bits (record { prefix = []; page = 0 })) (sym (take-append-drop (length ward) (take LIMIT word)) ∙ ap (λ bits. bits ++ rest) front)
    ∙ walk_above table ward_bits ward rest [] (omega arith)
    ∙ walk_past table ward_bits rest (record { prefix = ward; page = 0 }) (omega arith)

-- ---- the loop of a walk

-- what a walk has come to, with the bits that are left up to LIMIT
pub record IsOnWalk (splits : List Bool → Option ℕ) (pseudokey : ℕ) (end at : Leaf) : Type 0 where
  pub begins : Begins at.prefix pseudokey
  pub within : length at.prefix ≤ LIMIT
  pub goes : walk_on splits (drop (length at.prefix) (take LIMIT (word_bits pseudokey))) at ≡ end

pub on_walk_start : (splits : List Bool → Option ℕ) (pseudokey : ℕ) → IsOnWalk splits pseudokey (walk_on splits (take LIMIT (word_bits pseudokey)) (record { prefix = []; page = 0 })) (record { prefix = []; page = 0 })
on_walk_start splits pseudokey = record { begins = refl; within = omega arith; goes = refl }

-- the bits that are left are the next one and those after it
next_and_rest : (word : List Bool) (n : ℕ) → n < LIMIT → LIMIT ≤ length word → drop n (take LIMIT word) ≡ get_or word n false ∷ drop (n + 1) (take LIMIT word)
next_and_rest word n short long =
    let whole : length (take LIMIT word) ≡ LIMIT = length-take-le LIMIT word long in
    drop-cons (take LIMIT word) n false (omega arith) ∙ ap (λ bit. bit ∷ drop (suc n) (take LIMIT word)) (get_or-take LIMIT word n false short)
    ∙ ap (λ m. get_or word n false ∷ drop m (take LIMIT word)) (sym (add-one n))

pub on_walk_step : (splits : List Bool → Option ℕ) (pseudokey : ℕ) (end at : Leaf) (right : ℕ) → IsOnWalk splits pseudokey end at → length at.prefix < LIMIT → splits at.prefix ≡ Some right
    → IsOnWalk splits pseudokey end (step at (get_or (word_bits pseudokey) (length at.prefix) false) right)
on_walk_step splits pseudokey end at right on short split =
    let word = word_bits pseudokey in
    let bit = get_or word (length at.prefix) false in
    let next = step at bit right in
    let longer : length (at.prefix ++ bit ∷ []) ≡ length at.prefix + 1 = length_push at.prefix bit in
    let more = take_more word (length at.prefix) false (omega (arith, length-word_bits pseudokey)) ∙ ap (λ bits. bits ++ bit ∷ []) on.begins in
    record {
      begins = ap (λ n. take n word) longer ∙ more;
      within = omega arith;
      goes = ap (λ n. walk_on splits (drop n (take LIMIT word)) next) longer
          ∙ sym (walk_on-step splits bit (drop (length at.prefix + 1) (take LIMIT word)) at right split)
          ∙ ap (λ bits. walk_on splits bits at) (sym (next_and_rest word (length at.prefix) short (omega (arith, length-word_bits pseudokey))))
          ∙ on.goes;
    }

-- a walk stops where no split is, or no bit is left
pub on_walk_end : (splits : List Bool → Option ℕ) (pseudokey : ℕ) (end at : Leaf) → IsOnWalk splits pseudokey end at → (if nat_lt (length at.prefix) LIMIT then splits at.prefix else None) ≡ None → at ≡ end
on_walk_end splits pseudokey end at on none =
    elim (leb_tells (suc (length at.prefix)) LIMIT) [
      | inl short ↦ sym (walk_on-stop splits (drop (length at.prefix) (take LIMIT (word_bits pseudokey))) at (ap (λ b. cond b (splits at.prefix) None) (sym short.0) ∙ none)) ∙ on.goes
      | inr long ↦
          ap (λ bits. walk_on splits bits at) (sym (drop_all (length at.prefix) (take LIMIT (word_bits pseudokey)) (omega (arith, long.1, length-take-le LIMIT (word_bits pseudokey) (omega (arith, length-word_bits pseudokey)))))) ∙ on.goes
    ]

-- a walk goes on below LIMIT alone, where a split is
pub goes_on : (splits : List Bool → Option ℕ) (prefix : List Bool) (right : ℕ) → (if nat_lt (length prefix) LIMIT then splits prefix else None) ≡ Some right
    → (length prefix < LIMIT) × (splits prefix ≡ Some right)
goes_on splits prefix right some =
    elim (leb_tells (suc (length prefix)) LIMIT) [
      | inl short ↦ (omega (arith, short.1), ap (λ b. cond b (splits prefix) None) (sym short.0) ∙ some)
      | inr long ↦ absurd (true≢false (ap is_some (sym some ∙ ap (λ b. cond b (splits prefix) None) long.0)))
    ]
