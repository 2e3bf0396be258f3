-- Pairs that are put into the wards of a file, one after the other, each key once.
use Rattle.std.proofs.Common.{◌≡◌, ◌≢◌, ℕ, ◌+◌, ◌≤◌, ◌<◌, Bool, true, false, cond, List, [], ◌∷◌, ◌++◌, length, None, Some, inl, inr, refl, sym, ap, ◌∙◌, arith, nat_cmp, ◌==◌, append_assoc, append-nil}
use Rattle.std.specs.Prelude.{count_by, min, nat_le}
use Rattle.std.specs.FinMap as fin
use Rattle.std.specs.List.{AllByRecursion}
use Rattle.std.specs.Ordering.{eq_by_cmp}
use Rattle.std.specs.Cmp.Lexicographic.{slice_cmp}
use Rattle.std.proofs.lemmas.Bool.{cases_lt, eqb-true, false_from_ne_true, le-leb, leb-false, leb-true, lt-leb}
use Rattle.std.proofs.lemmas.Cmp.{nat_list_cmp_total}
use Rattle.std.proofs.lemmas.List.{length_push}
use Rattle.std.proofs.lemmas.List.Sums.{sum_by_push}
use Rattle.std.proofs.lemmas.Map.Lookups.{exact_bytes}
use Rattle.exh_prefix.specs.Leading.{leading}
use Rattle.exh_prefix.specs.PrefixListLemmas.{AllByRecursion-append_left, AllByRecursion-append_right, is_equal}
use Rattle.exh_prefix.specs.declared.prefix.TheConstants.{LIMIT}
use Rattle.exh_page.specs.KeyMap.{KeyMap}
use Rattle.exh_calls.specs.Effect.{Effect, effect_of}
use Rattle.exh_calls.specs.MapMachine.{changed, effect_in, is_full, map_after, reply_of, sharing}
use Rattle.exh_calls.specs.SharingLemmas.{shares, sharing_all, sharing_same}
use Rattle.exh_calls.specs.declared.call.Call.TheVariants.{Put}
use Rattle.exh_calls.specs.declared.reply.Reply.TheVariants.{Full, New}
use Rattle.exhash.specs.Pairs.{AreOnce}
use Rattle.exh_compact.specs.Room.{sharers, without_room}
use Rattle.exh_compact.proofs.Begun.{get_those, none_more, one_more, those}

abbrev Pair : Type 0
Pair = List ℕ × List ℕ

-- ---- pairs of which each key stands once

-- none of the pairs before one has its key
pub once_before : (front rest : List Pair) (pair : Pair) → AreOnce (front ++ pair ∷ rest) → AllByRecursion (λ other. other.0 ≢ pair.0) front
once_before [] rest pair once = tt
once_before (first ∷ front) rest pair once =
    let apart = (AllByRecursion-append_right (λ (other : Pair). other.0 ≢ first.0) front (pair ∷ rest) once.0).0 in
    (λ same. apart (sym same), once_before front rest pair once.1)

none_found : (key : List ℕ) (pairs : List Pair) → AllByRecursion (λ other. other.0 ≢ key) pairs → fin.find (slice_cmp nat_cmp) key pairs ≡ None
none_found key [] else = refl
none_found key (pair ∷ pairs) else =
    let misses : eq_by_cmp (slice_cmp nat_cmp) key pair.0 ≡ false = false_from_ne_true _ (λ tied. else.0 (sym (exact_bytes key pair.0 (is_equal (slice_cmp nat_cmp key pair.0) tied)))) in
    ap (λ b. cond b (Some pair.1) (fin.find (slice_cmp nat_cmp) key pairs)) misses ∙ none_found key pairs else.1

abbrev pub all_of : List Pair → KeyMap
all_of pairs = fin.from_entries pairs

all_push : (front : List Pair) (pair : Pair) → AllByRecursion (λ other. other.0 ≢ pair.0) front → all_of (front ++ pair ∷ []) ≡ fin.insert (all_of front) pair.0 pair.1
all_push front pair before = fin.from_entries_push nat_list_cmp_total (fin.slice_cmp-IsAntisymmetric fin.nat_cmp-IsAntisymmetric) front pair.0 pair.1 (none_found pair.0 front before)

-- ---- counts

counts : Bool → ℕ
counts b = cond b 1 0

module _ (pseudo : List ℕ → ℕ) where
  sharers_push : (front : List Pair) (pair : Pair) (key : List ℕ) → sharers pseudo (front ++ pair ∷ []) key ≡ sharers pseudo front key + cond (shares pseudo key pair.0) 1 0
  sharers_push front pair key = sum_by_push (λ (p : Pair). cond (leading LIMIT (pseudo p.0) == leading LIMIT (pseudo key)) 1 0) front pair

  -- how many keys share is a count of the entries that pass
  len_shared : (m : KeyMap) (key : List ℕ) → sharing pseudo m key ≡ fin.len (those (shares pseudo key) m)
  len_shared m key =
      let t = shares pseudo key in
      sharing_same pseudo key m (those t m) (λ q same. sym (get_those t m q ∙ ap (λ (b : Bool). cond b (fin.get m q) None) same))
      ∙ sharing_all pseudo key (those t m) (λ q apart. get_those t m q ∙ ap (λ (b : Bool). cond b (fin.get m q) None) apart)

  sharing_more : (m : KeyMap) (key k v : List ℕ) → fin.get m k ≡ None → sharing pseudo (fin.insert m k v) key ≡ sharing pseudo m key + cond (shares pseudo key k) 1 0
  sharing_more m key k v absent = elim (shares pseudo key k) as (λ b. shares pseudo key k ≡ b → sharing pseudo (fin.insert m k v) key ≡ sharing pseudo m key + cond b 1 0) [
    | true ↦ λ is. len_shared (fin.insert m k v) key ∙ one_more (shares pseudo key) m k v absent is ∙ ap (λ (n : ℕ). n + 1) (sym (len_shared m key))
    | false ↦ λ is.
        let same = none_more (shares pseudo key) m k v is in
        omega (arith, len_shared (fin.insert m k v) key, same, len_shared m key)
  ] refl

  -- keys that share have as many sharers
  same_sharers : (front : List Pair) (key other : List ℕ) → shares pseudo key other ≡ true → sharers pseudo front other ≡ sharers pseudo front key
  same_sharers front key other is = ap (λ (n : ℕ). count_by (λ (p : Pair). leading LIMIT (pseudo p.0) == n) front) (eqb-true _ _ is)

  room_push : (cap : ℕ) (before front : List Pair) (pair : Pair)
      → without_room cap pseudo before (front ++ pair ∷ []) ≡ without_room cap pseudo before front ++ cond (nat_le cap (sharers pseudo (before ++ front) pair.0)) (pair.0 ∷ []) []
  room_push cap before [] pair =
      append-nil (cond (nat_le cap (sharers pseudo before pair.0)) (pair.0 ∷ []) [])
      ∙ ap (λ (all : List Pair). cond (nat_le cap (sharers pseudo all pair.0)) (pair.0 ∷ []) []) (sym (append-nil before))
  room_push cap before (first ∷ front) pair =
      let own : List (List ℕ) = cond (nat_le cap (sharers pseudo before first.0)) (first.0 ∷ []) [] in
      let last : List Pair → List (List ℕ) = λ all. cond (nat_le cap (sharers pseudo all pair.0)) (pair.0 ∷ []) [] in
      ap (λ (more : List (List ℕ)). own ++ more) (room_push cap (before ++ first ∷ []) front pair)
      ∙ sym (append_assoc own (without_room cap pseudo (before ++ first ∷ []) front) (last ((before ++ first ∷ []) ++ front)))
      ∙ ap (λ (all : List Pair). (own ++ without_room cap pseudo (before ++ first ∷ []) front) ++ last all) (append_assoc before (first ∷ []) front)

-- ---- the pairs so far

-- the map that they leave, and the keys among them that had no room
pub record IsPutSoFar (cap : ℕ) (pseudo : List ℕ → ℕ) (front : List Pair) (full : List (List ℕ)) (m : KeyMap) : Type 0 where
  pub absent : (key : List ℕ) → AllByRecursion (λ other. other.0 ≢ key) front → fin.get m key ≡ None
  pub shared : (key : List ℕ) → sharing pseudo m key ≡ min cap (sharers pseudo front key)
  pub keys : full ≡ without_room cap pseudo [] front
  pub all : full ≡ [] → m ≡ all_of front

no_keys : (pseudo : List ℕ → ℕ) (key : List ℕ) → sharing pseudo fin.empty key ≡ 0
no_keys pseudo key =
    sharing_all pseudo key fin.empty (λ q apart. fin.get-empty (slice_cmp nat_cmp) q) ∙ fin.len-empty (slice_cmp nat_cmp) (List ℕ)

pub none_put : (cap : ℕ) (pseudo : List ℕ → ℕ) → IsPutSoFar cap pseudo [] [] fin.empty
none_put cap pseudo = record {
  absent = λ key else. fin.get-empty (slice_cmp nat_cmp) key;
  shared = λ key. let none = no_keys pseudo key in omega (arith, none);
  keys = refl;
  all = λ _. refl;
}

module _ (cap : ℕ) (pseudo : List ℕ → ℕ) (front : List Pair) (pair : Pair) (full : List (List ℕ)) (m : KeyMap) (put : IsPutSoFar cap pseudo front full m) (before : AllByRecursion (λ other. other.0 ≢ pair.0) front) where
  absent_here : fin.get m pair.0 ≡ None
  absent_here = put.absent pair.0 before

  -- the map machine has no room where there is none by the sharers
  same_room : is_full cap pseudo m pair.0 ≡ nat_le cap (sharers pseudo front pair.0)
  same_room = elim (cases_lt (sharers pseudo front pair.0) cap) [
    | inl few ↦ lt-leb cap (sharing pseudo m pair.0) (omega (arith, put.shared pair.0, few)) ∙ sym (lt-leb cap (sharers pseudo front pair.0) few)
    | inr many ↦ le-leb cap (sharing pseudo m pair.0) (omega (arith, put.shared pair.0, many)) ∙ sym (le-leb cap (sharers pseudo front pair.0) many)
  ]

  abbrev put_effect : Bool → Effect
  put_effect b = effect_of (Put pair.0 pair.1) b None

  effect_is : effect_in cap pseudo m (Put pair.0 pair.1) ≡ put_effect (nat_le cap (sharers pseudo front pair.0))
  effect_is = ap (effect_of (Put pair.0 pair.1) (is_full cap pseudo m pair.0)) absent_here ∙ ap put_effect same_room

  -- ---- where there is no room

  module _ (many : nat_le cap (sharers pseudo front pair.0) ≡ true) where
    pub full_reply : reply_of cap pseudo m (Put pair.0 pair.1) ≡ Full
    full_reply = ap (λ (e : Effect). e.reply) (effect_is ∙ ap put_effect many)

    pub full_map : map_after cap pseudo m (Put pair.0 pair.1) ≡ m
    full_map = ap (λ (e : Effect). changed e.change pair.0 m) (effect_is ∙ ap put_effect many)

    pub full_then : IsPutSoFar cap pseudo (front ++ pair ∷ []) (full ++ pair.0 ∷ []) m
    full_then = record {
      absent = λ key else. put.absent key (AllByRecursion-append_left (λ (other : Pair). other.0 ≢ key) front (pair ∷ []) else);
      shared = λ key. elim (shares pseudo key pair.0) as (λ b. shares pseudo key pair.0 ≡ b → sharing pseudo m key ≡ min cap (sharers pseudo (front ++ pair ∷ []) key)) [
        | true ↦ λ is.
            let push = sharers_push pseudo front pair key ∙ ap (λ (b : Bool). sharers pseudo front key + cond b 1 0) is in
            let least : cap ≤ sharers pseudo front pair.0 = leb-true cap (sharers pseudo front pair.0) many in
            omega (arith, push, put.shared key, least, same_sharers pseudo front key pair.0 is)
        | false ↦ λ is.
            let push = sharers_push pseudo front pair key ∙ ap (λ (b : Bool). sharers pseudo front key + cond b 1 0) is in
            omega (arith, push, put.shared key)
      ] refl;
      keys = ap (λ (keys : List (List ℕ)). keys ++ pair.0 ∷ []) put.keys
          ∙ sym (room_push pseudo cap [] front pair ∙ ap (λ (b : Bool). without_room cap pseudo [] front ++ cond b (pair.0 ∷ []) []) many);
      all = λ none. absurd (omega (arith, ap length none, length_push full pair.0));
    }

  -- ---- where there is

  module _ (few : nat_le cap (sharers pseudo front pair.0) ≡ false) where
    pub new_reply : reply_of cap pseudo m (Put pair.0 pair.1) ≡ New
    new_reply = ap (λ (e : Effect). e.reply) (effect_is ∙ ap put_effect few)

    abbrev more : KeyMap
    more = fin.insert m pair.0 pair.1

    pub new_map : map_after cap pseudo m (Put pair.0 pair.1) ≡ more
    new_map = ap (λ (e : Effect). changed e.change pair.0 m) (effect_is ∙ ap put_effect few)

    pub new_then : IsPutSoFar cap pseudo (front ++ pair ∷ []) full more
    new_then = record {
      absent = λ key else.
          let own = (AllByRecursion-append_right (λ (other : Pair). other.0 ≢ key) front (pair ∷ []) else).0 in
          let misses : eq_by_cmp (slice_cmp nat_cmp) key pair.0 ≡ false = false_from_ne_true _ (λ tied. own (sym (exact_bytes key pair.0 (is_equal (slice_cmp nat_cmp key pair.0) tied)))) in
          fin.get-insert nat_list_cmp_total m pair.0 pair.1 key ∙ ap (λ (b : Bool). cond b (Some pair.1) (fin.get m key)) misses
          ∙ put.absent key (AllByRecursion-append_left (λ (other : Pair). other.0 ≢ key) front (pair ∷ []) else);
      shared = λ key. elim (shares pseudo key pair.0) as (λ b. shares pseudo key pair.0 ≡ b → sharing pseudo more key ≡ min cap (sharers pseudo (front ++ pair ∷ []) key)) [
        | true ↦ λ is.
            let push = sharers_push pseudo front pair key ∙ ap (λ (b : Bool). sharers pseudo front key + cond b 1 0) is in
            let grown = sharing_more pseudo m key pair.0 pair.1 absent_here ∙ ap (λ (b : Bool). sharing pseudo m key + cond b 1 0) is in
            let less : sharers pseudo front pair.0 < cap = leb-false cap (sharers pseudo front pair.0) few in
            omega (arith, push, grown, put.shared key, less, same_sharers pseudo front key pair.0 is)
        | false ↦ λ is.
            let push = sharers_push pseudo front pair key ∙ ap (λ (b : Bool). sharers pseudo front key + cond b 1 0) is in
            let grown = sharing_more pseudo m key pair.0 pair.1 absent_here ∙ ap (λ (b : Bool). sharing pseudo m key + cond b 1 0) is in
            omega (arith, push, grown, put.shared key)
      ] refl;
      keys = put.keys ∙ sym (append-nil (without_room cap pseudo [] front))
          ∙ sym (room_push pseudo cap [] front pair ∙ ap (λ (b : Bool). without_room cap pseudo [] front ++ cond b (pair.0 ∷ []) []) few);
      all = λ none. ap (λ (own : KeyMap). fin.insert own pair.0 pair.1) (put.all none) ∙ sym (all_push front pair before);
    }
