-- Lists of pairs as finite maps.
use Rattle.std.proofs.Common.{◌≡◌, ℕ, ◌+◌, ◌<◌, ◌≤◌, Bool, true, false, cond, not, List, [], ◌∷◌, ◌++◌, length, filter, get_or, take, drop, count_by, sum_by, map, Option, None, Some, is_some, Ordering, refl, sym, ap, subst, ◌∙◌, nat_cmp, nat_eq}
use Rattle.std.specs.declared.cmp.Ordering.TheVariants.{Less, Equal, Greater}
use Rattle.std.specs.FinMap as fin
use Rattle.std.specs.FinMap.Entries.{put, by_order, find-where_key}
use Rattle.std.specs.List.Sorted.{IsPermutation}
use Rattle.std.specs.Ordering.{eq_by_cmp, is_eq}
use Rattle.std.specs.Cmp.Lexicographic.{slice_cmp, pointwise, texts_ties}
use Rattle.std.proofs.lemmas.Bool.{true≢false}
use Rattle.std.proofs.lemmas.Cmp.{nat_list_cmp_total, eq_by_cmp_equiv, tied_itself}
use Rattle.std.proofs.lemmas.List.{drop_more, take_more, take-append-drop, take_all, nil_from_length}
use Rattle.std.proofs.lemmas.List.Sorted.{IsPermutation-refl, IsPermutation-sym, IsPermutation-trans, IsPermutation-cons, IsPermutation-middle, sum_by-IsPermutation}
use Rattle.std.proofs.lemmas.List.Sums.{sum_by-cons}
use Rattle.std.proofs.lemmas.Map.Lookups.{exact_bytes}
use Rattle.exh_page.specs.KeyMap.{KeyMap}
use Rattle.exh_page.specs.KeyMapLemmas.{same_maps}
use Rattle.exh_model.specs.MachinePairs.{AreApart}

abbrev pub Pair : Type 0
Pair = List ℕ × List ℕ

abbrev pub by_bytes : List ℕ → List ℕ → Ordering
by_bytes = slice_cmp nat_cmp

-- whether a pair has the key, as the maps and as the code asks it
abbrev pub has_key : List ℕ → Pair → Bool
has_key key pair = eq_by_cmp by_bytes key pair.0

pub has_key-code : (key : List ℕ) (pair : Pair) → pointwise nat_eq pair.0 key ≡ has_key key pair
has_key-code key pair = texts_ties pair.0 key ∙ (eq_by_cmp_equiv nat_list_cmp_total).symm pair.0 key

-- ---- a scan from the front

pub find-append : (key : List ℕ) (front back : List Pair) → fin.find by_bytes key front ≡ None → fin.find by_bytes key (front ++ back) ≡ fin.find by_bytes key back
find-append key [] back = λ none. refl
find-append key (pair ∷ front) back =
    elim (has_key key pair) as (λ b. cond b (Some pair.1) (fin.find by_bytes key front) ≡ None → cond b (Some pair.1) (fin.find by_bytes key (front ++ back)) ≡ fin.find by_bytes key back) [
      | true ↦ λ none. cc
      | false ↦ λ none. find-append key front back none
    ]

pub find_more : (key : List ℕ) (pairs : List Pair) (i : ℕ) (pair : Pair) → i < length pairs → pair ≡ get_or pairs i pair → fin.find by_bytes key (take i pairs) ≡ None → has_key key pair ≡ false
    → fin.find by_bytes key (take (i + 1) pairs) ≡ None
find_more key pairs i pair within is none other =
    ap (fin.find by_bytes key) (take_more pairs i pair within ∙ ap (λ p. take i pairs ++ p ∷ []) (sym is))
    ∙ find-append key (take i pairs) (pair ∷ []) none ∙ ap (λ b. cond b (Some pair.1) None) other

pub find_here : (key : List ℕ) (pairs : List Pair) (i : ℕ) (pair : Pair) → i < length pairs → pair ≡ get_or pairs i pair → fin.find by_bytes key (take i pairs) ≡ None → has_key key pair ≡ true
    → fin.find by_bytes key pairs ≡ Some pair.1
find_here key pairs i pair within is none same =
    let rest = drop (i + 1) pairs in
    ap (fin.find by_bytes key) (sym (take-append-drop i pairs) ∙ ap (λ ps. take i pairs ++ ps) (drop_more pairs i pair within ∙ ap (λ p. p ∷ rest) (sym is)))
    ∙ find-append key (take i pairs) (pair ∷ rest) none ∙ ap (λ b. cond b (Some pair.1) (fin.find by_bytes key rest)) same

pub find_all : (key : List ℕ) (pairs : List Pair) (i : ℕ) → length pairs ≤ i → fin.find by_bytes key (take i pairs) ≡ None → fin.find by_bytes key pairs ≡ None
find_all key pairs i all none = ap (fin.find by_bytes key) (sym (take_all i pairs all)) ∙ none

pub get_found : (key : List ℕ) (pairs : List Pair) → fin.get (fin.from_entries {R = by_bytes} pairs) key ≡ fin.find by_bytes key pairs
get_found key pairs = fin.get-from_entries nat_list_cmp_total pairs key

-- ---- the pairs without a key

abbrev pub without : List ℕ → List Pair → List Pair
without key pairs = filter (λ pair. not (has_key key pair)) pairs

find-without : (key other : List ℕ) (pairs : List Pair) → fin.find by_bytes other (without key pairs) ≡ cond (not (eq_by_cmp by_bytes key other)) (fin.find by_bytes other pairs) None
find-without key other pairs = find-where_key by_bytes (λ k. not (eq_by_cmp by_bytes key k)) other (λ k same. ap (λ k. not (eq_by_cmp by_bytes key k)) (sym (exact_bytes other k same))) pairs

kept_none : (b : Bool) {found : Option (List ℕ)} → found ≡ None → cond b found None ≡ None
kept_none true none = none
kept_none false none = refl

pub find-without_itself : (key : List ℕ) (pairs : List Pair) → fin.find by_bytes key (without key pairs) ≡ None
find-without_itself key pairs = find-without key key pairs ∙ ap (λ o. cond (not (is_eq o)) (fin.find by_bytes key pairs) None) (tied_itself nat_list_cmp_total key)

turned : {A : Type 0} (b : Bool) (x y : A) → cond (not b) x y ≡ cond b y x
turned true x y = refl
turned false x y = refl

pub from_entries-without : (key : List ℕ) (pairs : List Pair) → fin.from_entries {R = by_bytes} (without key pairs) ≡ fin.remove (fin.from_entries pairs) key
from_entries-without key pairs =
    same_maps _ _ (λ other.
    get_found other (without key pairs) ∙ find-without key other pairs ∙ turned (eq_by_cmp by_bytes key other) _ _
    ∙ ap (λ b. cond b None (fin.find by_bytes other pairs)) ((eq_by_cmp_equiv nat_list_cmp_total).symm key other)
    ∙ ap (cond (eq_by_cmp by_bytes other key) None) (sym (get_found other pairs)) ∙ sym (fin.get-remove nat_list_cmp_total (fin.from_entries pairs) key other))

replaced : {A : Type 0} (b : Bool) (x y z : A) → cond b x (cond b y z) ≡ cond b x z
replaced true x y z = refl
replaced false x y z = refl

-- the pair of a key at the end, in place of what the key had
pub from_entries-with : (key value : List ℕ) (pairs : List Pair) → fin.from_entries {R = by_bytes} (without key pairs ++ (key, value) ∷ []) ≡ fin.insert (fin.from_entries pairs) key value
from_entries-with key value pairs =
    fin.from_entries_push nat_list_cmp_total (fin.slice_cmp-IsAntisymmetric fin.nat_cmp-IsAntisymmetric) (without key pairs) key value (find-without_itself key pairs)
    ∙ same_maps _ _ (λ other.
    fin.get-insert nat_list_cmp_total (fin.from_entries (without key pairs)) key value other
    ∙ ap (cond (eq_by_cmp by_bytes other key) (Some value)) (ap (λ (m : KeyMap). fin.get m other) (from_entries-without key pairs) ∙ fin.get-remove nat_list_cmp_total (fin.from_entries pairs) key other)
    ∙ replaced (eq_by_cmp by_bytes other key) (Some value) None (fin.get (fin.from_entries pairs) other)
    ∙ sym (fin.get-insert nat_list_cmp_total (fin.from_entries pairs) key value other))

-- ---- apart

pub AreApart-without : (key : List ℕ) (pairs : List Pair) → AreApart pairs → AreApart (without key pairs)
AreApart-without key [] apart = apart
AreApart-without key (pair ∷ pairs) apart =
    let rest = AreApart-without key pairs apart.1 in
    elim (not (has_key key pair)) as (λ b. AreApart (cond b (pair ∷ without key pairs) (without key pairs))) [
      | true ↦ (find-without key pair.0 pairs ∙ kept_none (not (eq_by_cmp by_bytes key pair.0)) apart.0, rest)
      | false ↦ rest
    ]

-- a key that the pairs lack is none of theirs
lacks : (key : List ℕ) (pair : Pair) (pairs : List Pair) → fin.find by_bytes key (pair ∷ pairs) ≡ None → (has_key key pair ≡ false) × (fin.find by_bytes key pairs ≡ None)
lacks key pair pairs =
    elim (has_key key pair) as (λ b. cond b (Some pair.1) (fin.find by_bytes key pairs) ≡ None → (b ≡ false) × (fin.find by_bytes key pairs ≡ None)) [
      | true ↦ λ none. cc
      | false ↦ λ none. (refl, none)
    ]

pub AreApart-push : (key value : List ℕ) (pairs : List Pair) → AreApart pairs → fin.find by_bytes key pairs ≡ None → AreApart (pairs ++ (key, value) ∷ [])
AreApart-push key value [] apart none = (refl, tt)
AreApart-push key value (pair ∷ pairs) apart none =
    let parts = lacks key pair pairs none in (
      find-append pair.0 pairs ((key, value) ∷ []) apart.0 ∙ ap (λ b. cond b (Some value) None) ((eq_by_cmp_equiv nat_list_cmp_total).symm pair.0 key ∙ parts.0),
      AreApart-push key value pairs apart.1 parts.1,
    )

-- ---- the entries of a map

put_new : (pair : Pair) (pairs : List Pair) → fin.find by_bytes pair.0 pairs ≡ None → IsPermutation (pair ∷ pairs) (put by_bytes pair.0 pair.1 pairs)
put_new pair [] none = IsPermutation-refl (pair ∷ [])
put_new pair (first ∷ pairs) none =
    let parts = lacks pair.0 first pairs none in
    elim (by_bytes pair.0 first.0) as (λ o. is_eq o ≡ false → IsPermutation (pair ∷ first ∷ pairs) (by_order o (pair ∷ first ∷ pairs) ((first.0, pair.1) ∷ pairs) (first ∷ put by_bytes pair.0 pair.1 pairs))) [
      | Less ↦ λ other. IsPermutation-refl (pair ∷ first ∷ pairs)
      | Equal ↦ λ other. cc
      | Greater ↦ λ other.
          IsPermutation-trans _ _ _ (IsPermutation-sym _ _ (IsPermutation-middle (first ∷ []) pair pairs)) (IsPermutation-cons first _ _ (put_new pair pairs parts.1))
    ] parts.0

no_entries : fin.entries (fin.empty {X = List ℕ} {R = by_bytes}) ≡ []
no_entries = nil_from_length _ (sym (fin.len-entries fin.empty) ∙ fin.len-empty by_bytes (List ℕ))

pub entries_permuted : (pairs : List Pair) → AreApart pairs → IsPermutation pairs (fin.entries (fin.from_entries {R = by_bytes} pairs))
entries_permuted [] apart = let P : List Pair → Type 0 = λ es. IsPermutation [] es in subst P (sym no_entries) (IsPermutation-refl [])
entries_permuted (pair ∷ pairs) apart =
    let m : KeyMap = fin.from_entries pairs in
    let P : List Pair → Type 0 = λ es. IsPermutation (pair ∷ pairs) es in
    subst P (sym (fin.entries-insert nat_list_cmp_total m pair.0 pair.1))
    (IsPermutation-trans _ _ _ (IsPermutation-cons pair _ _ (entries_permuted pairs apart.1))
    (put_new pair (fin.entries m) (sym (fin.get-entries m pair.0) ∙ get_found pair.0 pairs ∙ apart.0)))

sum_by-map : {X Y : Type 0} (f : Y → ℕ) (g : X → Y) (xs : List X) → sum_by (λ x. f (g x)) xs ≡ sum_by f (map g xs)
sum_by-map f g [] = refl
sum_by-map f g (x ∷ xs) = sum_by-cons (λ x. f (g x)) x xs ∙ ap (λ n. f (g x) + n) (sum_by-map f g xs) ∙ sym (sum_by-cons f (g x) (map g xs))

-- how many keys pass a test, counted over the pairs
pub count_by-keys : (p : List ℕ → Bool) (m : KeyMap) (pairs : List Pair) → IsPermutation (fin.entries m) pairs → count_by (λ pair. p pair.0) pairs ≡ count_by p (fin.keys m)
count_by-keys p m pairs same = sum_by-IsPermutation (λ (pair : Pair). cond (p pair.0) 1 0) (fin.entries m) pairs same ∙ sum_by-map (λ key. cond (p key) 1 0) (λ (pair : Pair). pair.0) (fin.entries m)

-- ---- a map of any pairs

-- where the front has the key, the back doesn't matter
find-append_seen : (key : List ℕ) (front back : List Pair) (value : List ℕ) → fin.find by_bytes key front ≡ Some value → fin.find by_bytes key (front ++ back) ≡ Some value
find-append_seen key [] back value = λ seen. cc
find-append_seen key (pair ∷ front) back value =
    elim (has_key key pair) as (λ b. cond b (Some pair.1) (fin.find by_bytes key front) ≡ Some value → cond b (Some pair.1) (fin.find by_bytes key (front ++ back)) ≡ Some value) [
      | true ↦ λ seen. seen
      | false ↦ λ seen. find-append_seen key front back value seen
    ]

-- a pair more of a key that is there is not found
find-again : (key value : List ℕ) (pairs : List Pair) (old : List ℕ) (other : List ℕ) (found : Option (List ℕ)) → fin.find by_bytes key pairs ≡ Some old → fin.find by_bytes other pairs ≡ found
    → fin.find by_bytes other (pairs ++ (key, value) ∷ []) ≡ found
find-again key value pairs old other (Some there) seen is = find-append_seen other pairs ((key, value) ∷ []) there is
find-again key value pairs old other None seen is =
    find-append other pairs ((key, value) ∷ []) is
    ∙ elim (by_bytes other key) as (λ o. by_bytes other key ≡ o → cond (is_eq o) (Some value) None ≡ None) [
      | Less ↦ λ o. refl
      | Equal ↦ λ o. let clash : Some old ≡ None = sym seen ∙ ap (λ key. fin.find by_bytes key pairs) (sym (exact_bytes other key o)) ∙ is in cc
      | Greater ↦ λ o. refl
    ] refl

-- one pair more, whose key the map has
pub from_entries_again : (pairs : List Pair) (pair : Pair) (old : List ℕ) → fin.get (fin.from_entries {R = by_bytes} pairs) pair.0 ≡ Some old → fin.from_entries {R = by_bytes} pairs ≡ fin.from_entries (pairs ++ pair ∷ [])
from_entries_again pairs pair old seen =
    same_maps _ _ (λ other. get_found other pairs ∙ sym (find-again pair.0 pair.1 pairs old other _ (sym (get_found pair.0 pairs) ∙ seen) refl) ∙ sym (get_found other (pairs ++ pair ∷ [])))

-- one pair more, whose key the map lacks
pub from_entries_new : (pairs : List Pair) (pair : Pair) → fin.get (fin.from_entries {R = by_bytes} pairs) pair.0 ≡ None → fin.insert (fin.from_entries {R = by_bytes} pairs) pair.0 pair.1 ≡ fin.from_entries (pairs ++ pair ∷ [])
from_entries_new pairs pair none =
    sym (fin.from_entries_push nat_list_cmp_total (fin.slice_cmp-IsAntisymmetric fin.nat_cmp-IsAntisymmetric) pairs pair.0 pair.1 (sym (get_found pair.0 pairs) ∙ none))

pub none_there : (found : Option (List ℕ)) → is_some found ≡ false → found ≡ None
none_there None none = refl
none_there (Some value) none = absurd (true≢false none)

pub some_there : (found : Option (List ℕ)) → is_some found ≡ true → (value : List ℕ) × (found ≡ Some value)
some_there None some = absurd (true≢false (sym some))
some_there (Some value) some = (value, refl)
