-- An index as its map of entries shows it.
use Rattle.std.proofs.Common.{◌≡◌, ℕ, true, false, cond, List, [], ◌∷◌, Option, Some, None, Result, Ok, Err, OnErr, IsSome, refl, sym, ap, ◌∙◌, nat_cmp}
use Rattle.std.specs.BTreeMap.{BTreeMap, is_at, Updates}
use Rattle.std.specs.Cmp.{eq_by_cmp_equiv}
use Rattle.std.specs.FinMap.{FinMap, from_entries, get, insert, remove, get-from_entries, get-insert, get-remove, same_map, nat_cmp-IsAntisymmetric}
use Rattle.std.specs.FinMap.Entries.{find}
use Rattle.std.specs.Map.{lookup}
use Rattle.std.specs.Option.{unwrap_or}
use Rattle.std.specs.Ordering.{eq_by_cmp}
use Rattle.std.proofs.lemmas.Bool.{false≢true}
use Rattle.std.proofs.lemmas.Cmp.{nat_cmp_total}
use Rattle.exh_prefix.specs.PrefixListLemmas.{is_equal}

find-lookup : (q : ℕ) (es : List (ℕ × ℕ)) → find nat_cmp q es ≡ lookup (is_at (nat_cmp q)) es
find-lookup q [] = refl
find-lookup q (e ∷ es) = ap (cond (is_at (nat_cmp q) e.0) (Some e.1)) (find-lookup q es)

pub get_seen : (es : List (ℕ × ℕ)) (q : ℕ) → get (from_entries {R = nat_cmp} es) q ≡ lookup (is_at (nat_cmp q)) es
get_seen es q = get-from_entries nat_cmp_total es q ∙ find-lookup q es

seen_at : (m n : BTreeMap ℕ ℕ) (k : ℕ) (w : Option ℕ) → Updates nat_cmp m n k w → (q : ℕ)
    → get (from_entries {R = nat_cmp} n.entries) q ≡ cond (eq_by_cmp nat_cmp q k) w (get (from_entries {R = nat_cmp} m.entries) q)
seen_at m n k w changes q =
    get_seen n.entries q ∙ changes.0 q ∙ ap (λ b. cond b w (lookup (is_at (nat_cmp q)) m.entries)) ((eq_by_cmp_equiv nat_cmp_total).symm k q)
    ∙ ap (cond (eq_by_cmp nat_cmp q k) w) (sym (get_seen m.entries q))

pub insert_seen : (m n : BTreeMap ℕ ℕ) (k : ℕ) (v : ℕ) → Updates nat_cmp m n k (Some v) → from_entries {R = nat_cmp} n.entries ≡ insert (from_entries m.entries) k v
insert_seen m n k v changes = same_map nat_cmp_total nat_cmp-IsAntisymmetric _ _ (λ q. seen_at m n k (Some v) changes q ∙ sym (get-insert nat_cmp_total (from_entries m.entries) k v q))

pub remove_seen : (m n : BTreeMap ℕ ℕ) (k : ℕ) → Updates nat_cmp m n k None → from_entries {R = nat_cmp} n.entries ≡ remove (from_entries m.entries) k
remove_seen m n k changes = same_map nat_cmp_total nat_cmp-IsAntisymmetric _ _ (λ q. seen_at m n k None changes q ∙ sym (get-remove nat_cmp_total (from_entries m.entries) k q))

-- to put what stands there changes nothing
insert_stood : (m : FinMap nat_cmp ℕ) (k v : ℕ) → get m k ≡ Some v → insert m k v ≡ m
insert_stood m k v stands = same_map nat_cmp_total nat_cmp-IsAntisymmetric _ _ (λ q.
    get-insert nat_cmp_total m k v q
    ∙ elim (eq_by_cmp nat_cmp q k) as (λ tie. eq_by_cmp nat_cmp q k ≡ tie → cond tie (Some v) (get m q) ≡ get m q) [
      | true ↦ λ tie. sym stands ∙ ap (get m) (sym (nat_cmp-IsAntisymmetric q k (is_equal (nat_cmp q k) tie)))
      | false ↦ λ tie. refl
    ] refl)

pub insert_or_stood : (m : FinMap nat_cmp ℕ) (k v : ℕ) → IsSome (get m k) → insert m k (unwrap_or (get m k) v) ≡ m
insert_or_stood m k v stands = elim (get m k) as (λ found. get m k ≡ found → IsSome found → insert m k (unwrap_or found v) ≡ m) [
  | None ↦ λ is some. absurd (false≢true some)
  | Some w ↦ λ is some. insert_stood m k w is
] refl stands

-- a fact stands where an answer is an error
pub on_err : {A E : Type 0} (r : Result A E) {P : Type 0} → P → OnErr r P
on_err (Ok x) p = tt
on_err (Err e) p = p
