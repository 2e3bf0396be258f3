-- Requests by their names, each name once.
use Rattle.std.proofs.Common.{◌≡◌, ℕ, [], ◌∷◌, Bool, true, false, cond, eqb, Some, None, refl, ap, arith}
use Rattle.std.specs.Prelude.{nat_eq}
use Rattle.std.specs.Cmp.{nat_eq_equiv}
use Rattle.std.specs.List.{IsDistinct, AllByRecursion}
use Rattle.std.specs.Map.{keys_of}
use Rattle.std.proofs.lemmas.Bool.{eqb-true}
use Rattle.std.proofs.lemmas.Bool.Decides.{nat_tests}
use Rattle.std.proofs.lemmas.Map.{lookup-remove_entry}
use Rattle.indexmap.specs.IndexMap.{insert_entry}
use Rattle.exh_world.specs.InFlight.{Requests, request_named, without}
use Rattle.exh_world.specs.declared.request.Request.{Request}

-- no name stands twice
abbrev pub AreNamedOnce : Requests → Type 0
AreNamedOnce requests = IsDistinct nat_eq (keys_of requests)

-- ---- a request of a name written

module _ (name : ℕ) (request : Request) where
  abbrev after : Requests → Requests
  after requests = insert_entry nat_eq requests name request

  all_at : (P : ℕ → Type 0) (entry : ℕ × Request) (requests : Requests) (same : Bool) → P entry.0 → AllByRecursion P (keys_of requests) → AllByRecursion P (keys_of (after requests))
      → AllByRecursion P (keys_of (cond same ((entry.0, request) ∷ requests) (entry ∷ after requests)))
  all_at P entry requests true first all more = (first, all)
  all_at P entry requests false first all more = (first, more)

  all_after : (P : ℕ → Type 0) (requests : Requests) → AllByRecursion P (keys_of requests) → P name → AllByRecursion P (keys_of (after requests))
  all_after P [] all own = (own, tt)
  all_after P (entry ∷ requests) all own = all_at P entry requests (eqb name entry.0) all.0 all.1 (all_after P requests all.1 own)

  once_at : (entry : ℕ × Request) (requests : Requests) (same : Bool) → eqb name entry.0 ≡ same → AreNamedOnce (entry ∷ requests) → AreNamedOnce (after requests)
      → AreNamedOnce (cond same ((entry.0, request) ∷ requests) (entry ∷ after requests))
  unfolding IsDistinct
  once_at entry requests true is once more = once
  once_at entry requests false is once more = (all_after (λ other. eqb entry.0 other ≡ false) requests once.0 (grind (arith, nat_tests)), more)

  pub once_after : (requests : Requests) → AreNamedOnce requests → AreNamedOnce (after requests)
  unfolding IsDistinct
  once_after [] once = (tt, tt)
  once_after (entry ∷ requests) once = once_at entry requests (eqb name entry.0) refl once (once_after requests once.1)

  named_at : (other : ℕ) (entry : ℕ × Request) (requests : Requests) (same : Bool) → eqb name entry.0 ≡ same
      → request_named other (after requests) ≡ cond (eqb name other) (Some request) (request_named other requests)
      → request_named other (cond same ((entry.0, request) ∷ requests) (entry ∷ after requests)) ≡ cond (eqb name other) (Some request) (request_named other (entry ∷ requests))
  named_at other entry requests true is more = let same : name ≡ entry.0 = eqb-true name entry.0 is in rw (← same) (grind (arith, nat_tests))
  named_at other entry requests false is more = rw more (grind (arith, nat_tests))

  -- only the request of this name is another
  pub named_after : (other : ℕ) (requests : Requests) → request_named other (after requests) ≡ cond (eqb name other) (Some request) (request_named other requests)
  named_after other [] = grind (arith, nat_tests)
  named_after other (entry ∷ requests) = named_at other entry requests (eqb name entry.0) refl (named_after other requests)

-- ---- the request of a name taken out

module _ (name : ℕ) where
  all_kept_at : (P : ℕ → Type 0) (entry : ℕ × Request) (requests : Requests) (same : Bool) → P entry.0 → AllByRecursion P (keys_of requests) → AllByRecursion P (keys_of (without name requests))
      → AllByRecursion P (keys_of (cond same requests (entry ∷ without name requests)))
  all_kept_at P entry requests true first all more = all
  all_kept_at P entry requests false first all more = (first, more)

  all_kept : (P : ℕ → Type 0) (requests : Requests) → AllByRecursion P (keys_of requests) → AllByRecursion P (keys_of (without name requests))
  all_kept P [] all = tt
  all_kept P (entry ∷ requests) all = all_kept_at P entry requests (eqb name entry.0) all.0 all.1 (all_kept P requests all.1)

  once_kept_at : (entry : ℕ × Request) (requests : Requests) (same : Bool) → AreNamedOnce (entry ∷ requests) → AreNamedOnce (without name requests)
      → AreNamedOnce (cond same requests (entry ∷ without name requests))
  unfolding IsDistinct
  once_kept_at entry requests true once more = once.1
  once_kept_at entry requests false once more = (all_kept (λ other. eqb entry.0 other ≡ false) requests once.0, more)

  pub once_kept : (requests : Requests) → AreNamedOnce requests → AreNamedOnce (without name requests)
  unfolding IsDistinct
  once_kept [] once = tt
  once_kept (entry ∷ requests) once = once_kept_at entry requests (eqb name entry.0) once (once_kept requests once.1)

  -- none has this name then, and the others are as they were
  pub named_without : (other : ℕ) (requests : Requests) → AreNamedOnce requests → request_named other (without name requests) ≡ cond (eqb name other) None (request_named other requests)
  named_without other requests once = lookup-remove_entry nat_eq_equiv (nat_eq name) (λ x y same. let e : name ≡ x = eqb-true name x same in ap (λ n. eqb n y) e) other requests once
