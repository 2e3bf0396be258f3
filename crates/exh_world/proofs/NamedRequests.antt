-- Which request has a name, after one began, moved or was answered.
use Rattle.std.proofs.Common.{◌≡◌, ℕ, ◌+◌, [], ◌∷◌, ◌++◌, Bool, true, false, cond, eqb, Option, None, Some, refl, ap, ◌∙◌, arith}
use Rattle.std.specs.Prelude.{nat_eq}
use Rattle.std.specs.Option.{option_map_or}
use Rattle.std.proofs.lemmas.Bool.{eqb-true, eq-eqb}
use Rattle.std.proofs.lemmas.Bool.Decides.{nat_tests}
use Rattle.indexmap.specs.IndexMap.{insert_entry}
use Rattle.exh_ward.specs.declared.hop.Hop.{Hop}
use Rattle.exh_ward.specs.declared.hop.Hop.TheVariants.{Done, Moved, MustSplit, Stray}
use Rattle.exh_world.specs.InFlight.{Requests, request_named, requests_after, moved_to, without}
use Rattle.exh_world.specs.declared.request.Request.{Request}

-- ---- one more at the end

push_at : (b : Bool) (found request : Request) (rest longer : Option Request) → cond b (Some found) rest ≡ Some request → (rest ≡ Some request → longer ≡ Some request) → cond b (Some found) longer ≡ Some request
push_at true found request rest longer is more = is
push_at false found request rest longer is more = more is

pub named_push : (name : ℕ) (requests : Requests) (other : ℕ) (new request : Request) → request_named name requests ≡ Some request → request_named name (requests ++ (other, new) ∷ []) ≡ Some request
named_push name [] other new request is = cc
named_push name (e ∷ requests) other new request is =
    push_at (nat_eq name e.0) e.1 request (request_named name requests) (request_named name (requests ++ (other, new) ∷ [])) is (named_push name requests other new request)

-- it has the last place's name
pub named_last : (name : ℕ) (requests : Requests) (new : Request) → request_named name requests ≡ None → request_named name (requests ++ (name, new) ∷ []) ≡ Some new
named_last name [] new free = ap (λ b. cond b (Some new) None) (eq-eqb name name refl)
named_last name (e ∷ requests) new free = last_at (nat_eq name e.0) free (named_last name requests new)
  where
    last_at : (b : Bool) → cond b (Some e.1) (request_named name requests) ≡ None → (request_named name requests ≡ None → request_named name (requests ++ (name, new) ∷ []) ≡ Some new)
        → cond b (Some e.1) (request_named name (requests ++ (name, new) ∷ [])) ≡ Some new
    last_at true is more = cc
    last_at false is more = more is

-- ---- one written, one taken out

module _ (name written : ℕ) where
  written_at : (new : Request) (entry : ℕ × Request) (requests : Requests) (same : Bool) → eqb written entry.0 ≡ same
      → request_named name (insert_entry nat_eq requests written new) ≡ cond (eqb written name) (Some new) (request_named name requests)
      → request_named name (cond same ((entry.0, new) ∷ requests) (entry ∷ insert_entry nat_eq requests written new)) ≡ cond (eqb written name) (Some new) (request_named name (entry ∷ requests))
  written_at new entry requests true is more = let same : written ≡ entry.0 = eqb-true written entry.0 is in rw (← same) (grind (arith, nat_tests))
  written_at new entry requests false is more = rw more (grind (arith, nat_tests))

  pub named_written : (new : Request) (requests : Requests) → request_named name (insert_entry nat_eq requests written new) ≡ cond (eqb written name) (Some new) (request_named name requests)
  named_written new [] = grind (arith, nat_tests)
  named_written new (entry ∷ requests) = written_at new entry requests (eqb written entry.0) refl (named_written new requests)

  module _ (else : eqb written name ≡ false) where
    without_at : (entry : ℕ × Request) (requests : Requests) (same : Bool) → eqb written entry.0 ≡ same → request_named name (without written requests) ≡ request_named name requests
        → request_named name (cond same requests (entry ∷ without written requests)) ≡ request_named name (entry ∷ requests)
    without_at entry requests true is more = let same : written ≡ entry.0 = eqb-true written entry.0 is in rw (← same) (grind (arith, nat_tests))
    without_at entry requests false is more = rw more refl

    named_without : (requests : Requests) → request_named name (without written requests) ≡ request_named name requests
    named_without [] = refl
    named_without (entry ∷ requests) = without_at entry requests (eqb written entry.0) refl (named_without requests)

    named_moved : (next : ℕ) (requests : Requests) → request_named name (moved_to written next requests) ≡ request_named name requests
    named_moved next requests =
        elim (request_named written requests) as (λ found. request_named name (option_map_or (λ (r : Request). insert_entry nat_eq requests written (record r { page = next; moves = r.moves + 1 })) found requests) ≡ request_named name requests) [
          | None ↦ refl
          | Some request ↦ named_written (record request { page = next; moves = request.moves + 1 }) requests ∙ ap (λ b. cond b (Some (record request { page = next; moves = request.moves + 1 })) (request_named name requests)) else
        ]

    -- a hop of another request leaves this one as it was
    pub named_else : (hop : Hop) (requests : Requests) → request_named name (requests_after written hop requests) ≡ request_named name requests
    named_else (Done reply) requests = named_without requests
    named_else (Moved next) requests = named_moved next requests
    named_else MustSplit requests = refl
    named_else Stray requests = refl

-- its own move
pub named_on : (name next : ℕ) (requests : Requests) (request : Request) → request_named name requests ≡ Some request → request_named name (moved_to name next requests) ≡ Some (record request { page = next; moves = request.moves + 1 })
named_on name next requests request is =
    ap (λ found. request_named name (option_map_or (λ (r : Request). insert_entry nat_eq requests name (record r { page = next; moves = r.moves + 1 })) found requests)) is
    ∙ named_written name name (record request { page = next; moves = request.moves + 1 }) requests
    ∙ ap (λ b. cond b (Some (record request { page = next; moves = request.moves + 1 })) (request_named name requests)) (eq-eqb name name refl)
