-- What holds of all requests in flight holds after one begins, moves or is answered.
use Rattle.std.proofs.Common.{◌≡◌, ◌+◌, ℕ, Bool, true, false, cond, [], ◌∷◌, ◌++◌, Option, None, Some, refl, subst}
use Rattle.std.specs.Prelude.{nat_eq}
use Rattle.std.specs.List.{AllByRecursion}
use Rattle.std.specs.Option.{option_map_or}
use Rattle.indexmap.specs.IndexMap.{insert_entry}
use Rattle.exh_world.specs.InFlight.{Requests, request_named, moved_to, without}
use Rattle.exh_world.specs.declared.request.Request.{Request}

abbrev pub AllRequests : (Request → Type 0) → Requests → Type 0
AllRequests P requests = AllByRecursion (λ (e : ℕ × Request). P e.1) requests

module _ (P : Request → Type 0) where
  found_at : (b : Bool) (e : ℕ × Request) (rest found : Option Request) (request : Request) → cond b (Some e.1) rest ≡ Some request → P e.1 → (rest ≡ Some request → P request) → P request
  found_at true e rest found request is here there = let same : e.1 ≡ request = cc in subst P same here
  found_at false e rest found request is here there = there is

  pub all_named : (name : ℕ) (requests : Requests) (request : Request) → AllRequests P requests → request_named name requests ≡ Some request → P request
  all_named name [] request all is = cc
  all_named name (e ∷ requests) request all is = found_at (nat_eq name e.0) e (request_named name requests) None request is all.0 (all_named name requests request all.1)

  pub all_push : (requests : Requests) (name : ℕ) (request : Request) → AllRequests P requests → P request → AllRequests P (requests ++ (name, request) ∷ [])
  all_push [] name request all own = (own, tt)
  all_push (e ∷ requests) name request all own = (all.0, all_push requests name request all.1 own)

  without_at : (b : Bool) (e : ℕ × Request) (requests rest : Requests) → P e.1 → AllRequests P requests → AllRequests P rest → AllRequests P (cond b requests (e ∷ rest))
  without_at true e requests rest here all kept = all
  without_at false e requests rest here all kept = (here, kept)

  pub all_without : (name : ℕ) (requests : Requests) → AllRequests P requests → AllRequests P (without name requests)
  all_without name [] all = tt
  all_without name (e ∷ requests) all = without_at (nat_eq name e.0) e requests (without name requests) all.0 all.1 (all_without name requests all.1)

  written_at : (b : Bool) (e : ℕ × Request) (request : Request) (requests rest : Requests) → P e.1 → P request → AllRequests P requests → AllRequests P rest → AllRequests P (cond b ((e.0, request) ∷ requests) (e ∷ rest))
  written_at true e request requests rest here own all kept = (own, all)
  written_at false e request requests rest here own all kept = (here, kept)

  all_written : (name : ℕ) (request : Request) (requests : Requests) → AllRequests P requests → P request → AllRequests P (insert_entry nat_eq requests name request)
  all_written name request [] all own = (own, tt)
  all_written name request (e ∷ requests) all own = written_at (nat_eq name e.0) e request requests (insert_entry nat_eq requests name request) all.0 own all.1 (all_written name request requests all.1 own)

  pub all_moved : (name next : ℕ) (requests : Requests) → AllRequests P requests → ((request : Request) → request_named name requests ≡ Some request → P (record request { page = next; moves = request.moves + 1 })) → AllRequests P (moved_to name next requests)
  all_moved name next requests all own =
      elim (request_named name requests) as (λ found. request_named name requests ≡ found → AllRequests P (option_map_or (λ request. insert_entry nat_eq requests name (record request { page = next; moves = request.moves + 1 })) found requests)) [
        | None ↦ λ is. all
        | Some request ↦ λ is. all_written name (record request { page = next; moves = request.moves + 1 }) requests all (own request is)
      ] refl

-- a weaker property
pub all_weaker : (P Q : Request → Type 0) → ((request : Request) → P request → Q request) → (requests : Requests) → AllRequests P requests → AllRequests Q requests
all_weaker P Q weaker [] all = tt
all_weaker P Q weaker (e ∷ requests) all = (weaker e.1 all.0, all_weaker P Q weaker requests all.1)
