-- The requests in flight: pairs of a name and a request, in the order begun.
use Rattle.std.specs.Prelude.{◌≡◌, ℕ, ◌+◌, ◌<◌, ◌^◌, nat_eq, List, Option, Some}
use Rattle.std.specs.Map.{lookup, remove_entry}
use Rattle.std.specs.Option.{option_map_or}
use Rattle.indexmap.specs.IndexMap.{insert_entry}
use Rattle.exh_ward.specs.declared.hop.Hop.{Hop}
use Rattle.exh_ward.specs.declared.hop.Hop.TheVariants.{Done, Moved, MustSplit, Stray}
use Rattle.exh_world.specs.declared.request.Request.{Request}

abbrev pub Requests : Type 0
Requests = List (ℕ × Request)

-- the request of a name
abbrev pub request_named : ℕ → Requests → Option Request
request_named name requests = lookup (nat_eq name) requests

-- the request of a name stands at another page now, after one move more, in its old place
abbrev pub moved_to : ℕ → ℕ → Requests → Requests
moved_to name next requests = option_map_or (λ request. insert_entry nat_eq requests name (record request { page = next; moves = request.moves + 1 })) (request_named name requests) requests

-- there is room in 64 bits for one move more
abbrev pub HasRoom : ℕ → Requests → Type 0
HasRoom name requests = (request : Request) → request_named name requests ≡ Some request → request.moves + 1 < 2 ^ 64

-- the others, in their order
abbrev pub without : ℕ → Requests → Requests
without name requests = remove_entry (nat_eq name) requests

-- the requests after a hop of one: it is out where it was answered, and stands elsewhere where it was moved
abbrev pub requests_after : ℕ → Hop → Requests → Requests
requests_after name (Done reply) requests = without name requests
requests_after name (Moved next) requests = moved_to name next requests
requests_after name MustSplit requests = requests
requests_after name Stray requests = requests
