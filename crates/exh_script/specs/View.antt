-- What a view of the world shows: a copy's table, a page, or the requests in flight.
use Rattle.std.specs.Prelude.{ℕ, List, ◌++◌, length, flat_map, slice_get, Option, Some, None, Result, Ok, Err, decimal, codes}
use Rattle.std.specs.Option.{option_map_or}
use Rattle.exh_keyer.specs.declared.any_keyer.AnyKeyer.{AnyKeyer}
use Rattle.exh_text.specs.Contents.{on_line}
use Rattle.exh_text.specs.Printing.{place_text}
use Rattle.exh_ward.specs.declared.ward_fault.WardFault.TheVariants.{NoPage}
use Rattle.exh_walk.specs.declared.step_fault.StepFault.{StepFault}
use Rattle.exh_walk.specs.declared.step_fault.StepFault.TheVariants.{NoCopy, NoWard, Ward}
use Rattle.exh_line.specs.LineAnswer.{request_text}
use Rattle.exh_line.specs.Shown.{page_text, shown_text}
use Rattle.exh_line.specs.declared.view.View.{View}
use Rattle.exh_line.specs.declared.view.View.TheVariants as views
use Rattle.exh_world.specs.InFlight.{Requests}
use Rattle.exh_world.specs.World.{WorldState, numbered}
use Rattle.exh_world.specs.declared.request.Request.{Request}

-- ---- the requests in flight

abbrev pub request_line : ℕ × Request → List ℕ
request_line named = on_line (request_text named.0 ++ (codes " at " ++ place_text named.1.ward named.1.page))

-- how many there are, and each in the order begun
abbrev pub in_flight_text : Requests → List ℕ
in_flight_text requests = on_line (codes "inflight " ++ decimal (length requests)) ++ flat_map request_line requests

-- ---- a view

-- the text of what was found, else a refusal
abbrev pub found_or : {A : Type 0} → StepFault → (A → List ℕ) → Option A → Result (List ℕ) StepFault
found_or fault text None = Err fault
found_or fault text (Some found) = Ok (text found)

-- what a view shows of a world, or why it shows nothing
abbrev pub view_result : WorldState AnyKeyer → View → Result (List ℕ) StepFault
view_result world (views.Copy copy) = found_or NoCopy (shown_text world.ward_bits copy) (numbered world.copies copy)
view_result world (views.Page ward page) =
    option_map_or (λ state. found_or (Ward NoPage) (page_text ward page) (slice_get state.pages page)) (slice_get world.wards ward) (Err NoWard)
view_result world views.InFlight = Ok (in_flight_text world.in_flight)
