use Rattle.std.proofs.Common.{◌≡◌, ◌++◌, flat_map}
use Rattle.exh_script.specs.View.{request_line}
use Rattle.exh_text.specs.Printing.{Keeps}
use Rattle.exh_script.proofs.in_flight_text.push_requests.Given as goal

abbrev pub invariant-loop-name : goal.invariant-loop-name
invariant-loop-name g l = record {
  told : l.out.items ++ flat_map request_line l.name-iterator ≡ l.fn.out.items ++ flat_map request_line l.fn.world.in_flight;
  kept : Keeps l.fn.out.items l.out.items;
}
