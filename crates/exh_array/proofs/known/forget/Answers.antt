use Rattle.std.proofs.Common.{ap, ◌++◌, ◌∙◌}
use Rattle.std.specs.Option.{option_to_list}
use Rattle.exh_array.proofs.KnownPlaces.{forgotten_last}
use Rattle.exh_array.proofs.known.forget.Goals as goal

pub loop-place-preserved : goal.loop-place-preserved
loop-place-preserved c =
    forgotten_last c.loop-place.noted.items c.pop.new.self.items c.loop-place.known c.remove.new.self c.in-Some.place
    (c.pop.ensures.items ∙ ap (λ one. c.pop.new.self.items ++ option_to_list one) c.in-Some.is) c.remove.ensures.keys
    ∙ c.loop-place.invariant
