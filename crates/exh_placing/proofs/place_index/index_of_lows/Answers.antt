use Rattle.std.proofs.Common.{◌≡◌, ℕ, length, get_or, subst, arith}
use Rattle.std.proofs.lemmas.Option.{slice_get-get_or}
use Rattle.exh_placing.specs.Making.{AreFirstPlaces}
use Rattle.exh_placing.proofs.FirstPlaces.{more_places, no_places}
use Rattle.exh_placing.proofs.place_index.index_of_lows.Goals as goal

pub loop-place-init : goal.loop-place-init
loop-place-init c = no_places c.new-places.result.entries c.args.lows.now c.new-places.ensures.empty

pub loop-place-preserved : goal.loop-place-preserved
loop-place-preserved c =
    let lows = c.args.lows.now in
    let place = c.loop-place.place in
    more_places c.loop-place.places.entries c.insert.new.self.entries lows place (get_or lows place 0) c.requires.apart c.loop-place.invariant
    (slice_get-get_or lows place 0 c.loop-place-test.true) c.in_ok-insert.ensures.updates.0

pub returns : goal.returns
returns c =
    let all : c.loop-place.place ≡ length c.args.lows.now = omega arith in
    subst (λ (count : ℕ). AreFirstPlaces c.loop-place.places.entries c.args.lows.now count) all c.loop-place.invariant
