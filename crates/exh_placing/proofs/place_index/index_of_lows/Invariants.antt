use Rattle.exh_placing.specs.Making.{AreFirstPlaces}
use Rattle.exh_placing.proofs.place_index.index_of_lows.Given as goal

abbrev pub invariant-loop-place : goal.invariant-loop-place
invariant-loop-place l = AreFirstPlaces l.places.entries l.lows l.place
