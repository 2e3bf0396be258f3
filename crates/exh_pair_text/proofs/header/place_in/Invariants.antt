use Rattle.std.proofs.Common.{◌≡◌, drop, map}
use Rattle.exh_pair_text.specs.Header.{place_from}
use Rattle.exh_pair_text.proofs.header.place_in.Given as goal

-- it is found among those that are left
abbrev pub invariant-loop-field : goal.invariant-loop-field
invariant-loop-field l = record {
  at_is : l.at ≡ l.field-index;
  left : place_from 0 l.name (map (λ field. field.items) l.fields) ≡ place_from l.at l.name (map (λ field. field.items) (drop l.field-index l.fields));
}
