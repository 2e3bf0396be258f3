use Rattle.std.proofs.Common.{◌≡◌, ◌+◌, ◌*◌, length, vec_len}
use Rattle.std.specs.Vec.Iter.{into_iter_items, into_iter_len}
use Rattle.exh_live.specs.LiveFile.{AreToBeTallied}
use Rattle.exh_live.specs.WardParts.{parts_of_first, ward_parts}
use Rattle.exh_live.proofs.live_file.locked.Given as goal

-- the wards left, and the locks so far with their parts
abbrev pub invariant-loop-ward : goal.invariant-loop-ward
invariant-loop-ward g l = record {
  left : AreToBeTallied g.K.Keyer.pseudokey_of g.F.Identity.hashing (vec_len l.locks) (into_iter_items l.ward-iterator);
  len : into_iter_len l.ward-iterator ≡ length (into_iter_items l.ward-iterator);
  count : vec_len l.locks + length (into_iter_items l.ward-iterator) ≡ vec_len l.fn.wards;
  answers : l.answers.parts + vec_len l.locks * ward_parts ≡ l.fn.answers.parts + parts_of_first (vec_len l.locks);
  entries : l.entries.parts + parts_of_first (vec_len l.locks) ≡ l.fn.entries.parts;
  none : (l.answers.amount ≡ 0) × (l.entries.amount ≡ 0);
}
