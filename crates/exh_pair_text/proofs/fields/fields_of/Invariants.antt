use Rattle.std.proofs.Common.{◌≡◌, ◌+◌, drop}
use Rattle.exh_pair_text.specs.Fields.{fields_from, fields_in}
use Rattle.exh_pair_text.specs.CsvReads.{so_far}
use Rattle.exh_pair_text.proofs.Taking.{joined}
use Rattle.exh_pair_text.proofs.fields.fields_of.Given as goal

-- the fields so far, and those of what is left
abbrev pub invariant-loop-at : goal.invariant-loop-at
invariant-loop-at l = record {
  left : joined (so_far l.taken) (fields_from l.place (l.at + 1) (drop l.at l.text)) ≡ fields_in l.text;
}
