use Rattle.std.proofs.Common.{◌≡◌, take}
use Rattle.std.specs.List.{list_any}
use Rattle.exh_pair_text.specs.Rows.{is_special}
use Rattle.exh_pair_text.proofs.spelling.has_special.Given as goal

abbrev pub invariant-loop-byte : goal.invariant-loop-byte
invariant-loop-byte l = record { known : l.found ≡ list_any is_special (take l.byte-index l.bytes) }
