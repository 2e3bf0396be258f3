use Rattle.std.proofs.Common.{◌≡◌, nat_eq, false, take}
use Rattle.std.specs.List.{list_any}
use Rattle.exh_direct.specs.TableSearch.{numbers_of}
use Rattle.exh_direct.proofs.search.index_of.Given as goal

abbrev pub invariant-loop-index : goal.invariant-loop-index
invariant-loop-index l = list_any (nat_eq l.number) (numbers_of (take l.index l.read)) ≡ false
