use Rattle.exhash.specs.TurnLemmas.{AreTurns}
use Rattle.exh_compact.specs.Needed.{AreNeeded}
use Rattle.exh_compact.proofs.PutLemmas.{AreNeededWith}
use Rattle.exh_compact.proofs.putting.put_pair.Given as goal

-- there were splits alone, and where all pages were needed, all are with the key
abbrev pub invariant-turns : goal.invariant-turns
invariant-turns g l = record {
  turns : AreTurns l.fn.ward l.pseudokey l.turn l.ward;
  needed : AreNeeded l.fn.ward → AreNeededWith l.fn.ward l.key l.value l.ward;
}
