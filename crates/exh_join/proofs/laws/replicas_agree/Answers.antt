use Rattle.exh_join.proofs.ReplicasAgree.{replicas_agree}
use Rattle.exh_join.proofs.laws.replicas_agree.Goals as goal

pub returns : goal.returns
returns g c = replicas_agree g.met.J.Join.laws
