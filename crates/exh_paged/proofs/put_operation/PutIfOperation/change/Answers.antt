use Rattle.exh_paged.proofs.EditLemmas.{are_within}
use Rattle.exh_paged.proofs.PutLemmas.{put_made}
use Rattle.exh_paged.proofs.put_operation.PutIfOperation.change.Goals as goal

pub returns : goal.returns
returns g c file tables bytes knows bytes_are legal =
    let changed = c.in_ok-changed.changed in
    put_made c.args.self.now c.args.stamp bytes changed c.kept.result.0 c.kept.result.1.items c.kept.ensures.reply c.kept.ensures.edits file tables legal
    (are_within bytes changed.edits.items (c.in_ok-changed.ensures.edits bytes knows)) (c.in_ok-changed.ensures.legal file tables bytes knows bytes_are legal)
