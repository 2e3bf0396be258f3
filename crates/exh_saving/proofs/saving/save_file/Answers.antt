use Rattle.std.proofs.Common.{◌≡◌, rules}
use Rattle.std.specs.Io.KnownBytes.{Appends}
use Rattle.exh_saving.specs.Saved.{saved_history}
use Rattle.exh_saving.proofs.Moments.{saved_at}
use Rattle.exh_saving.proofs.saving.save_file.Goals as goal

pub returns-in-Ok-clause-crash : goal.returns-in-Ok-clause-crash
returns-in-Ok-clause-crash g c =
    let has = g.D.Disk.holds c.in-Ok.file in
    let old = g.D.Disk.history c.args.disk.now c.args.path.now in
    let new = g.D.Disk.history c.save_beside-saved.new.disk c.args.path.now in
    let placed : new ≡ saved_history old has c.in-Ok.folder = search rules in
    let bytes : Appends g.D.Disk.unwritten has (g.S.Source.bytes c.args.source) = search rules in
    saved_at old new g.D.Disk.holds c.in-Ok.folder _ c.in-Ok.file placed bytes
