use Rattle.std.proofs.Common.{◌≡◌, ◌⊎◌, inl, inr, refl, Err}
use Rattle.exh_saving.proofs.Handed.{on_fault}
use Rattle.exh_saving.proofs.Moments.{stays_at}
use Rattle.exh_saving.proofs.NoFile.{at_no_file, where_done, where_none, where_written}
use Rattle.exh_saving.proofs.saving.save.Goals as goal

-- what stands at the path that was named stays there
pub returns-in-Ok-Device-clause-crash : goal.returns-in-Ok-Device-clause-crash
returns-in-Ok-Device-clause-crash g c =
    let path = c.args.target.now.path.now in
    let same : g.D.Disk.history c.save_to_device.new.disk path ≡ g.D.Disk.history c.args.disk.now path = cc in
    (path, inl refl, stays_at _ _ g.D.Disk.holds _ c.save_to_device.result.0 same c.save_to_device.ensures.file, at_no_file c.save_to_device.result.0 _ c.save_to_device.ensures.file)

pub returns-in-Err-clause-crash : goal.returns-in-Err-clause-crash
returns-in-Err-clause-crash g c =
    let path = c.args.target.now.path.now in
    let same : g.D.Disk.history c.path_to.new.disk path ≡ g.D.Disk.history c.args.disk.now path = cc in
    (path, inl refl, stays_at _ _ g.D.Disk.holds _ (Err c.in-Err.fault) same tt, tt)

-- a device was written, or a file
pub returns-in-Ok-Device-clause-device : goal.returns-in-Ok-Device-clause-device
returns-in-Ok-Device-clause-device g c = where_none c.save_to_device.result.0 _ _ (rw c.in-Ok-Device.field-0-is at c.in-Ok-Device.ensures.reaches) c.save_to_device.ensures.bytes

pub returns-in-Ok-File-clause-device : goal.returns-in-Ok-File-clause-device
returns-in-Ok-File-clause-device g c = where_written c.save_file.result.0 _ c.save_file.ensures.written

-- what was saved is where the path leads
pub returns-in-Ok-File-clause-err : goal.returns-in-Ok-File-clause-err
returns-in-Ok-File-clause-err g c =
    let whole = c.deref.result.now in
    let reached : (whole ≡ c.args.target.now.path.now) ⊎ g.D.Disk.leads c.args.target.now.path.now whole =
    rw c.deref.ensures (rw c.in-Ok-File.field-0-is at c.in-Ok-File.ensures.reaches) in
    on_fault c.save_file.result.0 _ _ (λ fault unsaved. inr (inl (whole, reached, unsaved))) c.save_file.ensures.err

pub returns-in-Ok-File-clause-crash : goal.returns-in-Ok-File-clause-crash
returns-in-Ok-File-clause-crash g c =
    let whole = c.deref.result.now in
    let reached : (whole ≡ c.args.target.now.path.now) ⊎ g.D.Disk.leads c.args.target.now.path.now whole =
    rw c.deref.ensures (rw c.in-Ok-File.field-0-is at c.in-Ok-File.ensures.reaches) in
    (whole, reached, rw c.path_to.ensures.crash at c.save_file.ensures.crash, where_done c.save_file.result.0 _ c.save_file.ensures.free)
