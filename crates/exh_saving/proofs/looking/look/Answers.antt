use Rattle.std.proofs.Common.{◌≡◌, ◌⊎◌, inl, inr}
use Rattle.std.specs.Prelude.{string_bytes}
use Rattle.exh_saving.specs.Folder.{IsFolderOf}
use Rattle.exh_saving.specs.Replaced.{IsFree}
use Rattle.exh_saving.proofs.Handed.{handed_on}
use Rattle.exh_saving.proofs.looking.look.Goals as goal

-- what is there isn't replaced
pub returns-in_err-old_at-in-File-clause-err : goal.returns-in_err-old_at-in-File-clause-err
returns-in_err-old_at-in-File-clause-err g c =
    let named = c.args.target.now.path.now in
    let whole = c.deref.result.now in
    let reached : (whole ≡ named) ⊎ g.D.Disk.leads named whole = rw c.deref.ensures (rw c.in-File.is at c.in_ok-path_to.ensures.reaches) in
    handed_on c.from_residual-in_err-old_at-in-File.result _ c.in_err-old_at-in-File.field-0.0 c.from_residual-in_err-old_at-in-File.ensures.1
    (inr (whole, reached, inl c.in_err-old_at-in-File.ensures.err))

-- it may be replaced, and its folder keeps a save from it
pub returns-in_err-look_at_folder-in-File-clause-err : goal.returns-in_err-look_at_folder-in-File-clause-err
returns-in_err-look_at_folder-in-File-clause-err g c =
    let target = c.args.target.now in
    let named = target.path.now in
    let whole = string_bytes c.in-File.path in
    let folder = c.folder_of.result.now in
    let reached : (whole ≡ named) ⊎ g.D.Disk.leads named whole = rw c.in-File.is at c.in_ok-path_to.ensures.reaches in
    let free : IsFree g.D.Disk.answers g.D.Disk.finds target.magic named target.seen whole = rw c.deref.ensures at c.in_ok-old_at-in-File.ensures.free in
    let beside : IsFolderOf whole folder = rw c.deref-in-File.ensures at c.folder_of.ensures in
    handed_on c.from_residual-in_err-look_at_folder-in-File.result _ c.in_err-look_at_folder-in-File.field-0.0 c.from_residual-in_err-look_at_folder-in-File.ensures.1
    (inr (whole, reached, inr (free, (folder, beside, c.in_err-look_at_folder-in-File.ensures.err))))
