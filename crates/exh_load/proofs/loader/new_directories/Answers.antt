use Rattle.std.proofs.Common.{ℕ}
use Rattle.exh_array.specs.Pointers.{DirectoryState}
use Rattle.exh_load.specs.Loader.{IsEmptyDirectory}
use Rattle.exh_load.proofs.Items.{each_more}
use Rattle.exh_load.proofs.loader.new_directories.Goals as goal

pub loop-number-preserved : goal.loop-number-preserved
loop-number-preserved c =
    let directory = c.in_ok-new.ensures in
    each_more (λ (number : ℕ) (directory : DirectoryState). IsEmptyDirectory c.args.ward_bits directory) c.loop-number._number c.loop-number.directories.items c.in_ok-new.field-0 c.push.new.self.items c.loop-number.invariant
    (record { table = directory.table; bits = directory.array.bits }) c.in_ok-push.ensures.items
