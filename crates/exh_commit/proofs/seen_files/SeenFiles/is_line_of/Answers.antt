use Rattle.std.proofs.Common.{IsTrue, sym, subst}
use Rattle.std.proofs.Math.Logic.{∥∥₁_map}
use Rattle.exh_commit.specs.LogLook.{IsOwnLog}
use Rattle.exh_commit.proofs.seen_files.SeenFiles.is_line_of.Goals as goal

-- a log that was only read is the same
pub invariant_of-self : goal.invariant_of-self
invariant_of-self g c =
    let same = c.is_line_of.ensures.same in
    record { own = ∥∥₁_map c.args.self.now.own (λ (own : IsTrue (g.D.Disk.is_clean c.args.self.now.log) → IsOwnLog (g.D.Disk.seen c.args.self.now.log)). λ (clean : IsTrue (g.D.Disk.is_clean c.is_line_of.new.log)). subst IsOwnLog (sym same.seen) (own (same.clean clean))) }
