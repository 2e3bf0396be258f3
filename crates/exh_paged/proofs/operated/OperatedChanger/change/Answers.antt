use Rattle.std.proofs.Common.{ℕ, List}
use Rattle.exh_cells.specs.PlacedFile.{PlacedFile}
use Rattle.exh_change.specs.DirectLaws.{IsOtherFault}
use Rattle.exh_paged.specs.CallChange.{IsMade}
use Rattle.exh_paged.proofs.CallLemmas.{made_known, refused_known}
use Rattle.exh_paged.proofs.operated.OperatedChanger.change.Goals as goal

pub returns-clause-made : goal.returns-clause-made
returns-clause-made g c =
    let O = g.O.Operation in
    let it = c.args.self.now in
    made_known c.change.result (g.B.Blocks.known c.args.blocks.now)
    (λ (file : PlacedFile) (bytes : List ℕ) made. IsMade (O.is_idle it.operation.now) file bytes (O.leaves it.operation.now file) (O.answers it.operation.now file) it.stamp made.0 made.1.items)
    IsOtherFault c.change.ensures

pub returns-clause-refused : goal.returns-clause-refused
returns-clause-refused g c =
    let O = g.O.Operation in
    let it = c.args.self.now in
    refused_known c.change.result (g.B.Blocks.known c.args.blocks.now)
    (λ (file : PlacedFile) (bytes : List ℕ) made. IsMade (O.is_idle it.operation.now) file bytes (O.leaves it.operation.now file) (O.answers it.operation.now file) it.stamp made.0 made.1.items)
    IsOtherFault c.change.ensures
