use Rattle.std.proofs.Common.{◌≡◌, ℕ, ◌/◌, List, length, Option, subst}
use Rattle.exh_direct.specs.KnownBlocks.{IsCount}
use Rattle.exh_edits.specs.EditsInTurn.{AreInTurn}
use Rattle.exh_change.proofs.overlay.Overlay.into_edits.Goals as goal

pub returns-clause-turn : goal.returns-clause-turn
returns-clause-turn g c bytes knows =
    let it = c.args.self in
    let first : it.edits.first ≡ length bytes / 4096 = subst (λ (known : Option (List ℕ)). IsCount known it.edits.first) knows it.counted in
    (it.edits.count, subst (λ (n : ℕ). AreInTurn n c.into_items.result.items it.edits.count) first c.into_items.ensures.turn)
