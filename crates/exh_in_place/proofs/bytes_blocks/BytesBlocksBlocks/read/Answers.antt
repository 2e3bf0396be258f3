use Rattle.std.proofs.Common.{◌≡◌, ◌≤◌, ◌*◌, ◌-◌, ℕ, List, length, drop, take, ap, ◌∙◌, subst}
use Rattle.std.proofs.lemmas.List.{take_rest}
use Rattle.exh_in_place.proofs.bytes_blocks.BytesBlocksBlocks.read.Goals as goal

pub returns-clause-block : goal.returns-clause-block
returns-clause-block c =
    let bytes = c.args.self.now.bytes.now in
    let start = 4096 * c.args.place in
    let chunk = c.in-Some.ensures.cases in
    let whole : take (length bytes - start) (drop start bytes) ≡ drop start bytes = take_rest bytes start in (
      subst (λ (rest : List ℕ). 4096 ≤ length rest) whole chunk.enough,
      chunk.same ∙ ap (take 4096) whole,
    )
