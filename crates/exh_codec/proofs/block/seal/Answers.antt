use Rattle.std.proofs.Common.{◌≡◌, ℕ, List, take, drop, ◌++◌, [], ap, ◌∙◌, arith, append-nil}
use Rattle.std.proofs.lemmas.List.{drop_all, drop-drop, length-take-le}
use Rattle.sha2.specs.Sha256.{sha256}
use Rattle.exh_codec.specs.BlockLemmas.{sealed_content, sealed_is_sealed}
use Rattle.exh_codec.proofs.block.seal.Goals as goal

pub returns-clause-block : goal.returns-clause-block
returns-clause-block c =
    let block = c.args.block.now in
    let none : drop 32 (drop 4064 block) ≡ [] = drop-drop 32 4064 block ∙ drop_all 4096 block (omega (arith, c.told-block)) in
    ap (λ (digest : List ℕ). take 4064 block ++ (digest ++ drop 32 (drop 4064 block))) (c.copy_from_slice.ensures.after ∙ c.digest_of-digest.ensures)
    ∙ ap (λ (rest : List ℕ). take 4064 block ++ (sha256 (take 4064 block) ++ rest)) none ∙ ap (λ (digest : List ℕ). take 4064 block ++ digest) (append-nil _)

pub returns-clause-content : goal.returns-clause-content
returns-clause-content c = sealed_content _ (take 4064 c.args.block.now) (length-take-le 4064 c.args.block.now (omega (arith, c.told-block))) (returns-clause-block c)

pub returns-clause-sealed : goal.returns-clause-sealed
returns-clause-sealed c = sealed_is_sealed _ (take 4064 c.args.block.now) (length-take-le 4064 c.args.block.now (omega (arith, c.told-block))) (returns-clause-block c)
