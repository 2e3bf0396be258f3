use Rattle.std.proofs.Common.{◌≡◌, ℕ, List, take, drop, ◌++◌, [], ap, ◌∙◌, arith, append-nil}
use Rattle.std.proofs.lemmas.List.{drop_all, drop_at, drop-drop, length-take-le, take_at}
use Rattle.exh_codec.proofs.block.put_digest.Goals as goal

pub returns-clause-content : goal.returns-clause-content
returns-clause-content c =
    let block = c.args.block.now in
    take_at (take 4064 block) (c.copy_from_slice.new.self ++ drop 32 (drop 4064 block)) 4064 (length-take-le 4064 block (omega (arith, c.told-block)))

pub returns-clause-digest : goal.returns-clause-digest
returns-clause-digest c =
    let block = c.args.block.now in
    let digest = c.copy_from_slice.new.self in
    let none : drop 32 (drop 4064 block) ≡ [] = drop-drop 32 4064 block ∙ drop_all 4096 block (omega (arith, c.told-block)) in
    drop_at (take 4064 block) (digest ++ drop 32 (drop 4064 block)) 4064 (length-take-le 4064 block (omega (arith, c.told-block)))
    ∙ ap (λ (rest : List ℕ). digest ++ rest) none ∙ append-nil digest ∙ c.copy_from_slice.ensures.after
