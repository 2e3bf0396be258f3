use Rattle.std.proofs.Common.{◌≡◌, ℕ, ◌+◌, ◌-◌, List, ◌∷◌, ◌++◌, take, drop, set, ap, ◌∙◌, append_assoc, arith}
use Rattle.exh_frames.proofs.Keyed.{set_behind}
use Rattle.exh_frames.proofs.pseudokeys.insert_pseudokey.Goals as goal

pub returns : goal.returns
returns c =
    let old : List ℕ = c.args.pseudokeys.now in
    let index = c.args.index in
    let n : ℕ = c.args.count - index in
    let run : List ℕ = take n (drop index old) in
    let end : index + 1 + n ≡ c.args.count + 1 = omega (arith, c.requires.within) in
    ap (λ (l : List ℕ). set l index c.args.pseudokey) (c.copy_within.ensures.after ∙ append_assoc (take (index + 1) old) run (drop (index + 1 + n) old))
    ∙ set_behind index old (run ++ drop (index + 1 + n) old) c.args.pseudokey (omega (arith, c.requires.within, c.requires.room, c.told-pseudokeys))
    ∙ ap (λ (k : ℕ). take index old ++ c.args.pseudokey ∷ (run ++ drop k old)) end
