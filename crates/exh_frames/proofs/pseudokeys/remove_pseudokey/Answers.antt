use Rattle.std.proofs.Common.{◌≡◌, ℕ, ◌+◌, ◌-◌, List, ◌++◌, take, drop, ap, ◌∙◌, append_assoc, arith}
use Rattle.exh_frames.proofs.pseudokeys.remove_pseudokey.Goals as goal

pub returns : goal.returns
returns c =
    let old : List ℕ = c.args.pseudokeys.now in
    let index = c.args.index in
    let n : ℕ = c.args.count - (index + 1) in
    let run : List ℕ = take n (drop (index + 1) old) in
    let end : index + n ≡ c.args.count - 1 = omega (arith, c.requires.within) in
    c.copy_within.ensures.after ∙ append_assoc (take index old) run (drop (index + n) old) ∙ ap (λ (k : ℕ). take index old ++ (run ++ drop k old)) end
