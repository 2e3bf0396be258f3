use Rattle.std.proofs.Common.{◌≡◌, ℕ, ◌+◌, ◌-◌, List, ◌++◌, take, drop, ap, ◌∙◌, arith}
use Rattle.exh_frames.proofs.pseudokeys.pseudokeys_from.Goals as goal

pub returns : goal.returns
returns c =
    let old : List ℕ = c.args.pseudokeys.now in
    let n : ℕ = c.args.count - c.args.index in
    let end : 0 + n ≡ n = omega arith in
    c.copy_within.ensures.after ∙ ap (λ (k : ℕ). take n (drop c.args.index old) ++ drop k old) end
