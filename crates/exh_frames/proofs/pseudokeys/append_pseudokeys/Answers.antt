use Rattle.std.proofs.Common.{◌≡◌, ℕ, ◌+◌, ◌-◌, List, ◌++◌, take, drop, ap, ◌∙◌, arith}
use Rattle.std.proofs.lemmas.List.{drop-drop}
use Rattle.exh_frames.proofs.pseudokeys.append_pseudokeys.Goals as goal

pub returns : goal.returns
returns c =
    let old : List ℕ = c.args.pseudokeys.now in
    let count = c.args.count in
    let more = c.args.more in
    let k : ℕ = count + more - count in
    let end : count + k ≡ count + more = omega arith in
    ap (λ (l : List ℕ). take count old ++ (l ++ drop k (drop count old))) c.copy_from_slice.ensures.after
    ∙ ap (λ (l : List ℕ). take count old ++ (take more c.args.others.now ++ l)) (drop-drop k count old ∙ ap (λ (n : ℕ). drop n old) end)
