use Rattle.std.proofs.Common.{◌≡◌, ℕ, ◌+◌, ◌-◌, List, ◌++◌, take, drop, replicate, sym, ap, ◌∙◌, arith}
use Rattle.std.proofs.lemmas.List.{drop-drop, take-append-drop}
use Rattle.exh_frames.proofs.edit.resize.Goals as goal

-- nothing moves
pub returns-then-new_end-gap-clause-back : goal.returns-then-new_end-gap-clause-back
returns-then-new_end-gap-clause-back c =
    let block : List ℕ = c.args.block.now in
    let end = c.args.gap.end in
    let used = c.args.used in
    let len = c.args.gap.start + c.args.len in
    let behind : ℕ = used - end in
    let same : len ≡ end = c.if-new_end-gap.true in
    let none : 0 ≡ used - (len + behind) = omega (arith, same, c.requires.within) in
    let rest : end + behind ≡ used + (len + behind - used) = omega (arith, same, c.requires.within) in
    ap (λ (n : ℕ). drop n block) same ∙ sym (take-append-drop behind (drop end block)) ∙ ap (λ (l : List ℕ). take behind (drop end block) ++ l) (drop-drop behind end block)
    ∙ ap (λ (n : ℕ). take behind (drop end block) ++ drop n block) rest ∙ ap (λ (n : ℕ). take behind (drop end block) ++ (replicate n 0 ++ drop (used + (len + behind - used)) block)) none
