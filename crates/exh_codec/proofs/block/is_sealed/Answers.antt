use Rattle.std.proofs.Common.{◌≡◌, take, drop, sym, ◌∙◌, arith}
use Rattle.std.proofs.lemmas.Bool.Decides.{Decides-eqb}
use Rattle.std.proofs.lemmas.List.{take_all, length-drop}
use Rattle.std.proofs.lemmas.Slice.Eq.{slice_eq-Decides}
use Rattle.exh_codec.proofs.block.is_sealed.Goals as goal

pub returns : goal.returns
returns c =
    let block = c.args.block.now in
    let whole : take 32 (drop 4064 block) ≡ drop 4064 block = take_all 32 (drop 4064 block) (omega (arith, c.told-block, length-drop 4064 block)) in
    let decides = slice_eq-Decides Decides-eqb (take 32 (drop 4064 block)) c.digest_of-digest.result c.eq.result c.eq.ensures in
    (λ passes. sym whole ∙ decides.0 passes ∙ c.digest_of-digest.ensures, λ sealed. decides.1 (whole ∙ sealed ∙ sym c.digest_of-digest.ensures))
