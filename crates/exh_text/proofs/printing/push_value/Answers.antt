use Rattle.std.proofs.Common.{◌≡◌, ◌∷◌, ◌++◌, List, ℕ, [], get_or, take, drop, sym, ap, ◌∙◌, rules, arith}
use Rattle.std.proofs.lemmas.Grind.{common_steps}
use Rattle.hex.specs.Hex.{encode_lower, encode_with}
use Rattle.exh_text.specs.ByteWord.{hash}
use Rattle.exh_text.proofs.Printed.{cut_behind, printed_cut, printed_more}
use Rattle.exh_text.proofs.printing.push_value.Goals as goal

pub loop-byte-init : goal.loop-byte-init
unfolding encode_with
loop-byte-init c = search rules

pub returns-in_err-extend_from_slice-2-clause-err : goal.returns-in_err-extend_from_slice-2-clause-err
returns-in_err-extend_from_slice-2-clause-err c =
    let i = c.loop-byte.byte-index in
    let bytes = c.args.value.now in
    cut_behind _ _ _ _ (hash ∷ encode_lower (take i bytes)) (encode_lower (drop i bytes)) (c.in_err-extend_from_slice-2.ensures.items ∙ c.loop-byte.invariant.0) (printed_cut i bytes (sym c.is_plain.ensures ∙ c.if-is_plain.false))

pub loop-byte-preserved : goal.loop-byte-preserved
loop-byte-preserved c =
    let more = printed_more c.loop-byte.byte-index c.args.value.now c.args.out.now.items (omega arith) in
    let written : c.encode_to_slice.new.output ≡ encode_lower (get_or c.args.value.now c.loop-byte.byte-index 0 ∷ []) = grind (arith, common_steps) in
    (c.in_ok-extend_from_slice-2.ensures.items ∙ ap (λ (digits : List ℕ). c.loop-byte.out.items ++ digits) written ∙ ap (λ (front : List ℕ). front ++ encode_lower (get_or c.args.value.now c.loop-byte.byte-index 0 ∷ [])) c.loop-byte.invariant.0 ∙ more, grind (arith, common_steps))
