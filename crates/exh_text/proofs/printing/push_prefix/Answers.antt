use Rattle.std.proofs.Common.{◌≡◌, ℕ, ◌+◌, ◌-◌, ◌/◌, ◌%◌, ◌^◌, [], ◌∷◌, ◌++◌, append_assoc, sym, ap, ◌∙◌, arith}
use Rattle.std.proofs.lemmas.Grind.{common_steps}
use Rattle.exh_prefix.specs.Prefix.{low_of}
use Rattle.exh_text.specs.TextLemmas.{keeps_added, keeps_more}
use Rattle.exh_text.proofs.Digits.{digit_more}
use Rattle.exh_text.proofs.printing.push_prefix.Goals as goal
use Rattle.exh_text.proofs.printing.push_prefix.Goals.{then-is_one, else-is_one}

pub loop-place-preserved : goal.loop-place-preserved
loop-place-preserved c =
    let prefix = c.args.prefix.now in
    let place = c.loop-place.place in
    let old = c.args.out.now.items in
    let digit : (n : ℕ) × (n ≡ 48 + low_of prefix / 2 ^ (63 - place) % 2) × (c.if-is_one.push_text.now ≡ n ∷ []) =
    elim c.if-is_one.branch [ then-is_one w ↦ (49, grind (arith, common_steps), grind (arith, common_steps)) | else-is_one w ↦ (48, grind (arith, common_steps), grind (arith, common_steps)) ] in
    c.in_ok-push_text.ensures.ok ∙ ap (λ text. c.loop-place.out.items ++ text) digit.2 ∙ ap (λ front. front ++ digit.0 ∷ []) c.loop-place.invariant ∙ append_assoc old _ _
    ∙ ap (λ digits. old ++ digits) (sym (digit_more prefix place digit.0 (omega (arith, c.len-place-end.ensures.limit)) (omega (arith, c.loop-place-test.true, c.len-place-end.ensures.length)) digit.1))

pub returns-in_err-push_text-clause-kept : goal.returns-in_err-push_text-clause-kept
returns-in_err-push_text-clause-kept c = keeps_more _ _ _ (keeps_added _ _ _ c.loop-place.invariant) c.in_err-push_text.ensures.kept
