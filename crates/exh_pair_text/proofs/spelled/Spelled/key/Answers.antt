use Rattle.std.proofs.Common.{◌≡◌, ◌≤◌, length, Ok, Err, sym, ap, ◌∙◌, arith}
use Rattle.std.proofs.lemmas.Bool.Decides.{nat_tests}
use Rattle.std.proofs.lemmas.Grind.{common_steps}
use Rattle.exh_pair_text.specs.declared.wrong_line.WrongLine.TheVariants.{LongKey}
use Rattle.exh_pair_text.proofs.Cases.{above_key, few_is, key_kept, key_long, key_none, many_is}
use Rattle.exh_pair_text.proofs.spelled.Spelled.key.Goals as goal

pub returns-in-Many : goal.returns-in-Many
returns-in-Many c bytes is =
    let many = many_is bytes _ (sym c.in-Many.is ∙ is) in
    grind (arith, common_steps, many.0, key_long bytes (omega (arith, many.1)))

pub returns-then-is_empty : goal.returns-then-is_empty
returns-then-is_empty c bytes is =
    let few = few_is bytes _ (sym c.in-Few.is ∙ is) in
    let same = c.as_bytes-bytes.ensures.bytes ∙ few.0 in
    let none : length c.as_bytes-bytes.result.now ≡ 0 = grind (arith, nat_tests) in
    sym (key_none bytes (sym (ap length same) ∙ none))

pub returns-in-Ok : goal.returns-in-Ok
returns-in-Ok c bytes is =
    let few = few_is bytes _ (sym c.in-Few.is ∙ is) in
    let same = c.as_bytes-bytes.ensures.bytes ∙ few.0 in
    let long = ap length same in
    let within = c.in-Ok.ensures.0 in
    sym (key_kept bytes (omega (arith, within.0, long)) (omega (arith, within.1, long)) ∙ ap Ok (sym (c.in-Ok.ensures.1 ∙ same)))

pub returns-in-Err : goal.returns-in-Err
returns-in-Err c bytes is =
    let few = few_is bytes _ (sym c.in-Few.is ∙ is) in
    let long = ap length (c.as_bytes-bytes.ensures.bytes ∙ few.0) in
    let some : 1 ≤ length c.as_bytes-bytes.result.now = grind (arith, nat_tests) in
    sym (key_long bytes (omega (arith, long, above_key _ some c.in-Err.ensures)) ∙ ap (λ count. Err (LongKey count)) (sym long))
