use Rattle.std.proofs.Common.{◌+◌, ◌<◌, ℕ, List, [], ◌∷◌, ◌++◌, length, Result, Ok, Err, OnOk, sym, ap, ◌∙◌, arith}
use Rattle.std.specs.Result.{IsOk}
use Rattle.std.proofs.lemmas.Bool.{false≢true}
use Rattle.std.proofs.lemmas.List.{length_push}
use Rattle.std.proofs.lemmas.Grind.{common_steps}
use Rattle.exh_page.specs.declared.value.TheConstants.{VALUE_LIMIT}
use Rattle.exh_pair_text.specs.Spelled.{all_spelled}
use Rattle.exh_pair_text.proofs.Steps.{loop_end, loop_step, loop_wrong}
use Rattle.exh_pair_text.proofs.spelled.of_bytes.Goals as goal

pub returns-in_default : goal.returns-in_default
returns-in_default c =
    let i = c.loop-taken.invariant in
    sym (ap all_spelled (loop_wrong c.args.is_hex c.args.at c.args.text.now c.loop-taken.taken i.front i.left (sym c.first_byte.ensures.byte ∙ c.in_default.is) c.loop-taken-test.true) ∙ ap Err (sym c.wrong_byte.ensures))

ok_holds : {T E : Type 0} (result : Result T E) (P : Type 0) → IsOk result → OnOk result P → P
ok_holds (Ok made) P ok holds = holds
ok_holds (Err fault) P ok holds = absurd (false≢true ok)

pub loop-taken-preserved : goal.loop-taken-preserved
loop-taken-preserved c =
    let i = c.loop-taken.invariant in
    let some = c.in-Some.ensures.some in
    record {
      within = grind (arith, common_steps);
      few = omega (arith, i.few, some.0);
      front = i.front ++ c.in-Some.byte ∷ [];
      counted = length_push i.front c.in-Some.byte ∙ ap (λ n. n + 1) i.counted;
      kept = λ less.
          let items = i.kept (omega arith) in
          let room : length c.loop-taken.bytes.items < VALUE_LIMIT = omega (arith, ap length items, i.counted) in
          let pushed : IsOk c.try_push.result = c.try_push.ensures.variant.1 room in
          ok_holds _ _ pushed c.try_push.ensures.ok ∙ ap (λ (items : List ℕ). items ++ c.in-Some.byte ∷ []) items;
      left = loop_step c.args.is_hex c.args.at c.args.text.now c.loop-taken.taken i.front i.left c.in-Some.byte c.in-Some.width (sym c.first_byte.ensures.byte ∙ c.in-Some.is) some.0 some.1;
    }

pub returns : goal.returns
returns c =
    let i = c.loop-taken.invariant in
    sym (ap all_spelled (loop_end c.args.is_hex c.args.at c.args.text.now c.loop-taken.taken i.front i.left c.loop-taken-test.false) ∙ ap Ok (sym (c.spelled_as.ensures i.front i.counted i.kept)))
