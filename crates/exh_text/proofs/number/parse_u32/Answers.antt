use Rattle.std.proofs.Common.{◌-◌, ◌^◌, sym, ◌∙◌}
use Rattle.exh_text.proofs.Numbers.{narrowed}
use Rattle.exh_text.proofs.number.parse_u32.Goals as goal

pub returns : goal.returns
returns c =
    c.ok.ensures.value ∙ narrowed (2 ^ 64 - 1) (2 ^ 32 - 1) c.in_ok-parse_u64.field-0 c.args.word.now c.try_from.result (sym c.parse_u64.ensures ∙ c.in_ok-parse_u64.was) c.try_from.ensures
