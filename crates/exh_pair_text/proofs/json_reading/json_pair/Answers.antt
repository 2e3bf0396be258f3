use Rattle.std.proofs.Common.{◌≡◌, ℕ, List, Result, sym, subst}
use Rattle.std.specs.Prelude.{IfOk}
use Rattle.json.specs.Value.{value_view}
use Rattle.exh_pair_text.specs.declared.wrong_line.WrongLine.{WrongLine}
use Rattle.exh_pair_text.proofs.JsonCases.{json_ok}
use Rattle.exh_pair_text.proofs.json_reading.json_pair.Goals as goal

pub returns-in-Ok : goal.returns-in-Ok
returns-in-Ok c =
    subst (λ (wanted : Result (List ℕ × List ℕ) WrongLine). IfOk c.object_pair.result (λ pair. pair ≡ wanted))
    (sym (json_ok c.args.is_hex c.args.names.now.key.now c.args.names.now.value.now c.args.line.now (value_view c.in-Ok.json) c.in-Ok.ensures.ok.0 c.in-Ok.ensures.ok.1)) c.object_pair.ensures
