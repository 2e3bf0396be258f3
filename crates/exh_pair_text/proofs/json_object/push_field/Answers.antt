use Rattle.std.proofs.Common.{◌≡◌, ◌++◌, List, subst}
use Rattle.std.specs.Prelude.{OnOk}
use Rattle.json.specs.Token.{Token}
use Rattle.exh_pair_text.proofs.JsonCases.{digits_tokens, plain_tokens}
use Rattle.exh_pair_text.proofs.json_object.push_field.Goals as goal

pub returns-in-Some-clause-tokens : goal.returns-in-Some-clause-tokens
returns-in-Some-clause-tokens c =
    subst (λ (tokens : List Token). OnOk c.push_member.result (c.push_member.new.writer.tokens ≡ c.args.writer.now.tokens ++ tokens))
    (plain_tokens c.args.is_hex c.args.field c.args.bytes.now c.plain_name.result.now c.in-Some.text.now c.in-Some.ensures.some.1 c.plain_name.ensures c.in-Some.ensures.some.0) c.push_member.ensures.tokens

pub returns-in-None-clause-tokens : goal.returns-in-None-clause-tokens
returns-in-None-clause-tokens c =
    subst (λ (tokens : List Token). OnOk c.push_in_digits.result (c.push_in_digits.new.writer.tokens ≡ c.args.writer.now.tokens ++ tokens))
    (digits_tokens c.args.is_hex c.args.field c.args.bytes.now c.in-None.ensures.none) c.push_in_digits.ensures.tokens
