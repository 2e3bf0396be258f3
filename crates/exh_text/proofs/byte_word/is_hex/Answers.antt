use Rattle.std.proofs.Common.{◌∙◌, sym, rules, tests, arith}
use Rattle.std.proofs.lemmas.Iterator.{YieldsList-from_slice}
use Rattle.std.proofs.lemmas.Iterator.Search.{all_from_yields_List}
use Rattle.std.proofs.lemmas.Bool.Decides.{nat_tests}
use Rattle.exh_text.proofs.Hexadecimal.{is_hex_digit, even_digits, odd_digits}
use Rattle.exh_text.proofs.byte_word.is_hex.Goals as goal

pub returns-then-digits-eq0 : goal.returns-then-digits-eq0
returns-then-digits-eq0 c =
    all_from_yields_List is_hex_digit _ _ c.all.result c.all.ensures.ran (YieldsList-from_slice c.args.digits.now cc) (λ x b q k. search (rules, tests))
    ∙ sym (even_digits c.args.digits.now c.if-digits-eq0.true)

pub returns-else-digits-eq0 : goal.returns-else-digits-eq0
returns-else-digits-eq0 c = rw (odd_digits c.args.digits.now c.if-digits-eq0.false) (grind (arith, nat_tests, c.if-digits-eq0.false))
