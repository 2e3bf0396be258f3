use Rattle.std.proofs.Common.{◌≡◌, ◌++◌, [], ◌∷◌, List, ℕ, subst, ◌<◌, false, inl, inr, arith, rules}
use Rattle.std.specs.Prelude.{◌⊎◌, OnOk, codes}
use Rattle.hex.specs.Hex.{encode_lower}
use Rattle.std.specs.Int.{is_in_range}
use Rattle.std.proofs.lemmas.Bool.Decides.{nat_tests}
use Rattle.std.proofs.lemmas.Grind.{common_steps}
use Rattle.exh_text.specs.TextLemmas.{added_behind}
use Rattle.exh_pair_text.proofs.Cases.{text_newline, text_other, text_own, text_return, text_slash, text_tab}
use Rattle.exh_pair_text.proofs.byte_text.push_byte.Goals as goal
use Rattle.exh_pair_text.proofs.byte_text.push_byte.Goals.{in_default-via-then-byte-lt32, in_default-via-else-byte-lt32+else-byte-lt127}

pub returns-in-9-clause-ok : goal.returns-in-9-clause-ok
returns-in-9-clause-ok c = grind (arith, common_steps, text_tab)

pub returns-in-10-clause-ok : goal.returns-in-10-clause-ok
returns-in-10-clause-ok c = grind (arith, common_steps, text_newline)

pub returns-in-13-clause-ok : goal.returns-in-13-clause-ok
returns-in-13-clause-ok c = grind (arith, common_steps, text_return)

pub returns-in-92-clause-ok : goal.returns-in-92-clause-ok
returns-in-92-clause-ok c = grind (arith, common_steps, text_slash)

pub returns-in-32-to-126-clause-ok : goal.returns-in-32-to-126-clause-ok
returns-in-32-to-126-clause-ok c = rw (text_own c.args.byte (omega arith) (omega arith) (omega arith)) (search rules)

outside : (byte : ℕ) → (byte < 32) ⊎ (126 < byte) → is_in_range 32 126 byte ≡ false
outside byte (inl low) = grind (arith, nat_tests)
outside byte (inr high) = grind (arith, nat_tests)

pub returns-in_ok-push_text-in_default-clause-ok : goal.returns-in_ok-push_text-in_default-clause-ok
returns-in_ok-push_text-in_default-clause-ok c =
    let byte = c.args.byte in
    let old = c.args.text.now.items in
    let middle = c.push_text-in_default.new.out.items in
    let new = c.push_digits.new.text.items in
    let far : (byte < 32) ⊎ (126 < byte) = elim c.in_default.branch [
      | in_default-via-then-byte-lt32 w ↦ inl (omega arith)
      | in_default-via-else-byte-lt32+else-byte-lt127 w ↦ inr (omega arith)
    ] in
    let digits = subst (λ (bytes : List ℕ). OnOk c.push_digits.result (new ≡ middle ++ encode_lower bytes)) c.as_slice-in_default.ensures c.push_digits.ensures.ok in
    rw (text_other byte (omega arith) (omega arith) (omega arith) (omega arith) (outside byte far))
    (added_behind c.push_digits.result old middle new (codes "\\x") (encode_lower (byte ∷ [])) c.in_ok-push_text-in_default.ensures.ok digits)
