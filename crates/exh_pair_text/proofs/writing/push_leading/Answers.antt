use Rattle.std.proofs.Common.{◌≡◌, ◌++◌, ◌≤◌, OnOk, flat_map, ℕ, List, length, get_or, take, drop, ◌-◌, sym, ap, subst, ◌∙◌}
use Rattle.std.proofs.lemmas.List.{append_assoc}
use Rattle.std.specs.Prelude.{codes}
use Rattle.exh_pair_text.specs.Bytes.{byte_text, leading_text}
use Rattle.exh_pair_text.proofs.Cases.{hash_first, leading_hash}
use Rattle.exh_pair_text.proofs.writing.push_leading.Goals as goal

pub returns-clause-ok : goal.returns-clause-ok
returns-clause-ok c =
    let text = c.args.text.now.items in
    let bytes = c.args.bytes.now in
    let rest = flat_map byte_text (take (length bytes - 1) (drop 1 bytes)) in
    let some : 1 ≤ length bytes = hash_first bytes c.if-bytes-ne35.false in
    let hash : get_or bytes 0 0 ≡ 35 = c.if-bytes-ne35.false in
    let same : c.push_text.new.out.items ++ rest ≡ text ++ leading_text bytes =
    ap (λ front. front ++ rest) c.in_ok-push_text.ensures.ok ∙ append_assoc text (codes "\\x23") rest ∙ ap (λ all. text ++ all) (sym (leading_hash bytes some hash)) in
    subst (λ (whole : List ℕ). OnOk c.push_escaped-2.result (c.push_escaped-2.new.text.items ≡ whole)) same c.push_escaped-2.ensures.ok
