use Rattle.std.proofs.Common.{ℕ, Bool, true, List, [], ◌∷◌, subst}
use Rattle.exh_pair_text.specs.Header.{names_of}
use Rattle.exh_import.specs.Header.{Heads, IsLineRead}
use Rattle.exh_import.specs.LineReader.{text_left}
use Rattle.exh_import.proofs.Texts.{if_ok_map}
use Rattle.exh_import.proofs.heading.take_header.Goals as goal

pub returns-then-branch-clause-heading : goal.returns-then-branch-clause-heading
returns-then-branch-clause-heading g c =
    let R = g.R.Read.remaining in
    let known = text_left R c.args.lines.now in
    let left = text_left R c.take_line.new.lines in
    let line = c.take_line.new.lines.line.items in
    let stands = subst (λ (taken : Bool). IsLineRead line known left taken) c.if-branch.true c.in_ok-take_line.ensures.line in
    if_ok_map c.heading_of.result _ _ c.heading_of.ensures.heading (λ heading heads.
    (line ∷ [], (subst (λ (header : List ℕ). Heads (names_of c.args.names) true header heading) c.line.ensures heads, stands)))
