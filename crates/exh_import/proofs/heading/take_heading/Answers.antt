use Rattle.std.proofs.Common.{◌≡◌, ℕ, Bool, false, List, [], ◌∷◌, None, Some, inl, subst}
use Rattle.exh_pair_text.specs.Header.{names_of}
use Rattle.exh_pair_text.specs.declared.pair_format.PairFormat.TheVariants.{Csv}
use Rattle.exh_import.specs.Header.{Heads, IsHeadCause, IsHeadingCause, IsLineRead, IsOpening, opens}
use Rattle.exh_import.specs.LineReader.{text_left}
use Rattle.exh_import.proofs.Ends.{err_as}
use Rattle.exh_import.proofs.Heads.{headed_then, if_err_map, long_first, stand_then, wrong_first, wrong_then}
use Rattle.exh_import.proofs.Texts.{if_ok_map}
use Rattle.exh_import.proofs.heading.take_heading.Goals as goal

pub returns-in_err-take_line-clause-cause : goal.returns-in_err-take_line-clause-cause
returns-in_err-take_line-clause-cause g c =
    let R = g.R.Read.remaining in
    let names = names_of c.args.names in
    let known = text_left R c.args.lines.now in
    let lines = c.take_line.new.lines in
    let left = text_left R lines in
    let fault = c.in_err-take_line.field-0.0 in
    err_as c.from_residual.result fault (IsHeadingCause names known left lines) c.from_residual.ensures.1 (long_first names known left lines fault c.in_err-take_line.ensures.cause)

-- ---- behind an opening

pub returns-then-branch-clause-heading : goal.returns-then-branch-clause-heading
returns-then-branch-clause-heading g c =
    let R = g.R.Read.remaining in
    let names = names_of c.args.names in
    let known = text_left R c.args.lines.now in
    let middle = text_left R c.take_line.new.lines in
    let left = text_left R c.take_header.new.lines in
    let line = c.take_line.new.lines.line.items in
    let stands = subst (λ (taken : Bool). IsLineRead line known middle taken) c.if-not-branch.false c.in_ok-take_line.ensures.line in
    let opening = subst (λ (first : List ℕ). opens first ≡ Some Csv) c.line.ensures (subst (λ (opened : Bool). IsOpening c.line.result.now opened) c.if-branch.true c.in_ok-is_opening.ensures.opening) in
    if_ok_map c.take_header.result _ _ c.take_header.ensures.heading (λ heading behind.
    (line ∷ behind.0, (headed_then names known left c.take_header.new.lines line behind.0 heading opening behind.1.0, stand_then (line ∷ []) behind.0 known middle left stands behind.1.1)))

pub returns-then-branch-clause-cause : goal.returns-then-branch-clause-cause
returns-then-branch-clause-cause g c =
    let R = g.R.Read.remaining in
    let names = names_of c.args.names in
    let known = text_left R c.args.lines.now in
    let middle = text_left R c.take_line.new.lines in
    let left = text_left R c.take_header.new.lines in
    let line = c.take_line.new.lines.line.items in
    let stands = subst (λ (taken : Bool). IsLineRead line known middle taken) c.if-not-branch.false c.in_ok-take_line.ensures.line in
    let opening = subst (λ (first : List ℕ). opens first ≡ Some Csv) c.line.ensures (subst (λ (opened : Bool). IsOpening c.line.result.now opened) c.if-branch.true c.in_ok-is_opening.ensures.opening) in
    if_err_map c.take_header.result _ _ c.take_header.ensures.cause (λ fault cause. wrong_then names known left c.take_header.new.lines line middle fault stands opening cause)

-- ---- without one

pub returns-else-branch-clause-heading : goal.returns-else-branch-clause-heading
returns-else-branch-clause-heading g c =
    let R = g.R.Read.remaining in
    let names = names_of c.args.names in
    let known = text_left R c.args.lines.now in
    let left = text_left R c.take_line.new.lines in
    let line = c.take_line.new.lines.line.items in
    let stands = subst (λ (taken : Bool). IsLineRead line known left taken) c.if-not-branch.false c.in_ok-take_line.ensures.line in
    let none = subst (λ (first : List ℕ). opens first ≡ None) c.line.ensures (subst (λ (opened : Bool). IsOpening c.line.result.now opened) c.if-branch.false c.in_ok-is_opening.ensures.opening) in
    if_ok_map c.heading_of.result _ _ c.heading_of.ensures.heading (λ heading heads.
    (line ∷ [], (inl (none, subst (λ (header : List ℕ). Heads names false header heading) c.line-else-branch.ensures heads), stands)))

pub returns-else-branch-clause-cause : goal.returns-else-branch-clause-cause
returns-else-branch-clause-cause g c =
    let R = g.R.Read.remaining in
    let names = names_of c.args.names in
    let known = text_left R c.args.lines.now in
    let left = text_left R c.take_line.new.lines in
    let line = c.take_line.new.lines.line.items in
    let stands = subst (λ (taken : Bool). IsLineRead line known left taken) c.if-not-branch.false c.in_ok-take_line.ensures.line in
    let none = subst (λ (first : List ℕ). opens first ≡ None) c.line.ensures (subst (λ (opened : Bool). IsOpening c.line.result.now opened) c.if-branch.false c.in_ok-is_opening.ensures.opening) in
    if_err_map c.heading_of.result _ _ c.heading_of.ensures.cause (λ fault cause.
    wrong_first names known left c.take_line.new.lines line fault stands none (subst (λ (header : List ℕ). IsHeadCause names header fault) c.line-else-branch.ensures cause))
