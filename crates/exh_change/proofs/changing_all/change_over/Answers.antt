use Rattle.std.proofs.Common.{◌≡◌, ◌/◌, nat_eq, true, List, [], length, sym, ap, ◌∙◌}
use Rattle.std.proofs.lemmas.Bool.{eqb-true, false≢true}
use Rattle.std.proofs.lemmas.List.{nil_from_length}
use Rattle.exh_calls.specs.declared.call.Call.{Call}
use Rattle.exh_cells.specs.declared.stamped_header.StampedHeader.{StampedHeader}
use Rattle.exh_change.specs.Overlay.{shown}
use Rattle.exh_change.proofs.Last.{changed_by_all, changed_by_none, none_in_turn, shown_first}
use Rattle.exh_change.proofs.Steps.{other_fault}
use Rattle.exh_change.proofs.changing_all.change_over.Goals as goal

pub returns-in_err-header-clause-legal : goal.returns-in_err-header-clause-legal
returns-in_err-header-clause-legal g c file tables bytes knows small legal =
    let first = shown_first g.K.Under.known c.new-overlay.result.edits.items.items bytes c.new-overlay.ensures knows in
    other_fault c.from_residual.result c.in_err-header.field-0.0 _ c.from_residual.ensures.1 (c.in_err-header.ensures.legal file bytes first legal.is)

pub returns-then-is_empty-clause-turn : goal.returns-then-is_empty-clause-turn
returns-then-is_empty-clause-turn g c bytes knows = none_in_turn (length bytes / 4096) c.unchanged.result.edits.items c.unchanged.ensures.edits

pub returns-then-is_empty-clause-legal : goal.returns-then-is_empty-clause-legal
returns-then-is_empty-clause-legal g c file tables bytes knows small legal =
    let first = shown_first g.K.Under.known c.new-overlay.result.edits.items.items bytes c.new-overlay.ensures knows in
    let none : c.args.calls.now ≡ [] = nil_from_length c.args.calls.now (eqb-true _ _ (sym c.is_empty.ensures ∙ c.if-is_empty.true)) in
    changed_by_none file tables bytes c.args.calls.now c.args.stamp c.in_ok-header.header.stamp c.unchanged.result none (ap (λ (header : StampedHeader). header.stamp) (c.in_ok-header.ensures.legal file bytes first legal.is)) legal
    c.unchanged.ensures.replies c.unchanged.ensures.stamp c.unchanged.ensures.edits

pub returns-clause-none : goal.returns-clause-none
returns-clause-none g c none =
    let empty : c.is_empty.result ≡ true = c.is_empty.ensures ∙ ap (λ (calls : List Call). nat_eq (length calls) 0) none in
    absurd (false≢true (sym c.if-is_empty.false ∙ empty))

pub returns-clause-turn : goal.returns-clause-turn
returns-clause-turn g c bytes knows = c.into_edits.ensures.turn bytes knows

pub returns-in_err-replies-clause-legal : goal.returns-in_err-replies-clause-legal
returns-in_err-replies-clause-legal g c file tables bytes knows small legal =
    let first = shown_first g.K.Under.known c.new-overlay.result.edits.items.items bytes c.new-overlay.ensures knows in
    other_fault c.from_residual-in_err-replies.result c.in_err-replies.field-0.0 _ c.from_residual-in_err-replies.ensures.1 (c.in_err-replies.ensures.legal file tables bytes (c.in_ok-header.ensures.same_bytes ∙ first) small legal)

pub returns-in_err-now-clause-legal : goal.returns-in_err-now-clause-legal
returns-in_err-now-clause-legal g c file tables bytes knows small legal =
    let first = shown_first g.K.Under.known c.new-overlay.result.edits.items.items bytes c.new-overlay.ensures knows in
    let answered = c.in_ok-replies.ensures.legal file tables bytes (c.in_ok-header.ensures.same_bytes ∙ first) small legal in
    let reached = answered.0 in
    other_fault c.from_residual-in_err-now.result c.in_err-now.field-0.0 _ c.from_residual-in_err-now.ensures.1 (c.in_err-now.ensures.legal reached.new reached.tables reached.bytes reached.is reached.legal)

pub returns-clause-legal : goal.returns-clause-legal
returns-clause-legal g c file tables bytes knows small legal =
    let first = shown_first g.K.Under.known c.new-overlay.result.edits.items.items bytes c.new-overlay.ensures knows in
    let header = c.in_ok-header.ensures.legal file bytes first legal.is in
    let answered = c.in_ok-replies.ensures.legal file tables bytes (c.in_ok-header.ensures.same_bytes ∙ first) small legal in
    let reached = answered.0 in
    let last = c.in_ok-now.ensures.legal reached.new reached.tables reached.bytes reached.is reached.legal in
    changed_by_all file bytes c.args.calls.now c.args.stamp c.in_ok-header.header.stamp g.K.Under.known (shown g.K.Under.known c.answer_all.new.overlay.edits.items.items) c.restamp.new.overlay.edits.items.items
    (record { replies = c.in_ok-replies.replies; stamp = c.in_ok-now.now; edits = c.into_edits.result }) knows reached (ap (λ (header : StampedHeader). header.stamp) header) last c.into_edits.ensures.is answered.1
