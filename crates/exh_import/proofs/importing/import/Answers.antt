use Rattle.std.proofs.Common.{◌≡◌, refl, sym, ◌∙◌, subst, length, true}
use Rattle.exh_import.specs.declared.taking.Taking.{Taking}
use Rattle.exh_import.specs.Causes.{IsCause}
use Rattle.exh_import.specs.Counting.{starts}
use Rattle.exh_import.specs.Imports.{Point, TakesLine}
use Rattle.exh_import.specs.LineReader.{text_left}
use Rattle.exh_import.proofs.Ends.{err_as, next_cause}
use Rattle.exh_import.proofs.Texts.{IsAmid, IsWhole, amid_more, amid_none, if_ok_map, whole_start, whole_step}
use Rattle.exh_import.proofs.Puts.{imports_put}
use Rattle.exh_import.proofs.importing.import.Goals as goal

pub lines-init : goal.lines-init
lines-init g c =
    let G = g.S.ImportedStore.gives in
    let V = g.S.ImportedStore.saves in
    let W = g.S.ImportedStore.rests in
    let T = g.L.Rejects.told in
    let R = g.R.Read.remaining in
    let known = text_left R c.args.lines.now in
    let start : Point g.row.S.Denot g.row.L.Denot = record { taking = starts c.args.options.now; store = c.args.store.now; listener = c.args.listener.now } in
    let now = c.is_over.new.self in
    let kept = c.in_ok-is_over.ensures.text in
    record {
      same_reader = c.in_ok-is_over.ensures.same_reader;
      ends = c.in_ok-is_over.ensures.ends;
      over = λ is. subst (λ (t : Taking). IsWhole G V W T c.args.options.now.format R known start true (record { taking = t; store = c.args.store.now; listener = c.args.listener.now })) (sym c.new-taking.ensures) (whole_start G V W T c.args.options.now.format R known start now kept c.in_ok-is_over.ensures.ends (c.in_ok-is_over.ensures.over is));
      amid = λ is. (
        c.in_ok-is_over.ensures.some is,
        subst (λ (t : Taking). (amid : IsAmid G V W T c.args.options.now.format R known start now (record { taking = t; store = c.args.store.now; listener = c.args.listener.now })) × (length amid.front ≡ 0)) (sym c.new-taking.ensures) (amid_none G V W T c.args.options.now.format R known start now kept),
      );
    }

pub returns-then-is_over-clause-imports : goal.returns-then-is_over-clause-imports
returns-then-is_over-clause-imports g c =
    let whole = c.lines.invariant.over c.if-is_over.true in
    if_ok_map c.finish.result _ _ c.finish.ensures.finished (λ imported finishes.
    (whole.lines, (c.lines.has_newline, (whole.text, (whole.ends, record { next = record { taking = c.lines.taking; store = c.lines.store; listener = c.lines.listener }; takes = whole.takes; finishes = finishes; listener_is = refl })))))

pub returns-then-is_over-clause-pairs : goal.returns-then-is_over-clause-pairs
returns-then-is_over-clause-pairs g c =
    let whole = c.lines.invariant.over c.if-is_over.true in
    if_ok_map c.finish.result _ _ c.finish.ensures.finished (λ imported finishes. (
      whole.lines,
      (
        whole.text,
        imports_put g.S.ImportedStore.gives g.S.ImportedStore.saves g.S.ImportedStore.rests g.L.Rejects.told c.args.options.now c.args.store.now c.args.listener.now c.lines.has_newline whole.lines imported c.finish.new.store c.lines.listener
            (record { next = record { taking = c.lines.taking; store = c.lines.store; listener = c.lines.listener }; takes = whole.takes; finishes = finishes; listener_is = refl }),
      ),
    ))

pub returns-then-is_over-2-clause-imports : goal.returns-then-is_over-2-clause-imports
returns-then-is_over-2-clause-imports g c =
    let whole = c.lines.invariant.over c.if-is_over-2.true in
    if_ok_map c.finish-then-is_over-2.result _ _ c.finish-then-is_over-2.ensures.finished (λ imported finishes.
    (whole.lines, (c.lines.has_newline, (whole.text, (whole.ends, record { next = record { taking = c.lines.taking; store = c.lines.store; listener = c.lines.listener }; takes = whole.takes; finishes = finishes; listener_is = refl })))))

pub returns-then-is_over-2-clause-pairs : goal.returns-then-is_over-2-clause-pairs
returns-then-is_over-2-clause-pairs g c =
    let whole = c.lines.invariant.over c.if-is_over-2.true in
    if_ok_map c.finish-then-is_over-2.result _ _ c.finish-then-is_over-2.ensures.finished (λ imported finishes. (
      whole.lines,
      (
        whole.text,
        imports_put g.S.ImportedStore.gives g.S.ImportedStore.saves g.S.ImportedStore.rests g.L.Rejects.told c.args.options.now c.args.store.now c.args.listener.now c.lines.has_newline whole.lines imported c.finish-then-is_over-2.new.store c.lines.listener
            (record { next = record { taking = c.lines.taking; store = c.lines.store; listener = c.lines.listener }; takes = whole.takes; finishes = finishes; listener_is = refl }),
      ),
    ))

-- why the next line ended it
pub returns-in_err-is_over-2-clause-cause : goal.returns-in_err-is_over-2-clause-cause
returns-in_err-is_over-2-clause-cause g c =
    let F = g.S.ImportedStore.refused in
    let R = g.R.Read.remaining in
    let known = text_left R c.args.lines.now in
    let new = c.take_next.new.lines in
    let store = c.take_next.new.store in
    let fault = c.in_err-is_over-2.field-0.0 in
    let now : Point g.row.S.Denot g.row.L.Denot = record { taking = c.lines.taking; store = c.lines.store; listener = c.lines.listener } in
    err_as c.from_residual-in_err-is_over-2.result fault (IsCause F c.args.options.now known new store) c.from_residual-in_err-is_over-2.ensures.1
    (next_cause g.S.ImportedStore.gives g.S.ImportedStore.saves g.S.ImportedStore.rests F g.L.Rejects.told R known c.args.options.now c.args.store.now c.args.listener.now c.lines.lines new now store fault
    (c.lines.invariant.amid c.if-is_over.false).1.0 c.in_err-is_over-2.ensures.cause)

pub take_next-requires-clause-ends : goal.take_next-requires-clause-ends
take_next-requires-clause-ends g c = c.lines.invariant.ends

pub take_next-requires-clause-some : goal.take_next-requires-clause-some
take_next-requires-clause-some g c = (c.lines.invariant.amid c.if-is_over.false).0

pub lines-preserved : goal.lines-preserved
lines-preserved g c =
    let G = g.S.ImportedStore.gives in
    let V = g.S.ImportedStore.saves in
    let W = g.S.ImportedStore.rests in
    let T = g.L.Rejects.told in
    let R = g.R.Read.remaining in
    let known = text_left R c.args.lines.now in
    let start : Point g.row.S.Denot g.row.L.Denot = record { taking = starts c.args.options.now; store = c.args.store.now; listener = c.args.listener.now } in
    let old = c.lines.lines in
    let new = c.take_next.new.lines in
    let now : Point g.row.S.Denot g.row.L.Denot = record { taking = c.lines.taking; store = c.lines.store; listener = c.lines.listener } in
    let next : Point g.row.S.Denot g.row.L.Denot = record { taking = c.take_next.new.taking; store = c.take_next.new.store; listener = c.take_next.new.listener } in
    let amid = (c.lines.invariant.amid c.if-is_over.false).1.0 in
    let told = c.in_ok-is_over-2.ensures in
    record {
      same_reader = told.same_reader ∙ c.lines.invariant.same_reader;
      ends = told.ends;
      over = λ is. subst (λ b. IsWhole G V W T c.args.options.now.format R known start b next) (sym c.is_whole-has_newline.ensures) (whole_step G V W T c.args.options.now.format R known start new.is_whole old new now next amid told.next told.whole told.ends (told.over is) (subst (λ b. TakesLine G V W T b new.line.items now next) is told.taken));
      amid = λ is. (
        told.some is,
        amid_more G V W T c.args.options.now.format R known start old new now next amid c.lines._line (c.lines.invariant.amid c.if-is_over.false).1.1 told.next (λ over. told.some is over.taken) (subst (λ b. TakesLine G V W T b new.line.items now next) is told.taken),
      );
    }
