use Rattle.std.proofs.Common.{◌≡◌, leb, length, sym, ap, ◌∙◌, subst, arith}
use Rattle.std.proofs.lemmas.Bool.{false≢true}
use Rattle.exh_keyer.specs.Pseudokey.{any_pseudokey}
use Rattle.exh_calls.specs.Call.{key_of}
use Rattle.exh_cells.specs.declared.stamped_header.StampedHeader.{StampedHeader}
use Rattle.exh_page.specs.declared.page.Page.{Page}
use Rattle.exh_page.specs.Page.{IsWellFormed, records_of, with_records}
use Rattle.exh_edits.specs.PlacedEdits.{with_page}
use Rattle.exh_change.specs.PlacedSteps.{is_full, page_after}
use Rattle.exh_change.specs.PageAnswer.{records_after, reply_by}
use Rattle.exh_change.specs.declared.draft.Draft.{Draft}
use Rattle.exh_change.specs.Changes.{AreCounted}
use Rattle.exh_change.specs.Leaves.{leaf_of}
use Rattle.exh_change.proofs.Answered.{get_keeps, kept_page}
use Rattle.exh_change.proofs.EditPlaces.{count_page, count_same}
use Rattle.exh_change.proofs.LeafLemmas.{same_leaf}
use Rattle.exh_change.specs.Drafts.{IsOf, pseudo_in}
use Rattle.exh_change.proofs.Formed.{answered_formed_at, room_below}
use Rattle.exh_change.proofs.changing.answer_at.Goals as goal
use Rattle.exh_change.proofs.changing.answer_at.Goals.{then-changes+in_ok-put_page, else-changes}

pub put_page-requires-clause-formed : goal.put_page-requires-clause-formed
put_page-requires-clause-formed c =
    let page = c.args.home.now.page in
    subst (IsWellFormed (pseudo_in c.args.draft.now)) (sym c.in_ok-reply.ensures.page)
    (answered_formed_at (pseudo_in c.args.draft.now) page c.args.call.now (leb c.from.result c.record_count.result) c.args.pseudokey c.requires.hashed c.requires.home.formed c.requires.home.own
    (room_below c.from.result c.record_count.result (length (records_of page)) (omega (arith, c.from.ensures, c.requires.sound.header.plain.few)) c.record_count.ensures))

pub returns-clause-formed : goal.returns-clause-formed
returns-clause-formed c =
    let page = c.args.home.now.page in
    subst (IsWellFormed (pseudo_in c.args.draft.now)) (sym c.in_ok-reply.ensures.page)
    (answered_formed_at (pseudo_in c.args.draft.now) page c.args.call.now (leb c.from.result c.record_count.result) c.args.pseudokey c.requires.hashed c.requires.home.formed c.requires.home.own
    (room_below c.from.result c.record_count.result (length (records_of page)) (omega (arith, c.from.ensures, c.requires.sound.header.plain.few)) c.record_count.ensures))

pub returns-clause-answered : goal.returns-clause-answered
returns-clause-answered c base file is =
    let page = c.args.home.now.page in
    let call = c.args.call.now in
    let cap : c.from.result ≡ file.header.settings.cap = c.from.ensures ∙ ap (λ (header : StampedHeader). header.settings.cap) is.header in
    let count = c.record_count.ensures in
    let full : leb c.from.result c.record_count.result ≡ is_full file page = (λ i. leb (cap i) (count i)) in
    let key : c.args.pseudokey ≡ any_pseudokey file.header.settings.keyer (key_of call) = c.requires.hashed ∙ ap (λ (header : StampedHeader). any_pseudokey header.settings.keyer (key_of call)) is.header in
    let after : with_records (records_after (leb c.from.result c.record_count.result) c.args.pseudokey call (records_of page)) page ≡ page_after file call page = (λ i. with_records (records_after (full i) (key i) call (records_of page)) page) in
    let new : c.answer.new.page ≡ page_after file call page = c.in_ok-reply.ensures.page ∙ after in
    record {
      reply_is = c.in_ok-reply.ensures.reply ∙ (λ i. reply_by (full i) (key i) call page);
      kept = λ none. sym after ∙ kept_page page call (leb c.from.result c.record_count.result) c.args.pseudokey (c.in_ok-reply.ensures.kept none);
      made = λ yes. elim c.if-changes.branch [
        | then-changes+in_ok-put_page w ↦ subst (λ (draft : Draft). IsOf base draft (with_page c.args.home.now.place (page_after file call page) file)) (sym w.draft-is)
            (subst (λ (page : Page). IsOf base w.put_page.new.draft (with_page c.args.home.now.place page file)) new (w.in_ok-put_page.ensures.is base file is))
        | else-changes w ↦ absurd (false≢true (sym w.if-changes.false ∙ yes))
      ];
    }

pub returns-clause-leaf : goal.returns-clause-leaf
returns-clause-leaf c = ap leaf_of c.in_ok-reply.ensures.page ∙ same_leaf _ c.args.home.now.page

pub returns-clause-got : goal.returns-clause-got
returns-clause-got c key get changes = c.in_ok-reply.ensures.changed changes (get_keeps c.args.call.now key get (leb c.from.result c.record_count.result) c.args.pseudokey (records_of c.args.home.now.page))

pub returns-clause-counted : goal.returns-clause-counted
returns-clause-counted c digits counted =
    let home = c.args.home.now in
    let page = c.answer.new.page in
    elim c.if-changes.branch [
      | then-changes+in_ok-put_page w ↦ subst (λ (draft : Draft). AreCounted draft (record { place = home.place; page = page }) digits) (sym w.draft-is) (count_page c.args.draft.now w.put_page.new.draft home page digits w.in_ok-put_page.ensures.more counted)
      | else-changes w ↦ subst (λ (draft : Draft). AreCounted draft (record { place = home.place; page = page }) digits) (sym w.draft-is) (count_same c.args.draft.now home page digits counted)
    ]
