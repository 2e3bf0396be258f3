use Rattle.std.proofs.Common.{◌≡◌, ℕ, false, List, sym, ap, ◌∙◌, subst}
use Rattle.std.proofs.lemmas.Bool.{false≢true}
use Rattle.exh_keyer.specs.Pseudokey.{any_pseudokey}
use Rattle.exh_calls.specs.Call.{key_of}
use Rattle.exh_calls.specs.Effect.{sets_new}
use Rattle.exh_cells.specs.LegalPlaced.{IsLegalPlacedFile}
use Rattle.exh_cells.specs.PlacedFile.{IsPlacedFile}
use Rattle.exh_edits.specs.declared.block_edit.BlockEdit.{BlockEdit}
use Rattle.exh_edits.specs.BlockEdits.{with_edits}
use Rattle.exh_cells.specs.declared.stamped_header.StampedHeader.{StampedHeader}
use Rattle.exh_change.specs.Changes.{prefix_in}
use Rattle.exh_change.specs.Leaves.{IsLeaf}
use Rattle.exh_change.proofs.EditPlaces.{few_by, few_still}
use Rattle.exh_change.proofs.LeafLemmas.{home_is_leaf}
use Rattle.exh_change.proofs.Outcomes.{answered_file, answered_leaf, left_of, outcome, room_of, same_leaves}
use Rattle.exh_change.proofs.Left.{answered_step, kept_map, machines_of, same_reply, settings_kept}
use Rattle.exh_change.proofs.OfFile.{other_fault}
use Rattle.exh_change.proofs.Rooms.{later_more}
use Rattle.exh_change.proofs.changing.change_in.Goals as goal

pub returns-then-not-changes-clause-legal : goal.returns-then-not-changes-clause-legal
returns-then-not-changes-clause-legal g c base file knows is tables none small legal =
    let old = c.args.draft.now in
    let call = c.args.call.now in
    let first = c.in_ok-home.home in
    let home = c.in_ok-home-2.home in
    let pseudokey = c.pseudo-pseudokey.result in
    let placed : IsPlacedFile file base = subst (λ (items : List BlockEdit). IsPlacedFile file (with_edits items base)) none is.is in
    let legal_file : IsLegalPlacedFile file tables base = record { is = placed; legal = legal } in
    let found = c.in_ok-home.ensures.legal file tables base knows small legal_file (sym is.header) in
    let known = c.in_ok-home.ensures.same_bytes ∙ knows in
    let its = room_of base file tables old c.make_room.new.draft pseudokey call first home is legal found c.in_ok-home-2.ensures.still (c.in_ok-home-2.ensures.legal base file known is tables legal found) in
    let room = its.room in
    let between = c.make_room.new.draft in
    let settings = settings_kept base old between file room.new c.in_ok-home-2.ensures.later is room.at.is in
    let hashed : pseudokey ≡ any_pseudokey old.header.settings.keyer (key_of call) = c.pseudo-pseudokey.ensures ∙ ap (any_pseudokey old.header.settings.keyer) (c.as_bytes.ensures.bytes ∙ c.key.ensures) in
    let machines = machines_of c.answers_keep_legal.ensures base old between file call pseudokey home room c.in_ok-home-2.ensures.later is hashed c.in_ok-home-2.ensures.fits in
    let answered = c.in_ok-reply.ensures.answered base room.new room.at.is in
    record {
      reply_is = answered.reply_is ∙ machines.reply ∙ same_reply file room.new call settings room.step.map_is;
      kept = λ no. kept_map file room.new call pseudokey home room.step settings room.at.own machines (answered.kept c.if-not-changes.true);
      left = λ yes. absurd (false≢true yes);
      leaf = (prefix_in first.page, subst (λ (pseudokey : ℕ). IsLeaf file pseudokey (prefix_in first.page)) (hashed ∙ ap (λ (header : StampedHeader). any_pseudokey header.settings.keyer (key_of call)) is.header) (home_is_leaf file pseudokey first found));
    }

pub returns-in_err-settle-clause-legal : goal.returns-in_err-settle-clause-legal
returns-in_err-settle-clause-legal g c base file knows is tables none small legal =
    let old = c.args.draft.now in
    let call = c.args.call.now in
    let first = c.in_ok-home.home in
    let home = c.in_ok-home-2.home in
    let pseudokey = c.pseudo-pseudokey.result in
    let placed : IsPlacedFile file base = subst (λ (items : List BlockEdit). IsPlacedFile file (with_edits items base)) none is.is in
    let legal_file : IsLegalPlacedFile file tables base = record { is = placed; legal = legal } in
    let found = c.in_ok-home.ensures.legal file tables base knows small legal_file (sym is.header) in
    let known = c.in_ok-home.ensures.same_bytes ∙ knows in
    let its = room_of base file tables old c.make_room.new.draft pseudokey call first home is legal found c.in_ok-home-2.ensures.still (c.in_ok-home-2.ensures.legal base file known is tables legal found) in
    let room = its.room in
    let between = c.make_room.new.draft in
    let settings = settings_kept base old between file room.new c.in_ok-home-2.ensures.later is room.at.is in
    let hashed : pseudokey ≡ any_pseudokey old.header.settings.keyer (key_of call) = c.pseudo-pseudokey.ensures ∙ ap (any_pseudokey old.header.settings.keyer) (c.as_bytes.ensures.bytes ∙ c.key.ensures) in
    let machines = machines_of c.answers_keep_legal.ensures base old between file call pseudokey home room c.in_ok-home-2.ensures.later is hashed c.in_ok-home-2.ensures.fits in
    let answered = c.in_ok-reply.ensures.answered base room.new room.at.is in
    let changed = answered_file call home room.new in
    let known_too = c.in_ok-home-2.ensures.same_bytes ∙ known in
    let still = λ (sets : sets_new call ≡ false). same_leaves call home pseudokey file room.new room.at.own (its.same sets) in
    let leaf = answered_leaf call home c.answer_at.new.home pseudokey room.new room.at.own c.in_ok-reply.ensures.place c.in_ok-reply.ensures.leaf in
    other_fault c.from_residual-in_err-settle.result c.in_err-settle.field-0.0 _ c.from_residual-in_err-settle.ensures.1
    (c.in_err-settle.ensures.legal base changed known_too (answered.made c.if-not-changes.false) machines.step.tables file tables machines.step.legal small legal_file still leaf)

pub returns-clause-legal : goal.returns-clause-legal
returns-clause-legal g c base file knows is tables none small legal =
    let old = c.args.draft.now in
    let call = c.args.call.now in
    let first = c.in_ok-home.home in
    let home = c.in_ok-home-2.home in
    let pseudokey = c.pseudo-pseudokey.result in
    let placed : IsPlacedFile file base = subst (λ (items : List BlockEdit). IsPlacedFile file (with_edits items base)) none is.is in
    let legal_file : IsLegalPlacedFile file tables base = record { is = placed; legal = legal } in
    let found = c.in_ok-home.ensures.legal file tables base knows small legal_file (sym is.header) in
    let known = c.in_ok-home.ensures.same_bytes ∙ knows in
    let its = room_of base file tables old c.make_room.new.draft pseudokey call first home is legal found c.in_ok-home-2.ensures.still (c.in_ok-home-2.ensures.legal base file known is tables legal found) in
    let room = its.room in
    let between = c.make_room.new.draft in
    let settings = settings_kept base old between file room.new c.in_ok-home-2.ensures.later is room.at.is in
    let hashed : pseudokey ≡ any_pseudokey old.header.settings.keyer (key_of call) = c.pseudo-pseudokey.ensures ∙ ap (any_pseudokey old.header.settings.keyer) (c.as_bytes.ensures.bytes ∙ c.key.ensures) in
    let machines = machines_of c.answers_keep_legal.ensures base old between file call pseudokey home room c.in_ok-home-2.ensures.later is hashed c.in_ok-home-2.ensures.fits in
    let answered = c.in_ok-reply.ensures.answered base room.new room.at.is in
    let changed = answered_file call home room.new in
    let known_too = c.in_ok-home-2.ensures.same_bytes ∙ known in
    let still = λ (sets : sets_new call ≡ false). same_leaves call home pseudokey file room.new room.at.own (its.same sets) in
    let leaf = answered_leaf call home c.answer_at.new.home pseudokey room.new room.at.own c.in_ok-reply.ensures.place c.in_ok-reply.ensures.leaf in
    let settles = c.in_ok-settle.ensures.legal base changed known_too (answered.made c.if-not-changes.false) machines.step.tables file tables machines.step.legal small legal_file still leaf in
    let later = later_more old c.answer_at.new.draft c.settle.new.draft (later_more old between c.answer_at.new.draft c.in_ok-home-2.ensures.later c.in_ok-reply.ensures.later) c.in_ok-settle.ensures.later in
    let key = hashed ∙ ap (λ (header : StampedHeader). any_pseudokey header.settings.keyer (key_of call)) is.header in
    let grown = c.in_ok-home-2.ensures.grown none in
    let after = c.answer_at.new.home in
    let settled = c.settle.new.draft in
    let last = c.put_stamp.new.draft in
    let unsplit = λ (sets : sets_new call ≡ false). (c.in_ok-home-2.ensures.still sets).1 in
    let most = few_by first home after between c.answer_at.new.draft settled last grown c.in_ok-reply.ensures.counted c.in_ok-settle.ensures.two c.in_ok-put_stamp.ensures.more c.in_ok-put_stamp.ensures.sound call
    (λ other get. c.in_ok-reply.ensures.got other get c.if-not-changes.false) unsplit c.in_ok-settle.ensures.still in
    let unmerged = few_still first home after between c.answer_at.new.draft settled last grown c.in_ok-reply.ensures.counted c.in_ok-settle.ensures.two c.in_ok-put_stamp.ensures.more c.in_ok-put_stamp.ensures.sound in
    record {
      reply_is = answered.reply_is ∙ machines.reply ∙ same_reply file room.new call settings room.step.map_is;
      kept = λ no. absurd (false≢true (sym no));
      left = λ _. left_of c.stamps_keep_legal.ensures base file old between c.answer_at.new.draft settled last call c.args.stamp pseudokey first home after is found key its
          (answered_step file room.new call home.place home.page room.step settings machines) (answered.made c.if-not-changes.false) later c.in_ok-put_stamp.ensures.is
          c.in_ok-reply.ensures.place grown unsplit most unmerged (outcome base changed after.place call c.answer_at.new.draft settled settles c.in_ok-settle.ensures.still);
      leaf = (prefix_in first.page, subst (λ (pseudokey : ℕ). IsLeaf file pseudokey (prefix_in first.page)) key (home_is_leaf file pseudokey first found));
    }

pub returns-clause-few : goal.returns-clause-few
returns-clause-few g c none changes =
    few_by c.in_ok-home.home c.in_ok-home-2.home c.answer_at.new.home c.make_room.new.draft c.answer_at.new.draft c.settle.new.draft c.put_stamp.new.draft (c.in_ok-home-2.ensures.grown none) c.in_ok-reply.ensures.counted c.in_ok-settle.ensures.two c.in_ok-put_stamp.ensures.more c.in_ok-put_stamp.ensures.sound c.args.call.now
    (λ other get. c.in_ok-reply.ensures.got other get c.if-not-changes.false) (λ sets. (c.in_ok-home-2.ensures.still sets).1) c.in_ok-settle.ensures.still
