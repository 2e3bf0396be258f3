use Rattle.std.proofs.Common.{◌≡◌, ◌<◌, length, slice_get, Some, refl, sym, ◌∙◌, subst}
use Rattle.std.proofs.lemmas.Option.{slice_get_read}
use Rattle.exh_array.specs.Sent.{GoBack, IsBefore, unpacked}
use Rattle.exh_array.proofs.Unpacked.{before_more, lower, next_up_to, IsNextUpTo}
use Rattle.exh_array.proofs.sent_tables.SentTables.note_back.Goals as goal

pub returns-in_err-note-clause-known : goal.returns-in_err-note-clause-known
returns-in_err-note-clause-known c start own known up = c.note.ensures.known (unpacked start c.args.self.now) own known up

pub returns-then-not-branch-clause-known : goal.returns-then-not-branch-clause-known
returns-then-not-branch-clause-known c start own known up = c.note.ensures.known (unpacked start c.args.self.now) own known up

-- the table at the place
first : (c : goal.After-next-1) → slice_get c.args.self.now c.args.place ≡ Some c.index.result.now
first c =
    subst (λ list. slice_get list c.args.place ≡ Some c.index.result.now) c.self.view_is
    (slice_get_read _ _ c.args.place c.index.result.now refl (subst (λ list. c.args.place < length list) (sym c.self.view_is) c.requires) c.index.ensures)

pub loop-next-init : goal.loop-next-init
loop-next-init c =
    let sent = c.args.self.now in
    let back = subst GoBack c.self.view_is c.self.invariant in
    let at = first c in record {
      within = before_more c.args.place (length sent) c.index.result.now.since (back c.args.place c.index.result.now at) c.requires;
      known = λ start own known up. c.note.ensures.known (unpacked start sent) own known up;
      next = λ start own up. next_up_to start sent back c.args.place c.index.result.now at own c.requires up;
      noted = c.in_ok-note.ensures.noted;
      back = c.note.ensures.back;
    }

pub returns-in_err-note-2-clause-known : goal.returns-in_err-note-2-clause-known
returns-in_err-note-2-clause-known c start own known up =
    let sent = unpacked start c.args.self.now in
    c.note-in-Some.ensures.known sent own (c.loop-next.invariant.known start own known up) (subst (IsNextUpTo sent own) c.in-Some.is (c.loop-next.invariant.next start own up))

pub returns-then-not-branch-2-clause-known : goal.returns-then-not-branch-2-clause-known
returns-then-not-branch-2-clause-known c start own known up =
    let sent = unpacked start c.args.self.now in
    c.note-in-Some.ensures.known sent own (c.loop-next.invariant.known start own known up) (subst (IsNextUpTo sent own) c.in-Some.is (c.loop-next.invariant.next start own up))

-- the table at the place where the loop is
here : (c : goal.After-next-in-Some-1) → (c.in-Some.at < length c.args.self.now) × (slice_get c.args.self.now c.in-Some.at ≡ Some c.index-in-Some.result.now)
here c =
    let within : c.in-Some.at < length c.args.self.now = subst (IsBefore (length c.args.self.now)) c.in-Some.is c.loop-next.invariant.within in (
      within,
      subst (λ list. slice_get list c.in-Some.at ≡ Some c.index-in-Some.result.now) c.self.view_is
          (slice_get_read _ _ c.in-Some.at c.index-in-Some.result.now refl (subst (λ list. c.in-Some.at < length list) (sym c.self.view_is) within) c.index-in-Some.ensures),
    )

pub loop-next-preserved : goal.loop-next-preserved
loop-next-preserved c =
    let sent = c.args.self.now in
    let back = subst GoBack c.self.view_is c.self.invariant in
    let at = here c in record {
      within = before_more c.in-Some.at (length sent) c.index-in-Some.result.now.since (back c.in-Some.at c.index-in-Some.result.now at.1) at.0;
      known = λ start own known up.
          c.note-in-Some.ensures.known (unpacked start sent) own (c.loop-next.invariant.known start own known up) (subst (IsNextUpTo (unpacked start sent) own) c.in-Some.is (c.loop-next.invariant.next start own up));
      next = λ start own up. next_up_to start sent back c.in-Some.at c.index-in-Some.result.now at.1 own at.0 (subst (IsNextUpTo (unpacked start sent) own) c.in-Some.is (c.loop-next.invariant.next start own up));
      noted = c.note-in-Some.ensures.kept c.args.place c.loop-next.invariant.noted;
      back = c.note-in-Some.ensures.back ∙ c.loop-next.invariant.back;
    }

pub loop-next-smaller : goal.loop-next-smaller
loop-next-smaller c =
    let back = subst GoBack c.self.view_is c.self.invariant in
    lower c.in-Some.at c.index-in-Some.result.now.since c.loop-next.next c.in-Some.is (back c.in-Some.at c.index-in-Some.result.now (here c).1)
