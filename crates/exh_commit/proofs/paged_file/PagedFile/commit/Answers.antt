use Rattle.std.proofs.Common.{◌≡◌, List, [], refl, sym, ◌∙◌, ap, inl}
use Rattle.std.proofs.lemmas.Bool.{eqb-true}
use Rattle.std.proofs.lemmas.List.{nil_from_length}
use Rattle.exh_edits.specs.declared.block_edit.BlockEdit.{BlockEdit}
use Rattle.exh_edits.specs.BlockEdits.{with_edits}
use Rattle.exh_commit.specs.PagedFile.{IsOldOrEdited, bytes_seen}
use Rattle.exh_commit.proofs.ImageLemmas.{ready_leaves}
use Rattle.exh_commit.proofs.paged_file.PagedFile.commit.Goals as goal

pub returns-then-is_empty-clause-saved : goal.returns-then-is_empty-clause-saved
returns-then-is_empty-clause-saved g c =
    let old = c.args.self.now in
    let none : c.args.edits.now ≡ [] = nil_from_length c.args.edits.now (eqb-true _ _ (sym c.is_empty.ensures ∙ c.if-is_empty.true)) in
    ready_leaves old.pager (λ bytes. bytes ≡ with_edits c.args.edits.now (bytes_seen old.pager)) c.requires old.sized old.seen g.met.D.Disk.seen_may_stay
    (λ is_open. sym (ap (λ (edits : List BlockEdit). with_edits edits (bytes_seen old.pager)) none))

pub returns-then-is_empty-clause-crash : goal.returns-then-is_empty-clause-crash
returns-then-is_empty-clause-crash g c =
    let old = c.args.self.now in
    ready_leaves old.pager (IsOldOrEdited c.args.edits.now (bytes_seen old.pager)) c.requires old.sized old.seen g.met.D.Disk.seen_may_stay (λ is_open. inl refl)
