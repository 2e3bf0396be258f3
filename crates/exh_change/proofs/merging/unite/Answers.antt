use Rattle.std.proofs.Common.{ℕ, List, [], ◌∷◌, sym, subst, arith}
use Rattle.exh_keyer.specs.PseudokeyFits.{any_pseudokey-lt}
use Rattle.exh_page.specs.Page.{IsWellFormed}
use Rattle.exh_change.specs.Drafts.{IsOf, pseudo_in}
use Rattle.exh_cells.specs.Places.{page_block_of}
use Rattle.exh_change.specs.Changes.{EditsMore}
use Rattle.exh_change.proofs.EditPlaces.{two_more}
use Rattle.exh_change.proofs.Formed.{sent_formed, union_formed, union_records}
use Rattle.exh_change.proofs.OfFile.{on_ok}
use Rattle.exh_page.specs.declared.page.Page.{Page}
use Rattle.exh_page.specs.Halves.{union}
use Rattle.exh_cells.specs.PlacedFile.{PlacedFile}
use Rattle.exh_edits.specs.PlacedEdits.{with_page}
use Rattle.exh_change.proofs.merging.unite.Goals as goal

pub union-requires-clause-rising : goal.union-requires-clause-rising
union-requires-clause-rising c =
    (union_records c.buddies_unite.ensures (pseudo_in c.args.draft.now) c.args.parent c.args.page.now c.args.right.now (any_pseudokey-lt c.args.draft.now.header.settings.keyer) c.requires.short c.requires.formed c.requires.right_formed c.requires.left c.requires.right).rising

pub put_page-requires-clause-formed : goal.put_page-requires-clause-formed
put_page-requires-clause-formed c =
    subst (IsWellFormed (pseudo_in c.args.draft.now)) (sym c.in_ok-union.ensures)
    (union_formed (pseudo_in c.args.draft.now) c.args.parent c.args.page.now c.args.right.now
    (union_records c.buddies_unite.ensures (pseudo_in c.args.draft.now) c.args.parent c.args.page.now c.args.right.now (any_pseudokey-lt c.args.draft.now.header.settings.keyer) c.requires.short c.requires.formed c.requires.right_formed c.requires.left c.requires.right)
    c.requires.right_formed c.requires.right (omega (arith, c.requires.few, c.requires.sound.header.plain.few)))

pub put_page-requires-2-clause-formed : goal.put_page-requires-2-clause-formed
put_page-requires-2-clause-formed c =
    subst (IsWellFormed (pseudo_in c.put_page.new.draft)) (sym c.sent_to.ensures) (sent_formed (pseudo_in c.put_page.new.draft) c.args.parent c.args.number c.args.right.now c.requires.short c.requires.right)

pub returns-clause-is : goal.returns-clause-is
returns-clause-is c =
    on_ok c.put_page-2.result _ _
    (λ (put : (base : List ℕ) (file : PlacedFile) → IsOf base c.put_page.new.draft file → IsOf base c.put_page-2.new.draft (with_page c.args.right_place c.sent_to.result file)) (base : List ℕ) (file : PlacedFile) (is : IsOf base c.args.draft.now file).
    subst (λ (page : Page). IsOf base c.put_page-2.new.draft (with_page c.args.right_place page (with_page c.args.place (union c.args.parent c.args.page.now c.args.right.now) file))) c.sent_to.ensures
    (subst (λ (page : Page). IsOf base c.put_page-2.new.draft (with_page c.args.right_place c.sent_to.result (with_page c.args.place page file))) c.in_ok-union.ensures
    (put base (with_page c.args.place c.in_ok-union.union file) (c.in_ok-put_page.ensures.is base file is))))
    c.put_page-2.ensures.is

pub returns-clause-more : goal.returns-clause-more
returns-clause-more c =
    on_ok c.put_page-2.result _ _
    (λ (more : EditsMore (page_block_of c.args.right_place ∷ []) c.put_page.new.draft c.put_page-2.new.draft). two_more (page_block_of c.args.place) (page_block_of c.args.right_place) c.args.draft.now.edits.items.items c.put_page.new.draft.edits.items.items c.put_page-2.new.draft.edits.items.items c.in_ok-put_page.ensures.more more)
    c.put_page-2.ensures.more
