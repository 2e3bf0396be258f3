use Rattle.std.proofs.Common.{◌≡◌, sym, ◌∙◌, subst}
use Rattle.std.specs.List.{AllByRecursion}
use Rattle.std.proofs.lemmas.Bool.{false≢true}
use Rattle.exh_cells.specs.WalkImage.{IsTidy}
use Rattle.exh_cells.proofs.WalkBytes.{says_of, image_from, one_list, first_digest, first_padding}
use Rattle.exh_cells.proofs.walk_image.decode_cells.Goals as goal

pub returns-then-not-is_sealed-clause-every : goal.returns-then-not-is_sealed-clause-every
returns-then-not-is_sealed-clause-every c cells image len =
    absurd (false≢true (sym c.if-not-is_sealed.true ∙ c.is_sealed.ensures.1 (says_of c.args.count cells c.args.block.now image len).is_sealed))

pub returns-then-not-is_sealed-clause-fault : goal.returns-then-not-is_sealed-clause-fault
returns-then-not-is_sealed-clause-fault c _ =
    first_digest c.args.count c.args.block.now (λ is_sealed. absurd (false≢true (sym c.if-not-is_sealed.true ∙ c.is_sealed.ensures.1 is_sealed)))

pub returns-then-not-are_tidy-clause-every : goal.returns-then-not-are_tidy-clause-every
returns-then-not-are_tidy-clause-every c cells image len =
    let said = says_of c.args.count cells c.args.block.now image len in
    let same : cells ≡ c.deref.result.now = one_list c.args.count c.args.block.now cells c.in_ok-cells.cells.items _ _ said.are c.in_ok-cells.ensures ∙ sym c.deref.ensures.value in
    absurd (false≢true (sym c.if-not-are_tidy.true ∙ c.are_tidy.ensures.1 (subst (AllByRecursion IsTidy) same said.tidy)))

pub returns-then-not-are_tidy-clause-fault : goal.returns-then-not-are_tidy-clause-fault
returns-then-not-are_tidy-clause-fault c _ =
    first_padding c.args.count c.args.block.now (c.is_sealed.ensures.0 c.if-not-is_sealed.false)
    (λ padded. absurd (false≢true (sym c.if-not-are_tidy.true ∙ c.are_tidy.ensures.1 (subst (AllByRecursion IsTidy) (sym c.deref.ensures.value) (padded.tidy c.in_ok-cells.cells.items _ c.in_ok-cells.ensures)))))

pub returns-then-not-are_zero-clause-every : goal.returns-then-not-are_zero-clause-every
returns-then-not-are_zero-clause-every c cells image len =
    absurd (false≢true (sym c.if-not-are_zero.true ∙ c.are_zero.ensures.1 (says_of c.args.count cells c.args.block.now image len).behind))

pub returns-then-not-are_zero-clause-fault : goal.returns-then-not-are_zero-clause-fault
returns-then-not-are_zero-clause-fault c _ =
    first_padding c.args.count c.args.block.now (c.is_sealed.ensures.0 c.if-not-is_sealed.false)
    (λ padded. absurd (false≢true (sym c.if-not-are_zero.true ∙ c.are_zero.ensures.1 padded.behind)))

pub returns-clause-image : goal.returns-clause-image
returns-clause-image c =
    image_from c.args.count c.in_ok-cells.cells.items c.args.block.now c.told-block c.requires
    (record {
      is_sealed = c.is_sealed.ensures.0 c.if-not-is_sealed.false;
      are = c.in_ok-cells.ensures;
      tidy = subst (AllByRecursion IsTidy) c.deref.ensures.value (c.are_tidy.ensures.0 c.if-not-are_tidy.false);
      behind = c.are_zero.ensures.0 c.if-not-are_zero.false;
    })

pub returns-clause-every : goal.returns-clause-every
returns-clause-every c cells image len =
    one_list c.args.count c.args.block.now c.in_ok-cells.cells.items cells _ _ c.in_ok-cells.ensures (says_of c.args.count cells c.args.block.now image len).are
