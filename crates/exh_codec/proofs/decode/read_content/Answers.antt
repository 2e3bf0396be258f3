use Rattle.exh_page.specs.Layout.{layout}
use Rattle.exh_codec.proofs.LowBytes.{known_fits}
use Rattle.std.proofs.Common.{ℕ, ◌+◌, List, slice_range, sym, ◌∙◌, subst, map}
use Rattle.std.proofs.lemmas.Bool.{false≢true}
use Rattle.exh_codec.specs.Block.{AreZero}
use Rattle.exh_codec.specs.Cells.{pair_in}
use Rattle.exh_codec.specs.declared.cell.Cell.{Cell}
use Rattle.exh_codec.specs.ImageTests.{IsPaddedPage}
use Rattle.exh_codec.specs.ReadPages.{GivesLive}
use Rattle.exh_codec.proofs.ReadBack.{IsReadBlock, kind_first, length_first, padding_first, padding_read, body_cells, live_gives, forward_gives}
use Rattle.exh_codec.proofs.decode.read_content.Goals as goal
use Rattle.exh_codec.proofs.decode.read_content.Goals.{then-block-ne0-via-then-block-ne0, then-block-ne0-via-else-block-ne0+then-not-are_zero, then-block-ne0-via-else-block-ne0+else-not-are_zero+then-not-are_zero-2}

pub returns-in_default : goal.returns-in_default
returns-in_default g c = kind_first (layout c.args.version) (known_fits c.args.version) (g.K.Keyer.pseudokey_of c.args.keyer.now) c.args.block.now c.in_default.ensures.none

pub returns-in_default-cells_of : goal.returns-in_default-cells_of
returns-in_default-cells_of g c =
    length_first (layout c.args.version) (known_fits c.args.version) (g.K.Keyer.pseudokey_of c.args.keyer.now) c.args.block.now c.in-Some.head c.in-Some.ensures.some c.in_default-cells_of.ensures.none

pub returns-then-block-ne0 : goal.returns-then-block-ne0
returns-then-block-ne0 g c =
    let block = c.args.block.now in
    let pairs = map pair_in c.in-Some-cells_of.cells.items in
    let rest = c.in-Some-cells_of.rest.now in
    let said = c.in-Some-cells_of.ensures in
    let cells = body_cells (layout c.args.version) (known_fits c.args.version) block c.in-Some.head pairs rest c.in-Some.ensures.some said.cells in
    let fails : IsPaddedPage (layout c.args.version) block → ⊥ = λ padded. elim c.then-block-ne0.branch [
      | then-block-ne0-via-then-block-ne0 w ↦ w.if-block-ne0.true padded.fourth
      | then-block-ne0-via-else-block-ne0+then-not-are_zero w ↦ let zero = w.are_zero.ensures.1 (subst (λ (n : ℕ). AreZero (slice_range block (8 + n) 16)) (sym c.bytes-low_end.ensures.bytes) padded.head) in absurd (false≢true (sym w.if-not-are_zero.true ∙ zero))
      | then-block-ne0-via-else-block-ne0+else-not-are_zero+then-not-are_zero-2 w ↦
          let zero = w.are_zero-else-not-are_zero.ensures.1 (padded.tail pairs rest cells) in absurd (false≢true (sym w.if-not-are_zero-2.true ∙ zero))
    ] in
    padding_first (layout c.args.version) (known_fits c.args.version) (g.K.Keyer.pseudokey_of c.args.keyer.now) block c.in-Some.head pairs rest c.in-Some.ensures.some said.few said.forward said.cells fails

pub returns-in-Live : goal.returns-in-Live
returns-in-Live g c =
    let block = c.args.block.now in
    let pairs = map pair_in c.in-Some-cells_of.cells.items in
    let rest = c.in-Some-cells_of.rest.now in
    let said = c.in-Some-cells_of.ensures in
    let read : IsReadBlock (layout c.args.version) block c.in-Some.head pairs rest = padding_read (layout c.args.version) (known_fits c.args.version) block c.in-Some.head pairs rest c.told-block c.fits-block c.in-Some.ensures.some said.few said.forward said.cells
    c.if-block-ne0.false (subst (λ (n : ℕ). AreZero (slice_range block (8 + n) 16)) c.bytes-low_end.ensures.bytes (c.are_zero.ensures.0 c.if-not-are_zero.false)) (c.are_zero-else-not-are_zero.ensures.0 c.if-not-are_zero-2.false) in
    live_gives (layout c.args.version) (known_fits c.args.version) (g.K.Keyer.pseudokey_of c.args.keyer.now) block c.in-Some.head pairs rest c.live_page.result read c.in-Live.is
    (subst (λ (cells : List Cell). GivesLive (layout c.args.version) (g.K.Keyer.pseudokey_of c.args.keyer.now) c.in-Some.head (map pair_in cells) c.live_page.result) c.deref.ensures.0 c.live_page.ensures)

pub returns-in-Forward : goal.returns-in-Forward
returns-in-Forward g c =
    let block = c.args.block.now in
    let pairs = map pair_in c.in-Some-cells_of.cells.items in
    let rest = c.in-Some-cells_of.rest.now in
    let said = c.in-Some-cells_of.ensures in
    let read : IsReadBlock (layout c.args.version) block c.in-Some.head pairs rest = padding_read (layout c.args.version) (known_fits c.args.version) block c.in-Some.head pairs rest c.told-block c.fits-block c.in-Some.ensures.some said.few said.forward said.cells
    c.if-block-ne0.false (subst (λ (n : ℕ). AreZero (slice_range block (8 + n) 16)) c.bytes-low_end.ensures.bytes (c.are_zero.ensures.0 c.if-not-are_zero.false)) (c.are_zero-else-not-are_zero.ensures.0 c.if-not-are_zero-2.false) in
    forward_gives (layout c.args.version) (known_fits c.args.version) (g.K.Keyer.pseudokey_of c.args.keyer.now) block c.in-Some.head pairs rest c.forward_page.result read c.in-Forward.is c.forward_page.ensures
