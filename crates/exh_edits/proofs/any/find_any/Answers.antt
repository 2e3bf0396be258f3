use Rattle.std.proofs.Common.{ℕ, List, Option, inl, inr, sym, ◌∙◌, subst}
use Rattle.std.proofs.lemmas.Bool.{false≢true}
use Rattle.std.proofs.lemmas.Result.{IfErr-weaker, IfOk-weaker}
use Rattle.exh_format.specs.FileVersion.{version_of}
use Rattle.exh_direct.specs.DirectAnswer.{Finds, Refuses}
use Rattle.exh_edits.specs.AnyAnswer.{SaysPlaced, SaysPlain}
use Rattle.exh_edits.specs.PlacedAnswer.{FindsPlaced, RefusesPlaced}
use Rattle.exh_edits.proofs.AnyVersion.{block_says_placed, block_says_plain, cut_legal, placed_says, plain_says, zero_once}
use Rattle.exh_edits.proofs.Few.{zero_few}
use Rattle.exh_edits.proofs.any.find_any.Goals as goal

pub returns-in_err-read_block-clause-once : goal.returns-in_err-read_block-clause-once
returns-in_err-read_block-clause-once g c = zero_once _ _ c.in_err-read_block.ensures.may_read

pub returns-in_err-read_block-clause-few : goal.returns-in_err-read_block-clause-few
returns-in_err-read_block-clause-few g c bytes knows says = zero_few _ _ c.in_err-read_block.ensures.may_read

pub returns-in_err-read_block-clause-legal : goal.returns-in_err-read_block-clause-legal
returns-in_err-read_block-clause-legal g c = cut_legal _ _ _ _ c.in_err-read_block.field-0.0 _ c.from_residual.ensures.1 c.in_err-read_block.ensures.err

pub find-requires-clause-whole : goal.find-requires-clause-whole
find-requires-clause-whole g c = c.count-count.ensures.count ∙ sym c.in_ok-read_block.ensures.same_count

pub returns-then-is_placed-clause-found : goal.returns-then-is_placed-clause-found
returns-then-is_placed-clause-found g c =
    let says : SaysPlaced (g.B.Blocks.known c.args.blocks.now) = block_says_placed _ c.read_block.new.block c.in_ok-read_block.ensures.block (c.is_placed.ensures.0 c.if-is_placed.true) in
    let old = g.B.Blocks.reads c.args.blocks.now in
    let new = g.B.Blocks.reads c.find_placed.new.blocks in
    IfOk-weaker c.find_placed.result _ _ (λ value found. inl (says, subst (λ (known : Option (List ℕ)). FindsPlaced known c.args.key.now old new value) c.in_ok-read_block.ensures.same_bytes found)) (c.find_placed.ensures.found old c.in_ok-read_block.ensures.one_read)

pub returns-then-is_placed-clause-refused : goal.returns-then-is_placed-clause-refused
returns-then-is_placed-clause-refused g c =
    let says : SaysPlaced (g.B.Blocks.known c.args.blocks.now) = block_says_placed _ c.read_block.new.block c.in_ok-read_block.ensures.block (c.is_placed.ensures.0 c.if-is_placed.true) in
    let old = g.B.Blocks.reads c.args.blocks.now in
    let new = g.B.Blocks.reads c.find_placed.new.blocks in
    IfErr-weaker c.find_placed.result _ _ (λ fault fails. inl (says, subst (λ (known : Option (List ℕ)). RefusesPlaced known c.args.key.now old new fault) c.in_ok-read_block.ensures.same_bytes fails)) (c.find_placed.ensures.refused old c.in_ok-read_block.ensures.one_read)

pub returns-then-is_placed-clause-legal : goal.returns-then-is_placed-clause-legal
returns-then-is_placed-clause-legal g c =
    let says : SaysPlaced (g.B.Blocks.known c.args.blocks.now) = block_says_placed _ c.read_block.new.block c.in_ok-read_block.ensures.block (c.is_placed.ensures.0 c.if-is_placed.true) in
    record {
      plain = λ file bytes knows small legal. absurd (plain_says (version_of bytes) file bytes legal.is (subst SaysPlaced knows says));
      placed = λ file tables bytes knows small legal. c.find_placed.ensures.legal _ c.in_ok-read_block.ensures.one_read file tables bytes (c.in_ok-read_block.ensures.same_bytes ∙ knows) small legal;
    }

pub returns-else-is_placed-clause-found : goal.returns-else-is_placed-clause-found
returns-else-is_placed-clause-found g c =
    let known = g.B.Blocks.known c.args.blocks.now in
    let says : SaysPlain known = block_says_plain _ c.read_block.new.block c.in_ok-read_block.ensures.block (λ is. false≢true (sym c.if-is_placed.false ∙ c.is_placed.ensures.1 is)) in
    let old = g.B.Blocks.reads c.args.blocks.now in
    let new = g.B.Blocks.reads c.find.new.blocks in
    IfOk-weaker c.find.result _ _ (λ value found. inr (
      says,
      subst (λ (whole : ℕ). Finds known whole c.args.key.now old new value) c.in_ok-read_block.ensures.same_count
          (subst (λ (known : Option (List ℕ)). Finds known (g.B.Blocks.whole c.read_block.new.blocks) c.args.key.now old new value) c.in_ok-read_block.ensures.same_bytes found),
    )) (c.find.ensures.found old c.in_ok-read_block.ensures.one_read)

pub returns-else-is_placed-clause-refused : goal.returns-else-is_placed-clause-refused
returns-else-is_placed-clause-refused g c =
    let known = g.B.Blocks.known c.args.blocks.now in
    let says : SaysPlain known = block_says_plain _ c.read_block.new.block c.in_ok-read_block.ensures.block (λ is. false≢true (sym c.if-is_placed.false ∙ c.is_placed.ensures.1 is)) in
    let old = g.B.Blocks.reads c.args.blocks.now in
    let new = g.B.Blocks.reads c.find.new.blocks in
    IfErr-weaker c.find.result _ _ (λ fault fails. inr (
      says,
      subst (λ (whole : ℕ). Refuses known whole c.args.key.now old new fault) c.in_ok-read_block.ensures.same_count
          (subst (λ (known : Option (List ℕ)). Refuses known (g.B.Blocks.whole c.read_block.new.blocks) c.args.key.now old new fault) c.in_ok-read_block.ensures.same_bytes fails),
    )) (c.find.ensures.refused old c.in_ok-read_block.ensures.one_read)

pub returns-else-is_placed-clause-few : goal.returns-else-is_placed-clause-few
returns-else-is_placed-clause-few g c bytes knows says =
    let plain : SaysPlain (g.B.Blocks.known c.args.blocks.now) = block_says_plain _ c.read_block.new.block c.in_ok-read_block.ensures.block (λ is. false≢true (sym c.if-is_placed.false ∙ c.is_placed.ensures.1 is)) in
    absurd (subst SaysPlain knows plain says)

pub returns-else-is_placed-clause-legal : goal.returns-else-is_placed-clause-legal
returns-else-is_placed-clause-legal g c =
    let says : SaysPlain (g.B.Blocks.known c.args.blocks.now) = block_says_plain _ c.read_block.new.block c.in_ok-read_block.ensures.block (λ is. false≢true (sym c.if-is_placed.false ∙ c.is_placed.ensures.1 is)) in
    record {
      plain = λ file bytes knows small legal. c.find.ensures.every _ c.in_ok-read_block.ensures.one_read file bytes (c.in_ok-read_block.ensures.same_bytes ∙ knows) small legal;
      placed = λ file tables bytes knows small legal. absurd (subst SaysPlain knows says (placed_says file bytes legal.is));
    }
