use Rattle.std.proofs.Common.{sym, ◌∙◌}
use Rattle.std.proofs.lemmas.Bool.{false≢true}
use Rattle.exh_page.specs.Layout.{layout}
use Rattle.exh_codec.proofs.FirstFault.{image_parts, image_given, digest_first, later_first}
use Rattle.exh_codec.proofs.decode.decode_page_of.Goals as goal

pub returns-then-not-is_sealed-clause-only : goal.returns-then-not-is_sealed-clause-only
returns-then-not-is_sealed-clause-only g c page image =
    let yes = c.is_sealed.ensures.1 (image_parts (layout c.args.version) (g.K.Keyer.pseudokey_of c.args.keyer.now) page c.args.block.now image).1 in
    absurd (false≢true (sym c.if-not-is_sealed.true ∙ yes))

pub returns-then-not-is_sealed-clause-fault : goal.returns-then-not-is_sealed-clause-fault
returns-then-not-is_sealed-clause-fault g c _ =
    digest_first (layout c.args.version) (g.K.Keyer.pseudokey_of c.args.keyer.now) c.args.block.now (λ is_sealed. absurd (false≢true (sym c.if-not-is_sealed.true ∙ c.is_sealed.ensures.1 is_sealed)))

pub returns-clause-page : goal.returns-clause-page
returns-clause-page g c =
    image_given (layout c.args.version) (g.K.Keyer.pseudokey_of c.args.keyer.now) c.args.block.now c.decode_content.result (c.is_sealed.ensures.0 c.if-not-is_sealed.false) c.decode_content.ensures.page

pub returns-clause-only : goal.returns-clause-only
returns-clause-only g c page image = c.decode_content.ensures.only page (image_parts (layout c.args.version) (g.K.Keyer.pseudokey_of c.args.keyer.now) page c.args.block.now image).0

pub returns-clause-fault : goal.returns-clause-fault
returns-clause-fault g c =
    later_first (layout c.args.version) (g.K.Keyer.pseudokey_of c.args.keyer.now) c.args.block.now c.decode_content.result (c.is_sealed.ensures.0 c.if-not-is_sealed.false) c.decode_content.ensures.fault
