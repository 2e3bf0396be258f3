use Rattle.std.proofs.Common.{◌≡◌, ℕ, [], ◌∷◌, List, Option, inl, inr, refl, sym, ap, ◌∙◌, subst, arith}
use Rattle.std.specs.Io.KnownBytes.{Appends}
use Rattle.std.proofs.lemmas.Bool.{false≢true}
use Rattle.exh_keyer.specs.Pseudokey.{any_pseudokey}
use Rattle.exh_prefix.specs.Version.{second_version}
use Rattle.exh_legal.specs.Pages.{IsHome}
use Rattle.exh_format.specs.FileTests.{PageFails}
use Rattle.exh_direct.specs.declared.direct_fault.DirectFault.TheVariants.{File}
use Rattle.exh_direct.specs.BlockFaultLemmas.{block_fails}
use Rattle.exh_direct.specs.KnownBlocks.{BlockFails, IsPageBlock, MayRead}
use Rattle.exh_edits.specs.WalkBlocks.{HeaderFails}
use Rattle.exh_edits.specs.PlacedAnswer.{NamesPlace, RefusesPlaced, pseudokey_in}
use Rattle.exh_edits.proofs.BlockLemmas.{err_is}
use Rattle.exh_edits.proofs.Counts.{few_pages}
use Rattle.exh_edits.proofs.finding.find_on_way.Goals as goal

pub page_block-requires : goal.page_block-requires
page_block-requires g c = omega (arith, c.in_ok-place.ensures.ok.there, few_pages c.in_ok-header.header c.in_ok-header.ensures.header.valid)

pub returns-in_err-page-clause-refused : goal.returns-in_err-page-clause-refused
returns-in_err-page-clause-refused g c before heads =
    let known = g.B.Blocks.known c.args.blocks.now in
    let header = c.in_ok-header.header in
    let key = c.args.key.now in
    let fault = c.in_err-page.field-0.0 in
    let pseudo = any_pseudokey header.settings.keyer in
    let first = g.B.Blocks.reads c.args.blocks.now in
    let between = g.B.Blocks.reads c.named_place.new.blocks in
    let later = c.in_ok-place.ensures.same_bytes in
    let place = c.page_block.ensures in
    let hashed : c.pseudo-pseudokey.result ≡ pseudokey_in header key = c.pseudo-pseudokey.ensures ∙ ap pseudo c.as_bytes.ensures.bytes in
    let named = subst (λ (pseudokey : ℕ). NamesPlace known header pseudokey first between c.in_ok-place.place) hashed
    c.in_ok-place.ensures.ok in
    let fails = subst (λ (place : ℕ). BlockFails (PageFails second_version pseudo place) known place fault) place
    (subst (λ (known : Option (List ℕ)). BlockFails (PageFails second_version pseudo c.page_block.result) known c.page_block.result fault) later c.in_err-page.ensures.err) in
    let last = subst (MayRead between (g.B.Blocks.reads c.read_page.new.blocks)) place c.in_err-page.ensures.may_read in
    err_is c.from_residual-in_err-page.result fault (RefusesPlaced known key before _) c.from_residual-in_err-page.ensures.1
    (inr (header, ((c.args.first.now, c.requires.first, c.in_ok-header.ensures.header), first, heads, inr (c.in_ok-place.place, between, named, inl (fails, last)))))

pub returns-then-not-is_home-clause-refused : goal.returns-then-not-is_home-clause-refused
returns-then-not-is_home-clause-refused g c before heads =
    let known = g.B.Blocks.known c.args.blocks.now in
    let header = c.in_ok-header.header in
    let key = c.args.key.now in
    let page = c.in_ok-page.page in
    let pseudo = any_pseudokey header.settings.keyer in
    let first = g.B.Blocks.reads c.args.blocks.now in
    let between = g.B.Blocks.reads c.named_place.new.blocks in
    let later = c.in_ok-place.ensures.same_bytes in
    let place = c.page_block.ensures in
    let hashed : c.pseudo-pseudokey.result ≡ pseudokey_in header key = c.pseudo-pseudokey.ensures ∙ ap pseudo c.as_bytes.ensures.bytes in
    let named = subst (λ (pseudokey : ℕ). NamesPlace known header pseudokey first between c.in_ok-place.place) hashed
    c.in_ok-place.ensures.ok in
    let there = subst (λ (place : ℕ). IsPageBlock second_version pseudo known place page) place
    (subst (λ (known : Option (List ℕ)). IsPageBlock second_version pseudo known c.page_block.result page) later c.in_ok-page.ensures.ok) in
    let read = subst (λ (place : ℕ). Appends between (g.B.Blocks.reads c.read_page.new.blocks) (place ∷ [])) place c.in_ok-page.ensures.one_read in
    let not : ¬ IsHome page (pseudokey_in header key) = subst (λ (pseudokey : ℕ). ¬ IsHome page pseudokey) hashed (λ home. false≢true (sym c.if-not-is_home.true ∙ c.is_home.ensures.1 home)) in
    inr (header, ((c.args.first.now, c.requires.first, c.in_ok-header.ensures.header), first, heads, inr (c.in_ok-place.place, between, named, inr (page, there, not, read, refl))))

pub returns-in_err-header-clause-refused : goal.returns-in_err-header-clause-refused
returns-in_err-header-clause-refused g c before heads =
    let known = g.B.Blocks.known c.args.blocks.now in
    let fault = c.in_err-header.field-0.0 in
    err_is c.from_residual.result (File fault) (RefusesPlaced known c.args.key.now before _) c.from_residual.ensures.1 (inl (block_fails HeaderFails known 0 c.args.first.now fault c.requires.first c.in_err-header.ensures.fault, inr heads))
