use Rattle.std.proofs.Common.{◌≡◌, take, sym, ap, ◌∙◌}
use Rattle.sha2.specs.Sha256.{sha256}
use Rattle.exh_codec.specs.BlockLemmas.{sealed_from}
use Rattle.exh_codec.specs.PageImage.{content_of}
use Rattle.exh_stores.proofs.stored_page.StoredPage.block.Goals as goal

pub returns-clause-block : goal.returns-clause-block
returns-clause-block c =
    let out = c.put_digest.new.block in
    let page = c.args.self.now in
    let content : take 4064 out ≡ content_of page = c.put_digest.ensures.content ∙ c.lay_over.ensures.content ∙ ap content_of c.self.view_is in
    sealed_from out (content_of page) content (c.put_digest.ensures.digest ∙ c.digest_by-digest.ensures ∙ ap sha256 (sym content))
