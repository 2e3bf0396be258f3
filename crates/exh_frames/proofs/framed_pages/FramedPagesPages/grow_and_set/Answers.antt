use Rattle.std.proofs.Common.{[], ◌∷◌, List, set, ap, ◌∙◌}
use Rattle.exh_page.specs.declared.page.Page.{Page}
use Rattle.exh_frames.proofs.Followed.{set_front}
use Rattle.exh_frames.proofs.framed_pages.FramedPagesPages.grow_and_set.Goals as goal

pub returns-clause-ok : goal.returns-clause-ok
returns-clause-ok g c =
    c.write.ensures.pages ∙ ap (λ (pages : List Page). set pages c.args.number c.args.page) c.in_ok-add.ensures.ok
    ∙ set_front c.args.self.now.pages (c.args.new ∷ []) c.args.number c.args.page c.requires.there
