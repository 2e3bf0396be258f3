use Rattle.std.proofs.Common.{sym, ap, ◌∙◌, subst}
use Rattle.exh_frames.specs.Decoded.{AreOf, KeptPages}
use Rattle.exh_frames.proofs.Followed.{none_beside}
use Rattle.exh_frames.proofs.decoded_pages.DecodedPages.keep_recent.Goals as goal

pub returns-clause-pages : goal.returns-clause-pages
returns-clause-pages c pages there are =
    let kept = subst (AreOf pages) (sym c.self.view_is) (c.keep.ensures.pages pages there are) in
    record { recent = kept.recent; beside = none_beside pages }

pub returns-clause-cap : goal.returns-clause-cap
returns-clause-cap c = ap (λ (kept : KeptPages). kept.cap) c.self.view_is ∙ c.keep.ensures.cap
