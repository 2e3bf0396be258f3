use Rattle.exh_frames.proofs.framed_pages.FramedPages.fill.Goals as goal

pub invariant_of-self : goal.invariant_of-self
invariant_of-self g c = c.keep_recent.ensures.pages c.self.inside.images.pages c.in-Ok.ensures c.self.invariant
