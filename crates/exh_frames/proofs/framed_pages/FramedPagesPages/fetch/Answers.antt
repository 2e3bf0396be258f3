use Rattle.exh_frames.proofs.framed_pages.FramedPagesPages.fetch.Goals as goal

pub invariant_of-self : goal.invariant_of-self
invariant_of-self g c = c.touch.ensures.pages c.self.inside.images.pages c.self.invariant

pub invariant_of-self-in_err-page : goal.invariant_of-self-in_err-page
invariant_of-self-in_err-page g c = c.touch.ensures.pages c.self.inside.images.pages c.self.invariant

pub invariant_of-self-2 : goal.invariant_of-self-2
invariant_of-self-2 g c = c.keep.ensures.pages c.self.inside.images.pages c.in_ok-page.ensures (c.touch.ensures.pages c.self.inside.images.pages c.self.invariant)
