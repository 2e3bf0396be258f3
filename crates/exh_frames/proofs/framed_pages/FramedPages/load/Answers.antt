use Rattle.exh_frames.proofs.framed_pages.FramedPages.load.Goals as goal

pub invariant_of-self : goal.invariant_of-self
invariant_of-self g c = c.touch.ensures.pages c.self.inside.images.pages c.self.invariant

pub invariant_of-self-else-not-touch : goal.invariant_of-self-else-not-touch
invariant_of-self-else-not-touch g c = c.touch.ensures.pages c.self.inside.images.pages c.self.invariant
