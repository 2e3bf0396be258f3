use Rattle.std.proofs.Common.{◌≡◌, take}
use Rattle.exh_frames.proofs.images.Images.of_pages.Given as goal

-- the images of the pages so far
abbrev pub invariant-loop-page : goal.invariant-loop-page
invariant-loop-page g l = record {
  keyer : l.images.keyer ≡ l.fn.keyer;
  pages : l.images.pages ≡ take l.page-index l.pages;
}
