-- What is seen of a store of images.
use Rattle.std.specs.Prelude.{List}
use Rattle.exh_page.specs.declared.page.Page.{Page}
use Rattle.exh_frames.specs.Decoded.{KeptPages}

-- the keyer under which its images are read, its pages, and those of them that are decoded
pub record FramedStore (K : Type 0) : Type 0 where
  pub keyer : K
  pub pages : List Page
  pub decoded : KeptPages
