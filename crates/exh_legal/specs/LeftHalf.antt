-- What a merge tests of two pages, without their records.
use Rattle.std.specs.Prelude.{◌≡◌, ℕ, ◌+◌, ◌≤◌, Bool, true, false, List, [], ◌∷◌, ◌++◌, length, Option}
use Rattle.exh_page.specs.declared.page_head.PageHead.{PageHead}
use Rattle.exh_page.specs.declared.page_head.PageHead.TheVariants.{Live}
use Rattle.exh_legal.specs.declared.left_half.LeftHalf.{LeftHalf}

-- the page is the live left child of a prefix, which is no shorter than `own`
pub record IsLeftHalf (own : List Bool) (page : PageHead) (half : LeftHalf) : Type 0 where
  pub live : page ≡ Live (half.parent ++ false ∷ []) half.right half.count
  pub inner : length own ≤ length half.parent

-- the buddy is the live page of the parent's right child, and both halves fit into one page
pub record FitsBeside (cap : ℕ) (half : LeftHalf) (buddy : PageHead) : Type 0 where
  pub link : Option ℕ
  pub count : ℕ
  pub live : buddy ≡ Live (half.parent ++ true ∷ []) link count
  pub few : half.count + count ≤ cap
