use Rattle.std.proofs.Common.{true, [], ◌∷◌, ◌++◌}
use Rattle.exh_prefix.specs.Prefix.{low_of}
use Rattle.exh_legal.specs.BareLemmas.{bare_at}
use Rattle.exh_legal.proofs.Siblings.{live_is_page, sibling_linked}
use Rattle.exh_legal.proofs.laws.left_children_link_to_siblings.Goals as goal
use Rattle.exh_legal.specs.LegalPlaceLemmas.{page_full}

pub returns : goal.returns
returns c ward pages number prefix link records linked is longer =
    let found = sibling_linked linked number prefix link [] (bare_at pages number _ is) longer in
    record {
      right = found.0;
      link_is = found.1;
      page = page_full pages (low_of (prefix ++ true ∷ [])) found.0 found.2;
      sibling = λ other sibling. live_is_page pages linked (prefix ++ true ∷ []) found.0 other found.2 sibling;
    }
