use Rattle.std.proofs.Common.{true, false, [], ◌∷◌, ◌++◌, arith}
use Rattle.std.proofs.lemmas.List.{length_push}
use Rattle.exh_prefix.specs.Prefix.{IsFront, low_of}
use Rattle.exh_legal.specs.BareLemmas.{bare_at}
use Rattle.exh_legal.specs.Fit.{IsSplitAt}
use Rattle.exh_prefix.specs.LowLemmas.{own_front, front_of_longer, front_of_child}
use Rattle.exh_legal.proofs.MergeFit.{odd_at}
use Rattle.exh_legal.proofs.Siblings.{live_is_page}
use Rattle.exh_legal.proofs.laws.live_left_children_merge.Goals as goal
use Rattle.exh_legal.specs.LegalPlaceLemmas.{page_full}

pub returns : goal.returns
returns c cap pseudo ward start changes table pages prefix number is live longer =
    let linked = is.legal.legal.linked in
    let here = bare_at pages number _ live.2 in
    let front : IsFront ward prefix = front_of_child ward prefix false (linked.within number _ here).0 longer in
    let split : IsSplitAt table prefix = (is.fits.splits prefix).1 (front, (prefix ++ false ∷ [], number, (live.0, [], here), (front_of_longer prefix prefix (false ∷ []) (own_front prefix), omega (arith, length_push prefix false)))) in
    let target = is.fits.rights prefix split.0 split.1 in
    record {
      odd = odd_at ward table _ is.fits prefix split;
      right = split.0;
      split = split.1;
      page = page_full pages (low_of (prefix ++ true ∷ [])) split.0 target;
      buddy = λ other buddy. live_is_page pages linked (prefix ++ true ∷ []) split.0 other target buddy;
    }
