-- A distance is what the function gives.
use Rattle.std.proofs.Common.{◌≡◌, ℕ, zero, suc, ◌+◌, ◌<◌, Bool, List, [], ◌∷◌, length, refl, sym, ap, ◌∙◌, subst, arith}
use Rattle.std.specs.Option.{option_map_or}
use Rattle.exh_prefix.specs.declared.prefix.TheConstants.{LIMIT}
use Rattle.exh_page.specs.declared.page.Page.{Page}
use Rattle.exh_page.specs.declared.page.Page.TheVariants.{Live, Forward}
use Rattle.exh_page.specs.Page.{IsLive, low_bound}
use Rattle.exh_legal.specs.Pages.{IsAt, AreLinked, bare}
use Rattle.exh_ward.specs.Distance.{IsDistance, IsForwarded, live_between, live_pages}
use Rattle.exh_walk.specs.DistanceFunction.{distance_at, distance_within, distance_of}
use Rattle.exh_ward.specs.DistanceLemmas.{distance_few}

module _ (pages : List Page) (pseudokey : ℕ) where
  at_page : (most number : ℕ) (page : Page) → IsAt pages number page → distance_within pages pseudokey (suc most) number ≡ distance_at pages pseudokey (distance_within pages pseudokey most) page
  at_page most number page is = ap (λ found. option_map_or (distance_at pages pseudokey (distance_within pages pseudokey most)) found 0) is

  at_live : (of_target : ℕ → ℕ) (page : Page) → IsLive page → distance_at pages pseudokey of_target page ≡ live_between pages (low_bound page) pseudokey
  at_live of_target (Live prefix right records) live = refl
  at_live of_target (Forward low target) live = absurd live

  over_chain : (live : ℕ) (page : Page) → IsAt pages live page → IsLive page → (over : List ℕ) (from most : ℕ) → IsForwarded pages from over live → length over < most
      → distance_within pages pseudokey most from ≡ length over + live_between pages (low_bound page) pseudokey
  over_chain live page there lives over from zero forwarded few = absurd (omega (arith, few))
  over_chain live page there lives [] from (suc most) forwarded few =
      let here : distance_within pages pseudokey (suc most) from ≡ live_between pages (low_bound page) pseudokey =
      at_page most from page (subst (λ n. IsAt pages n page) (sym forwarded) there) ∙ at_live (distance_within pages pseudokey most) page lives in
      omega (arith, here)
  over_chain live page there lives (number ∷ over) from (suc most) forwarded few =
      let forward : Page = Forward forwarded.1.0 forwarded.1.1 in
      let here : distance_within pages pseudokey (suc most) from ≡ suc (distance_within pages pseudokey most forwarded.1.1) = at_page most from forward (subst (λ n. IsAt pages n forward) (sym forwarded.0) forwarded.1.2) in
      let rest = over_chain live page there lives over forwarded.1.1 most forwarded.1.3 (omega (arith, few)) in
      omega (arith, here, rest)

pub computed : (ward : List Bool) (pages : List Page) → AreLinked ward (bare pages) → (from pseudokey distance : ℕ) → IsDistance pages from pseudokey distance → distance ≡ distance_of pages from pseudokey
unfolding distance_of
computed ward pages linked from pseudokey distance is =
    let few = distance_few ward pages linked from pseudokey distance is in
    is.sum ∙ sym (over_chain pages pseudokey is.live is.page is.there is.lives is.over from (suc (LIMIT + live_pages pages)) is.forwarded (omega (arith, few, is.sum)))
