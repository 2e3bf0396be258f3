-- A page has one distance at most.
use Rattle.std.proofs.Common.{◌≡◌, ℕ, ◌+◌, List, [], ◌∷◌, length, refl, sym, ap, ◌∙◌, subst}
use Rattle.exh_page.specs.declared.page.Page.{Page}
use Rattle.exh_page.specs.declared.page.Page.TheVariants.{Forward}
use Rattle.exh_page.specs.Page.{IsLive, low_bound}
use Rattle.exh_legal.specs.Pages.{IsAt}
use Rattle.exh_ward.specs.Distance.{IsDistance, IsForwarded, live_between}
use Rattle.exh_prefix.specs.PrefixListLemmas.{one_there}

module _ (pages : List Page) where
  live_or_forward : (number low target : ℕ) (page : Page) → IsAt pages number page → IsLive page → IsAt pages number (Forward low target) → ⊥
  live_or_forward number low target page is live forward = subst IsLive (one_there pages number page (Forward low target) is forward) live

  abbrev IsLiveNumber : ℕ → Type 0
  IsLiveNumber number = (page : Page) × IsAt pages number page × IsLive page

  -- forwarding leads over one list of pages to one live page
  one_chain : (from : ℕ) (over others : List ℕ) (live twin : ℕ) → IsForwarded pages from over live → IsForwarded pages from others twin → IsLiveNumber live → IsLiveNumber twin → (over ≡ others) × (live ≡ twin)
  one_chain from [] [] live twin one other is_live is_twin = (refl, sym one ∙ other)
  one_chain from [] (number ∷ others) live twin one other is_live is_twin =
      let there : IsAt pages live (Forward other.1.0 other.1.1) = subst (λ n. IsAt pages n (Forward other.1.0 other.1.1)) (sym other.0 ∙ one) other.1.2 in
      absurd (live_or_forward live other.1.0 other.1.1 is_live.0 is_live.1 is_live.2 there)
  one_chain from (number ∷ over) [] live twin one other is_live is_twin =
      let there : IsAt pages twin (Forward one.1.0 one.1.1) = subst (λ n. IsAt pages n (Forward one.1.0 one.1.1)) (sym one.0 ∙ other) one.1.2 in
      absurd (live_or_forward twin one.1.0 one.1.1 is_twin.0 is_twin.1 is_twin.2 there)
  one_chain from (number ∷ over) (other_number ∷ others) live twin one other is_live is_twin =
      let same : number ≡ other_number = sym one.0 ∙ other.0 in
      let there : IsAt pages other_number (Forward one.1.0 one.1.1) = subst (λ n. IsAt pages n (Forward one.1.0 one.1.1)) same one.1.2 in
      let both : Forward one.1.0 one.1.1 ≡ Forward other.1.0 other.1.1 = one_there pages other_number (Forward one.1.0 one.1.1) (Forward other.1.0 other.1.1) there other.1.2 in
      let target : one.1.1 ≡ other.1.1 = cc in
      let rest = one_chain other.1.1 over others live twin (subst (λ n. IsForwarded pages n over live) target one.1.3) other.1.3 is_live is_twin in
      (ap (λ n. n ∷ over) same ∙ ap (λ rest. other_number ∷ rest) rest.0, rest.1)

pub same_distance : (pages : List Page) (from pseudokey one other : ℕ) → IsDistance pages from pseudokey one → IsDistance pages from pseudokey other → one ≡ other
same_distance pages from pseudokey one other first second =
    let same = one_chain pages from first.over second.over first.live second.live first.forwarded second.forwarded (first.page, first.there, first.lives) (second.page, second.there, second.lives) in
    let page_same : first.page ≡ second.page = one_there pages second.live first.page second.page (subst (λ n. IsAt pages n first.page) same.1 first.there) second.there in
    first.sum ∙ ap (λ over. length over + live_between pages (low_bound first.page) pseudokey) same.0 ∙ ap (λ page. length second.over + live_between pages (low_bound page) pseudokey) page_same ∙ sym second.sum
