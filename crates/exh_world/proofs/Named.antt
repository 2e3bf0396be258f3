-- An answering hop's page has the prefix that the directory names.
use Rattle.std.proofs.Common.{◌≡◌, ℕ, Bool, List, [], drop, slice_get, Some, sym, ap, ◌∙◌, subst}
use Rattle.std.specs.Option.{option_map_or}
use Rattle.exh_prefix.specs.PrefixListLemmas.{one_there}
use Rattle.exh_table.specs.Directory.{IsName}
use Rattle.exh_table.specs.Leaves.{ward_leaves}
use Rattle.exh_page.specs.declared.page.Page.{Page}
use Rattle.exh_page.specs.declared.page.Page.TheVariants.{Live, Forward}
use Rattle.exh_legal.specs.BareLemmas.{bare_at}
use Rattle.exh_legal.specs.Growth.{IsLiveAt}
use Rattle.exh_prefix.specs.Leading.{ward_prefix}
use Rattle.exh_legal.specs.Pages.{IsAt, IsHome, bare}
use Rattle.exh_ward.specs.WardState.{WardState, own_prefix}
use Rattle.exh_world.specs.WorldRun.{prefix_of, prefix_at}
use Rattle.exh_world.specs.Sound.{IsWardOf, IsSoundWorld}
use Rattle.exh_world.specs.World.{WorldState, issued_in, changes_in}

module _ {K : Type 0} (pseudokey_of : K → List ℕ → ℕ) (world : WorldState K) (sound : IsSoundWorld pseudokey_of world) (number : ℕ) (ward : WardState K) (found : slice_get world.wards number ≡ Some ward) where
  abbrev own : List Bool
  own = ward_prefix world.ward_bits number

  is_own : IsWardOf pseudokey_of world number ward
  is_own = sound.wards number ward found

  own_is : own_prefix ward ≡ own
  own_is = ap (λ bits. ward_prefix bits ward.number) is_own.bits ∙ ap (ward_prefix world.ward_bits) is_own.number_is

  issued : issued_in world number ≡ ward.notices
  issued = ap (λ w. option_map_or (λ ward. ward.notices) w []) found

  changes : changes_in world number ≡ drop is_own.before ward.notices
  changes = ap (λ n. option_map_or (λ noticed. drop noticed (issued_in world number)) n []) is_own.noticed ∙ ap (drop is_own.before) issued

  -- the leaves of the directory are the live pages' prefixes
  to_live : (leaf : List Bool) → ward_leaves world.start own (drop is_own.before ward.notices) leaf → (at : ℕ) × IsLiveAt (bare ward.pages) leaf at
  to_live leaf is = (is_own.sound.legal.legal.grown.leaves leaf).0 (subst (λ p. ward_leaves ward.start p ward.notices leaf) (sym own_is) ((is_own.directory leaf).0 is))

  from_live : (leaf : List Bool) (at : ℕ) → IsLiveAt (bare ward.pages) leaf at → ward_leaves world.start own (drop is_own.before ward.notices) leaf
  from_live leaf at is = (is_own.directory leaf).1 (subst (λ p. ward_leaves ward.start p ward.notices leaf) own_is ((is_own.sound.legal.legal.grown.leaves leaf).1 (at, is)))

  named_live : (pseudokey at : ℕ) (page : Page) → IsAt ward.pages at page → IsHome page pseudokey → IsName (ward_leaves world.start own (drop is_own.before ward.notices)) pseudokey (prefix_of page)
  named_live pseudokey at (Live prefix right records) is home =
      let here = bare_at ward.pages at (Live prefix right records) is in
      record {
        leaf = from_live prefix at (right, [], here);
        begins = home;
        only = λ other leaf begins.
            let twin = to_live other leaf in
            let same = is_own.sound.legal.legal.legal.linked.one_home pseudokey twin.0 at _ _ twin.1.2 here begins home in
            let pages : Live other twin.1.0 twin.1.1 ≡ Live prefix right [] = one_there (bare ward.pages) at _ _ (subst (λ n. IsAt (bare ward.pages) n (Live other twin.1.0 twin.1.1)) same twin.1.2) here in
            ap prefix_of pages;
      }
  named_live pseudokey at (Forward low target) is home = absurd home

  prefix_here : (at : ℕ) (page : Page) → IsAt ward.pages at page → prefix_at world number at ≡ prefix_of page
  prefix_here at page is = ap (λ w. option_map_or (λ state. option_map_or prefix_of (slice_get state.pages at) []) w []) found ∙ ap (λ p. option_map_or prefix_of p []) is

  pub named : (pseudokey at : ℕ) (page : Page) → IsAt ward.pages at page → IsHome page pseudokey → IsName (ward_leaves world.start own (changes_in world number)) pseudokey (prefix_at world number at)
  named pseudokey at page is home =
      subst (IsName (ward_leaves world.start own (changes_in world number)) pseudokey) (sym (prefix_here at page is))
      (subst (λ told. IsName (ward_leaves world.start own told) pseudokey (prefix_of page)) (sym changes) (named_live pseudokey at page is home))
