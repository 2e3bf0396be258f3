-- What a call meets, and what its hop comes to.
use Rattle.std.proofs.Common.{◌≡◌, ℕ, ◌<◌, ◌≤◌, ◌^◌, Bool, List, slice_get, Option, None, Some, refl, sym, ap, ◌∙◌, subst, arith}
use Rattle.exh_prefix.specs.Prefix.{Begins, low_of}
use Rattle.exh_prefix.specs.PrefixListLemmas.{one_there}
use Rattle.exh_page.specs.declared.page.Page.{Page}
use Rattle.exh_page.specs.declared.page.Page.TheVariants.{Live, Forward}
use Rattle.exh_page.specs.declared.record.Record.{Record}
use Rattle.exh_page.specs.declared.lookup.Lookup.{Lookup}
use Rattle.exh_page.specs.Lookup.{IsLookup}
use Rattle.exh_page.specs.Page.{low_bound}
use Rattle.exh_legal.specs.LegalLaws.{RightLinksLeadOn}
use Rattle.exh_legal.specs.MapLemmas.{get-map_of}
use Rattle.exh_legal.specs.Pages.{map_of, IsAt, IsHome, IsLegal}
use Rattle.exh_calls.specs.Call.{key_of}
use Rattle.exh_ward.specs.HopTable.{Overflows, HopOf}
use Rattle.exh_ward.specs.PageAnswer.{OverflowsPage}
use Rattle.exh_ward.specs.Sight.{IsSeenAt, SightOf, SightIn}
use Rattle.exh_calls.specs.MapMachine.{reply_of}
use Rattle.exh_calls.specs.declared.call.Call.{Call}
use Rattle.exh_ward.specs.declared.hop.Hop.TheVariants.{Done, MustSplit}
use Rattle.exh_calls.specs.declared.reply.Reply.{Reply}
use Rattle.exh_ward.specs.declared.ward.hop.home_sight.HomeSight.{HomeSight}
use Rattle.exh_ward.specs.declared.ward.hop.sight.Sight.{Sight}
use Rattle.exh_ward.specs.declared.ward.hop.sight.Sight.TheVariants.{Beyond, Leads, NoWay, Overflows as MustWait, Home}
use Rattle.exh_ward.proofs.HomeReplies.{AtHome, Fit}

pub sight_in : (cap pseudokey : ℕ) (pages : List Page) (at : ℕ) (call : Call) (sight : Sight) (page : Page) → IsAt pages at page → SightOf cap pseudokey page call sight → SightIn cap pseudokey pages at call sight
sight_in cap pseudokey pages at call Beyond page is sight = λ other reached. let same = one_there pages at page other is reached.there in omega (arith, reached.below, sight, ap low_bound same)
sight_in cap pseudokey pages at call (Leads next) page is sight = (page, is, sight)
sight_in cap pseudokey pages at call NoWay page is sight = (page, is, sight)
sight_in cap pseudokey pages at call MustWait page is sight = (page, is, sight)
sight_in cap pseudokey pages at call (Home home) page is sight = (page, is, sight)

-- what is seen by what was found, where that was for the call's key
pub sight_found : (cap pseudokey : ℕ) (call : Call) (sight : Sight) (found : Lookup) (key : List ℕ) (page : Page) → key ≡ key_of call → IsLookup (pseudokey, key) page found
    → ((page : Page) → IsLookup (pseudokey, key_of call) page found → SightOf cap pseudokey page call sight) → SightOf cap pseudokey page call sight
sight_found cap pseudokey call sight found key page same is of = of page (subst (λ key. IsLookup (pseudokey, key) page found) same is)

-- no page is there
pub nothing_in : (cap pseudokey : ℕ) (pages : List Page) (at : ℕ) (call : Call) → (slice_get pages at ≡ None) → SightIn cap pseudokey pages at call Beyond
nothing_in cap pseudokey pages at call none other reached = let both : None ≡ Some other = sym none ∙ reached.there in cc

pub home_live : (page : Page) (pseudokey : ℕ) → IsHome page pseudokey → (prefix : List Bool) × (link : Option ℕ) × (records : List Record) × (page ≡ Live prefix link records)
home_live (Live prefix link records) pseudokey home = (prefix, link, records, refl)
home_live (Forward low target) pseudokey home = absurd home

module _ {cap : ℕ} {pseudo : List ℕ → ℕ} {ward : List Bool} {pages : List Page} (legal : IsLegal cap pseudo ward pages) (at : ℕ) (call : Call) where
  -- an overflow by the page's records is one by the map
  pub over_by_map : (call : Call) (prefix : List Bool) (link : Option ℕ) (records : List Record) → IsAt pages at (Live prefix link records) → Begins prefix (pseudo (key_of call)) → OverflowsPage cap (pseudo (key_of call)) (Live prefix link records) call
      → Overflows cap (map_of pages) (Live prefix link records) call
  over_by_map call prefix link records is begins over = (get-map_of cap pseudo ward pages at _ (key_of call) legal is begins ∙ over.2, over.0, over.1, over.3)

  over_by_page : (call : Call) (prefix : List Bool) (link : Option ℕ) (records : List Record) → IsAt pages at (Live prefix link records) → Begins prefix (pseudo (key_of call)) → Overflows cap (map_of pages) (Live prefix link records) call
      → OverflowsPage cap (pseudo (key_of call)) (Live prefix link records) call
  over_by_page call prefix link records is begins over = (over.1, over.2, sym (get-map_of cap pseudo ward pages at _ (key_of call) legal is begins) ∙ over.0, over.3)

  pub hop_waits : SightIn cap (pseudo (key_of call)) pages at call MustWait → HopOf cap pseudo pages at call MustSplit
  hop_waits sight =
      let live = home_live sight.0 (pseudo (key_of call)) sight.2.1 in
      let page_is = live.3 in
      let there : IsAt pages at (Live live.0 live.1 live.2) = sight.1 ∙ ap Some page_is in
      let home = subst (λ page. IsHome page (pseudo (key_of call))) page_is sight.2.1 in
      let over = subst (λ page. OverflowsPage cap (pseudo (key_of call)) page call) page_is sight.2.2 in
      let P : Page → Type 0 = λ page. low_bound page ≤ pseudo (key_of call) in
      (Live live.0 live.1 live.2, record { there = there; below = subst P page_is sight.2.0 }, home, over_by_map call live.0 live.1 live.2 there home over)

  -- the page that answers, written out
  pub answers_at : (home : HomeSight) → SightIn cap (pseudo (key_of call)) pages at call (Home home) → (prefix : List Bool) × (link : Option ℕ) × (records : List Record) × AtHome cap pseudo ward pages at prefix link records call × (low_of prefix ≤ pseudo (key_of call))
      × IsSeenAt cap (pseudo (key_of call)) (Live prefix link records) call home
  answers_at home sight =
      let live = home_live sight.0 (pseudo (key_of call)) sight.2.1 in
      let page_is = live.3 in
      let P : Page → Type 0 = λ page. low_bound page ≤ pseudo (key_of call) in
      let Q : Page → Type 0 = λ page. OverflowsPage cap (pseudo (key_of call)) page call → ⊥ in (
        live.0,
        live.1,
        live.2,
        record { legal = legal; there = sight.1 ∙ ap Some page_is; home = subst (λ page. IsHome page (pseudo (key_of call))) page_is sight.2.1; none = subst Q page_is sight.2.2 },
        subst P page_is sight.2.0,
        subst (λ page. IsSeenAt cap (pseudo (key_of call)) page call home) page_is sight.2.3,
      )

  pub hop_done : Fit pseudo → (prefix : List Bool) (link : Option ℕ) (records : List Record) (reply : Reply) → AtHome cap pseudo ward pages at prefix link records call → low_of prefix ≤ pseudo (key_of call) → reply ≡ reply_of cap pseudo (map_of pages) call
      → HopOf cap pseudo pages at call (Done reply)
  hop_done fit prefix link records reply home below replied =
      (Live prefix link records, record { there = home.there; below = below }, home.home, λ over. home.none (over_by_page call prefix link records home.there home.home over), replied)

-- where a dead end can't be
pub no_dead_end : {cap : ℕ} {pseudo : List ℕ → ℕ} {ward : List Bool} {pages : List Page} → RightLinksLeadOn → IsLegal cap pseudo ward pages → (at : ℕ) (call : Call) (pseudokey : ℕ) → pseudokey < 2 ^ 64 → Begins ward pseudokey → SightIn cap pseudokey pages at call NoWay → ⊥
no_dead_end {ward = ward} {pages = pages} law legal at call pseudokey small covered sight =
    let dead = sight.2.1 in
    let P : Page → Type 0 = λ page. low_bound page ≤ pseudokey in
    let leads = law ward pages at dead.0 None dead.1 pseudokey legal.linked (sight.1 ∙ ap Some dead.2) small covered (subst P dead.2 sight.2.0) dead.3 in
    let both : None ≡ Some leads.0 = leads.1 in
    cc
