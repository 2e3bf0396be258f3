-- What the test of a page that is to be split is to the ward.
use Rattle.std.proofs.Common.{◌≡◌, ℕ, ◌<◌, ◌%◌, inl, inr, Bool, true, List, [], ◌∷◌, ◌++◌, length, Option, None, Some, Result, Ok, Err, IfErr, IsErrAnd, sym, ap, ◌∙◌, subst, arith}
use Rattle.std.specs.FinMap as fin
use Rattle.std.specs.Option.{MatchOption}
use Rattle.std.proofs.lemmas.Bool.{cases_eq}
use Rattle.exh_prefix.specs.declared.prefix.TheConstants.{LIMIT}
use Rattle.exh_prefix.specs.Prefix.{low_of}
use Rattle.exh_page.specs.declared.page.Page.{Page}
use Rattle.exh_page.specs.declared.page.Page.TheVariants.{Live, Forward}
use Rattle.exh_page.specs.Page.{IsLive, low_bound}
use Rattle.exh_page.specs.PageHead.{head_of}
use Rattle.exh_page.specs.declared.page_head.PageHead.{PageHead}
use Rattle.exh_stores.specs.PageStore.{HasHead}
use Rattle.exh_legal.specs.BareLemmas.{bare_at}
use Rattle.exh_legal.specs.Change.{IsForwardOf}
use Rattle.exh_legal.specs.Growth.{IsLiveAt}
use Rattle.exh_legal.specs.LegalLaws.{IsSplittable, LivePagesSplit}
use Rattle.exh_legal.specs.ChangeNumbers.{number_at}
use Rattle.exh_legal.specs.Pages.{IsAt, bare}
use Rattle.exh_legal.specs.LegalPlaceLemmas.{page_full, page_bare}
use Rattle.exh_ward.specs.WardKept.{IsKeptWard}
use Rattle.exh_legal.specs.PageIndex.{IndexMap}
use Rattle.exh_legal.specs.HalvesFault.{NotHalved}
use Rattle.exh_legal.specs.HalvedPrefix.{IsHalvable}
use Rattle.exh_ward.specs.SplitStep.{IsHalved}
use Rattle.exh_ward.proofs.Heads.{headed}
use Rattle.exh_legal.specs.declared.halves_fault.HalvesFault.{HalvesFault}
use Rattle.exh_legal.specs.declared.halves_fault.HalvesFault.TheVariants.{NotLive, NotFull, AtLimit, NoBuddy, BuddySplit, TooMany}
use Rattle.exh_ward.specs.WardFault.{SplitRefusedAt, SplitRefused, fault_of_halves}
use Rattle.exh_ward.specs.WardState.{WardState, own_prefix}
use Rattle.exh_ward.specs.declared.ward_fault.WardFault.{WardFault}

refused_here : (fault : HalvesFault) (cap : ℕ) (page : Page) → NotHalved cap (head_of page) fault → SplitRefusedAt cap page (fault_of_halves fault)
refused_here NotLive cap (Live prefix link records) refused = refused
refused_here NotLive cap (Forward low target) refused = refused
refused_here NotFull cap (Live prefix link records) refused = refused
refused_here NotFull cap (Forward low target) refused = absurd refused
refused_here AtLimit cap (Live prefix link records) refused = refused
refused_here AtLimit cap (Forward low target) refused = absurd refused
refused_here NoBuddy cap page refused = absurd refused
refused_here BuddySplit cap page refused = absurd refused
refused_here (TooMany sum) cap page refused = absurd refused

-- what refuses to halve a page of a head refuses a split
pub refused_in : (fault : HalvesFault) (cap : ℕ) (pages : List Page) (at : ℕ) (head : PageHead) → HasHead pages at head → NotHalved cap head fault → SplitRefused cap pages at (fault_of_halves fault)
refused_in fault cap pages at head (page, is, headed) refused = refused_at fault cap pages at page is (subst (λ head. NotHalved cap head fault) headed refused) where
  refused_at : (fault : HalvesFault) (cap : ℕ) (pages : List Page) (at : ℕ) (page : Page) → IsAt pages at page → NotHalved cap (head_of page) fault → SplitRefused cap pages at (fault_of_halves fault)
  refused_at NotLive cap pages at page is refused = (page, is, refused_here NotLive cap page refused)
  refused_at NotFull cap pages at page is refused = (page, is, refused_here NotFull cap page refused)
  refused_at AtLimit cap pages at page is refused = (page, is, refused_here AtLimit cap page refused)
  refused_at NoBuddy cap pages at page is refused = absurd refused
  refused_at BuddySplit cap pages at page is refused = absurd refused
  refused_at (TooMany sum) cap pages at page is refused = absurd refused

-- a page of a head that may be halved is live, of that prefix
pub halved_in : {K : Type 0} {w : WardState K} (at : ℕ) (head : PageHead) (prefix : List Bool) → HasHead w.pages at head → IsHalvable w.cap head prefix → IsHalved w at prefix
halved_in {w = w} at head prefix (page, is, same) halvable =
    let page_is = headed page prefix halvable.link halvable.count (sym same ∙ halvable.live) in
    record {
      link = halvable.link;
      records = page_is.records;
      there = is ∙ ap Some page_is.live;
      full = omega (arith, page_is.counted, halvable.full);
      short = halvable.short;
    }

pub failed_with : {T : Type 0} (r : Result T WardFault) (fault : WardFault) (P : WardFault → Type 0) → IsErrAnd r (λ other. other ≡ fault) → P fault → IfErr r P
failed_with (Ok value) fault P is refused = tt
failed_with (Err other) fault P is refused = subst P (sym is) refused

pub refused_as : {T : Type 0} (r : Result T WardFault) (fault : HalvesFault) (P : WardFault → Type 0) → IsErrAnd r (λ other. other ≡ fault_of_halves fault) → P (fault_of_halves fault) → IfErr r P
refused_as r fault P is refused = failed_with r (fault_of_halves fault) P is refused

not_forward : (pages : List Page) (number low target : ℕ) (page : Page) → IsAt pages number page → IsLive page → IsAt pages number (Forward low target) → ⊥
not_forward pages number low target page is live forward =
    let both : Some page ≡ Some (Forward low target) = sym is ∙ forward in
    let same : page ≡ Forward low target = cc in
    subst IsLive same live

module _ {K : Type 0} {pseudo : List ℕ → ℕ} {takes : Page → Type 0} {own : List Bool} {index : IndexMap} {told : ℕ} {w : WardState K} (law : LivePagesSplit) (kept : IsKeptWard pseudo takes own index told w) (prefix : List Bool) (number : ℕ) (live : IsLiveAt w.pages prefix number) (short : length prefix < LIMIT) where
  abbrev low : ℕ
  low = low_of (prefix ++ true ∷ [])

  ready : IsSplittable w.table w.pages prefix
  ready = law w.cap pseudo (own_prefix w) w.start w.notices w.table w.pages prefix number kept.sound.legal live short

  -- page 0 is live
  not_first : (page : Page) → IsAt w.pages 0 page → low_bound page ≡ low → ⊥
  not_first page is same =
      let forward = ready.forwards 0 (page, is, same) in
      let first = kept.sound.legal.legal.legal.linked.first in
      not_forward (bare w.pages) 0 low forward.0 first.0 first.1 first.2 (bare_at w.pages 0 _ forward.1)

  -- what the index finds is the forwarding page of the right child's low bound, or tells that there is none
  pub found_forward : (found : Option ℕ) → found ≡ fin.get index low → MatchOption found ((other : ℕ) (page : Page) → IsAt w.pages other page → low_bound page ≡ low → ⊥) (λ right. IsForwardOf w.pages low right)
  found_forward None is = λ other page is_page same. elim (cases_eq other 0) [
    | inl first ↦ not_first page (subst (λ n. IsAt w.pages n page) first is_page) same
    | inr later ↦
        let found = (kept.indexed low other).1 (omega (arith, later), page_bare w.pages low other (page, is_page, same)) in
        let both : None ≡ Some other = is ∙ found in
        cc
  ]
  found_forward (Some right) is = ready.forwards right (page_full w.pages low right ((kept.indexed low right).0 (sym is)).1)

  -- the number at the prefix is even
  pub even_here : (number_at w.table prefix) % 2 ≡ 0
  even_here = ready.even
