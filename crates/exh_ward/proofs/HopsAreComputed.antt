-- The hop table as a relation gives what it gives as a function.
use Rattle.std.specs.Option.{option_map_or}
use Rattle.std.specs.Prelude.{nat_lt, if◌then◌else◌}
use Rattle.std.proofs.Common.{◌≡◌, ℕ, suc, ◌<◌, ◌^◌, subst, Bool, true, false, not, List, length, slice_get, Option, Some, None, refl, sym, ap, ◌∙◌, arith, inl, inr}
use Rattle.std.specs.FinMap as map
use Rattle.std.specs.Option.{is_some}
use Rattle.std.proofs.lemmas.Bool.{leb-true, le-leb, lt-leb, cases_lt, false_from_ne_true, false≢true, and_parts}
use Rattle.exh_prefix.specs.declared.prefix.TheConstants.{LIMIT}
use Rattle.exh_prefix.specs.Bits.{word_bits}
use Rattle.exh_prefix.specs.PrefixLemmas.{is_front-true, not_front, IsFront-from_test}
use Rattle.exh_page.specs.declared.page.Page.{Page}
use Rattle.exh_page.specs.declared.page.Page.TheVariants.{Live, Forward}
use Rattle.exh_page.specs.Page.{low_bound}
use Rattle.exh_page.specs.declared.record.Record.{Record}
use Rattle.exh_legal.specs.LegalLaws.{RightLinksLeadOn}
use Rattle.exh_prefix.specs.Prefix.{Begins, is_front}
use Rattle.exh_calls.specs.Call.{key_of}
use Rattle.exh_page.specs.KeyMap.{KeyMap}
use Rattle.exh_calls.specs.MapMachine.{reply_of}
use Rattle.exh_legal.specs.Pages.{IsHome, IsLegal, map_of}
use Rattle.exh_ward.specs.HopTable.{overflows, hop_at, hop_of, IsReached, LeadsTo, Overflows, HopOf}
use Rattle.exh_calls.specs.declared.call.Call.{Call}
use Rattle.exh_ward.specs.declared.hop.Hop.{Hop}
use Rattle.exh_ward.specs.declared.hop.Hop.TheVariants.{Done, Moved, MustSplit, Stray}

-- ---- overflow

no_key : (m : KeyMap) (key : List ℕ) → map.get m key ≡ None → map.contains_key m key ≡ false
no_key m key none = ap is_some none

key_absent : {T : Type 0} (o : Option T) → not (is_some o) ≡ true → o ≡ None
key_absent None is = refl
key_absent (Some x) is = cc

pub overflows-true : (cap : ℕ) (m : KeyMap) (page : Page) (call : Call) → Overflows cap m page call → overflows cap m page call ≡ true
overflows-true cap m (Live prefix right records) call over =
    rw (no_key m (key_of call) over.0, le-leb cap (length records) over.1, le-leb (suc (length prefix)) LIMIT over.2, over.3) refl
overflows-true cap m (Forward low target) call over = absurd over

pub Overflows-from_test : (cap : ℕ) (m : KeyMap) (page : Page) (call : Call) → overflows cap m page call ≡ true → Overflows cap m page call
Overflows-from_test cap m (Live prefix right records) call is =
    let first = and_parts _ _ is in
    let second = and_parts _ _ first.1 in
    let third = and_parts _ _ second.1 in
    (key_absent (map.get m (key_of call)) first.0, leb-true _ _ second.0, leb-true _ _ third.0, third.1)
Overflows-from_test cap m (Forward low target) call is = cc

no_overflow : (cap : ℕ) (m : KeyMap) (page : Page) (call : Call) → (Overflows cap m page call → ⊥) → overflows cap m page call ≡ false
no_overflow cap m page call none = false_from_ne_true _ (λ is. none (Overflows-from_test cap m page call is))

-- ---- the table

module _ (cap : ℕ) (pseudo : List ℕ → ℕ) (pages : List Page) (at : ℕ) (call : Call) where
  -- a page that is reached decides
  at_reached : (page : Page) → IsReached pages at (pseudo (key_of call)) page → hop_of cap pseudo pages at call ≡ hop_at cap pseudo pages call page
  unfolding hop_of
  at_reached page reached = rw (reached.there, lt-leb (suc (pseudo (key_of call))) (low_bound page) (omega (arith, reached.below))) refl

  leads : (page : Page) (next : ℕ) → LeadsTo page (pseudo (key_of call)) next → hop_at cap pseudo pages call page ≡ Moved next
  leads (Forward low target) next is = ap Moved is
  leads (Live prefix right records) next is = rw (not_front prefix (word_bits (pseudo (key_of call))) is.0, is.1) refl

  splits : (page : Page) → IsHome page (pseudo (key_of call)) → Overflows cap (map_of pages) page call → hop_at cap pseudo pages call page ≡ MustSplit
  splits (Forward low target) home over = absurd home
  splits (Live prefix right records) home over =
      rw (is_front-true prefix (word_bits (pseudo (key_of call))) home, overflows-true cap (map_of pages) (Live prefix right records) call over) refl

  answers : (page : Page) → IsHome page (pseudo (key_of call)) → (Overflows cap (map_of pages) page call → ⊥) → hop_at cap pseudo pages call page ≡ Done (reply_of cap pseudo (map_of pages) call)
  answers (Forward low target) home none = absurd home
  answers (Live prefix right records) home none =
      rw (is_front-true prefix (word_bits (pseudo (key_of call))) home, no_overflow cap (map_of pages) (Live prefix right records) call none) refl

  -- where no page is reached
  strays_at : (found : Option Page) → slice_get pages at ≡ found → ((page : Page) → IsReached pages at (pseudo (key_of call)) page → ⊥) → Stray ≡ hop_of cap pseudo pages at call
  unfolding hop_of
  strays_at None is none = rw is refl
  strays_at (Some page) is none =
      elim (cases_lt (pseudo (key_of call)) (low_bound page)) [
        | inl before ↦ rw (is, le-leb (suc (pseudo (key_of call))) (low_bound page) before) refl
        | inr reached ↦ absurd (none page (record { there = is; below = reached }))
      ]

  pub hop_is_hop_of : (hop : Hop) → HopOf cap pseudo pages at call hop → hop ≡ hop_of cap pseudo pages at call
  hop_is_hop_of Stray is = strays_at (slice_get pages at) refl is
  hop_is_hop_of (Moved next) is = sym (at_reached is.0 is.1 ∙ leads is.0 next is.2)
  hop_is_hop_of MustSplit is = sym (at_reached is.0 is.1 ∙ splits is.0 is.2 is.3)
  hop_is_hop_of (Done reply) is = ap Done is.4 ∙ sym (at_reached is.0 is.1 ∙ answers is.0 is.2 is.3)

  -- ---- the other way, in legal pages

  module _ (ward : List Bool) (links : RightLinksLeadOn) (legal : IsLegal cap pseudo ward pages) (small : pseudo (key_of call) < 2 ^ 64) (covered : Begins ward (pseudo (key_of call))) where
    abbrev k : ℕ
    k = pseudo (key_of call)

    -- at its home a call is answered, or has to wait
    at_home : (prefix : List Bool) (link : Option ℕ) (records : List Record) → IsReached pages at k (Live prefix link records) → Begins prefix k → (over : Bool) → overflows cap (map_of pages) (Live prefix link records) call ≡ over
        → HopOf cap pseudo pages at call (if over then MustSplit else Done (reply_of cap pseudo (map_of pages) call))
    at_home prefix link records reached begins true is = (Live prefix link records, reached, begins, Overflows-from_test cap (map_of pages) (Live prefix link records) call is)
    at_home prefix link records reached begins false is =
        (Live prefix link records, reached, begins, λ over. false≢true (sym is ∙ overflows-true cap (map_of pages) (Live prefix link records) call over), refl)

    -- another live page has a right link
    elsewhere : (prefix : List Bool) (link : Option ℕ) (records : List Record) → IsReached pages at k (Live prefix link records) → (Begins prefix k → ⊥) → HopOf cap pseudo pages at call (option_map_or Moved link Stray)
    elsewhere prefix link records reached none =
        let on = links ward pages at prefix link records k legal.linked reached.there small covered reached.below none in
        subst (λ link. HopOf cap pseudo pages at call (option_map_or Moved link Stray)) (sym on.1) (Live prefix link records, reached, (none, on.1))

    at_live : (prefix : List Bool) (link : Option ℕ) (records : List Record) → IsReached pages at k (Live prefix link records) → (here : Bool) → is_front prefix (word_bits k) ≡ here
        → HopOf cap pseudo pages at call (if here then (if overflows cap (map_of pages) (Live prefix link records) call then MustSplit else Done (reply_of cap pseudo (map_of pages) call)) else option_map_or Moved link Stray)
    at_live prefix link records reached true is = at_home prefix link records reached (IsFront-from_test prefix (word_bits k) is) (overflows cap (map_of pages) (Live prefix link records) call) refl
    at_live prefix link records reached false is = elsewhere prefix link records reached (λ begins. false≢true (sym is ∙ is_front-true prefix (word_bits k) begins))

    at_page : (page : Page) → IsReached pages at k page → HopOf cap pseudo pages at call (hop_at cap pseudo pages call page)
    at_page (Live prefix link records) reached = at_live prefix link records reached (is_front prefix (word_bits k)) refl
    at_page (Forward low target) reached = (Forward low target, reached, refl)

    beyond : ((page : Page) → IsReached pages at k page → ⊥) → HopOf cap pseudo pages at call Stray
    beyond none = none

    at_number : (found : Option Page) → slice_get pages at ≡ found → HopOf cap pseudo pages at call (option_map_or (λ page. if nat_lt k (low_bound page) then Stray else hop_at cap pseudo pages call page) found Stray)
    at_number None is = beyond (λ page reached. let both : None ≡ Some page = sym is ∙ reached.there in cc)
    at_number (Some page) is = elim (cases_lt k (low_bound page)) [
      | inl before ↦ rw (le-leb (suc k) (low_bound page) before) (beyond (λ other reached.
          let same : page ≡ other = (let both : Some page ≡ Some other = sym is ∙ reached.there in cc) in
          absurd (omega (arith, before, reached.below, ap low_bound same))))
      | inr below ↦ rw (lt-leb (suc k) (low_bound page) (omega (arith, below))) (at_page page (record { there = is; below = below }))
    ]

    pub has_outcome : HopOf cap pseudo pages at call (hop_of cap pseudo pages at call)
    unfolding hop_of
    has_outcome = at_number (slice_get pages at) refl
