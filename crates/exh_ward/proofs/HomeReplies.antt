-- A call at its home page: what is answered, and what is left.
use Rattle.std.proofs.Common.{◌≡◌, ℕ, ◌<◌, ◌≤◌, ◌^◌, Bool, true, leb, List, length, Option, None, inl, inr, sym, ap, ◌∙◌, arith, nat_cmp}
use Rattle.std.specs.FinMap as fin
use Rattle.std.specs.Option.{option_map}
use Rattle.std.specs.Ordering.{is_eq, eq_by_cmp}
use Rattle.std.specs.Cmp.Lexicographic.{slice_cmp}
use Rattle.std.proofs.lemmas.Bool.{cases_lt, le-leb, lt-leb, eqb-true, eq-eqb, true≢false}
use Rattle.std.proofs.lemmas.Cmp.{eq_by_cmp_equiv}
use Rattle.exh_prefix.specs.declared.prefix.TheConstants.{LIMIT}
use Rattle.exh_prefix.specs.Prefix.{Begins, begins}
use Rattle.exh_prefix.specs.LeadingLemmas.{begins_by-sharing, shared_begins}
use Rattle.exh_page.specs.declared.page.Page.{Page}
use Rattle.exh_page.specs.declared.page.Page.TheVariants.{Live}
use Rattle.exh_page.specs.declared.record.Record.{Record}
use Rattle.exh_page.specs.Page.{AreRecordsOf}
use Rattle.exh_page.specs.Place.{place_cmp}
use Rattle.exh_page.specs.Records.{value_at}
use Rattle.exh_page.specs.RecordsLemmas.{place_cmp-total}
use Rattle.exh_page.specs.KeyMap.{KeyMap}
use Rattle.exh_legal.specs.Pages.{map_of, IsAt, IsLegalPage, IsLegal}
use Rattle.exh_legal.specs.BareLemmas.{bare_at}
use Rattle.exh_legal.specs.MapLemmas.{map_of_records, place_of_key, same_test, get-map_of, get-map_of_records, none_of_others, page_at}
use Rattle.exh_calls.specs.Call.{key_of}
use Rattle.exh_calls.specs.Effect.{Effect, effect_of, sets_new}
use Rattle.exh_calls.specs.CallEffectLemmas.{same_effect}
use Rattle.exh_calls.specs.MapMachine.{sharing, is_full, effect_in, reply_of}
use Rattle.exh_ward.specs.PageAnswer.{effect_at, OverflowsPage}
use Rattle.exh_calls.specs.declared.call.Call.{Call}
use Rattle.exh_calls.specs.SharingLemmas.{shares, sharing_same, sharing_all, sharing-le}
use Rattle.exh_ward.proofs.RecordCount.{len-map_of_records-le, len-map_of_records}

-- a key and the key of a test, the other way round
pub same_test_turned : (pseudo : List ℕ → ℕ) (one other : List ℕ) → is_eq (place_cmp (place_of_key pseudo one) (place_of_key pseudo other)) ≡ eq_by_cmp (slice_cmp nat_cmp) one other
same_test_turned pseudo one other = (eq_by_cmp_equiv place_cmp-total).symm (place_of_key pseudo one) (place_of_key pseudo other) ∙ sym (same_test pseudo one other)

-- every pseudokey is a number of 64 bits
abbrev pub Fit : (List ℕ → ℕ) → Type 0
Fit pseudo = (key : List ℕ) → pseudo key < 2 ^ 64

-- what a call at its home goes by
pub record AtHome (cap : ℕ) (pseudo : List ℕ → ℕ) (ward : List Bool) (pages : List Page) (at : ℕ) (prefix : List Bool) (link : Option ℕ) (records : List Record) (call : Call) : Type 0 where
  pub legal : IsLegal cap pseudo ward pages
  pub there : IsAt pages at (Live prefix link records)
  pub home : Begins prefix (pseudo (key_of call))
  pub none : OverflowsPage cap (pseudo (key_of call)) (Live prefix link records) call → ⊥

module _ {cap : ℕ} {pseudo : List ℕ → ℕ} {ward : List Bool} {pages : List Page} {at : ℕ} {prefix : List Bool} {link : Option ℕ} {records : List Record} {call : Call} (fit : Fit pseudo) (is : AtHome cap pseudo ward pages at prefix link records call) where
  abbrev m : KeyMap
  m = map_of pages

  abbrev key : List ℕ
  key = key_of call

  abbrev full : Bool
  full = leb cap (length records)

  pub page_legal : AreRecordsOf pseudo prefix records × (length records ≤ cap)
  page_legal = page_at (IsLegalPage cap pseudo) pages at _ is.legal.each is.there

  short : length prefix ≤ LIMIT
  short = (is.legal.linked.within at _ (bare_at pages at _ is.there)).1

  -- what the map has at a key that the prefix begins is what the page has
  get_at : (other : List ℕ) → Begins prefix (pseudo other) → fin.get m other ≡ value_at (place_of_key pseudo other) records
  get_at other begins = get-map_of cap pseudo ward pages at _ other is.legal is.there begins

  pub get_key : fin.get m key ≡ value_at (place_of_key pseudo key) records
  get_key = get_at key is.home

  -- ---- the reply

  shared_home : (other : List ℕ) → shares pseudo key other ≡ true → Begins prefix (pseudo other)
  shared_home other same = shared_begins prefix LIMIT (pseudo key) (pseudo other) short (omega arith) is.home (eqb-true _ _ same)

  sharing_here : sharing pseudo m key ≡ sharing pseudo (map_of_records records) key
  sharing_here = sharing_same pseudo key m (map_of_records records) (λ q same. get_at q (shared_home q same) ∙ sym (get-map_of_records pseudo records q page_legal.0.hashed))

  sharing_few : sharing pseudo m key ≤ length records
  sharing_few = omega (arith, sharing_here, sharing-le pseudo key (map_of_records records), len-map_of_records-le records)

  -- where the prefix is as long as can be all records share
  sharing_most : length prefix ≡ LIMIT → sharing pseudo m key ≡ length records
  sharing_most long =
      sharing_here
      ∙ sharing_all pseudo key (map_of_records records) (λ q apart.
      get-map_of_records pseudo records q page_legal.0.hashed
      ∙ ap (option_map (λ r. r.value)) (none_of_others prefix (place_of_key pseudo q) records page_legal.0.begun
      (λ begins. let same = eq-eqb _ _ ((begins_by-sharing prefix LIMIT (pseudo key) (pseudo q) long (omega arith) is.home).0 begins) in true≢false (sym same ∙ apart))))
      ∙ len-map_of_records pseudo records page_legal.0.rising page_legal.0.hashed

  -- a page that lacks the key is full exactly where the map machine turns new keys away
  pub full_alike : (value_at (place_of_key pseudo key) records ≡ None) → (cap ≤ length records → length prefix ≡ LIMIT) → full ≡ is_full cap pseudo m key
  full_alike absent limit = elim (cases_lt (length records) cap) [
    | inl room ↦ lt-leb cap (length records) room ∙ sym (lt-leb cap (sharing pseudo m key) (omega (arith, sharing_few, room)))
    | inr few ↦ le-leb cap (length records) few ∙ sym (le-leb cap (sharing pseudo m key) (omega (arith, sharing_most (limit few), few)))
  ]

  -- a full page at which a call that sets a new key doesn't overflow has a prefix as long as can be
  at_limit : sets_new call ≡ true → value_at (place_of_key pseudo key) records ≡ None → cap ≤ length records → length prefix ≡ LIMIT
  at_limit sets absent few = elim (cases_lt (length prefix) LIMIT) [
    | inl shorter ↦ absurd (is.none (few, shorter, absent, sets))
    | inr long ↦ omega (arith, long, short)
  ]

  -- the call does to its key at the page what it does by the map machine
  pub effect_is : effect_at full (pseudo key) call records ≡ effect_in cap pseudo m call
  effect_is =
      same_effect call full (is_full cap pseudo m key) (value_at (place_of_key pseudo key) records) (λ sets absent. full_alike absent (at_limit sets absent))
      ∙ ap (effect_of call (is_full cap pseudo m key)) (sym get_key)

  pub reply_is : (effect_at full (pseudo key) call records).reply ≡ reply_of cap pseudo m call
  reply_is = ap (λ (effect : Effect). effect.reply) effect_is
