-- What a call is answered at its home page is what the map machine answers over its ward's map.
use Rattle.std.proofs.Common.{◌≡◌, ℕ, ◌≤◌, Bool, true, leb, List, length, Option, None, inl, inr, sym, ap, ◌∙◌, arith}
use Rattle.std.specs.FinMap as fin
use Rattle.std.specs.Option.{option_map}
use Rattle.std.proofs.lemmas.Bool.{cases_lt, le-leb, lt-leb, eqb-true, eq-eqb, true≢false}
use Rattle.exh_prefix.specs.declared.prefix.TheConstants.{LIMIT}
use Rattle.exh_prefix.specs.Prefix.{Begins}
use Rattle.exh_prefix.specs.LeadingLemmas.{begins_by-sharing, shared_begins}
use Rattle.exh_page.specs.declared.page.Page.{Page}
use Rattle.exh_page.specs.declared.page.Page.TheVariants.{Live}
use Rattle.exh_page.specs.declared.record.Record.{Record}
use Rattle.exh_page.specs.Page.{AreRecordsOf}
use Rattle.exh_page.specs.Records.{value_at}
use Rattle.exh_page.specs.KeyMap.{KeyMap}
use Rattle.exh_legal.specs.Pages.{map_of, IsAt, IsLegalPage, IsLegal}
use Rattle.exh_legal.specs.BareLemmas.{bare_at}
use Rattle.exh_legal.specs.MapLemmas.{map_of_records, place_of_key, get-map_of, get-map_of_records, none_of_others, page_at}
use Rattle.exh_calls.specs.Call.{key_of}
use Rattle.exh_calls.specs.Effect.{Effect, effect_of, sets_new}
use Rattle.exh_calls.specs.CallEffectLemmas.{same_effect}
use Rattle.exh_calls.specs.MapMachine.{sharing, is_full, effect_in, reply_of}
use Rattle.exh_calls.specs.SharingLemmas.{shares, sharing_same, sharing_all, sharing-le}
use Rattle.exh_calls.specs.declared.call.Call.{Call}
use Rattle.exh_ward.specs.PageAnswer.{effect_at, OverflowsPage}
use Rattle.exh_change.proofs.RecordCount.{keys_are_records, keys_at_most}

module _ (cap : ℕ) (pseudo : List ℕ → ℕ) (ward : List Bool) (pages : List Page) (at : ℕ) (prefix : List Bool) (link : Option ℕ) (records : List Record) (call : Call) (legal : IsLegal cap pseudo ward pages) (there : IsAt pages at (Live prefix link records))
    (home : Begins prefix (pseudo (key_of call))) (fits : OverflowsPage cap (pseudo (key_of call)) (Live prefix link records) call → ⊥) where
  abbrev m : KeyMap
  m = map_of pages

  abbrev key : List ℕ
  key = key_of call

  abbrev full : Bool
  full = leb cap (length records)

  page_legal : AreRecordsOf pseudo prefix records × (length records ≤ cap)
  page_legal = page_at (IsLegalPage cap pseudo) pages at _ legal.each there

  short : length prefix ≤ LIMIT
  short = (legal.linked.within at _ (bare_at pages at _ there)).1

  -- what the map has at a key that the prefix begins is what the page has
  get_at : (other : List ℕ) → Begins prefix (pseudo other) → fin.get m other ≡ value_at (place_of_key pseudo other) records
  get_at other begins = get-map_of cap pseudo ward pages at _ other legal there begins

  pub get_key : fin.get m key ≡ value_at (place_of_key pseudo key) records
  get_key = get_at key home

  shared_home : (other : List ℕ) → shares pseudo key other ≡ true → Begins prefix (pseudo other)
  shared_home other same = shared_begins prefix LIMIT (pseudo key) (pseudo other) short (omega arith) home (eqb-true _ _ same)

  sharing_here : sharing pseudo m key ≡ sharing pseudo (map_of_records records) key
  sharing_here = sharing_same pseudo key m (map_of_records records) (λ q same. get_at q (shared_home q same) ∙ sym (get-map_of_records pseudo records q page_legal.0.hashed))

  sharing_few : sharing pseudo m key ≤ length records
  sharing_few = omega (arith, sharing_here, sharing-le pseudo key (map_of_records records), keys_at_most records)

  -- where the prefix is as long as can be all records share
  sharing_most : length prefix ≡ LIMIT → sharing pseudo m key ≡ length records
  sharing_most long =
      sharing_here
      ∙ sharing_all pseudo key (map_of_records records) (λ q apart.
      get-map_of_records pseudo records q page_legal.0.hashed
      ∙ ap (option_map (λ r. r.value)) (none_of_others prefix (place_of_key pseudo q) records page_legal.0.begun
      (λ begins. let same = eq-eqb _ _ ((begins_by-sharing prefix LIMIT (pseudo key) (pseudo q) long (omega arith) home).0 begins) in true≢false (sym same ∙ apart))))
      ∙ keys_are_records pseudo records page_legal.0.rising page_legal.0.hashed

  -- a page that lacks the key is full exactly where the map machine turns new keys away
  full_alike : (value_at (place_of_key pseudo key) records ≡ None) → (cap ≤ length records → length prefix ≡ LIMIT) → full ≡ is_full cap pseudo m key
  full_alike absent limit = elim (cases_lt (length records) cap) [
    | inl room ↦ lt-leb cap (length records) room ∙ sym (lt-leb cap (sharing pseudo m key) (omega (arith, sharing_few, room)))
    | inr few ↦ le-leb cap (length records) few ∙ sym (le-leb cap (sharing pseudo m key) (omega (arith, sharing_most (limit few), few)))
  ]

  -- a full page at which a call that sets a new key doesn't overflow has a prefix as long as can be
  at_limit : sets_new call ≡ true → value_at (place_of_key pseudo key) records ≡ None → cap ≤ length records → length prefix ≡ LIMIT
  at_limit sets absent few = elim (cases_lt (length prefix) LIMIT) [
    | inl shorter ↦ absurd (fits (few, shorter, absent, sets))
    | inr long ↦ omega (arith, long, short)
  ]

  effect_is : effect_at full (pseudo key) call records ≡ effect_in cap pseudo m call
  effect_is =
      same_effect call full (is_full cap pseudo m key) (value_at (place_of_key pseudo key) records) (λ sets absent. full_alike absent (at_limit sets absent))
      ∙ ap (effect_of call (is_full cap pseudo m key)) (sym get_key)

  pub reply_is : (effect_at full (pseudo key) call records).reply ≡ reply_of cap pseudo m call
  reply_is = ap (λ (effect : Effect). effect.reply) effect_is
