-- An answer at a call's home, as a ward's fields have it.
use Rattle.std.proofs.Common.{◌≡◌, ℕ, ◌-◌, ◌<◌, ◌≤◌, ◌^◌, Bool, leb, List, [], ◌∷◌, ◌++◌, length, Option, refl, sym, ap, ◌∙◌, subst, arith}
use Rattle.std.specs.Prelude.{slice_set}
use Rattle.std.proofs.Math.Pow.{pow_mono}
use Rattle.exh_prefix.specs.declared.prefix.TheConstants.{LIMIT}
use Rattle.exh_prefix.specs.BitLemmas.{length-bits_of}
use Rattle.exh_prefix.specs.Prefix.{low_of}
use Rattle.exh_prefix.specs.PrefixListLemmas.{one_there}
use Rattle.exh_page.specs.declared.page.Page.{Page}
use Rattle.exh_page.specs.declared.page.Page.TheVariants.{Live}
use Rattle.exh_page.specs.declared.record.Record.{Record}
use Rattle.exh_page.specs.Page.{records_of, with_records}
use Rattle.exh_page.specs.Records.{value_at}
use Rattle.exh_page.specs.Search.{IsStood}
use Rattle.exh_legal.specs.LegalLaws.{PagesAreFew}
use Rattle.exh_legal.specs.Pages.{map_of, IsAt}
use Rattle.exh_calls.specs.Call.{key_of}
use Rattle.exh_calls.specs.Effect.{Change, effect_of}
use Rattle.exh_ward.specs.HopTable.{HopOf, pages_after}
use Rattle.exh_ward.specs.WardKept.{IsKeptWard}
use Rattle.exh_calls.specs.MapMachine.{reply_of, map_after}
use Rattle.exh_ward.specs.PageAnswer.{effect_at, reply_by, records_changed, records_after}
use Rattle.exh_legal.specs.PageIndex.{IndexMap}
use Rattle.exh_ward.specs.Sight.{IsSeenAt, SightIn}
use Rattle.exh_ward.specs.WardState.{WardState, IsAnswered, own_prefix}
use Rattle.exh_calls.specs.declared.call.Call.{Call}
use Rattle.exh_ward.specs.declared.hop.Hop.TheVariants.{Done}
use Rattle.exh_calls.specs.declared.journal_entry.JournalEntry.{JournalEntry}
use Rattle.exh_calls.specs.declared.reply.Reply.{Reply}
use Rattle.exh_ward.specs.declared.ward.hop.home_sight.HomeSight.{HomeSight}
use Rattle.exh_ward.specs.declared.ward.hop.sight.Sight.TheVariants.{Home}
use Rattle.exh_ward.proofs.HomeReplies.{AtHome, Fit, reply_is}
use Rattle.exh_ward.proofs.AnswersKeepLegal.{left_legal, new_map}
use Rattle.exh_ward.proofs.StepsKeepSound.{well_formed}
use Rattle.exh_ward.proofs.SightsAreHops.{answers_at, hop_done}

pub most_pages : {K : Type 0} {pseudo : List ℕ → ℕ} {takes : Page → Type 0} {own : List Bool} {index : IndexMap} {told : ℕ} {w : WardState K} → PagesAreFew → IsKeptWard pseudo takes own index told w → length w.pages ≤ 2 ^ (LIMIT - w.ward_bits)
most_pages {w = w} law kept =
    let len : length (own_prefix w) ≡ w.ward_bits = length-bits_of w.ward_bits w.number in
    let P : ℕ → Type 0 = λ n. length w.pages ≤ 2 ^ (LIMIT - n) in
    subst P len (law (own_prefix w) w.pages (omega (arith, len, kept.bits)) kept.sound.legal.legal.legal.linked)

-- a ward's pages have numbers of 32 bits, with one to spare
pub few_pages : {K : Type 0} {pseudo : List ℕ → ℕ} {takes : Page → Type 0} {own : List Bool} {index : IndexMap} {told : ℕ} {w : WardState K} → PagesAreFew → IsKeptWard pseudo takes own index told w → length w.pages < 2 ^ 32 - 1
few_pages {w = w} law kept =
    let room : 2 ^ (LIMIT - w.ward_bits) ≤ 2 ^ LIMIT = pow_mono {i = LIMIT - w.ward_bits} {j = LIMIT} (omega arith) in
    omega (arith, most_pages law kept, room)

-- where the count of failures is as it was
pub same_failures : {K : Type 0} (w : WardState K) (pages : List Page) (journal : List JournalEntry) (failures : ℕ) → failures ≡ w.failures
    → (let after : WardState K = record w { pages = pages; journal = journal; failures = failures } in after) ≡ record w { pages = pages; journal = journal }
same_failures {K = K} w pages journal failures same = ap (λ failures. let after : WardState K = record w { pages = pages; journal = journal; failures = failures } in after) same

-- what an answering hop goes by: the call's home, written out
pub record Answers {K : Type 0} (pseudo : List ℕ → ℕ) (w : WardState K) (at : ℕ) (call : Call) (pseudokey : ℕ) (seen : HomeSight) : Type 0 where
  pub prefix : List Bool
  pub link : Option ℕ
  pub records : List Record
  pub home : AtHome w.cap pseudo (own_prefix w) w.pages at prefix link records call
  pub below : low_of prefix ≤ pseudo (key_of call)
  pub seen_is : IsSeenAt w.cap (pseudo (key_of call)) (Live prefix link records) call seen
  pub hashed : pseudokey ≡ pseudo (key_of call)

pub answers_here : {K : Type 0} (pseudokey_of : K → List ℕ → ℕ) {takes : Page → Type 0} {own : List Bool} {index : IndexMap} {told : ℕ} {w now : WardState K} → w ≡ now → IsKeptWard (pseudokey_of w.keyer) takes own index told w → (at : ℕ) (call : Call) (pseudokey : ℕ) (home : HomeSight)
    → pseudokey ≡ pseudokey_of now.keyer (key_of call) → SightIn now.cap pseudokey now.pages at call (Home home) → Answers (pseudokey_of w.keyer) w at call pseudokey home
answers_here {K = K} pseudokey_of {w = w} {now = now} seen kept at call pseudokey home hashed sight =
    let P : WardState K → Type 0 = λ w. SightIn w.cap pseudokey w.pages at call (Home home) in
    let Q : WardState K → Type 0 = λ w. pseudokey ≡ pseudokey_of w.keyer (key_of call) in
    let hashed_w = subst Q (sym seen) hashed in
    let R : ℕ → Type 0 = λ k. SightIn w.cap k w.pages at call (Home home) in
    let found = answers_at kept.sound.legal.legal.legal at call home (subst R hashed_w (subst P (sym seen) sight)) in
    record { prefix = found.0; link = found.1; records = found.2; home = found.3; below = found.4; seen_is = found.5; hashed = hashed_w }

module _ {K : Type 0} {pseudo : List ℕ → ℕ} {takes : Page → Type 0} {own : List Bool} {index : IndexMap} {told : ℕ} {w : WardState K} (fit : Fit pseudo) (kept : IsKeptWard pseudo takes own index told w) {at : ℕ} {call : Call} {pseudokey : ℕ} {seen : HomeSight}
    (answers : Answers pseudo w at call pseudokey seen) where
  abbrev full : Bool
  full = seen.full

  abbrev page : Page
  page = Live answers.prefix answers.link answers.records

  abbrev left : List Record
  left = records_after (leb w.cap (length answers.records)) (pseudo (key_of call)) call answers.records

  -- the page as the store writes it
  written : with_records (records_after full pseudokey call answers.records) page ≡ Live answers.prefix answers.link left
  written =
      ap (λ k. Live answers.prefix answers.link (records_after full k call answers.records)) answers.hashed
      ∙ ap (λ full. Live answers.prefix answers.link (records_after full (pseudo (key_of call)) call answers.records)) answers.seen_is.full

  there_is : (other : Page) → IsAt w.pages at other → other ≡ page
  there_is other is = one_there w.pages at other page is answers.home.there

  -- what was seen is what the page has
  pub spot_there : (key : List ℕ) → key ≡ key_of call → (other : Page) → IsAt w.pages at other → IsStood (pseudokey, key) (records_of other) seen.spot
  spot_there key same other is =
      let P : ℕ → Type 0 = λ k. IsStood (k, key_of call) answers.records seen.spot in
      let Q : Page → Type 0 = λ other. IsStood (pseudokey, key_of call) (records_of other) seen.spot in
      let R : List ℕ → Type 0 = λ key. IsStood (pseudokey, key) (records_of other) seen.spot in
      subst R (sym same) (subst Q (sym (there_is other is)) (subst P (sym answers.hashed) answers.seen_is.spot))

  stood_there : (other : Page) → IsAt w.pages at other → seen.stood ≡ value_at (pseudokey, key_of call) (records_of other)
  stood_there other is =
      answers.seen_is.stood ∙ ap (λ k. value_at (k, key_of call) answers.records) (sym answers.hashed)
      ∙ ap (λ other. value_at (pseudokey, key_of call) (records_of other)) (sym (there_is other is))

  pub reply_there : (reply : Reply) → reply ≡ (effect_of call full seen.stood).reply → (other : Page) → IsAt w.pages at other → reply ≡ reply_by full pseudokey call other
  reply_there reply by_stood other is = by_stood ∙ ap (λ stood. (effect_of call full stood).reply) (stood_there other is)

  -- so the change that it comes to leaves the records after the call
  changed_there : (key : List ℕ) (change : Change) → key ≡ key_of call → change ≡ (effect_of call full seen.stood).change → (other : Page) → IsAt w.pages at other
      → records_changed change pseudokey key (records_of other) ≡ records_after full pseudokey call (records_of other)
  changed_there key change same by_stood other is =
      ap (λ key. records_changed change pseudokey key (records_of other)) same
      ∙ ap (λ change. records_changed change pseudokey (key_of call) (records_of other)) (by_stood ∙ ap (λ stood. (effect_of call full stood).change) (stood_there other is))

  pub stored : (key : List ℕ) (change : Change) → key ≡ key_of call → change ≡ (effect_of call full seen.stood).change → (pages : List Page)
      → ((other : Page) → IsAt w.pages at other → pages ≡ slice_set w.pages at (with_records (records_changed change pseudokey key (records_of other)) other))
      → (other : Page) → IsAt w.pages at other → pages ≡ slice_set w.pages at (with_records (records_after full pseudokey call (records_of other)) other)
  stored key change same by_stood pages by_store other is =
      by_store other is ∙ ap (λ records. slice_set w.pages at (with_records records other)) (changed_there key change same by_stood other is)

  pub written_taken : (key : List ℕ) (change : Change) → key ≡ key_of call → change ≡ (effect_of call full seen.stood).change → length w.pages < 2 ^ 32 - 1
      → (other : Page) → IsAt w.pages at other → takes (with_records (records_changed change pseudokey key (records_of other)) other)
  written_taken key change same by_stood few other is =
      let formed = well_formed w.pages kept.sound.legal.legal.legal.linked few kept.most at answers.prefix answers.link answers.records left answers.home.there (left_legal fit answers.home) in
      let P : Page → Type 0 = λ other. takes (with_records (records_after full pseudokey call (records_of other)) other) in
      let S : List Record → Type 0 = λ records. takes (with_records records other) in
      subst S (sym (changed_there key change same by_stood other is)) (subst P (sym (there_is other is)) (subst takes (sym written) (kept.takes_all _ formed)))

  pub replied : (reply : Reply) → ((other : Page) → IsAt w.pages at other → reply ≡ reply_by full pseudokey call other) → reply ≡ reply_of w.cap pseudo (map_of w.pages) call
  replied reply by_page =
      by_page page answers.home.there
      ∙ ap (λ k. (effect_at full k call answers.records).reply) answers.hashed
      ∙ ap (λ full. (effect_at full (pseudo (key_of call)) call answers.records).reply) answers.seen_is.full
      ∙ reply_is fit answers.home

  pub pages_are : (pages : List Page) → ((other : Page) → IsAt w.pages at other → pages ≡ slice_set w.pages at (with_records (records_after full pseudokey call (records_of other)) other)) → pages ≡ slice_set w.pages at (Live answers.prefix answers.link left)
  pages_are pages by_store = by_store page answers.home.there ∙ ap (slice_set w.pages at) written

  pub after_is : (pages : List Page) → ((other : Page) → IsAt w.pages at other → pages ≡ slice_set w.pages at (with_records (records_after full pseudokey call (records_of other)) other)) → pages ≡ pages_after w.cap pseudo w.pages at call
  unfolding pages_after
  after_is pages by_store = pages_are pages by_store ∙ rw answers.home.there refl

  pub map_is : (pages : List Page) → pages ≡ slice_set w.pages at (Live answers.prefix answers.link left) → map_of pages ≡ map_after w.cap pseudo (map_of w.pages) call
  map_is pages is = ap map_of is ∙ new_map fit answers.home

  pub hop_is_done : (reply : Reply) → reply ≡ reply_of w.cap pseudo (map_of w.pages) call → HopOf w.cap pseudo w.pages at call (Done reply)
  hop_is_done reply is = hop_done kept.sound.legal.legal.legal at call fit answers.prefix answers.link answers.records reply answers.home answers.below is

-- an answer, as the ward is seen
pub answered_seen : {K : Type 0} (pseudokey_of : K → List ℕ → ℕ) {takes : Page → Type 0} {own : List Bool} {index : IndexMap} {told : ℕ} {w now : WardState K} → w ≡ now → Fit (pseudokey_of w.keyer) → IsKeptWard (pseudokey_of w.keyer) takes own index told w
    → {at : ℕ} {call : Call} {pseudokey : ℕ} {home : HomeSight} → Answers (pseudokey_of w.keyer) w at call pseudokey home → (client : ℕ) (reply : Reply) (pages : List Page) (journal : List JournalEntry) (failures : ℕ)
    → ((other : Page) → IsAt w.pages at other → pages ≡ slice_set w.pages at (with_records (records_after home.full pseudokey call (records_of other)) other))
    → journal ≡ w.journal ++ record { client = client; call = call; reply = reply } ∷ [] → failures ≡ w.failures
    → IsAnswered pseudokey_of now at client call reply (record w { pages = pages; journal = journal; failures = failures })
answered_seen {K = K} pseudokey_of {w = w} {now = now} seen fit kept {at = at} {call = call} answers client reply pages journal failures by_store pushed same =
    let P : WardState K → Type 0 = λ old. IsAnswered pseudokey_of old at client call reply (record w { pages = pages; journal = journal; failures = failures }) in
    subst P seen (record {
      pages = after_is fit kept answers pages by_store;
      map = map_is fit kept answers pages (pages_are fit kept answers pages by_store);
      journal = pushed;
      others = same_failures w pages journal failures same;
    })
