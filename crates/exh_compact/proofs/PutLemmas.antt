-- A put into a ward, turn by turn: splits of its key's home, and the answer.
use Rattle.std.proofs.Common.{◌≡◌, ℕ, ◌<◌, Bool, true, false, List, Option, None, Some, refl, sym, ap, ◌∙◌, subst, arith}
use Rattle.std.specs.FinMap as fin
use Rattle.exh_keyer.specs.Pseudokey.{any_pseudokey}
use Rattle.exh_keyer.specs.declared.any_keyer.AnyKeyer.{AnyKeyer}
use Rattle.exh_notice.specs.declared.notice.Notice.{Notice}
use Rattle.exh_prefix.specs.Prefix.{Begins}
use Rattle.exh_prefix.specs.PrefixListLemmas.{one_there}
use Rattle.exh_page.specs.KeyMap.{KeyMap}
use Rattle.exh_page.specs.declared.page.Page.TheVariants.{Live, Forward}
use Rattle.exh_calls.specs.Call.{key_of}
use Rattle.exh_calls.specs.Effect.{effect_of}
use Rattle.exh_calls.specs.MapMachine.{changed, is_full}
use Rattle.exh_calls.specs.declared.call.Call.{Call}
use Rattle.exh_calls.specs.declared.call.Call.TheVariants.{Put}
use Rattle.exh_calls.specs.declared.reply.Reply.{Reply}
use Rattle.exh_calls.specs.declared.reply.Reply.TheVariants.{New}
use Rattle.exh_legal.specs.Change.{IsSplit}
use Rattle.exh_legal.specs.Pages.{bare, map_of}
use Rattle.exh_ward.specs.AnswerLemmas.{bare_answered}
use Rattle.exh_ward.specs.HopTable.{HopOf}
use Rattle.exh_ward.specs.WardState.{IsAnswered, IsSoundWard, LeavesAfter, WardState, own_prefix}
use Rattle.exh_ward.specs.declared.hop.Hop.{Hop}
use Rattle.exh_ward.specs.declared.hop.Hop.TheVariants.{Done, MustSplit}
use Rattle.exhash.specs.FileLimits.{CHANGER}
use Rattle.exhash.specs.HomeLemmas.{IsFullHome}
use Rattle.exhash.specs.SplitLemmas.{own_kept, splits_keep}
use Rattle.exhash.specs.WardChange.{AreSplits, IsChanged, IsSplitAway}
use Rattle.exh_compact.specs.Needed.{AreNeeded, begun_in}
use Rattle.exh_compact.proofs.Begun.{page_begun}
use Rattle.exh_compact.proofs.NeededLemmas.{AreNeededBy, all_needed_more, answered_needed, begun_more, split_needed}

-- the pages of a ward are those that the pairs of another one need, with a key more
abbrev pub AreNeededWith : WardState AnyKeyer → List ℕ → List ℕ → WardState AnyKeyer → Type 0
AreNeededWith old key value ward = AreNeededBy old.cap (any_pseudokey old.keyer) (own_prefix old) (fin.insert (map_of old.pages) key value) ward.pages

pub begun_with : (old : WardState AnyKeyer) (key value : List ℕ) → AreNeeded old → AreNeededWith old key value old
begun_with old key value are = all_needed_more old.cap (any_pseudokey old.keyer) (own_prefix old) (map_of old.pages) key value old.pages are

-- ---- a turn

absent_from : (cap : ℕ) (pseudo : List ℕ → ℕ) (ward : WardState AnyKeyer) (at : ℕ) (call : Call) → HopOf cap pseudo ward.pages at call MustSplit → fin.get (map_of ward.pages) (key_of call) ≡ None
absent_from cap pseudo ward at call (Live prefix link records, reached, home, over) = over.0
absent_from cap pseudo ward at call (Forward low target, reached, home, over) = absurd home

-- a key for which a page must be split isn't there
pub absent : (ward : WardState AnyKeyer) (at : ℕ) (call : Call) (hop : Hop) → hop ≡ MustSplit → HopOf ward.cap (any_pseudokey ward.keyer) ward.pages at call hop → fin.get (map_of ward.pages) (key_of call) ≡ None
absent ward at call hop is table = absent_from ward.cap (any_pseudokey ward.keyer) ward at call (subst (HopOf ward.cap (any_pseudokey ward.keyer) ward.pages at call) is table)

-- the home is split, which is full
pub turn_needed : (old ward new : WardState AnyKeyer) (key value : List ℕ) (splits : List (ℕ × Notice)) (at pseudokey : ℕ) → AreSplits old splits ward → IsSoundWard any_pseudokey ward → pseudokey ≡ any_pseudokey ward.keyer key
    → fin.get (map_of ward.pages) key ≡ None → IsFullHome ward pseudokey at → IsSplitAway ward at new → AreNeededWith old key value ward → AreNeededWith old key value new
turn_needed old ward new key value splits at pseudokey run sound hashed none home split are =
    let kept = splits_keep old splits ward run in
    let pseudo = any_pseudokey ward.keyer in
    let parted = split.1.split in
    let page = one_there ward.pages at (Live home.full.prefix home.full.link home.full.records) (Live split.0.prefix parted.link parted.records) home.full.there parted.there in
    let prefix_is : home.full.prefix ≡ split.0.prefix = cc in
    let begun : Begins split.0.prefix (pseudo key) = subst (λ p. Begins p (pseudo key)) prefix_is (subst (Begins home.full.prefix) hashed home.begins) in
    let count = page_begun ward.cap pseudo (own_prefix ward) ward.pages at split.0.prefix parted.link parted.records sound.legal.legal.legal parted.there in
    let more = begun_more pseudo (map_of ward.pages) key value split.0.prefix none begun in
    let many : ward.cap < begun_in pseudo (fin.insert (map_of ward.pages) key value) split.0.prefix = omega (arith, more, count, parted.full) in
    let as_old = subst (λ (m : KeyMap). old.cap < begun_in (any_pseudokey old.keyer) (fin.insert m key value) split.0.prefix) kept.map
    (subst (λ (keyer : AnyKeyer). old.cap < begun_in (any_pseudokey keyer) (fin.insert (map_of ward.pages) key value) split.0.prefix) kept.keyer
    (subst (λ (cap : ℕ). cap < begun_in pseudo (fin.insert (map_of ward.pages) key value) split.0.prefix) kept.cap many)) in
    split_needed old.cap (any_pseudokey old.keyer) (own_prefix old) (fin.insert (map_of old.pages) key value) ward.pages new.pages at split.1.right split.0.prefix
    (subst (λ (cap : ℕ). IsSplit cap ward.pages at split.0.prefix split.1.right new.pages) kept.cap parted) as_old are

-- ---- the answer

new_inserts : (full : Bool) (found : Option (List ℕ)) (key value : List ℕ) (m : KeyMap) → (effect_of (Put key value) full found).reply ≡ New → changed (effect_of (Put key value) full found).change key m ≡ fin.insert m key value
new_inserts full (Some stood) key value m is = cc
new_inserts true None key value m is = cc
new_inserts false None key value m is = refl

pub done_needed : (old ward new : WardState AnyKeyer) (key value : List ℕ) (splits : List (ℕ × Notice)) (at : ℕ) (hop : Hop) (reply : Reply) → AreSplits old splits ward → hop ≡ Done reply
    → LeavesAfter any_pseudokey ward at CHANGER (Put key value) hop new → IsChanged any_pseudokey old (Put key value) reply new → reply ≡ New → AreNeededWith old key value ward → AreNeeded new
done_needed old ward new key value splits at hop reply run done leaves changed is are =
    let kept = splits_keep old splits ward run in
    let pseudo = any_pseudokey old.keyer in
    let m = map_of old.pages in
    let answered : IsAnswered any_pseudokey ward at CHANGER (Put key value) reply new = subst (λ h. LeavesAfter any_pseudokey ward at CHANGER (Put key value) h new) done leaves in
    let map : map_of new.pages ≡ fin.insert m key value = changed.map ∙ new_inserts (is_full old.cap pseudo m key) (fin.get m key) key value m (sym changed.reply_is ∙ is) in
    let others = answered.others in
    let cap : new.cap ≡ old.cap = ap (λ (w : WardState AnyKeyer). w.cap) others ∙ kept.cap in
    let keyer : new.keyer ≡ old.keyer = ap (λ (w : WardState AnyKeyer). w.keyer) others ∙ kept.keyer in
    let own : own_prefix new ≡ own_prefix old = ap (λ (w : WardState AnyKeyer). own_prefix w) others ∙ own_kept old ward kept in
    let bare_is = ap bare answered.pages ∙ bare_answered ward.cap (any_pseudokey ward.keyer) ward.pages at (Put key value) in
    let after : AreNeededBy old.cap pseudo (own_prefix old) (fin.insert m key value) new.pages = answered_needed old.cap pseudo (own_prefix old) (fin.insert m key value) ward.pages new.pages bare_is are in
    subst (λ (n : KeyMap). AreNeededBy new.cap (any_pseudokey new.keyer) (own_prefix new) n new.pages) (sym map)
    (subst (λ (o : List Bool). AreNeededBy new.cap (any_pseudokey new.keyer) o (fin.insert m key value) new.pages) (sym own)
    (subst (λ (k : AnyKeyer). AreNeededBy new.cap (any_pseudokey k) (own_prefix old) (fin.insert m key value) new.pages) (sym keyer)
    (subst (λ (c : ℕ). AreNeededBy c pseudo (own_prefix old) (fin.insert m key value) new.pages) (sym cap) after)))
