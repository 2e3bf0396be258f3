-- How far a request is from its answer when it begins.
use Rattle.std.proofs.Common.{◌≡◌, ℕ, ◌+◌, ◌≤◌, ◌-◌, List, ◌++◌, length, map, take, drop, take-add, append_assoc, slice_get, Some, sym, ap, ◌∙◌, subst, arith}
use Rattle.std.specs.FinMap.{entries, get}
use Rattle.std.proofs.lemmas.List.{map-append}
use Rattle.exh_prefix.specs.Leading.{ward_prefix}
use Rattle.exh_prefix.specs.Prefix.{IsFront}
use Rattle.exh_prefix.specs.PrefixListLemmas.{one_there}
use Rattle.exh_table.specs.Table.{TableMap, IsEntryOf, told_by}
use Rattle.exh_calls.specs.Call.{key_of}
use Rattle.exh_calls.specs.declared.call.Call.{Call}
use Rattle.exh_ward.specs.WardState.{WardState, own_prefix}
use Rattle.exh_ward.specs.Distance.{IsDistance}
use Rattle.exh_walk.specs.DistanceLaws.{IsTableWithin, LateTablesAreNear, NamesPages}
use Rattle.exh_walk.specs.RouteLaws.{DistancesAreFew, OneDistance}
use Rattle.exh_world.specs.InFlight.{request_named}
use Rattle.exh_world.specs.Sound.{IsSoundWorld}
use Rattle.exh_world.specs.Step.{HasBegun, pseudokey_in, request_begun}
use Rattle.exh_world.specs.World.{WorldState, changes_in, numbered}
use Rattle.exh_world.specs.declared.request.Request.{Request}
use Rattle.exh_world.specs.Begun.{IsBegunNear}
use Rattle.exh_world.proofs.CountedAnswers.{own_begins, walks_to}
use Rattle.exh_world.proofs.GoingOn.{changes_of}
use Rattle.exh_world.proofs.NamedRequests.{named_last}
use Rattle.exh_world.proofs.NoticeEntries.{entry_over}
use Rattle.exh_world.proofs.SoundKept.{count_of}

module _ {K : Type 0} (pseudokey_of : K → List ℕ → ℕ) (old : WorldState K) (sound : IsSoundWorld pseudokey_of old) (name client copy : ℕ) (call : Call) (number page : ℕ) (now : WorldState K)
    (has : HasBegun pseudokey_of old name client copy call number page now) (few : DistancesAreFew) (near : LateTablesAreNear) (one : OneDistance) where
  abbrev k : ℕ
  k = pseudokey_in pseudokey_of old call

  abbrev begun : Request
  begun = request_begun client call k number page has.distance (length (changes_in old number))

  late_at : (m : ℕ) → m ≤ length has.before.notices → IsTableWithin (own_prefix has.before) has.before.start (take m has.before.notices) has.table → has.distance ≤ length has.before.notices - m
  late_at m within late =
      let ward = has.before in
      let own = sound.wards number ward has.found in
      let own_is : own_prefix ward ≡ ward_prefix old.ward_bits number = ap (λ bits. ward_prefix bits ward.number) own.bits ∙ ap (ward_prefix old.ward_bits) own.number_is in
      let names : NamesPages (own_prefix ward) ward.pages has.table = λ prefix right front split. sound.copies copy has.table has.there number ward has.found prefix right (subst (λ p. IsFront p prefix) own_is front) split in
      let whole : IsTableWithin (own_prefix ward) ward.start ward.notices ward.table = λ prefix front. own.sound.since prefix in
      let far = near ward.cap (pseudokey_of ward.keyer) (own_prefix ward) ward.start ward.notices ward.table ward.pages m has.table k own.sound.legal whole within late names (sound.words (key_of call))
      (own_begins pseudokey_of old sound name client copy call number page now has) in
      let there : IsDistance ward.pages page k far.0 = subst (λ p. IsDistance ward.pages p k far.0) (walks_to pseudokey_of old sound name client copy call number page now has) far.1 in
      let same : has.distance ≡ far.0 = one ward.pages page k has.distance far.0 has.is_distance there in
      omega (arith, same, far.2)

  -- a table of the world's start and the first m changes since is that of the ward's start and as many notices as it had then and m more
  since_at : (m : ℕ) → m ≤ length (changes_in old number) → IsTableWithin (own_prefix has.before) old.start (take m (changes_in old number)) has.table → has.distance ≤ length (changes_in old number) - m
  since_at m within late =
      let ward = has.before in
      let own = sound.wards number ward has.found in
      let own_is : own_prefix ward ≡ ward_prefix old.ward_bits number = ap (λ bits. ward_prefix bits ward.number) own.bits ∙ ap (ward_prefix old.ward_bits) own.number_is in
      let had = take own.before ward.notices in
      let more = take m (drop own.before ward.notices) in
      let changes = changes_of old number own.before ward has.found own.noticed in
      let many = count_of old number own.before ward has.found own.noticed in
      let whole : (entries ward.start ++ map told_by had) ++ map told_by more ≡ entries ward.start ++ map told_by (take (own.before + m) ward.notices) =
      append_assoc (entries ward.start) (map told_by had) (map told_by more) ∙ ap (λ told. entries ward.start ++ told) (sym (map-append told_by had more) ∙ ap (map told_by) (sym (take-add own.before m ward.notices))) in
      let told : IsTableWithin (own_prefix ward) ward.start (take (own.before + m) ward.notices) has.table = λ prefix front.
      subst (λ told. IsEntryOf told prefix (get has.table prefix)) whole
      (entry_over (entries ward.start ++ map told_by had) (map told_by more) old.start prefix (get has.table prefix) (own.started prefix (subst (λ p. IsFront p prefix) own_is front))
      (subst (λ cs. IsEntryOf (entries old.start ++ map told_by (take m cs)) prefix (get has.table prefix)) changes (late prefix front))) in
      let far = late_at (own.before + m) (omega (arith, within, many, own.first)) told in
      omega (arith, far, many, own.first)

  pub begun_near : (request : Request) → request_named name now.in_flight ≡ Some request → (table : TableMap) → numbered old.copies copy ≡ Some table → (ward : WardState K) → slice_get old.wards number ≡ Some ward → IsBegunNear old number ward table request
  begun_near request named table there ward found =
      let own = sound.wards number has.before has.found in
      let same_ward : has.before ≡ ward = one_there old.wards number has.before ward has.found found in
      let same_table : has.table ≡ table = let both : Some has.table ≡ Some table = sym has.there ∙ there in cc in
      let is_begun : request_named name now.in_flight ≡ Some begun = ap (λ (w : WorldState K). request_named name w.in_flight) has.after ∙ named_last name old.in_flight begun has.free in
      let same : begun ≡ request = let both : Some begun ≡ Some request = sym is_begun ∙ named in cc in
      let here : IsBegunNear old number has.before has.table begun = record {
        is = has.is_distance;
        few = few (own_prefix has.before) has.before.pages page k has.distance own.sound.legal.legal.legal.linked has.is_distance;
        late = late_at;
        since = since_at;
      } in
      subst (λ r. IsBegunNear old number ward table r) same (subst (λ t. IsBegunNear old number ward t begun) same_table (subst (λ (w : WardState K). IsBegunNear old number w has.table begun) same_ward here))
