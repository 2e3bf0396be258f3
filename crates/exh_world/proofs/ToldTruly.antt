-- Each step leaves a world told truly; and copies that took all changes of a ward are current in it.
use Rattle.std.proofs.Common.{◌≡◌, ℕ, ◌-◌, ◌<◌, ◌^◌, Bool, List, [], ◌∷◌, ◌++◌, drop, map, slice_get, Option, None, Some, Result, Ok, Err, inl, inr, refl, sym, ap, ◌∙◌, subst, arith}
use Rattle.std.specs.Prelude.{Contains, slice_set}
use Rattle.std.specs.FinMap as fin
use Rattle.std.specs.FinMap.{entries, get}
use Rattle.std.specs.Option.{option_map_or}
use Rattle.std.proofs.lemmas.List.Elements.{Contains-append_right}
use Rattle.std.proofs.lemmas.Option.{slice_get_within}
use Rattle.exh_prefix.specs.Leading.{ward_prefix}
use Rattle.exh_prefix.specs.LeadingLemmas.{one_front}
use Rattle.exh_prefix.specs.PrefixListLemmas.{Contains-map, drop_push, one_there, set_else, set_here, set_is}
use Rattle.exh_prefix.specs.Prefix.{IsFront, prefix_cmp}
use Rattle.exh_notice.specs.declared.entry.Entry.{Entry}
use Rattle.exh_notice.specs.declared.notice.Notice.{Notice}
use Rattle.exh_notice.specs.Entry.{entry_of}
use Rattle.exh_table.specs.Table.{TableMap, IsTableOf, told_by, table_with}
use Rattle.exh_table.specs.TableLemmas.{table_laws, up_to_both, up_to_third}
use Rattle.exh_table.specs.TableOrder.{IsOptionUpTo, IsTableUpTo, table_join}
use Rattle.exh_ward.specs.WardState.{WardState, own_prefix}
use Rattle.exh_world.specs.StepEffectLemmas.{on_effect, on_refusal}
use Rattle.exh_world.specs.WorldListLemmas.{mapped_is, numbered_is, numbered_none, numbered_push, numbered_set}
use Rattle.exh_ward.specs.NewWards.{new_ward}
use Rattle.exh_world.specs.NewWorld.{new_world}
use Rattle.exh_world.specs.WorldRun.{Told}
use Rattle.exh_world.specs.Sound.{IsSoundWorld}
use Rattle.exh_world.specs.Step.{HasEffect, Step}
use Rattle.exh_world.specs.World.{WorldState, changes_in, issued_in, numbered}
use Rattle.exh_page.specs.Config.{file_settings}
use Rattle.exh_page.specs.declared.config.Config.{Config}
use Rattle.exh_walk.specs.declared.event.Event.{Event}
use Rattle.exh_walk.specs.declared.outcome.Outcome.{Outcome}
use Rattle.exh_walk.specs.declared.step_fault.StepFault.{StepFault}
use Rattle.exh_world.specs.Current.{IsCurrentIn}
use Rattle.exh_world.specs.Tables.{TellsTruly, ComesFrom, IsToldTruly}
use Rattle.exh_world.proofs.NoticeEntries.{told_up, join_up, notice_up, above_notice, comes_with}
use Rattle.exh_world.proofs.GoingOn.{changes_of, same_changes}
use Rattle.exh_world.proofs.WardTurns.{IsWardTurn, Turns, Tells, counted_turn, step_turn}

-- ---- one step

module _ {K : Type 0} (pseudokey_of : K → List ℕ → ℕ) (old : WorldState K) (sound : IsSoundWorld pseudokey_of old) where
  abbrev told : IsToldTruly old
  told = sound.told

  fits : (number : ℕ) (ward : WardState K) → slice_get old.wards number ≡ Some ward → number < 2 ^ old.ward_bits
  fits number ward is = subst (λ n. number < n) sound.count (slice_get_within old.wards number ward is)

  -- what a ward has issued, its own table tells
  issued_told : (from : ℕ) (notice : Notice) → Contains (issued_in old from) notice → (number : ℕ) (ward : WardState K) → slice_get old.wards number ≡ Some ward
      → (prefix : List Bool) → IsFront (ward_prefix old.ward_bits number) prefix → prefix ≡ notice.prefix → IsOptionUpTo (Some (entry_of notice)) (get ward.table prefix)
  issued_told from notice issued number ward is prefix front same =
      elim (slice_get old.wards from) as (λ found. slice_get old.wards from ≡ found → Contains (option_map_or (λ (w : WardState K). w.notices) found []) notice → IsOptionUpTo (Some (entry_of notice)) (get ward.table prefix)) [
        | None ↦ λ there among. absurd (omega (arith, among.1))
        | Some teller ↦ λ there among.
            let own = sound.wards from teller there in
            let own_is : own_prefix teller ≡ ward_prefix old.ward_bits from = ap (λ bits. ward_prefix bits teller.number) own.bits ∙ ap (ward_prefix old.ward_bits) own.number_is in
            let within : IsFront (ward_prefix old.ward_bits from) prefix = subst (IsFront (ward_prefix old.ward_bits from)) (sym same) (subst (λ p. IsFront p notice.prefix) own_is (own.sound.notices notice among).within) in
            let here : from ≡ number = one_front old.ward_bits from number prefix (fits from teller there) (fits number ward is) within front in
            let teller_is : teller ≡ ward = one_there old.wards number teller ward (subst (λ n. slice_get old.wards n ≡ Some teller) here there) is in
            let member = Contains-append_right (entries teller.start) (map told_by teller.notices) (told_by notice) (Contains-map told_by teller.notices notice among) in
            let up : IsOptionUpTo (Some (entry_of notice)) (get teller.table notice.prefix) = told_up (entries teller.start ++ map told_by teller.notices) notice.prefix (get teller.table notice.prefix) (own.sound.since notice.prefix) (entry_of notice) member in
            subst (λ (w : WardState K). IsOptionUpTo (Some (entry_of notice)) (get w.table prefix)) teller_is (subst (λ p. IsOptionUpTo (Some (entry_of notice)) (get teller.table p)) (sym same) up)
      ] refl issued

  taken_truly : (from : ℕ) (notice : Notice) (table : TableMap) → Contains (issued_in old from) notice → TellsTruly old table → TellsTruly old (table_with table notice)
  taken_truly from notice table issued truly = record {
    start = table_laws.order.transitive old.start table (table_with table notice) truly.start (above_notice table notice);
    wards = λ number ward is prefix front. notice_up table notice (get ward.table prefix) prefix (truly.wards number ward is prefix front) (issued_told from notice issued number ward is prefix front);
  }

  joined_truly : (table other : TableMap) → TellsTruly old table → TellsTruly old other → TellsTruly old (table_join table other)
  joined_truly table other truly truly_too = record {
    start = table_laws.order.transitive old.start table (table_join table other) truly.start (table_laws.bound.above_first table other);
    wards = λ number ward is prefix front. join_up table other ward.table prefix (truly.wards number ward is prefix front) (truly_too.wards number ward is prefix front);
  }

  -- ---- the tables after it

  record Tables (new : WorldState K) : Type 0 where
    copies : (copy : ℕ) (table : TableMap) → numbered new.copies copy ≡ Some table → TellsTruly old table
    sent : (number : ℕ) (table : TableMap) → numbered new.sent number ≡ Some table → TellsTruly old table

  same_tables : (new : WorldState K) → new.copies ≡ old.copies → new.sent ≡ old.sent → Tables new
  same_tables new copies sent = record {
    copies = λ copy table is. told.copies copy table (ap (λ cs. numbered cs copy) (sym copies) ∙ is);
    sent = λ number table is. told.sent number table (ap (λ ss. numbered ss number) (sym sent) ∙ is);
  }

  -- one copy has another table
  one_copy : (new : WorldState K) (copy : ℕ) (own left : TableMap) → numbered old.copies copy ≡ Some own → TellsTruly old left → new.copies ≡ slice_set old.copies (copy - 1) left → new.sent ≡ old.sent → Tables new
  one_copy new copy own left there truly copies sent = record {
    copies = λ other table is. elim (numbered_set old.copies copy other own left table there (ap (λ cs. numbered cs other) (sym copies) ∙ is)) [
      | inl here ↦ subst (TellsTruly old) (sym here.1) truly
      | inr else ↦ told.copies other table else.1
    ];
    sent = λ number table is. told.sent number table (ap (λ ss. numbered ss number) (sym sent) ∙ is);
  }

  effect_tables : (event : Event) (outcome : Outcome) (new : WorldState K) → HasEffect pseudokey_of old event outcome new → Tables new
  effect_tables = on_effect pseudokey_of old (λ event outcome new. Tables new) record {
    begun = λ name client copy call ward page new has. same_tables new (ap (λ (w : WorldState K). w.copies) has.after) (ap (λ (w : WorldState K). w.sent) has.after);
    hopped = λ name ward hop new has. same_tables new (ap (λ (w : WorldState K). w.copies) has.after) (ap (λ (w : WorldState K). w.sent) has.after);
    split = λ ward page notice new has. same_tables new (ap (λ (w : WorldState K). w.copies) has.after) (ap (λ (w : WorldState K). w.sent) has.after);
    merge = λ ward page notice new has. same_tables new (ap (λ (w : WorldState K). w.copies) has.after) (ap (λ (w : WorldState K). w.sent) has.after);
    taken = λ copy ward index notice new has.
        one_copy new copy has.table (table_with has.table notice) has.there (taken_truly ward notice has.table has.issued (told.copies copy has.table has.there)) (ap (λ (w : WorldState K). w.copies) has.after) (ap (λ (w : WorldState K). w.sent) has.after);
    sent = λ copy number new has. record {
      copies = λ other table is. told.copies other table (ap (λ (w : WorldState K). numbered w.copies other) (sym has.after) ∙ is);
      sent = λ other table is. elim (numbered_push old.sent has.table table other (ap (λ (w : WorldState K). numbered w.sent other) (sym has.after) ∙ is)) [
        | inl before ↦ told.sent other table before
        | inr own ↦ subst (TellsTruly old) (sym own) (told.copies copy has.table has.there)
      ];
    };
    joined = λ copy table new has.
        one_copy new copy has.own (table_join has.own has.other) has.there (joined_truly has.own has.other (told.copies copy has.own has.there) (told.sent table has.other has.sent)) (ap (λ (w : WorldState K). w.copies) has.after) (ap (λ (w : WorldState K). w.sent) has.after);
    restarted = λ copy new has. one_copy new copy has.own old.start has.there told.start (ap (λ (w : WorldState K). w.copies) has.after) (ap (λ (w : WorldState K). w.sent) has.after);
  }

  step_tables : (event : Event) (result : Result Outcome StepFault) (new : WorldState K) → Step pseudokey_of old event result new → Tables new
  step_tables event (Ok outcome) new step = effect_tables event outcome new step
  step_tables event (Err fault) new step = on_refusal pseudokey_of old Tables (same_tables old refl refl) (λ number before failures found. same_tables _ refl refl) event fault new step

  -- ---- the wards after it

  -- a ward after it was one before, whose table told as much at most, and its own entries come from the start and its changes
  record Was (new : WorldState K) (number : ℕ) (ward : WardState K) : Type 0 where
    before : WardState K
    there : slice_get old.wards number ≡ Some before
    more : IsTableUpTo before.table ward.table
    comes : ComesFrom (ward_prefix old.ward_bits number) old.start (changes_in new number) ward.table

  was_same : (new : WorldState K) (number : ℕ) (ward : WardState K) → slice_get new.wards number ≡ slice_get old.wards number → new.noticed ≡ old.noticed → slice_get old.wards number ≡ Some ward → Was new number ward
  was_same new number ward same noticed is = record {
    before = ward;
    there = is;
    more = table_laws.order.reflexive ward.table;
    comes = subst (λ changes. ComesFrom (ward_prefix old.ward_bits number) old.start changes ward.table) (sym (same_changes old new number same noticed)) (told.wards number ward is);
  }

  module _ (new : WorldState K) (turn : IsWardTurn pseudokey_of old new) where
    abbrev own : List Bool
    own = ward_prefix old.ward_bits turn.at

    now_there : slice_get new.wards turn.at ≡ Some turn.left
    now_there = ap (λ (ws : List (WardState K)). slice_get ws turn.at) turn.wards ∙ set_here old.wards turn.at turn.before turn.left turn.found

    now_changes : changes_in new turn.at ≡ drop (sound.wards turn.at turn.before turn.found).before turn.left.notices
    now_changes = changes_of new turn.at (sound.wards turn.at turn.before turn.found).before turn.left now_there (ap (λ (ns : List ℕ). slice_get ns turn.at) turn.noticed ∙ (sound.wards turn.at turn.before turn.found).noticed)

    was_changes : changes_in old turn.at ≡ drop (sound.wards turn.at turn.before turn.found).before turn.before.notices
    was_changes = changes_of old turn.at (sound.wards turn.at turn.before turn.found).before turn.before turn.found (sound.wards turn.at turn.before turn.found).noticed

    was_here : Tells turn.before turn.left → Was new turn.at turn.left
    was_here (inl kept) = record {
      before = turn.before;
      there = turn.found;
      more = subst (IsTableUpTo turn.before.table) (sym kept.1) (table_laws.order.reflexive turn.before.table);
      comes =
          let many = now_changes ∙ ap (drop (sound.wards turn.at turn.before turn.found).before) kept.0 ∙ sym was_changes in
          subst (λ table. ComesFrom own old.start (changes_in new turn.at) table) (sym kept.1) (subst (λ changes. ComesFrom own old.start changes turn.before.table) (sym many) (told.wards turn.at turn.before turn.found));
    }
    was_here (inr more) =
        let first = (sound.wards turn.at turn.before turn.found).first in
        let noticed = (sound.wards turn.at turn.before turn.found).before in
        let many : changes_in new turn.at ≡ changes_in old turn.at ++ more.0 ∷ [] =
        now_changes ∙ ap (drop noticed) more.1 ∙ drop_push noticed turn.before.notices more.0 first ∙ ap (λ ns. ns ++ more.0 ∷ []) (sym was_changes) in
        record {
          before = turn.before;
          there = turn.found;
          more = subst (IsTableUpTo turn.before.table) (sym more.2) (above_notice turn.before.table more.0);
          comes =
              subst (λ table. ComesFrom own old.start (changes_in new turn.at) table) (sym more.2)
              (subst (λ changes. ComesFrom own old.start changes (table_with turn.before.table more.0)) (sym many) (comes_with turn.before.table more.0 own old.start (changes_in old turn.at) (told.wards turn.at turn.before turn.found)));
        }

  was : (new : WorldState K) → Turns pseudokey_of old new → (number : ℕ) (ward : WardState K) → slice_get new.wards number ≡ Some ward → Was new number ward
  was new (inl leaves) number ward is =
      let same = ap (λ (ws : List (WardState K)). slice_get ws number) leaves.wards in
      was_same new number ward same leaves.noticed (sym same ∙ is)
  was new (inr turn) number ward is = elim (set_is old.wards turn.at number turn.before turn.left ward turn.found (ap (λ (ws : List (WardState K)). slice_get ws number) (sym turn.wards) ∙ is)) [
    | inl here ↦ subst (λ n. Was new n ward) (sym here.0) (subst (Was new turn.at) (sym here.1) (was_here new turn turn.tells))
    | inr else ↦ was_same new number ward (ap (λ (ws : List (WardState K)). slice_get ws number) turn.wards ∙ set_else old.wards turn.at number turn.left else.0) turn.noticed else.1
  ]

  -- ---- the world after it

  module _ (new : WorldState K) (turns : Turns pseudokey_of old new) (start : new.start ≡ old.start) (bits : new.ward_bits ≡ old.ward_bits) where
    truly_now : (table : TableMap) → TellsTruly old table → TellsTruly new table
    truly_now table truly = record {
      start = subst (λ s. IsTableUpTo s table) (sym start) truly.start;
      wards = λ number ward is prefix front.
          let w = was new turns number ward is in
          up_to_third (get table prefix) (get w.before.table prefix) (get ward.table prefix) (truly.wards number w.before w.there prefix (subst (λ n. IsFront (ward_prefix n number) prefix) bits front)) (w.more prefix);
    }

    told_after : Tables new → IsToldTruly new
    told_after tables = record {
      start = subst (TellsTruly new) (sym start) (truly_now old.start told.start);
      copies = λ copy table is. truly_now table (tables.copies copy table is);
      sent = λ number table is. truly_now table (tables.sent number table is);
      wards = λ number ward is.
          subst (λ n. ComesFrom (ward_prefix n number) new.start (changes_in new number) ward.table) (sym bits)
          (subst (λ s. ComesFrom (ward_prefix old.ward_bits number) s (changes_in new number) ward.table) (sym start) (was new turns number ward is).comes);
    }

  abbrev KeepsStart : WorldState K → Type 0
  KeepsStart new = (new.start ≡ old.start) × (new.ward_bits ≡ old.ward_bits)

  effect_settings : (event : Event) (outcome : Outcome) (new : WorldState K) → HasEffect pseudokey_of old event outcome new → KeepsStart new
  effect_settings = on_effect pseudokey_of old (λ event outcome new. KeepsStart new) record {
    begun = λ name client copy call ward page new has. (ap (λ (w : WorldState K). w.start) has.after, ap (λ (w : WorldState K). w.ward_bits) has.after);
    hopped = λ name ward hop new has. (ap (λ (w : WorldState K). w.start) has.after, ap (λ (w : WorldState K). w.ward_bits) has.after);
    split = λ ward page notice new has. (ap (λ (w : WorldState K). w.start) has.after, ap (λ (w : WorldState K). w.ward_bits) has.after);
    merge = λ ward page notice new has. (ap (λ (w : WorldState K). w.start) has.after, ap (λ (w : WorldState K). w.ward_bits) has.after);
    taken = λ copy ward index notice new has. (ap (λ (w : WorldState K). w.start) has.after, ap (λ (w : WorldState K). w.ward_bits) has.after);
    sent = λ copy number new has. (ap (λ (w : WorldState K). w.start) has.after, ap (λ (w : WorldState K). w.ward_bits) has.after);
    joined = λ copy table new has. (ap (λ (w : WorldState K). w.start) has.after, ap (λ (w : WorldState K). w.ward_bits) has.after);
    restarted = λ copy new has. (ap (λ (w : WorldState K). w.start) has.after, ap (λ (w : WorldState K). w.ward_bits) has.after);
  }

  step_settings : (event : Event) (result : Result Outcome StepFault) (new : WorldState K) → Step pseudokey_of old event result new → KeepsStart new
  step_settings event (Ok outcome) new step = effect_settings event outcome new step
  step_settings event (Err fault) new step = on_refusal pseudokey_of old KeepsStart (refl, refl) (λ number before failures found. (refl, refl)) event fault new step

  pub step_told : (event : Event) (result : Result Outcome StepFault) (new : WorldState K) → Step pseudokey_of old event result new → IsToldTruly new
  step_told event result new step =
      let settings = step_settings event result new step in
      told_after new (step_turn pseudokey_of old sound event result new step) settings.0 settings.1 (step_tables event result new step)

  -- where one of its wards counts more failures
  pub counted_told : (number : ℕ) (before : WardState K) (failures : ℕ) → slice_get old.wards number ≡ Some before → IsToldTruly (record old { wards = slice_set old.wards number (record before { failures = failures }) })
  counted_told number before failures found = told_after _ (counted_turn pseudokey_of old number before failures found) refl refl (same_tables _ refl refl)

  -- ---- copies that took all

  module _ (copy : ℕ) (table : TableMap) (there : numbered old.copies copy ≡ Some table) (number : ℕ) (ward : WardState K) (is : slice_get old.wards number ≡ Some ward)
      (taken : Told) (of_taken : IsTableOf taken table) (each : (notice : Notice) → Contains (changes_in old number) notice → Contains taken (told_by notice)) where
    abbrev mine : List Bool
    mine = ward_prefix old.ward_bits number

    no_less : (prefix : List Bool) → IsFront mine prefix → (found : Option Entry) → get ward.table prefix ≡ found → IsOptionUpTo found (get table prefix)
    no_less prefix front None has = tt
    no_less prefix front (Some entry) has = elim (told.wards number ward is prefix entry front has) [
      | inl started ↦ subst (λ e. IsOptionUpTo e (get table prefix)) started ((told.copies copy table there).start prefix)
      | inr from ↦ told_up taken prefix (get table prefix) (of_taken prefix) entry (subst (Contains taken) from.2 (each from.0 from.1))
    ]

    pub taker_current : IsCurrentIn old number table
    taker_current = record {
      ward = ward;
      there = is;
      same = λ prefix front. up_to_both (get table prefix) (get ward.table prefix) ((told.copies copy table there).wards number ward is prefix front) (no_less prefix front (get ward.table prefix) refl);
    }

-- ---- a new file

module _ {K : Type 0} (config : Config K) where
  abbrev fresh : WorldState K
  fresh = new_world config

  nothing : (prefix : List Bool) → (let none : TableMap = fin.empty in get none prefix) ≡ None
  nothing prefix = fin.get-empty prefix_cmp prefix

  empty_truly : TellsTruly fresh fin.empty
  empty_truly = record {
    start = table_laws.order.reflexive fin.empty;
    wards = λ number ward is prefix front. subst (λ found. IsOptionUpTo found (get ward.table prefix)) (sym (nothing prefix)) tt;
  }

  pub new_told : IsToldTruly fresh
  new_told = record {
    start = empty_truly;
    copies = λ copy table is. subst (TellsTruly fresh) (sym (numbered_is config.copies fin.empty table copy is)) empty_truly;
    sent = λ number table is. absurd (numbered_none number table is);
    wards = λ number ward is prefix entry front has.
        let own : ward ≡ new_ward (file_settings config) number = (mapped_is (new_ward (file_settings config)) (2 ^ config.ward_bits) number ward is).1 in
        let none : None ≡ Some entry = sym (nothing prefix) ∙ ap (λ (w : WardState K). get w.table prefix) (sym own) ∙ has in
        cc;
  }
