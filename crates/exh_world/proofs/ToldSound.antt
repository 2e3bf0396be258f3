-- A world stays sound where a copy takes a notice, sends or joins a table, or restarts.
use Rattle.std.proofs.Common.{◌≡◌, ℕ, ◌-◌, ◌<◌, ◌^◌, Bool, List, [], ◌∷◌, ◌++◌, take, slice_get, Option, None, Some, inl, inr, refl, sym, ap, ◌∙◌, subst, arith}
use Rattle.std.specs.Prelude.{slice_set, Contains}
use Rattle.std.specs.Option.{option_map_or}
use Rattle.exh_prefix.specs.Bits.{bits_of, number_of}
use Rattle.exh_prefix.specs.BitLemmas.{length-bits_of, number_of-bits_of}
use Rattle.exh_prefix.specs.Prefix.{IsFront}
use Rattle.std.proofs.lemmas.Option.{slice_get_within}
use Rattle.exh_notice.specs.declared.notice.Notice.{Notice}
use Rattle.exh_table.specs.Table.{TableMap, table_with}
use Rattle.exh_table.specs.TableOrder.{table_join}
use Rattle.exh_legal.specs.Fit.{IsTrueNotice}
use Rattle.exh_prefix.specs.Leading.{ward_prefix}
use Rattle.exh_ward.specs.WardState.{WardState}
use Rattle.exh_world.specs.Sound.{LeadsRightIn, IsOnTheWay, IsSoundWorld}
use Rattle.exh_world.specs.World.{WorldState, numbered, issued_in}
use Rattle.exh_world.specs.declared.request.Request.{Request}
use Rattle.exh_world.specs.WorldListLemmas.{numbered_push, numbered_set}
use Rattle.exh_world.specs.RequestLemmas.{all_weaker}
use Rattle.exh_world.proofs.TablesKept.{leads_with, leads_joined}
use Rattle.exh_world.proofs.SoundKept.{IsSoundAsTold, same_ward}

module _ {K : Type 0} (pseudokey_of : K → List ℕ → ℕ) (old : WorldState K) (sound : IsSoundWorld pseudokey_of old) where
  -- the world with other tables
  module _ (copies sent : List TableMap) (copies_lead : (copy : ℕ) (table : TableMap) → numbered copies copy ≡ Some table → LeadsRightIn old table) (sent_lead : (number : ℕ) (table : TableMap) → numbered sent number ≡ Some table → LeadsRightIn old table) where
    abbrev pub with_tables : WorldState K
    with_tables = record old { copies = copies; sent = sent }

    same_way : (request : Request) → IsOnTheWay pseudokey_of old request → IsOnTheWay pseudokey_of with_tables request
    same_way request is = record { pseudokey_is = is.pseudokey_is; ward = is.ward; there = is.there; begins = is.begins; below = is.below; since = is.since; left = is.left; is_left = is.is_left; few = is.few }

    pub tables_sound : IsSoundAsTold pseudokey_of with_tables
    tables_sound told = record {
      bits = sound.bits;
      words = sound.words;
      count = sound.count;
      wards = λ number ward is. same_ward pseudokey_of old old.wards copies sent old.in_flight number ward (sound.wards number ward is);
      start = sound.start;
      copies = copies_lead;
      sent = sent_lead;
      told = told;
      requests = all_weaker _ _ same_way old.in_flight sound.requests;
    }

  -- a copy with another table
  copy_leads : (copy : ℕ) (own table : TableMap) → numbered old.copies copy ≡ Some own → LeadsRightIn old table → (other : ℕ) (now : TableMap) → numbered (slice_set old.copies (copy - 1) table) other ≡ Some now → LeadsRightIn old now
  copy_leads copy own table there leads other now is = elim (numbered_set old.copies copy other own table now there is) [
    | inl here ↦ subst (LeadsRightIn old) (sym here.1) leads
    | inr else ↦ sound.copies other now else.1
  ]

  pub copy_sound : (copy : ℕ) (own table : TableMap) → numbered old.copies copy ≡ Some own → LeadsRightIn old table → IsSoundAsTold pseudokey_of (record old { copies = slice_set old.copies (copy - 1) table })
  copy_sound copy own table there leads = tables_sound (slice_set old.copies (copy - 1) table) old.sent (copy_leads copy own table there leads) sound.sent

  -- ---- a notice taken

  -- wards whose prefixes are fronts of one prefix are one ward
  one_ward : (one other : ℕ) (prefix : List Bool) → one < 2 ^ old.ward_bits → other < 2 ^ old.ward_bits → IsFront (ward_prefix old.ward_bits one) prefix → IsFront (ward_prefix old.ward_bits other) prefix → one ≡ other
  one_ward one other prefix fits fits_too front front_too =
      let lengths = length-bits_of old.ward_bits one ∙ sym (length-bits_of old.ward_bits other) in
      let same : bits_of old.ward_bits one ≡ bits_of old.ward_bits other = sym front ∙ ap (λ n. take n prefix) lengths ∙ front_too in
      sym (number_of-bits_of old.ward_bits one fits) ∙ ap number_of same ∙ number_of-bits_of old.ward_bits other fits_too

  within : (number : ℕ) (ward : WardState K) → slice_get old.wards number ≡ Some ward → number < 2 ^ old.ward_bits
  within number ward is = omega (arith, slice_get_within old.wards number ward is, sound.count)

  -- an issued notice is one of its ward
  issued_by : (number : ℕ) (notice : Notice) (found : Option (WardState K)) → slice_get old.wards number ≡ found → Contains (option_map_or (λ ward. ward.notices) found []) notice
      → (ward : WardState K) × (slice_get old.wards number ≡ Some ward) × Contains ward.notices notice
  issued_by number notice None is issued = absurd (omega (arith, issued.1))
  issued_by number notice (Some ward) is issued = (ward, is, issued)

  pub notice_leads : (number : ℕ) (notice : Notice) (table : TableMap) → Contains (issued_in old number) notice → LeadsRightIn old table → LeadsRightIn old (table_with table notice)
  notice_leads number notice table issued leads other ward is =
      let from = issued_by number notice (slice_get old.wards number) refl issued in
      let of = sound.wards number from.0 from.1 in
      let holds = subst (λ own. IsTrueNotice own from.0.pages notice) (λ i. ward_prefix (of.bits i) (of.number_is i)) (of.sound.notices notice from.2) in
      leads_with (ward_prefix old.ward_bits other) ward.pages table (leads other ward is) notice (λ front.
      let same = one_ward number other notice.prefix (within number from.0 from.1) (within other ward is) holds.within front in
      let twin : ward ≡ from.0 = let both : Some ward ≡ Some from.0 = sym is ∙ ap (slice_get old.wards) (sym same) ∙ from.1 in cc in
      let P : ℕ → WardState K → Type 0 = λ n w. IsTrueNotice (ward_prefix old.ward_bits n) w.pages notice in
      subst (λ n. P n ward) same (subst (P number) (sym twin) holds))

  pub join_leads : (table other : TableMap) → LeadsRightIn old table → LeadsRightIn old other → LeadsRightIn old (table_join table other)
  join_leads table other leads leads_too number ward is = leads_joined (ward_prefix old.ward_bits number) ward.pages table (leads number ward is) other (leads_too number ward is)

  -- ---- a table sent

  sent_leads : (table : TableMap) → LeadsRightIn old table → (number : ℕ) (now : TableMap) → numbered (old.sent ++ table ∷ []) number ≡ Some now → LeadsRightIn old now
  sent_leads table leads number now is = elim (numbered_push old.sent table now number is) [
    | inl was ↦ sound.sent number now was
    | inr last ↦ subst (LeadsRightIn old) (sym last) leads
  ]

  pub sent_sound : (table : TableMap) → LeadsRightIn old table → IsSoundAsTold pseudokey_of (record old { sent = old.sent ++ table ∷ [] })
  sent_sound table leads = tables_sound old.copies (old.sent ++ table ∷ []) sound.copies (sent_leads table leads)
