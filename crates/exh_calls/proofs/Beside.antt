-- A diary walked beside the journals of a row of wards.
use Rattle.std.proofs.Common.{◌≡◌, ◌≢◌, ◌==◌, ℕ, ◌+◌, ◌<◌, ◌≤◌, ◌⊎◌, Bool, inl, inr, List, [], ◌∷◌, ◌++◌, length, get_or, set, sym, ap, ◌∙◌, subst, arith, append_assoc}
use Rattle.std.specs.Prelude.{All, Some, drop, filter, slice_get}
use Rattle.std.proofs.lemmas.Bool.{cases_lt, cond-false, eq-eqb, ne_eqb}
use Rattle.std.proofs.lemmas.List.{append-nil, drop_all, drop_more, get_or-set_other, get_or-set_same}
use Rattle.std.proofs.lemmas.List.Elements.{All-nil, All-push, filter-append}
use Rattle.std.proofs.lemmas.Option.{get_or_from_slice_get, slice_get_within}
use Rattle.exh_calls.specs.Call.{key_of}
use Rattle.exh_calls.specs.declared.journal_entry.JournalEntry.{JournalEntry}
use Rattle.exh_calls.specs.Beside.{AreOver, Differs, GoesOn, IsSameFrom, left_at, of_caller_from}
use Rattle.exh_calls.specs.declared.diary_entry.DiaryEntry.{DiaryEntry}
use Rattle.exh_calls.specs.declared.settlement.TheConstants.{ROW}
use Rattle.exh_calls.specs.Diary.{DiaryState, without_client}
use Rattle.exh_calls.specs.Settled.{in_ward, journal_at, of_caller}
use Rattle.exh_calls.proofs.Each.{each_next}
use Rattle.exh_calls.proofs.Splits.{behind_same, cons_not_nil, first_of, in_ward-own, of_caller-other, of_caller-own}

-- ---- one journal from a place on

module _ (client : ℕ) (journal : List JournalEntry) (place : ℕ) (entry : JournalEntry) (there : slice_get journal place ≡ Some entry) where
  next_there : of_caller_from client journal place ≡ of_caller client (entry ∷ drop (place + 1) journal)
  next_there =
      let within = slice_get_within journal place entry there in
      ap (of_caller client) (drop_more journal place entry within ∙ ap (λ one. one ∷ drop (place + 1) journal) (get_or_from_slice_get journal place entry entry there))

  pub own_next : entry.client ≡ client → of_caller_from client journal place ≡ without_client entry ∷ of_caller_from client journal (place + 1)
  own_next own = next_there ∙ of_caller-own client entry (drop (place + 1) journal) (eq-eqb entry.client client own)

  pub other_next : entry.client ≢ client → of_caller_from client journal place ≡ of_caller_from client journal (place + 1)
  other_next other = next_there ∙ of_caller-other client entry (drop (place + 1) journal) (ne_eqb entry.client client other)

pub none_past : (client : ℕ) (journal : List JournalEntry) (place : ℕ) → length journal ≤ place → of_caller_from client journal place ≡ []
none_past client journal place past = ap (of_caller client) (drop_all place journal past)

-- ---- a row of journals

module _ (ward_of : List ℕ → ℕ) (journals : List (List JournalEntry)) (client first : ℕ) where
  abbrev left : List ℕ → ℕ → List DiaryEntry
  left places slot = left_at journals client first places slot

  abbrev Within : DiaryEntry → Type 0
  Within entry = ward_of (key_of entry.call) < length journals

  -- the keys so far belong to wards that are there, and each journal has what the diary has had of its ward, and then what is left of it
  abbrev pub Matched : List DiaryEntry → List ℕ → Type 0
  Matched yielded places =
      All (λ (entry : DiaryEntry). ward_of (key_of entry.call) < length journals) yielded
      × ((slot : ℕ) → slot < ROW → of_caller client (journal_at journals (first + slot)) ≡ in_ward ward_of (first + slot) yielded ++ left_at journals client first places slot)

  pub matched_none : (places : List ℕ) → ((slot : ℕ) → slot < ROW → get_or places slot 0 ≡ 0) → Matched [] places
  matched_none places none = (All-nil Within, λ slot less. ap (λ n. of_caller_from client (journal_at journals (first + slot)) n) (sym (none slot less)))

  pub matched_more : (yielded : List DiaryEntry) (entry : DiaryEntry) (old new : List ℕ) → Matched yielded old → GoesOn ward_of journals client first entry old new → Matched (yielded ++ entry ∷ []) new
  matched_more yielded entry old new so_far on = (
    All-push Within yielded entry so_far.0 on.0,
    λ slot less.
        let test : DiaryEntry → Bool = λ other. ward_of (key_of other.call) == first + slot in
        so_far.1 slot less
        ∙ ap (λ rest. in_ward ward_of (first + slot) yielded ++ rest) (on.1 slot less)
        ∙ sym (append_assoc (in_ward ward_of (first + slot) yielded) (in_ward ward_of (first + slot) (entry ∷ [])) (left new slot))
        ∙ ap (λ front. front ++ left new slot) (sym (filter-append test yielded (entry ∷ []))),
  )

  pub not_same : (diary : DiaryState) (yielded after : List DiaryEntry) (entry : DiaryEntry) (places : List ℕ) → diary.client ≡ client → diary.entries ≡ yielded ++ entry ∷ after
      → Matched yielded places → Differs ward_of journals client first entry places → IsSameFrom ward_of journals diary first → ⊥
  not_same diary yielded after entry places own whole so_far (inl past) same =
      let within = each_next Within diary.entries yielded after entry whole same.0 in
      omega (arith, within, past)
  not_same diary yielded after entry places own whole so_far (inr (slot, less, ward, other)) same =
      let number = first + slot in
      let here : in_ward ward_of number diary.entries ≡ in_ward ward_of number yielded ++ entry ∷ in_ward ward_of number after = ap (in_ward ward_of number) whole ∙ in_ward-own ward_of number yielded after entry (eq-eqb (ward_of (key_of entry.call)) number ward) in
      let told : in_ward ward_of number diary.entries ≡ of_caller client (journal_at journals number) = same.1 slot less ∙ ap (λ caller. of_caller caller (journal_at journals number)) own in
      other (in_ward ward_of number after) (behind_same (in_ward ward_of number yielded) _ _ (sym (so_far.1 slot less) ∙ sym told ∙ here))

  pub over_is_same : (diary : DiaryState) (places : List ℕ) → diary.client ≡ client → Matched diary.entries places → AreOver journals client first places → IsSameFrom ward_of journals diary first
  over_is_same diary places own all over = (
    all.0,
    λ slot less.
        let number = first + slot in
        sym (ap (λ caller. of_caller caller (journal_at journals number)) own ∙ all.1 slot less ∙ ap (λ rest. in_ward ward_of number diary.entries ++ rest) (over slot less) ∙ append-nil (in_ward ward_of number diary.entries)),
  )

  pub same_is_over : (diary : DiaryState) (places : List ℕ) → diary.client ≡ client → Matched diary.entries places → IsSameFrom ward_of journals diary first → AreOver journals client first places
  same_is_over diary places own all same slot less =
      let number = first + slot in
      let told : in_ward ward_of number diary.entries ≡ of_caller client (journal_at journals number) = same.1 slot less ∙ ap (λ caller. of_caller caller (journal_at journals number)) own in
      behind_same (in_ward ward_of number diary.entries) _ _ (sym (all.1 slot less) ∙ sym told ∙ sym (append-nil (in_ward ward_of number diary.entries)))

  -- ---- one entry

  not_of : (entry : DiaryEntry) (number : ℕ) → ward_of (key_of entry.call) ≢ number → in_ward ward_of number (entry ∷ []) ≡ []
  not_of entry number other =
      let test : DiaryEntry → Bool = λ one. ward_of (key_of one.call) == number in
      cond-false (test entry) (entry ∷ filter test []) (filter test []) (ne_eqb (ward_of (key_of entry.call)) number other)

  pub passed_by : (entry : DiaryEntry) (places : List ℕ) → ward_of (key_of entry.call) < length journals → (ward_of (key_of entry.call) < first) ⊎ (first + ROW ≤ ward_of (key_of entry.call)) → GoesOn ward_of journals client first entry places places
  passed_by entry places within (inl before) = (within, λ slot less. ap (λ front. front ++ left places slot) (sym (not_of entry (first + slot) (λ same. omega (arith, before, same)))))
  passed_by entry places within (inr behind) = (within, λ slot less. ap (λ front. front ++ left places slot) (sym (not_of entry (first + slot) (λ same. omega (arith, behind, less, same)))))

  module _ (entry : DiaryEntry) (places : List ℕ) (at place : ℕ) (journal : List JournalEntry) (ward : ward_of (key_of entry.call) ≡ first + at) (less : at < ROW) (there : journal_at journals (first + at) ≡ journal) where
    abbrev had : List DiaryEntry
    had = of_caller_from client journal (get_or places at 0)

    here : left places at ≡ had
    here = ap (λ one. of_caller_from client one (get_or places at 0)) there

    pub told_other : (told : DiaryEntry) (rest : List DiaryEntry) → had ≡ told ∷ rest → told ≢ entry → Differs ward_of journals client first entry places
    told_other told rest is other = inr (at, less, ward, λ others same. other (first_of _ _ _ _ (sym is ∙ sym here ∙ same)))

    pub told_none : had ≡ [] → Differs ward_of journals client first entry places
    told_none none = inr (at, less, ward, λ others same. cons_not_nil entry others (sym same ∙ here ∙ none))

    other_slot : (slot : ℕ) → slot ≢ at → left places slot ≡ in_ward ward_of (first + slot) (entry ∷ []) ++ left (set places at place) slot
    other_slot slot other =
        let none = not_of entry (first + slot) (λ same. other (omega (arith, ward, same))) in
        ap (λ n. of_caller_from client (journal_at journals (first + slot)) n) (sym (get_or-set_other places at slot place 0 other))
        ∙ ap (λ front. front ++ left (set places at place) slot) (sym none)

    this_slot : (told : DiaryEntry) → had ≡ told ∷ of_caller_from client journal place → told ≡ entry → at < length places → left places at ≡ in_ward ward_of (first + at) (entry ∷ []) ++ left (set places at place) at
    this_slot told is same within =
        let own = in_ward-own ward_of (first + at) [] [] entry (eq-eqb (ward_of (key_of entry.call)) (first + at) ward) in
        here ∙ is ∙ ap (λ one. one ∷ of_caller_from client journal place) same
        ∙ ap (λ n. entry ∷ of_caller_from client journal n) (sym (get_or-set_same places at place 0 within))
        ∙ ap (λ one. entry ∷ of_caller_from client one (get_or (set places at place) at 0)) (sym there)
        ∙ ap (λ front. front ++ left (set places at place) at) (sym own)

    pub told_same : (told : DiaryEntry) → had ≡ told ∷ of_caller_from client journal place → told ≡ entry → at < length places → ward_of (key_of entry.call) < length journals → GoesOn ward_of journals client first entry places (set places at place)
    told_same told is same within there_is = (
      there_is,
      λ slot in_row. elim (cases_lt slot at) [
        | inl before ↦ other_slot slot (λ one. omega (arith, before, one))
        | inr not_before ↦ elim (cases_lt at slot) [
          | inl behind ↦ other_slot slot (λ one. omega (arith, behind, one))
          | inr not_behind ↦
              let one : at ≡ slot = omega (arith, not_before, not_behind) in
              subst (λ n. left places n ≡ in_ward ward_of (first + n) (entry ∷ []) ++ left (set places at place) n) one (this_slot told is same within)
        ]
      ],
    )
