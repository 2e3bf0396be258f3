-- What the copies of a directory keep, as one of them is written and a table is sent.
use Rattle.std.proofs.Common.{◌≡◌, ℕ, ◌<◌, get_or, Result, Ok, Err, OnOk, OnErr, List, [], ◌∷◌, ◌++◌, length, slice_get, Some, inl, inr, refl, sym, ap, ◌∙◌, subst, arith}
use Rattle.std.specs.Prelude.{option_map, slice_set}
use Rattle.std.proofs.lemmas.List.{length-map, map-set}
use Rattle.std.proofs.lemmas.Option.{slice_get-map, slice_get_read}
use Rattle.exh_prefix.specs.PrefixListLemmas.{one_there, push_is, set_is, set_same}
use Rattle.exh_table.specs.Table.{TableMap}
use Rattle.exh_table.specs.TableOrder.{IsTableUpTo}
use Rattle.exh_array.specs.Pointers.{DirectoryState, HasArrayOf}
use Rattle.exh_array.specs.Copies.{CopiesState}
use Rattle.exh_array.specs.Held.{IsHeld}
use Rattle.exh_array.specs.KeptCopies.{AreKept, tables_of}
use Rattle.exh_array.specs.declared.held_copy.HeldCopy.{HeldCopy}
use Rattle.exh_array.proofs.HeldCopies.{sent_more}

-- each is at the start, whatever was sent
abbrev pub AreFresh : DirectoryState → List HeldCopy → Type 0
AreFresh start copies = (at : ℕ) (copy : HeldCopy) → slice_get copies at ≡ Some copy → (copy.directory ≡ start) × ((sent : List TableMap) → IsHeld start.table sent copy)

pub fresh_push : (start : DirectoryState) (copies : List HeldCopy) (copy : HeldCopy) → AreFresh start copies → copy.directory ≡ start → ((sent : List TableMap) → IsHeld start.table sent copy) → AreFresh start (copies ++ copy ∷ [])
fresh_push start copies copy fresh directory held at other is = elim (push_is copies copy other at is) [
  | inl before ↦ fresh at other before
  | inr last ↦ subst (λ (c : HeldCopy). (c.directory ≡ start) × ((sent : List TableMap) → IsHeld start.table sent c)) (sym last) (directory, held)
]

pub fresh_kept : (start : DirectoryState) (copies : List HeldCopy) → HasArrayOf start.pointers.ward_bits start → AreFresh start copies → AreKept start copies []
fresh_kept start copies array fresh = record {
  of_start = array;
  arrays = λ at copy is. subst (HasArrayOf start.pointers.ward_bits) (sym (fresh at copy is).0) array;
  held = λ at copy is. (fresh at copy is).1 [];
  begun = λ at table is. cc;
}

-- ---- places

pub table_there : (copies : List HeldCopy) (at : ℕ) (copy : HeldCopy) → slice_get copies at ≡ Some copy → slice_get (tables_of copies) at ≡ Some copy.directory.table
table_there copies at copy is = slice_get-map (λ (c : HeldCopy). c.directory.table) copies at ∙ ap (option_map (λ (c : HeldCopy). c.directory.table)) is

pub tables-length : (copies : List HeldCopy) → length (tables_of copies) ≡ length copies
tables-length copies = length-map copies (λ (c : HeldCopy). c.directory.table)

pub own_is : (copies : List HeldCopy) (at : ℕ) (copy : HeldCopy) (own : TableMap) → slice_get copies at ≡ Some copy → slice_get (tables_of copies) at ≡ Some own → own ≡ copy.directory.table
own_is copies at copy own is there = one_there (tables_of copies) at own copy.directory.table there (table_there copies at copy is)

-- ---- a copy that is written

pub tables_set : (copies : List HeldCopy) (at : ℕ) (copy : HeldCopy) → tables_of (slice_set copies at copy) ≡ slice_set (tables_of copies) at copy.directory.table
tables_set copies at copy = map-set (λ (c : HeldCopy). c.directory.table) copies at copy

pub tables_same : (copies : List HeldCopy) (at : ℕ) (old new : HeldCopy) → slice_get copies at ≡ Some old → new.directory ≡ old.directory → tables_of (slice_set copies at new) ≡ tables_of copies
tables_same copies at old new there same =
    tables_set copies at new ∙ ap (λ (d : DirectoryState). slice_set (tables_of copies) at d.table) same ∙ set_same (tables_of copies) at old.directory.table (table_there copies at old there)

module _ (start : DirectoryState) (copies : List HeldCopy) (sent : List TableMap) (kept : AreKept start copies sent) (at : ℕ) (old new : HeldCopy) (there : slice_get copies at ≡ Some old) where
  -- one of them is written
  pub kept_set : HasArrayOf start.pointers.ward_bits new.directory → IsHeld start.table sent new → AreKept start (slice_set copies at new) sent
  kept_set array held = record {
    of_start = kept.of_start;
    arrays = λ place copy is. elim (set_is copies at place old new copy there is) [
      | inl here ↦ subst (λ (c : HeldCopy). HasArrayOf start.pointers.ward_bits c.directory) (sym here.1) array
      | inr else ↦ kept.arrays place copy else.1
    ];
    held = λ place copy is. elim (set_is copies at place old new copy there is) [
      | inl here ↦ subst (IsHeld start.table sent) (sym here.1) held
      | inr else ↦ kept.held place copy else.1
    ];
    begun = kept.begun;
  }

  -- one of them sent its table
  pub kept_sent : (table : TableMap) → table ≡ old.directory.table → new.directory ≡ old.directory → IsHeld start.table (sent ++ table ∷ []) new → AreKept start (slice_set copies at new) (sent ++ table ∷ [])
  kept_sent table own same held = record {
    of_start = kept.of_start;
    arrays = λ place copy is. elim (set_is copies at place old new copy there is) [
      | inl here ↦ subst (λ (c : HeldCopy). HasArrayOf start.pointers.ward_bits c.directory) (sym here.1) (subst (HasArrayOf start.pointers.ward_bits) (sym same) (kept.arrays at old there))
      | inr else ↦ kept.arrays place copy else.1
    ];
    held = λ place copy is. elim (set_is copies at place old new copy there is) [
      | inl here ↦ subst (IsHeld start.table (sent ++ table ∷ [])) (sym here.1) held
      | inr else ↦ sent_more start.table sent copy (kept.held place copy else.1) table
    ];
    begun = λ place other is. elim (push_is sent table other place is) [
      | inl before ↦ kept.begun place other before
      | inr last ↦ subst (IsTableUpTo start.table) (sym (last ∙ own)) (kept.held at old there).begun
    ];
  }

-- ---- as a call of a copy leaves them

-- a copy that is lent
pub lent_there : (copies : List HeldCopy) (shown : List TableMap) (at : ℕ) (copy : HeldCopy) → tables_of copies ≡ shown → at < length shown → copy ≡ get_or copies at copy → slice_get copies at ≡ Some copy
lent_there copies shown at copy shows within lent =
    slice_get_read copies (length copies) at copy refl (omega (arith, within, ap length shows, tables-length copies)) lent

module _ (state now : CopiesState) (view_is : state ≡ now) (copies : List HeldCopy) (shows : state.copies ≡ tables_of copies) (at : ℕ) (new : HeldCopy) where
  -- one has another table
  pub written : (table : CopiesState → TableMap) → new.directory.table ≡ table state → record state { copies = tables_of (slice_set copies at new) } ≡ record now { copies = slice_set now.copies at (table now) }
  written table is =
      subst (λ (n : CopiesState). record state { copies = tables_of (slice_set copies at new) } ≡ record n { copies = slice_set n.copies at (table n) }) view_is
      (ap (λ (tables : List TableMap). record state { copies = tables }) (tables_set copies at new ∙ ap (slice_set (tables_of copies) at) is ∙ ap (λ tables. slice_set tables at (table state)) (sym shows)))

  -- one sent its table
  pub sent_one : (old : HeldCopy) (sent : List TableMap) (own : TableMap) → slice_get copies at ≡ Some old → new.directory ≡ old.directory → sent ≡ state.sent ++ own ∷ []
      → record state { copies = tables_of (slice_set copies at new); sent = sent } ≡ record now { sent = now.sent ++ own ∷ [] }
  sent_one old sent own there same is =
      let tables : tables_of (slice_set copies at new) ≡ state.copies = tables_same copies at old new there same ∙ sym shows in
      subst (λ (n : CopiesState). record state { copies = tables_of (slice_set copies at new); sent = sent } ≡ record n { sent = n.sent ++ own ∷ [] }) view_is (λ i. record state { copies = tables i; sent = is i })

-- what was sent, or not
pub kept_either : {A E : Type 0} (start : DirectoryState) (copies : List HeldCopy) (sent more : List TableMap) (at : ℕ) (old new : HeldCopy) (result : Result A E) → AreKept start copies sent → slice_get copies at ≡ Some old
    → new.directory ≡ old.directory → IsHeld start.table more new → OnOk result (more ≡ sent ++ old.directory.table ∷ []) → OnErr result (new ≡ old) → OnErr result (more ≡ sent) → AreKept start (slice_set copies at new) more
kept_either start copies sent more at old new (Ok x) kept there same held is copy_is sent_is =
    subst (AreKept start (slice_set copies at new)) (sym is) (kept_sent start copies sent kept at old new there old.directory.table refl same (subst (λ tables. IsHeld start.table tables new) is held))
kept_either start copies sent more at old new (Err e) kept there same held is copy_is sent_is =
    let unchanged : slice_set copies at new ≡ copies = ap (slice_set copies at) copy_is ∙ set_same copies at old there in
    subst (AreKept start (slice_set copies at new)) (sym sent_is) (subst (λ cs. AreKept start cs sent) (sym unchanged) kept)
