use Rattle.std.proofs.Common.{◌≡◌, ℕ, ◌+◌, ◌≤◌, Bool, true, false, leb, IsTrue, cond, List, [], ◌∷◌, length, sym, ap, ◌∙◌, subst, arith}
use Rattle.std.specs.Ordering.{nat_cmp}
use Rattle.std.specs.Cmp.Lexicographic.{slice_cmp}
use Rattle.std.specs.FinMap as fin
use Rattle.std.proofs.lemmas.Bool.{leb-true}
use Rattle.std.proofs.lemmas.Cmp.{nat_list_cmp_total}
use Rattle.exh_page.specs.KeyMap.{KeyMap}
use Rattle.exh_calls.specs.declared.journal_entry.JournalEntry.{JournalEntry}
use Rattle.exh_ward.specs.WardState.{WardState}
use Rattle.exh_load.specs.Loader.{IsOutgrown}
use Rattle.exh_load.specs.declared.history.TheConstants.{HISTORY_LEN}
use Rattle.exh_load.proofs.history.has_outgrown.Goals as goal

one_at_most : (b : Bool) (len limit : ℕ) → len ≤ limit → cond b len (len + 1) ≤ limit + 1
one_at_most true len limit fits = omega (arith, fits)
one_at_most false len limit fits = omega (arith, fits)

-- a map has no more keys than the pairs that it is made of
few_keys : (pairs : List (List ℕ × List ℕ)) → (let m : KeyMap = fin.from_entries pairs in fin.len m ≤ length pairs)
few_keys [] = let none = fin.len-empty (slice_cmp nat_cmp) (List ℕ) in omega (arith, none)
few_keys (pair ∷ pairs) =
    let m : KeyMap = fin.from_entries pairs in
    let P : ℕ → Type 0 = λ n. n ≤ length pairs + 1 in
    let fits = subst P (sym (fin.len-insert nat_list_cmp_total m pair.0 pair.1)) (one_at_most (fin.contains_key m pair.0) (fin.len m) (length pairs) (few_keys pairs)) in
    omega (arith, fits)

outgrown : {K : Type 0} (ward : WardState K) (pairs : List (List ℕ × List ℕ)) (base : KeyMap) (journal : List JournalEntry) (len entries : ℕ) → fin.from_entries pairs ≡ base → base ≡ ward.base → journal ≡ ward.journal → len ≡ length pairs → entries ≡ length journal
    → HISTORY_LEN ≤ entries → IsTrue (leb len entries) → IsOutgrown ward
outgrown ward pairs base journal len entries made same_base same_journal len_is entries_is some all =
    let P : KeyMap → Type 0 = λ m. fin.len m ≤ length pairs in
    let few = subst P (made ∙ same_base) (few_keys pairs) in
    let count : entries ≡ length ward.journal = entries_is ∙ ap length same_journal in
    record {
      pairs = omega (arith, few, len_is, leb-true len entries all, count);
      some = omega (arith, some, count);
    }

pub returns-then-entries-ge-HISTORY_LEN : goal.returns-then-entries-ge-HISTORY_LEN
returns-then-entries-ge-HISTORY_LEN g c =
    outgrown c.args.ward.now c.pairs.result c.base.result.now c.journal.result.now.entries c.len.result c.len-entries.result c.pairs.ensures c.base.ensures c.journal.ensures.entries c.len.ensures c.len-entries.ensures c.if-entries-ge-HISTORY_LEN.true.1
