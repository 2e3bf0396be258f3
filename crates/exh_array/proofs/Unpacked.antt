-- Tables that were sent, each kept by what it has beyond another.
use Rattle.std.specs.Prelude.{⊤}
use Rattle.std.proofs.Common.{◌≡◌, ℕ, zero, suc, ◌+◌, ◌<◌, List, [], ◌∷◌, ◌++◌, length, slice_get, Option, Some, None, refl, sym, ap, ◌∙◌, subst, arith}
use Rattle.std.specs.FinMap.{empty}
use Rattle.std.proofs.lemmas.List.{length_push}
use Rattle.std.proofs.lemmas.Option.{get_or_from_slice_get}
use Rattle.exh_prefix.specs.PrefixListLemmas.{one_there, within_there}
use Rattle.exh_table.specs.Table.{TableMap}
use Rattle.exh_table.specs.TableLemmas.{table_laws}
use Rattle.exh_table.specs.TableOrder.{IsTableUpTo, table_join}
use Rattle.exh_array.proofs.Joined.{joined_none}
use Rattle.exh_array.specs.Sent.{base_in, unpacked, unpacked_on, GoBack, IsBefore}
use Rattle.exh_array.specs.KnownCopy.{IsSentUpTo}
use Rattle.exh_array.specs.declared.sent_table.SentTable.{SentTable}

module _ {A : Type 0} where
  pub pushed_front : (xs : List A) (x y : A) (at : ℕ) → slice_get xs at ≡ Some y → slice_get (xs ++ x ∷ []) at ≡ Some y
  pushed_front [] x y at is = cc
  pushed_front (z ∷ xs) x y zero is = is
  pushed_front (z ∷ xs) x y (suc at) is = pushed_front xs x y at is

  pub pushed_last : (xs : List A) (x : A) → slice_get (xs ++ x ∷ []) (length xs) ≡ Some x
  pushed_last [] x = refl
  pushed_last (z ∷ xs) x = pushed_last xs x

module _ (start : TableMap) where
  -- there are as many as were sent
  pub unpacked_on-length : (tables : List TableMap) (sent : List SentTable) → length (unpacked_on start tables sent) ≡ length tables + length sent
  unpacked_on-length tables [] = omega arith
  unpacked_on-length tables (one ∷ sent) =
      let table = table_join (base_in start tables one.since) one.entries in
      let rest = unpacked_on-length (tables ++ table ∷ []) sent in
      omega (arith, rest, length_push tables table)

  pub unpacked-length : (sent : List SentTable) → length (unpacked start sent) ≡ length sent
  unpacked-length sent = omega (arith, unpacked_on-length [] sent)

  -- one more is sent
  pub unpacked_on-push : (tables : List TableMap) (sent : List SentTable) (one : SentTable)
      → unpacked_on start tables (sent ++ one ∷ []) ≡ unpacked_on start tables sent ++ table_join (base_in start (unpacked_on start tables sent) one.since) one.entries ∷ []
  unpacked_on-push tables [] one = refl
  unpacked_on-push tables (first ∷ sent) one = unpacked_on-push (tables ++ table_join (base_in start tables first.since) first.entries ∷ []) sent one

  -- what was sent before stays
  pub unpacked_on-front : (tables : List TableMap) (sent : List SentTable) (at : ℕ) (table : TableMap) → slice_get tables at ≡ Some table → slice_get (unpacked_on start tables sent) at ≡ Some table
  unpacked_on-front tables [] at table is = is
  unpacked_on-front tables (first ∷ sent) at table is =
      let next = table_join (base_in start tables first.since) first.entries in
      unpacked_on-front (tables ++ next ∷ []) sent at table (pushed_front tables next table at is)

  same_base : (tables : List TableMap) (sent : List SentTable) (since : Option ℕ) → IsBefore (length tables) since → base_in start tables since ≡ base_in start (unpacked_on start tables sent) since
  same_base tables sent None before = refl
  same_base tables sent (Some at) before =
      let there = within_there tables at before in
      get_or_from_slice_get tables at there.0 start there.1 ∙ sym (get_or_from_slice_get (unpacked_on start tables sent) at there.0 start (unpacked_on-front tables sent at there.0 there.1))

  unpacked_on-at : (tables : List TableMap) (sent : List SentTable) (at : ℕ) (one : SentTable) → slice_get sent at ≡ Some one → IsBefore (length tables + at) one.since
      → slice_get (unpacked_on start tables sent) (length tables + at) ≡ Some (table_join (base_in start (unpacked_on start tables sent) one.since) one.entries)
  unpacked_on-at tables [] at one is before = cc
  unpacked_on-at tables (first ∷ sent) zero one is before =
      let same : first ≡ one = cc in
      let here : length tables + 0 ≡ length tables = omega arith in
      let Q : SentTable → ℕ → Type 0 = λ s n. slice_get (unpacked_on start tables (first ∷ sent)) n ≡ Some (table_join (base_in start (unpacked_on start tables (first ∷ sent)) s.since) s.entries) in
      let next = table_join (base_in start tables first.since) first.entries in
      let within : IsBefore (length tables) first.since = subst (λ (s : SentTable). IsBefore (length tables) s.since) (sym same) (subst (λ n. IsBefore n one.since) here before) in
      let stands = unpacked_on-front (tables ++ next ∷ []) sent (length tables) next (pushed_last tables next) in
      subst (λ s. Q s (length tables + 0)) same (subst (Q first) (sym here) (stands ∙ ap (λ base. Some (table_join base first.entries)) (same_base tables (first ∷ sent) first.since within)))
  unpacked_on-at tables (first ∷ sent) (suc at) one is before =
      let next = table_join (base_in start tables first.since) first.entries in
      let moved : length (tables ++ next ∷ []) + at ≡ length tables + suc at = omega (arith, length_push tables next) in
      let Q : ℕ → Type 0 = λ n. slice_get (unpacked_on start tables (first ∷ sent)) n ≡ Some (table_join (base_in start (unpacked_on start tables (first ∷ sent)) one.since) one.entries) in
      subst Q moved (unpacked_on-at (tables ++ next ∷ []) sent at one is (subst (λ n. IsBefore n one.since) (sym moved) before))

  -- what stands at a place
  pub unpacked-at : (sent : List SentTable) (at : ℕ) (one : SentTable) → slice_get sent at ≡ Some one → IsBefore at one.since
      → slice_get (unpacked start sent) at ≡ Some (table_join (base_in start (unpacked start sent) one.since) one.entries)
  unpacked-at sent at one is before =
      let here : 0 + at ≡ at = omega arith in
      let Q : ℕ → Type 0 = λ n. slice_get (unpacked start sent) n ≡ Some (table_join (base_in start (unpacked start sent) one.since) one.entries) in
      subst Q here (unpacked_on-at [] sent at one is (subst (λ n. IsBefore n one.since) (sym here) before))

-- ---- going back from table to table

-- falls from each place to one before it
abbrev pub height : Option ℕ → ℕ
height None = 0
height (Some at) = suc at

-- there is no next place, or the table there is at most the copy's own
abbrev pub IsNextUpTo : List TableMap → TableMap → Option ℕ → Type 0
IsNextUpTo sent own None = ⊤
IsNextUpTo sent own (Some at) = IsSentUpTo sent own at

pub before_more : (at bound : ℕ) (since : Option ℕ) → IsBefore at since → at < bound → IsBefore bound since
before_more at bound None before less = tt
before_more at bound (Some since) before less = omega arith

module _ (start : TableMap) (sent : List SentTable) where
  -- the table at a place is what one that goes on from it is kept beyond
  pub base_there : (at : ℕ) → at < length sent → slice_get (unpacked start sent) at ≡ Some (base_in start (unpacked start sent) (Some at))
  base_there at within =
      let there = within_there (unpacked start sent) at (omega (arith, unpacked-length start sent, within)) in
      there.1 ∙ ap Some (sym (get_or_from_slice_get (unpacked start sent) at there.0 start there.1))

  module _ (back : GoBack sent) (at : ℕ) (one : SentTable) (is : slice_get sent at ≡ Some one) where
    pub base_is : base_in start (unpacked start sent) (Some at) ≡ table_join (base_in start (unpacked start sent) one.since) one.entries
    base_is = get_or_from_slice_get (unpacked start sent) at _ start (unpacked-at start sent at one is (back at one is))

    -- with no entries a table repeats the one that it goes on from
    pub repeated : (since : ℕ) → one.since ≡ Some since → one.entries ≡ empty → at < length sent → slice_get (unpacked start sent) since ≡ slice_get (unpacked start sent) at
    repeated since goes none within =
        let before : since < at = subst (IsBefore at) goes (back at one is) in
        let own = base_is ∙ ap (λ s. table_join (base_in start (unpacked start sent) s) one.entries) goes ∙ ap (table_join (base_in start (unpacked start sent) (Some since))) none ∙ joined_none _ in
        base_there since (omega (arith, before, within)) ∙ ap Some (sym own) ∙ sym (base_there at within)

    -- what is left once the entries were joined
    pub step_back : (own news more table : TableMap) → table_join own more ≡ table_join (table_join own news) one.entries
        → table_join (table_join own news) (base_in start (unpacked start sent) (Some at)) ≡ table → table_join (table_join own more) (base_in start (unpacked start sent) one.since) ≡ table
    step_back own news more table added before =
        let base = base_in start (unpacked start sent) one.since in
        ap (λ t. table_join t base) added ∙ table_laws.associative (table_join own news) one.entries base ∙ ap (table_join (table_join own news)) (table_laws.commutative one.entries base ∙ sym base_is) ∙ before

    -- a table is at least the one that it goes on from
    next_at : (own : TableMap) (since : Option ℕ) → one.since ≡ since → at < length sent → IsSentUpTo (unpacked start sent) own at → IsNextUpTo (unpacked start sent) own since
    next_at own None goes within up = tt
    next_at own (Some since) goes within up =
        let before : since < at = subst (IsBefore at) goes (back at one is) in
        let base = base_in start (unpacked start sent) (Some since) in
        let whole : up.0 ≡ table_join base one.entries = one_there (unpacked start sent) at up.0 _ up.1 (base_there at within) ∙ base_is ∙ ap (λ s. table_join (base_in start (unpacked start sent) s) one.entries) goes in
        (base, base_there since (omega (arith, before, within)), table_laws.order.transitive base up.0 own (subst (IsTableUpTo base) (sym whole) (table_laws.bound.above_first base one.entries)) up.2)

    pub next_up_to : (own : TableMap) → at < length sent → IsSentUpTo (unpacked start sent) own at → IsNextUpTo (unpacked start sent) own one.since
    next_up_to own within up = next_at own one.since refl within up

pub lower : (at : ℕ) (since next : Option ℕ) → next ≡ Some at → IsBefore at since → height since < height next
lower at None next is before = subst (λ n. 0 < height n) (sym is) (omega arith)
lower at (Some since) next is before = subst (λ n. suc since < height n) (sym is) (omega (arith, before))

pub next_there : (next : Option ℕ) → ((at : ℕ) → next ≡ Some at → ⊥) → next ≡ None
next_there None none = refl
next_there (Some at) none = absurd (none at refl)

-- one more that goes on from one before it
back_on : (sent : List SentTable) (last : SentTable) (front : ℕ) → ((at : ℕ) (one : SentTable) → slice_get sent at ≡ Some one → IsBefore (front + at) one.since) → IsBefore (front + length sent) last.since
    → (at : ℕ) (one : SentTable) → slice_get (sent ++ last ∷ []) at ≡ Some one → IsBefore (front + at) one.since
back_on [] last front back before zero one is = let same : last ≡ one = cc in subst (λ (s : SentTable). IsBefore (front + 0) s.since) same before
back_on [] last front back before (suc at) one is = cc
back_on (first ∷ sent) last front back before zero one is = back zero one is
back_on (first ∷ sent) last front back before (suc at) one is =
    let moved : (n : ℕ) → front + suc n ≡ suc front + n = λ n. omega arith in
    subst (λ n. IsBefore n one.since) (sym (moved at))
    (back_on sent last (suc front) (λ n other there. subst (λ m. IsBefore m other.since) (moved n) (back (suc n) other there)) (subst (λ n. IsBefore n last.since) (moved (length sent)) before) at one is)

pub back_pushed : (sent : List SentTable) (last : SentTable) → GoBack sent → IsBefore (length sent) last.since → GoBack (sent ++ last ∷ [])
back_pushed sent last back before at one is =
    let here : (n : ℕ) → 0 + n ≡ n = λ n. omega arith in
    subst (λ n. IsBefore n one.since) (here at)
    (back_on sent last 0 (λ n other there. subst (λ m. IsBefore m other.since) (sym (here n)) (back n other there)) (subst (λ n. IsBefore n last.since) (sym (here (length sent))) before) at one is)
