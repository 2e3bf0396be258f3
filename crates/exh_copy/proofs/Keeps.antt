-- Each of the four kinds of step keeps the rule.
use Rattle.std.proofs.Common.{◌≡◌, ◌≢◌, ℕ, ◌+◌, List, [], ◌∷◌, ◌++◌, length, fold, set, Result, Ok, Err, MatchResult, refl, sym, ap, subst, ◌∙◌, ⊎_elim, arith}
use Rattle.std.proofs.lemmas.List.{append-nil, append_assoc, length-append}
use mathlib.Core.Option.{some}
use lib.ListN.{get_elem?}
use Rattle.core.proofs.iter.runs.Lists.{fold-append}
use Rattle.left_right.specs.Register.{Admits, TurnsAt, Forks, Merges}
use Rattle.atomic_table.proofs.Lists.{at_set, at_snoc}
use Rattle.exh_table.specs.Table.{TableMap}
use Rattle.exh_copy.specs.declared.addition.Addition.{Addition}
use Rattle.exh_copy.specs.declared.published.Published.{Published}
use Rattle.exh_copy.specs.declared.published.Shown.{Shown}
use Rattle.exh_copy.specs.Additions.{added, table_after, BeginsWith}
use Rattle.exh_copy.specs.Rule.{IsAfter, IsKept, IsSeen}

pub begins_itself : (list : List Addition) → BeginsWith list list
begins_itself list = ([], sym (append-nil list))

pub begins_empty : (list : List Addition) → BeginsWith list []
begins_empty list = (list, refl)

pub begins_longer : (list view more : List Addition) → BeginsWith list view → BeginsWith (list ++ more) view
begins_longer list view more begins = (begins.0 ++ more, ap (λ l. l ++ more) begins.1 ∙ append_assoc view begins.0 more)

-- a beginning that is as long is the whole list
pub as_long_is_whole : (list view : List Addition) → BeginsWith list view → length list ≡ length view → view ≡ list
as_long_is_whole list view ([], is) long = sym (is ∙ append-nil view)
as_long_is_whole list view (a ∷ rest, is) long = absurd (omega (arith, long, ap length is, length-append view (a ∷ rest)))

module _ (table : TableMap) (ward_bits : ℕ) where
  -- a new reader holds nothing
  pub admits : Admits (IsKept table ward_bits) []
  admits x views kept = record {
    list = kept.list;
    applied = kept.applied;
    begins = λ seat view at. ⊎_elim (kept.begins seat view) (λ (e : [] ≡ view). subst (BeginsWith kept.list) e (begins_empty kept.list)) (at_snoc views [] view seat at);
  }

  -- in views of one seat set anew each is the new one or was there
  set_begins : (list : List Addition) (views : List (List Addition)) (seat : ℕ) (view : List Addition)
      → ((j : ℕ) (u : List Addition) → get_elem? views j ≡ some u → BeginsWith list u) → BeginsWith list view
      → (j : ℕ) (u : List Addition) → get_elem? (set views seat view) j ≡ some u → BeginsWith list u
  set_begins list views seat view each new j u at =
      ⊎_elim (λ (t : (j ≡ seat) × (view ≡ u)). subst (BeginsWith list) t.1 new) (λ (t : (j ≢ seat) × (get_elem? views j ≡ some u)). each j u t.1) (at_set views seat j view u at)

  -- a look
  pub looks : (seat : ℕ) (held : List Addition) (x : Published) → TurnsAt (IsKept table ward_bits) seat held x x (λ held _ shown now. IsSeen table ward_bits held shown now)
  looks seat held x views kept at = (
    kept.list,
    record { list = kept.list; applied = kept.applied; begins = set_begins kept.list views seat kept.list kept.begins (begins_itself kept.list) },
    record { begins = kept.begins seat held at; applied = kept.applied },
  )

  -- a publish by whoever holds the whole list
  pub publishes : (seat : ℕ) (list batch : List Addition) (x next : Published) → IsAfter table ward_bits x list → IsAfter table ward_bits next (list ++ batch)
      → TurnsAt (IsKept table ward_bits) seat list x next (λ list _ _ now. now ≡ list ++ batch)
  publishes seat list batch x next now then views kept at =
      let whole : list ≡ kept.list = as_long_is_whole kept.list list (kept.begins seat list at) (sym kept.applied.counted ∙ now.counted) in
      let each : (j : ℕ) (u : List Addition) → get_elem? views j ≡ some u → BeginsWith (list ++ batch) u =
      λ j u there. begins_longer list u batch (subst (λ l. BeginsWith l u) (sym whole) (kept.begins j u there)) in (
        list ++ batch,
        record { list = list ++ batch; applied = then; begins = set_begins (list ++ batch) views seat (list ++ batch) each (begins_itself (list ++ batch)) },
        refl,
      )

  -- telling
  pub tells : (seat : ℕ) (list : List Addition) → Forks (IsKept table ward_bits) seat list list list
  tells seat list x views kept at = record {
    list = kept.list;
    applied = kept.applied;
    begins = λ j u there. ⊎_elim (set_begins kept.list views seat list kept.begins (kept.begins seat list at) j u) (λ (same : list ≡ u). subst (BeginsWith kept.list) same (kept.begins seat list at))
        (at_snoc (set views seat list) list u j there);
  }

  -- learning, by who holds whatever it held
  pub learns : (seat : ℕ) (held : List Addition) (other : ℕ) (list : List Addition) → Merges (IsKept table ward_bits) seat held other list list []
  learns seat held other list x views kept at apart there =
      let told : BeginsWith kept.list list =
      ⊎_elim (λ (t : (other ≡ seat) × (list ≡ list)). absurd (apart t.0)) (λ (t : (other ≢ seat) × (get_elem? views other ≡ some list)). kept.begins other list t.1) (at_set views seat other list list there) in
      record {
        list = kept.list;
        applied = kept.applied;
        begins = set_begins kept.list (set views seat list) other [] (set_begins kept.list views seat list kept.begins told) (begins_empty kept.list);
      }

-- ---- the value that is published

-- what `left_right` applies is the additions, each counted
fold_shown : (ward_bits additions : ℕ) (table : TableMap) (batch : List Addition)
    → fold (λ (shown : Shown) (addition : Addition). record shown { table = added shown.table addition; additions = shown.additions + 1 }) (record { table = table; ward_bits = ward_bits; additions = additions }) batch
    ≡ record { table = table_after table batch; ward_bits = ward_bits; additions = additions + length batch }
fold_shown ward_bits additions table [] = ap (λ n. record { table = table; ward_bits = ward_bits; additions = n }) (omega arith)
fold_shown ward_bits additions table (addition ∷ batch) =
    fold_shown ward_bits (additions + 1) (added table addition) batch
    ∙ ap (λ n. record { table = table_after table (addition ∷ batch); ward_bits = ward_bits; additions = n }) (omega arith)

-- what is published after a batch
pub after_batch : (table : TableMap) (ward_bits : ℕ) (x next : Published) (list batch : List Addition) → IsAfter table ward_bits x list
    → record { table = next.directory.table; ward_bits = next.directory.pointers.ward_bits; additions = next.additions }
    ≡ fold (λ (shown : Shown) (addition : Addition). record shown { table = added shown.table addition; additions = shown.additions + 1 }) (record { table = x.directory.table; ward_bits = x.directory.pointers.ward_bits; additions = x.additions }) batch
    → IsAfter table ward_bits next (list ++ batch)
after_batch table ward_bits x next list batch now is =
    let shown = is ∙ fold_shown x.directory.pointers.ward_bits x.additions x.directory.table batch in
    record {
      table_is = ap (λ (s : Shown). s.table) shown ∙ ap (λ t. table_after t batch) now.table_is ∙ sym (fold-append added table list batch);
      ward_bits_are = ap (λ (s : Shown). s.ward_bits) shown ∙ now.ward_bits_are;
      counted = ap (λ (s : Shown). s.additions) shown ∙ ap (λ n. n + length batch) now.counted ∙ sym (length-append list batch);
    }

-- and after a publish, whether it was refused or not
pub after_publish : {A E : Type 0} (table : TableMap) (ward_bits : ℕ) (x y : Published) (list batch now : List Addition) (result : Result A E) (D : A → Type 0) (G : E → Type 0) → IsAfter table ward_bits x list
    → MatchResult result (λ a.
    (record { table = y.directory.table; ward_bits = y.directory.pointers.ward_bits; additions = y.additions }
    ≡ fold (λ (shown : Shown) (addition : Addition). record shown { table = added shown.table addition; additions = shown.additions + 1 }) (record { table = x.directory.table; ward_bits = x.directory.pointers.ward_bits; additions = x.additions }) batch) × D a)
    (λ e. (y ≡ x) × G e)
    → MatchResult result (λ _. now ≡ list ++ batch) (λ _. now ≡ list)
    → IsAfter table ward_bits y now
after_publish table ward_bits x y list batch now (Ok a) D G before values rule = subst (IsAfter table ward_bits y) (sym rule) (after_batch table ward_bits x y list batch before values.0)
after_publish table ward_bits x y list batch now (Err e) D G before values rule = subst (IsAfter table ward_bits y) (sym rule) (subst (λ (z : Published). IsAfter table ward_bits z list) (sym values.0) before)
