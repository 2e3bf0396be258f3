-- Items that stand in runs, of which one is read, written or added.
use Rattle.std.proofs.Common.{◌≡◌, ℕ, zero, suc, ◌+◌, ◌-◌, ◌*◌, ◌/◌, ◌%◌, ◌<◌, ◌≤◌, List, [], ◌∷◌, ◌++◌, length, set, get_or, vec_len, vec_capacity, refl, sym, ap, ◌∙◌, append_assoc, subst, arith}
use Rattle.std.specs.Global.{Vec}
use Rattle.std.specs.Vec.{with_item}
use Rattle.std.proofs.Math.Nat.{div-add-mod}
use Rattle.std.proofs.lemmas.List.{get_or_append_left, get_or-append_right, length-append, set-append_left, set-append_right}
use Rattle.exh_frames.specs.Runs.{AreRuns, items_in, room_in}

module _ {T : Type 0} where
  none : (items : List T) → length items ≡ 0 → items ≡ []
  none [] is = refl
  none (item ∷ items) is = absurd (omega (arith, is))

  -- ---- one item of them, by the index of its run and its place there

  pub run_there : (runs : List (Vec T)) (len i r : ℕ) → AreRuns runs len → r < 512 → 512 * i + r < len → i < length runs
  run_there [] len i r are small within = absurd (omega (arith, are, within))
  run_there (run ∷ runs) len zero r are small within = omega arith
  run_there (run ∷ runs) len (suc i) r are small within = omega (arith, run_there runs (len - 512) i r are.1 small (omega (arith, within)))

  pub run_has : (runs : List (Vec T)) (len i r : ℕ) (d : Vec T) → AreRuns runs len → r < 512 → 512 * i + r < len → r < vec_len (get_or runs i d)
  run_has [] len i r d are small within = absurd (omega (arith, are, within))
  run_has (run ∷ runs) len zero r d are small within = omega (arith, are.0, small, within)
  run_has (run ∷ runs) len (suc i) r d are small within = run_has runs (len - 512) i r d are.1 small (omega (arith, within))

  -- a run before another item's is full
  full : (run : Vec T) (len i r : ℕ) → vec_len run + (len - 512) ≡ len → 512 * suc i + r < len → length run.items ≡ 512
  full run len i r has within = omega (arith, run.ok.0, has, within)

  pub run_item : (runs : List (Vec T)) (len i r : ℕ) (d : Vec T) (x : T) → AreRuns runs len → r < 512 → 512 * i + r < len → get_or (items_in runs) (512 * i + r) x ≡ get_or (get_or runs i d).items r x
  run_item [] len i r d x are small within = absurd (omega (arith, are, within))
  run_item (run ∷ runs) len zero r d x are small within =
      let same : 512 * 0 + r ≡ r = omega arith in
      ap (λ (n : ℕ). get_or (run.items ++ items_in runs) n x) same ∙ get_or_append_left run.items (items_in runs) x r (omega (arith, run.ok.0, are.0, small, within))
  run_item (run ∷ runs) len (suc i) r d x are small within =
      let same : 512 * suc i + r - 512 ≡ 512 * i + r = omega arith in
      get_or-append_right run.items (items_in runs) 512 (512 * suc i + r) x (full run len i r are.0 within) (omega arith) ∙ ap (λ (n : ℕ). get_or (items_in runs) n x) same
      ∙ run_item runs (len - 512) i r d x are.1 small (omega (arith, within))

  pub length-items : (runs : List (Vec T)) (len : ℕ) → AreRuns runs len → length (items_in runs) ≡ len
  length-items [] len are = sym are
  length-items (run ∷ runs) len are = omega (arith, length-append run.items (items_in runs), run.ok.0, are.0, length-items runs (len - 512) are.1)

  -- ---- a run in place of another

  pub are_set : (runs : List (Vec T)) (len i : ℕ) (d run : Vec T) → AreRuns runs len → vec_len run ≡ vec_len (get_or runs i d) → AreRuns (set runs i run) len
  are_set [] len i d run are same = are
  are_set (first ∷ runs) len zero d run are same = (omega (arith, same, are.0), are.1)
  are_set (first ∷ runs) len (suc i) d run are same = (are.0, are_set runs (len - 512) i d run are.1 same)

  pub items_same : (runs : List (Vec T)) (i : ℕ) (d run : Vec T) → run.items ≡ (get_or runs i d).items → items_in (set runs i run) ≡ items_in runs
  items_same [] i d run same = refl
  items_same (first ∷ runs) zero d run same = ap (λ (l : List T). l ++ items_in runs) same
  items_same (first ∷ runs) (suc i) d run same = ap (λ (l : List T). first.items ++ l) (items_same runs i d run same)

  pub items_set : (runs : List (Vec T)) (len i r : ℕ) (d run : Vec T) (x : T) → AreRuns runs len → r < 512 → 512 * i + r < len → run.items ≡ set (get_or runs i d).items r x → items_in (set runs i run) ≡ set (items_in runs) (512 * i + r) x
  items_set [] len i r d run x are small within is = absurd (omega (arith, are, within))
  items_set (first ∷ runs) len zero r d run x are small within is =
      let same : r ≡ 512 * 0 + r = omega arith in
      ap (λ (l : List T). l ++ items_in runs) is ∙ sym (set-append_left first.items (items_in runs) r x (omega (arith, first.ok.0, are.0, small, within)))
      ∙ ap (λ (n : ℕ). set (first.items ++ items_in runs) n x) same
  items_set (first ∷ runs) len (suc i) r d run x are small within is =
      let same : 512 * i + r ≡ 512 * suc i + r - 512 = omega arith in
      ap (λ (l : List T). first.items ++ l) (items_set runs (len - 512) i r d run x are.1 small (omega (arith, within)) is ∙ ap (λ (n : ℕ). set (items_in runs) n x) same)
      ∙ sym (set-append_right first.items (items_in runs) 512 (512 * suc i + r) x (full first len i r are.0 within) (omega arith))

  pub room_same : (runs : List (Vec T)) (i at : ℕ) (d run : Vec T) → vec_capacity run ≡ vec_capacity (get_or runs i d) → vec_len run ≡ vec_len (get_or runs i d) → room_in (set runs i run) at ≡ room_in runs at
  room_same [] i at d run capacity same = refl
  room_same (first ∷ runs) zero zero d run capacity same = omega (arith, capacity, same)
  room_same (first ∷ runs) zero (suc at) d run capacity same = refl
  room_same (first ∷ runs) (suc i) zero d run capacity same = refl
  room_same (first ∷ runs) (suc i) (suc at) d run capacity same = room_same runs i at d run capacity same

  -- the room of a run that is set
  pub room_set : (runs : List (Vec T)) (i : ℕ) (run : Vec T) → i < length runs → room_in (set runs i run) i ≡ vec_capacity run - vec_len run
  room_set [] i run within = absurd (omega (arith, within))
  room_set (first ∷ runs) zero run within = refl
  room_set (first ∷ runs) (suc i) run within = room_set runs i run (omega (arith, within))

  -- ---- an item that is added

  pub open_there : (runs : List (Vec T)) (i : ℕ) → 0 < room_in runs i → i < length runs
  open_there [] i room = absurd (omega (arith, room))
  open_there (run ∷ runs) zero room = omega arith
  open_there (run ∷ runs) (suc i) room = omega (arith, open_there runs i room)

  pub open_has : (runs : List (Vec T)) (i : ℕ) (d : Vec T) → 0 < room_in runs i → vec_len (get_or runs i d) < vec_capacity (get_or runs i d)
  open_has [] i d room = absurd (omega (arith, room))
  open_has (run ∷ runs) zero d room = omega (arith, room)
  open_has (run ∷ runs) (suc i) d room = open_has runs i d room

  pub are_pushed : (runs : List (Vec T)) (len i r : ℕ) (d run : Vec T) → AreRuns runs len → r < 512 → 512 * i + r ≡ len → i < length runs → vec_len run ≡ vec_len (get_or runs i d) + 1 → AreRuns (set runs i run) (len + 1)
  are_pushed [] len i r d run are small is within more = absurd (omega (arith, within))
  are_pushed (first ∷ runs) len zero r d run are small is within more =
      let rest : len - 512 ≡ len + 1 - 512 = omega (arith, small, is) in
      (omega (arith, are.0, small, is, more), subst (AreRuns runs) rest are.1)
  are_pushed (first ∷ runs) len (suc i) r d run are small is within more =
      let rest : len - 512 + 1 ≡ len + 1 - 512 = omega (arith, is) in
      (omega (arith, are.0, is), subst (AreRuns (set runs i run)) rest (are_pushed runs (len - 512) i r d run are.1 small (omega (arith, is)) (omega (arith, within)) more))

  pub items_pushed : (runs : List (Vec T)) (len i r : ℕ) (d run : Vec T) (x : T) → AreRuns runs len → r < 512 → 512 * i + r ≡ len → i < length runs → run.items ≡ (get_or runs i d).items ++ x ∷ [] → items_in (set runs i run) ≡ items_in runs ++ x ∷ []
  items_pushed [] len i r d run x are small is within more = absurd (omega (arith, within))
  items_pushed (first ∷ runs) len zero r d run x are small is within more =
      let empty : items_in runs ≡ [] = none (items_in runs) (omega (arith, length-items runs (len - 512) are.1, small, is)) in
      ap (λ (l : List T). l ++ items_in runs) more ∙ append_assoc first.items (x ∷ []) (items_in runs) ∙ ap (λ (l : List T). first.items ++ x ∷ l) empty
      ∙ sym (append_assoc first.items (items_in runs) (x ∷ []) ∙ ap (λ (l : List T). first.items ++ (l ++ x ∷ [])) empty)
  items_pushed (first ∷ runs) len (suc i) r d run x are small is within more =
      ap (λ (l : List T). first.items ++ l) (items_pushed runs (len - 512) i r d run x are.1 small (omega (arith, is)) (omega (arith, within)) more) ∙ sym (append_assoc first.items (items_in runs) (x ∷ []))

  -- ---- a run that is added, with no item

  pub are_more : (runs : List (Vec T)) (len : ℕ) (run : Vec T) → vec_len run ≡ 0 → AreRuns runs len → AreRuns (runs ++ run ∷ []) len
  are_more [] len run empty are = (omega (arith, empty, are), omega (arith, are))
  are_more (first ∷ runs) len run empty are = (are.0, are_more runs (len - 512) run empty are.1)

  pub items_more : (runs : List (Vec T)) (run : Vec T) → run.items ≡ [] → items_in (runs ++ run ∷ []) ≡ items_in runs
  items_more [] run empty = ap (λ (l : List T). l ++ []) empty
  items_more (first ∷ runs) run empty = ap (λ (l : List T). first.items ++ l) (items_more runs run empty)

  -- there are no more runs than the items fill, or there is the one of the last item
  pub reached : (runs : List (Vec T)) (len i r : ℕ) → AreRuns runs len → 512 * i + r ≡ len → i ≤ length runs
  reached [] len i r are is = omega (arith, are, is)
  reached (run ∷ runs) len zero r are is = omega arith
  reached (run ∷ runs) len (suc i) r are is = omega (arith, reached runs (len - 512) i r are.1 (omega (arith, is)))

  -- ---- an item that is lent

  pub lent_items : (runs : List (Vec T)) (len n : ℕ) (run : Vec T) (w : T) → AreRuns runs len → n < len → run ≡ get_or runs (n / 512) run → items_in (set runs (n / 512) (with_item run (n % 512) w)) ≡ set (items_in runs) n w
  lent_items runs len n run w are within is =
      items_set runs len (n / 512) (n % 512) run (with_item run (n % 512) w) w are (omega arith) (omega (arith, within)) (ap (λ (v : Vec T). set v.items (n % 512) w) is)
      ∙ ap (λ (m : ℕ). set (items_in runs) m w) (div-add-mod n 512)

  pub lent_room : (runs : List (Vec T)) (n at : ℕ) (run : Vec T) (w : T) → run ≡ get_or runs (n / 512) run → room_in (set runs (n / 512) (with_item run (n % 512) w)) at ≡ room_in runs at
  lent_room runs n at run w is = room_same runs (n / 512) at run (with_item run (n % 512) w) (ap (λ (v : Vec T). vec_capacity v) is) (ap (λ (v : Vec T). vec_len v) is)

  -- it is the one of its number
  pub item_at : (runs : List (Vec T)) (len n : ℕ) (run : Vec T) (x : T) → AreRuns runs len → n < len → run ≡ get_or runs (n / 512) run → get_or run.items (n % 512) x ≡ get_or (items_in runs) n x
  item_at runs len n run x are within is =
      ap (λ (v : Vec T). get_or v.items (n % 512) x) is ∙ sym (run_item runs len (n / 512) (n % 512) run x are (omega arith) (omega (arith, within))) ∙ ap (λ (m : ℕ). get_or (items_in runs) m x) (div-add-mod n 512)
