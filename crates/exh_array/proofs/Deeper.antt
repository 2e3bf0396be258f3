-- An array that is made deeper.
use Rattle.std.proofs.Common.{◌≡◌, ℕ, ◌+◌, ◌*◌, ◌/◌, ◌%◌, ◌^◌, ◌<◌, ◌≤◌, false, List, [], ◌∷◌, ◌++◌, length, filter, get_or, slice_get, nat_eq, All, Some, refl, sym, ap, ◌∙◌, subst, arith, below_more}
use Rattle.std.proofs.lemmas.Nat.{pow-add, pow_pos, one_shl}
use Rattle.std.proofs.Math.Nat.{div-lt_iff_lt-mul}
use Rattle.std.proofs.lemmas.List.{length_push}
use Rattle.std.proofs.lemmas.List.Elements.{All-head, All-tail}
use Rattle.std.proofs.lemmas.Option.{slice_get-get_or, get_or_from_slice_get}
use Rattle.exh_prefix.specs.declared.prefix.TheConstants.{LIMIT}
use Rattle.exh_prefix.specs.Leading.{leading}
use Rattle.exh_array.specs.declared.pointer.Pointer.{Pointer}
use Rattle.exh_array.specs.Pointers.{PointerArray}
use Rattle.exh_array.specs.Within.{is_deep, IsKept, PointTheSame}
use Rattle.exh_prefix.specs.LeadingLemmas.{leading-lt, leading-fewer}
use Rattle.exh_array.proofs.Pieces.{slice_get-before_push, slice_get-at_push}

-- the first n of the pointers, of which each is repeated so many times
pub record AreRepeated (times n : ℕ) (pointers made : List Pointer) : Type 0 where
  pub many : length made ≡ n
  pub each : (k : ℕ) → k < n → slice_get made k ≡ slice_get pointers (k / times)

pub repeated_none : (times : ℕ) (pointers : List Pointer) → AreRepeated times 0 pointers []
repeated_none times pointers = record { many = refl; each = λ k below. absurd (omega arith) }

pub repeated_more : (times n : ℕ) (pointers made : List Pointer) (next : Pointer) → AreRepeated times n pointers made → slice_get pointers (n / times) ≡ Some next → AreRepeated times (n + 1) pointers (made ++ next ∷ [])
repeated_more times n pointers made next are is = record {
  many = omega (arith, length_push made next, are.many);
  each = below_more _ n (λ k below. slice_get-before_push made next k (omega (arith, are.many)) ∙ are.each k below) (slice_get-at_push made next n are.many ∙ sym is);
}

-- a full array has as many pointers as one that is deeper, shifted
pub shifted : (depth more deeper many : ℕ) → depth + more ≡ deeper → deeper ≤ LIMIT → many ≡ 2 ^ depth → many * 2 ^ more % 2 ^ 64 ≡ 2 ^ deeper
shifted depth more deeper many is short full =
    let whole : many * 2 ^ more ≡ 1 * 2 ^ deeper = ap (λ n. n * 2 ^ more) full ∙ sym (pow-add 2 depth more) ∙ ap (λ n. 2 ^ n) is ∙ omega arith in
    ap (λ n. n % 2 ^ 64) whole ∙ one_shl deeper 64 (omega (arith, short))

-- there is a pointer to repeat
pub repeated_within : (many times n : ℕ) → 0 < times → n < many * times % 2 ^ 64 → n / times < many
repeated_within many times n some below = (div-lt_iff_lt-mul {k = times} {x = n} {y = many} some).1 (omega arith)

-- pointers that are all shorter
pub none_deep : (depth : ℕ) (pointers : List Pointer) → All (λ pointer. pointer.local_depth < depth) pointers → filter (is_deep depth) pointers ≡ []
none_deep depth [] all = refl
none_deep depth (pointer ∷ pointers) all =
    let here : pointer.local_depth < depth = All-head (λ (pointer : Pointer). pointer.local_depth < depth) pointer pointers all in
    let not_here : nat_eq pointer.local_depth depth ≡ false = grind (arith, here) in
    rw not_here (none_deep depth pointers (All-tail (λ (pointer : Pointer). pointer.local_depth < depth) pointer pointers all))

-- the array that is so many bits deeper, with the pointers that were made
abbrev pub deepened : PointerArray → ℕ → List Pointer → PointerArray
deepened array depth made = record { ward_bits = array.ward_bits; depth = depth; pointers = made }

module _ (array : PointerArray) (depth more : ℕ) (made : List Pointer) (is : array.depth + more ≡ depth) (short : depth ≤ LIMIT) (are : AreRepeated (2 ^ more) (2 ^ depth) array.pointers made) where
  pub deeper_same : PointTheSame (deepened array depth made) array
  deeper_same pseudokey small =
      let fewer : leading depth pseudokey / 2 ^ more ≡ leading array.depth pseudokey =
      ap (λ n. leading n pseudokey / 2 ^ more) (sym is) ∙ leading-fewer array.depth more pseudokey (omega (arith, is, short)) in
      are.each (leading depth pseudokey) (leading-lt depth pseudokey (omega (arith, short))) ∙ ap (slice_get array.pointers) fewer

  -- no pointer is as deep as the array
  shorter : (deepest : ℕ) → IsKept deepest array → 0 < more → All (λ (pointer : Pointer). pointer.local_depth < depth) made
  shorter deepest kept some k d within =
      let place = k / 2 ^ more in
      let many : 2 ^ depth ≡ 2 ^ array.depth * 2 ^ more = ap (λ n. 2 ^ n) (sym is) ∙ pow-add 2 array.depth more in
      let before : place < length array.pointers = (div-lt_iff_lt-mul {k = 2 ^ more} {x = k} {y = length array.pointers} (pow_pos more)).1 (subst (λ n. k < n * 2 ^ more) (sym kept.full) (omega (arith, within, are.many, many))) in
      let same : get_or made k d ≡ get_or array.pointers place d =
      get_or_from_slice_get made k (get_or array.pointers place d) d (are.each k (omega (arith, within, are.many)) ∙ slice_get-get_or array.pointers place d before) in
      let fits : (get_or array.pointers place d).local_depth ≤ array.depth = kept.within place d before in
      subst (λ (pointer : Pointer). pointer.local_depth < depth) (sym same) (omega (arith, fits, is, some))

  pub deeper_kept : (deepest : ℕ) → IsKept deepest array → 0 < more → IsKept 0 (deepened array depth made)
  deeper_kept deepest kept some = record {
    ward_bits = kept.ward_bits;
    limit = short;
    full = are.many;
    within = λ k d within. omega (arith, shorter deepest kept some k d within);
    counted = ap length (sym (none_deep depth made (shorter deepest kept some)));
  }
