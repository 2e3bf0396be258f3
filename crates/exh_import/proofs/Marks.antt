-- A byte order mark that a text begins with.
use Rattle.std.proofs.Common.{◌≡◌, ◌⊎◌, ◌≤◌, ℕ, Bool, true, false, cond, List, [], ◌++◌, length, drop, Option, Some, None, inl, inr, refl, sym, ap, ◌∙◌, subst, append-nil, arith}
use Rattle.std.specs.Prelude.{IsFalse, IsTrue, nat_eq}
use Rattle.std.specs.List.{starts_with}
use Rattle.std.specs.Io.KnownBytes.{IsAtEnd, Keeps, prepend_known}
use Rattle.std.proofs.lemmas.List.{drop-append-le, take-append-le}
use Rattle.std.specs.Cmp.Lexicographic.{pointwise}
use Rattle.exh_stream.specs.Source.{unread}
use Rattle.exh_import.specs.declared.line_reader.LineReader.{LineReader}
use Rattle.exh_import.specs.LineReader.{EndsRight, mark, mark_len, text_left, unmarked, without_mark}

few_marked : (b : Bool) → cond b 3 0 ≤ 3
few_marked true = omega arith
few_marked false = omega arith

-- where the front of a text has a mark's bytes or more, it tells
front_tells : (front rest : List ℕ) → 3 ≤ length front → mark_len (front ++ rest) ≡ mark_len front
front_tells front rest long = ap (λ (first : List ℕ). cond (pointwise nat_eq mark first) 3 0) (take-append-le 3 front rest long)

behind : (front rest : List ℕ) → (3 ≤ length front) ⊎ (rest ≡ []) → without_mark (front ++ rest) ≡ drop (mark_len front) front ++ rest
behind front rest (inl long) =
    ap (λ (n : ℕ). drop n (front ++ rest)) (front_tells front rest long) ∙ drop-append-le (mark_len front) front rest (omega (arith, few_marked (starts_with nat_eq front mark), long))
behind front rest (inr none) =
    subst (λ (rest : List ℕ). without_mark (front ++ rest) ≡ drop (mark_len front) front ++ rest) (sym none) (ap without_mark (append-nil front) ∙ sym (append-nil (drop (mark_len front) front)))

known_behind : (known rest : Option (List ℕ)) (front : List ℕ) → (3 ≤ length front) ⊎ IsAtEnd rest → Keeps known (prepend_known front rest) → Keeps (unmarked known) (prepend_known (drop (mark_len front) front) rest)
known_behind None rest front end kept = tt
known_behind (Some text) None front end kept = absurd kept
known_behind (Some text) (Some rest) front end kept = sym (behind front rest end) ∙ ap without_mark kept

whole_or_more : (ended : Bool) (count : ℕ) (P : Type 0) → (IsFalse ended → count ≡ 8192) → (IsTrue ended → P) → (3 ≤ count) ⊎ P
whole_or_more true count P full end = inr (end refl)
whole_or_more false count P full end = inl (omega (arith, full refl))

-- a block was read, and what it begins with is passed over
module _ {R : Type 0} (remaining : R → Option (List ℕ)) where
  pub passed : (old read : LineReader R) (len : ℕ) → Keeps (text_left remaining old) (text_left remaining read) → EndsRight remaining read → read.at ≡ 0 → (IsFalse read.ended → length read.block.items ≡ 8192) → len ≡ mark_len read.block.items
      → Keeps (unmarked (text_left remaining old)) (prepend_known (drop len read.block.items) (unread remaining read.source))
  passed old read len kept ends start full is =
      let front = read.block.items in
      let rest = unread remaining read.source in
      let begins : Keeps (text_left remaining old) (prepend_known front rest) = subst (λ (at : ℕ). Keeps (text_left remaining old) (prepend_known (drop at front) rest)) start kept in
      subst (λ (n : ℕ). Keeps (unmarked (text_left remaining old)) (prepend_known (drop n front) rest)) (sym is)
      (known_behind (text_left remaining old) rest front (whole_or_more read.ended (length front) (IsAtEnd rest) full ends) begins)
