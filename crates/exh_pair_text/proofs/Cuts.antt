-- Where a byte cuts a line.
use Rattle.std.proofs.Common.{◌≡◌, ◌≢◌, ℕ, zero, suc, ◌+◌, ◌<◌, List, [], ◌∷◌, ◌++◌, length, take, drop, get_or, Option, Some, None, inl, inr, refl, sym, ap, ◌∙◌, arith}
use Rattle.std.specs.List.{AllByRecursion}
use Rattle.std.specs.Option.{option_map}
use Rattle.std.proofs.lemmas.Bool.{cases_eq, ne_eqb}
use Rattle.std.proofs.lemmas.Bool.Decides.{nat_tests}
use Rattle.memchr.specs.Find.{IsFirstByte, is_byte}
use Rattle.exh_pair_text.specs.Reading.{cut_at}

abbrev put_before : ℕ → Option (List ℕ × List ℕ) → Option (List ℕ × List ℕ)
put_before byte cut = option_map (λ parts. (byte ∷ parts.0, parts.1)) cut

other_byte : (mark byte : ℕ) (line : List ℕ) → byte ≢ mark → cut_at mark (byte ∷ line) ≡ put_before byte (cut_at mark line)
unfolding cut_at
other_byte mark byte line other = rw (ne_eqb byte mark other) refl

same_byte : (mark byte : ℕ) (line : List ℕ) → byte ≡ mark → cut_at mark (byte ∷ line) ≡ Some ([], line)
unfolding cut_at
same_byte mark byte line same = grind (arith, nat_tests)

-- bytes without it before it
pub cut_behind : (mark : ℕ) (front line : List ℕ) → AllByRecursion (λ byte. byte ≢ mark) front → cut_at mark (front ++ mark ∷ line) ≡ Some (front, line)
cut_behind mark [] line all = same_byte mark mark line refl
cut_behind mark (byte ∷ front) line all = other_byte mark byte (front ++ mark ∷ line) all.0 ∙ ap (put_before byte) (cut_behind mark front line all.1)

-- bytes without it
pub cut_nowhere : (mark : ℕ) (line : List ℕ) → AllByRecursion (λ byte. byte ≢ mark) line → cut_at mark line ≡ None
unfolding cut_at
cut_nowhere mark [] all = refl
cut_nowhere mark (byte ∷ line) all = other_byte mark byte line all.0 ∙ ap (put_before byte) (cut_nowhere mark line all.1)

-- what stands before a cut, and behind it
abbrev front_of : Option (List ℕ × List ℕ) → List ℕ
front_of None = []
front_of (Some parts) = parts.0

abbrev rest_of : Option (List ℕ × List ℕ) → List ℕ
rest_of None = []
rest_of (Some parts) = parts.1

cut_here : (mark byte : ℕ) (line front rest : List ℕ) (found : Option (List ℕ × List ℕ)) → byte ≡ mark → found ≡ Some ([], line) → found ≡ Some (front, rest) → byte ∷ line ≡ front ++ mark ∷ rest
cut_here mark byte line front rest found same here is =
    let f : [] ≡ front = ap front_of (sym here ∙ is) in
    let r : line ≡ rest = ap rest_of (sym here ∙ is) in
    rw (same, ← f, ← r) refl

cut_later : (mark byte : ℕ) (line front rest : List ℕ) (found : Option (List ℕ × List ℕ)) → ((f r : List ℕ) → found ≡ Some (f, r) → line ≡ f ++ mark ∷ r) → put_before byte found ≡ Some (front, rest)
    → byte ∷ line ≡ front ++ mark ∷ rest
cut_later mark byte line front rest None again is = cc
cut_later mark byte line front rest (Some parts) again is =
    let f : byte ∷ parts.0 ≡ front = ap front_of is in
    let r : parts.1 ≡ rest = ap rest_of is in
    rw (← f, ← r) (ap (λ (l : List ℕ). byte ∷ l) (again parts.0 parts.1 refl))

pub cut_parts : (mark : ℕ) (line front rest : List ℕ) → cut_at mark line ≡ Some (front, rest) → line ≡ front ++ mark ∷ rest
unfolding cut_at
cut_parts mark [] front rest is = cc
cut_parts mark (byte ∷ line) front rest is = elim (cases_eq byte mark) [
  | inl same ↦ cut_here mark byte line front rest (cut_at mark (byte ∷ line)) same (same_byte mark byte line same) is
  | inr other ↦ cut_later mark byte line front rest (cut_at mark line) (cut_parts mark line) (sym (other_byte mark byte line other) ∙ is)
]

-- where it stands first
pub cut_first : (mark : ℕ) (line : List ℕ) (end : ℕ) → end < length line → ((k : ℕ) → k < end → get_or line k 0 ≢ mark) → get_or line end 0 ≡ mark → cut_at mark line ≡ Some (take end line, drop (end + 1) line)
cut_first mark [] end within before is = absurd (omega arith)
cut_first mark (byte ∷ line) zero within before is = same_byte mark byte line is
cut_first mark (byte ∷ line) (suc end) within before is =
    let more : suc end + 1 ≡ suc (end + 1) = omega arith in
    rw more (other_byte mark byte line (before 0 (omega arith)) ∙ ap (put_before byte) (cut_first mark line end (omega arith) (λ k below. before (suc k) (omega arith)) is))

pub cut_none : (mark : ℕ) (line : List ℕ) → ((k : ℕ) → k < length line → get_or line k 0 ≢ mark) → cut_at mark line ≡ None
unfolding cut_at
cut_none mark [] none = refl
cut_none mark (byte ∷ line) none = other_byte mark byte line (none 0 (omega arith)) ∙ ap (put_before byte) (cut_none mark line (λ k below. none (suc k) (omega arith)))

-- what the search answers
pub cut_by_search : (mark : ℕ) (line : List ℕ) (found : Option ℕ) → IsFirstByte (is_byte mark) line found → cut_at mark line ≡ option_map (λ end. (take end line, drop (end + 1) line)) found
cut_by_search mark line None none = cut_none mark line (λ k below is. none k (omega arith) below (grind (arith, nat_tests)))
cut_by_search mark line (Some end) first =
    cut_first mark line end first.0.high (λ k below is. first.0.before k (omega arith) below (grind (arith, nat_tests))) (grind (arith, nat_tests, first.1))
