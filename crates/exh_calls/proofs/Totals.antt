-- Sums over two lists, and sums over the numbers below a limit.
use Rattle.std.proofs.Common.{◌≡◌, ◌==◌, ◌<◌, ◌≤◌, ◌+◌, ◌*◌, ℕ, zero, suc, cond, List, [], ◌∷◌, length, get_or, sym, ap, ◌∙◌, refl, arith}
use Rattle.std.specs.Prelude.{sum_by, All}
use Rattle.std.proofs.lemmas.Bool.Decides.{nat_tests}
use Rattle.std.proofs.lemmas.List.Sums.{sum_by-cons, sum_by-le, sum_by-le-sum_by}

pub sum_by-same : {X : Type 0} (f g : X → ℕ) (xs : List X) → ((x : X) → f x ≡ g x) → sum_by f xs ≡ sum_by g xs
sum_by-same {X} f g xs same =
    let below : sum_by f xs ≤ sum_by g xs = sum_by-le-sum_by f g xs (λ x. let e = same x in omega arith) in
    let above : sum_by g xs ≤ sum_by f xs = sum_by-le-sum_by g f xs (λ x. let e = same x in omega arith) in
    omega arith

pub sum_by-plus : {X : Type 0} (f g : X → ℕ) (xs : List X) → sum_by (λ x. f x + g x) xs ≡ sum_by f xs + sum_by g xs
sum_by-plus {X} f g [] = refl
sum_by-plus {X} f g (x ∷ xs) = omega (arith, sum_by-cons (λ x. f x + g x) x xs, sum_by-cons f x xs, sum_by-cons g x xs, sum_by-plus f g xs)

pub sum_by-none : {X : Type 0} (f : X → ℕ) (xs : List X) → All (λ x. f x ≡ 0) xs → sum_by f xs ≡ 0
sum_by-none {X} f xs none =
    let below : sum_by f xs ≤ length xs * 0 = sum_by-le f 0 xs (λ k d at. let e = none k d at in omega arith) in
    omega arith

-- the order of two sums
pub sum_by-sum_by : {X Y : Type 0} (f : X → Y → ℕ) (xs : List X) (ys : List Y) → sum_by (λ x. sum_by (f x) ys) xs ≡ sum_by (λ y. sum_by (λ x. f x y) xs) ys
sum_by-sum_by {X} {Y} f [] ys = sym (sum_by-none (λ y. 0) ys (λ k d at. refl))
sum_by-sum_by {X} {Y} f (x ∷ xs) ys =
    sum_by-cons (λ x. sum_by (f x) ys) x xs
    ∙ ap (λ n. sum_by (f x) ys + n) (sum_by-sum_by f xs ys)
    ∙ sym (sum_by-plus (f x) (λ y. sum_by (λ x. f x y) xs) ys)
    ∙ sym (sum_by-same (λ y. sum_by (λ x. f x y) (x ∷ xs)) (λ y. f x y + sum_by (λ x. f x y) xs) ys (λ y. sum_by-cons (λ x. f x y) x xs))

-- ---- the numbers below a limit

pub total : ℕ → (ℕ → ℕ) → ℕ
total zero f = 0
total (suc n) f = f 0 + total n (λ k. f (suc k))

pub total-same : (n : ℕ) (f g : ℕ → ℕ) → ((k : ℕ) → f k ≡ g k) → total n f ≡ total n g
unfolding total
total-same zero f g same = refl
total-same (suc n) f g same = omega (arith, same 0, total-same n (λ k. f (suc k)) (λ k. g (suc k)) (λ k. same (suc k)))

pub total-plus : (n : ℕ) (f g : ℕ → ℕ) → total n (λ k. f k + g k) ≡ total n f + total n g
unfolding total
total-plus zero f g = refl
total-plus (suc n) f g = omega (arith, total-plus n (λ k. f (suc k)) (λ k. g (suc k)))

pub total-none : (n : ℕ) (f : ℕ → ℕ) → ((k : ℕ) → f k ≡ 0) → total n f ≡ 0
unfolding total
total-none zero f none = refl
total-none (suc n) f none = omega (arith, none 0, total-none n (λ k. f (suc k)) (λ k. none (suc k)))

-- 1 where the two are the same, else 0
abbrev pub once : ℕ → ℕ → ℕ
once number k = cond (number == k) 1 0

later_zero : (k : ℕ) → once 0 (suc k) ≡ 0
later_zero k = grind (arith, nat_tests)

later_same : (number k : ℕ) → once (suc number) (suc k) ≡ once number k
later_same number k = grind (arith, nat_tests)

first_other : (number : ℕ) → once (suc number) 0 ≡ 0
first_other number = grind (arith, nat_tests)

-- each number below the limit is counted once
pub total-once : (n number : ℕ) → number < n → total n (once number) ≡ 1
unfolding total
total-once zero number below = absurd (omega arith)
total-once (suc n) zero below = omega (arith, total-none n (λ k. once 0 (suc k)) later_zero)
total-once (suc n) (suc number) below =
    omega (arith, first_other number, total-same n (λ k. once (suc number) (suc k)) (once number) (later_same number), total-once n number (omega arith))

-- a sum over a list, by the numbers of its places
pub sum_by-total : {X : Type 0} (f : X → ℕ) (xs : List X) (d : X) → sum_by f xs ≡ total (length xs) (λ k. f (get_or xs k d))
unfolding total
sum_by-total {X} f [] d = refl
sum_by-total {X} f (x ∷ xs) d = sum_by-cons f x xs ∙ ap (λ n. f x + n) (sum_by-total f xs d)
