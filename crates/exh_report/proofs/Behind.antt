-- Texts one behind the other.
use Rattle.std.proofs.Common.{◌≡◌, List, ℕ, ◌++◌, Result, Ok, Err, OnOk, append_assoc, ap, ◌∙◌}

all_five : (old a b c d new v w x y z : List ℕ) → a ≡ old ++ v → b ≡ a ++ w → c ≡ b ++ x → d ≡ c ++ y → new ≡ d ++ z → new ≡ ((((old ++ v) ++ w) ++ x) ++ y) ++ z
all_five old a b c d new v w x y z is_a is_b is_c is_d last = last ∙ ap (λ l. l ++ z) (is_d ∙ ap (λ l. l ++ y) (is_c ∙ ap (λ l. l ++ x) (is_b ∙ ap (λ l. l ++ w) is_a)))

-- a text before a line
pub headed : {A E : Type 0} (result : Result A E) (old a new v w z : List ℕ) → a ≡ old ++ v → OnOk result (new ≡ a ++ (w ++ z)) → OnOk result (new ≡ old ++ ((v ++ w) ++ z))
headed (Ok made) old a new v w z is_a last = last ∙ ap (λ l. l ++ (w ++ z)) is_a ∙ simp append_assoc
headed (Err fault) old a new v w z is_a last = tt

-- five texts
pub five : {A E : Type 0} (result : Result A E) (old a b c d new v w x y z : List ℕ) → a ≡ old ++ v → b ≡ a ++ w → c ≡ b ++ x → d ≡ c ++ y
    → OnOk result (new ≡ d ++ z) → OnOk result (new ≡ old ++ (v ++ (w ++ (x ++ (y ++ z)))))
five (Ok made) old a b c d new v w x y z is_a is_b is_c is_d last = all_five old a b c d new v w x y z is_a is_b is_c is_d last ∙ simp append_assoc
five (Err fault) old a b c d new v w x y z is_a is_b is_c is_d last = tt

-- three, and the end of their line
pub short_line : {A E : Type 0} (result : Result A E) (old a b c new w x y z : List ℕ) → a ≡ old ++ w → b ≡ a ++ x → c ≡ b ++ y → OnOk result (new ≡ c ++ z) → OnOk result (new ≡ old ++ ((w ++ (x ++ y)) ++ z))
short_line (Ok made) old a b c new w x y z is_a is_b is_c last = last ∙ ap (λ l. l ++ z) (is_c ∙ ap (λ l. l ++ y) (is_b ∙ ap (λ l. l ++ x) is_a)) ∙ simp append_assoc
short_line (Err fault) old a b c new w x y z is_a is_b is_c last = tt

-- four, and the end of their line
pub line : {A E : Type 0} (result : Result A E) (old a b c d new v w x y z : List ℕ) → a ≡ old ++ v → b ≡ a ++ w → c ≡ b ++ x → d ≡ c ++ y
    → OnOk result (new ≡ d ++ z) → OnOk result (new ≡ old ++ ((v ++ (w ++ (x ++ y))) ++ z))
line (Ok made) old a b c d new v w x y z is_a is_b is_c is_d last = all_five old a b c d new v w x y z is_a is_b is_c is_d last ∙ simp append_assoc
line (Err fault) old a b c d new v w x y z is_a is_b is_c is_d last = tt

-- five, and the end of their line
pub long_line : {A E : Type 0} (result : Result A E) (old a b c d e new u v w x y z : List ℕ) → a ≡ old ++ u → b ≡ a ++ v → c ≡ b ++ w → d ≡ c ++ x → e ≡ d ++ y
    → OnOk result (new ≡ e ++ z) → OnOk result (new ≡ old ++ ((u ++ (v ++ (w ++ (x ++ y)))) ++ z))
long_line (Ok made) old a b c d e new u v w x y z is_a is_b is_c is_d is_e last =
    last ∙ ap (λ l. l ++ z) (is_e ∙ ap (λ l. l ++ y) (is_d ∙ ap (λ l. l ++ x) (is_c ∙ ap (λ l. l ++ w) (is_b ∙ ap (λ l. l ++ v) is_a)))) ∙ simp append_assoc
long_line (Err fault) old a b c d e new u v w x y z is_a is_b is_c is_d is_e last = tt

-- six, and the end of their line
pub settings_line : {A E : Type 0} (result : Result A E) (old a b c d e f new t u v w x y z : List ℕ) → a ≡ old ++ t → b ≡ a ++ u → c ≡ b ++ v → d ≡ c ++ w → e ≡ d ++ x → f ≡ e ++ y
    → OnOk result (new ≡ f ++ z) → OnOk result (new ≡ old ++ ((t ++ (u ++ (v ++ (w ++ (x ++ y))))) ++ z))
settings_line (Ok made) old a b c d e f new t u v w x y z is_a is_b is_c is_d is_e is_f last =
    last ∙ ap (λ l. l ++ z) (is_f ∙ ap (λ l. l ++ y) (is_e ∙ ap (λ l. l ++ x) (is_d ∙ ap (λ l. l ++ w) (is_c ∙ ap (λ l. l ++ v) (is_b ∙ ap (λ l. l ++ u) is_a))))) ∙ simp append_assoc
settings_line (Err fault) old a b c d e f new t u v w x y z is_a is_b is_c is_d is_e is_f last = tt
