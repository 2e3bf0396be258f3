-- What is told of the items of a list, one by one.
use Rattle.std.proofs.Common.{◌≡◌, ℕ, suc, ◌+◌, ◌<◌, ◌≤◌, List, [], ◌∷◌, ◌++◌, length, drop, drop-cons, sym, ap, ◌∙◌, append_assoc, append-nil, get_or, arith, Result, Ok, Err, OnOk}
use Rattle.std.proofs.lemmas.List.{drop_all}
use Rattle.exh_compact.specs.Text.{each_from}

module _ {A : Type 0} (told : ℕ → A → List ℕ) (items : List A) (old : List ℕ) where
  -- the text so far, and that of the items from a number on, are the whole text
  pub record IsTold (out : List ℕ) (number : ℕ) : Type 0 where
    pub whole : old ++ each_from told 0 items ≡ out ++ each_from told number (drop number items)

  pub told_next : (out new : List ℕ) (number : ℕ) (item : A) → IsTold out number → drop number items ≡ item ∷ drop (number + 1) items → new ≡ out ++ told number item → IsTold new (number + 1)
  told_next out new number item is next pushed = record {
    whole = is.whole ∙ ap (λ (rest : List A). out ++ each_from told number rest) next
        ∙ sym (append_assoc out (told number item) (each_from told (number + 1) (drop (number + 1) items)))
        ∙ ap (λ (front : List ℕ). front ++ each_from told (number + 1) (drop (number + 1) items)) (sym pushed);
  }

  pub told_all : (out : List ℕ) (number : ℕ) → IsTold out number → length items ≤ number → out ≡ old ++ each_from told 0 items
  told_all out number is over = sym (is.whole ∙ ap (λ (rest : List A). out ++ each_from told number rest) (drop_all number items over) ∙ append-nil out)

pub drop_at : {A : Type 0} (xs : List A) (at : ℕ) (d : A) → at < length xs → drop at xs ≡ get_or xs at d ∷ drop (at + 1) xs
drop_at xs at d within =
    let next : suc at ≡ at + 1 = omega arith in
    drop-cons xs at d within ∙ ap (λ (k : ℕ). get_or xs at d ∷ drop k xs) next

-- ---- texts that are put behind others

pub on_ok : {T E P Q : Type 0} (result : Result T E) → (P → Q) → OnOk result P → OnOk result Q
on_ok (Ok value) so holds = so holds
on_ok (Err fault) so holds = tt

pub three : (start one two all x y z : List ℕ) → one ≡ start ++ x → two ≡ one ++ y → all ≡ two ++ z → all ≡ start ++ (x ++ (y ++ z))
three start one two all x y z first second last =
    last ∙ ap (λ (front : List ℕ). front ++ z) (second ∙ ap (λ (front : List ℕ). front ++ y) first)
    ∙ append_assoc (start ++ x) y z ∙ append_assoc start x (y ++ z)
