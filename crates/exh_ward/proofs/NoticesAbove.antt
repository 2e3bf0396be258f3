-- Notices whose indexes go on by one each: those above an index are the ones behind it.
use Rattle.std.proofs.Common.{◌≡◌, ℕ, zero, suc, ◌+◌, ◌-◌, cond, List, [], ◌∷◌, drop, slice_get, Some, inl, inr, refl, sym, ap, ◌∙◌, arith}
use Rattle.std.proofs.lemmas.Bool.{cases_lt, lt-ltb, le-ltb}
use Rattle.std.proofs.lemmas.List.{drop_all}
use Rattle.exh_notice.specs.declared.notice.Notice.{Notice}
use Rattle.exh_ward.specs.WardState.{notices_above}

-- the first index is the one after a number
abbrev pub FollowOn : ℕ → List Notice → Type 0
FollowOn before notices = (place : ℕ) (notice : Notice) → slice_get notices place ≡ Some notice → notice.index ≡ before + (place + 1)

pub above_is_drop : (notices : List Notice) (before n : ℕ) → FollowOn before notices → notices_above n notices ≡ drop (n - before) notices
above_is_drop [] before n on = sym (drop_all (n - before) (let none : List Notice = [] in none) (omega arith))
above_is_drop (notice ∷ notices) before n on =
    let index_is : notice.index ≡ before + 1 = on zero notice refl in
    let rest = above_is_drop notices (suc before) n (λ place other is. omega (arith, on (suc place) other is)) in
    elim (cases_lt n notice.index) [
      | inl above ↦
          let none : n - before ≡ 0 = omega (arith, above, index_is) in
          let none_later : n - suc before ≡ 0 = omega (arith, above, index_is) in
          ap (λ b. cond b (notice ∷ notices_above n notices) (notices_above n notices)) (lt-ltb n notice.index above)
          ∙ ap (λ later. notice ∷ later) (rest ∙ ap (λ k. drop k notices) none_later)
          ∙ ap (λ k. drop k (notice ∷ notices)) (sym none)
      | inr known ↦
          let one_more : suc (n - suc before) ≡ n - before = omega (arith, known, index_is) in
          ap (λ b. cond b (notice ∷ notices_above n notices) (notices_above n notices)) (le-ltb n notice.index known)
          ∙ rest
          ∙ ap (λ k. drop k (notice ∷ notices)) one_more
    ]
