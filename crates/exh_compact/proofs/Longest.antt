-- The longest of some prefixes, one by one.
use Rattle.std.proofs.Common.{◌≡◌, ℕ, ◌+◌, ◌≤◌, ◌<◌, Bool, List, [], length, slice_get, Some, inl, inr, refl, ap, subst, arith}
use Rattle.std.proofs.lemmas.Bool.{cases_eq}
use Rattle.exh_prefix.specs.Bits.{bits_of}
use Rattle.exh_prefix.specs.PrefixListLemmas.{one_there}
use Rattle.exh_compact.specs.declared.page_shape.PageShape.{PageShape}

pub none_bits : bits_of 0 0 ≡ []
unfolding bits_of
none_bits = refl

-- no prefix so far is longer
abbrev pub AreShorter : List PageShape → ℕ → List Bool → Type 0
AreShorter shapes count longest = (k : ℕ) (shape : PageShape) → k < count → slice_get shapes k ≡ Some shape → length shape.prefix ≤ length longest

pub shorter_on : (shapes : List PageShape) (at : ℕ) (item : PageShape) (was now : List Bool) → slice_get shapes at ≡ Some item → length was ≤ length now → length item.prefix ≤ length now → AreShorter shapes at was → AreShorter shapes (at + 1) now
shorter_on shapes at item was now there more own before k shape less found = elim (cases_eq k at) [
  | inl same ↦
      let is : shape ≡ item = one_there shapes at shape item (subst (λ n. slice_get shapes n ≡ Some shape) same found) there in
      omega (arith, own, ap (λ (s : PageShape). length s.prefix) is)
  | inr differ ↦
      let earlier = before k shape (omega (arith, less, differ)) found in
      omega (arith, earlier, more)
]
