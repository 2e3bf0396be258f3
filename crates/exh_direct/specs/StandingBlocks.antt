-- Blocks that stand at places of some bytes, one after the other.
use Rattle.std.proofs.Common.{◌≡◌, ℕ, zero, suc, ◌+◌, ◌*◌, ◌<◌, List, [], ◌∷◌, ◌++◌, length, take, drop, slice_get, Some, slice_index, refl, sym, ap, ◌∙◌, subst, append_assoc, take-append-drop, arith}
use Rattle.std.proofs.lemmas.List.{drop_at, drop-drop, length-append, take_at}
use Rattle.std.specs.List.{AllByRecursion, flat_map}
use Rattle.exh_prefix.specs.PrefixListLemmas.{AllByRecursion-append_left, AllByRecursion-append_right}
use Rattle.exh_format.specs.FileTests.{IsWhole, block_at, bytes_from}
use Rattle.exh_format.specs.Reading.{AreBytes}
use Rattle.exh_format.specs.ReadingLemmas.{byte_at}

-- a block stands at a place, whole
pub record StandsAt (place : ℕ) (bytes block : List ℕ) : Type 0 where
  pub whole : IsWhole place bytes
  pub is : block_at place bytes ≡ block

pub stands : (place : ℕ) (bytes block rest : List ℕ) → bytes_from place bytes ≡ block ++ rest → length block ≡ 4096 → StandsAt place bytes block
stands place bytes block rest is len = record {
  whole = omega (arith, ap length is, length-append block rest, len);
  is = ap (take 4096) is ∙ take_at block rest 4096 len;
}

-- ---- of blocks one after the other

pub drop_next : (i : ℕ) (block rest : List ℕ) → length block ≡ 4096 → drop (4096 * suc i) (block ++ rest) ≡ drop (4096 * i) rest
drop_next i block rest len =
    let next : 4096 * suc i ≡ 4096 + 4096 * i = omega arith in
    ap (λ (n : ℕ). drop n (block ++ rest)) next ∙ sym (drop-drop (4096 * i) 4096 (block ++ rest)) ∙ ap (drop (4096 * i)) (drop_at block rest 4096 len)

module _ {X : Type 0} (f : X → List ℕ) where
  abbrev pub AreBlocks : List X → Type 0
  AreBlocks xs = AllByRecursion (λ x. length (f x) ≡ 4096) xs

  pub one_of : (xs : List X) (i : ℕ) (x : X) (rest : List ℕ) → AreBlocks xs → slice_get xs i ≡ Some x → (after : List ℕ) × (drop (4096 * i) (flat_map f xs ++ rest) ≡ f x ++ after)
  one_of [] i x rest len is = cc
  one_of (y ∷ xs) zero x rest len is =
      let same : y ≡ x = cc in
      (flat_map f xs ++ rest, append_assoc (f y) (flat_map f xs) rest ∙ ap (λ (x : X). f x ++ (flat_map f xs ++ rest)) same)
  one_of (y ∷ xs) (suc i) x rest len is =
      let more = one_of xs i x rest len.1 is in
      (more.0, ap (drop (4096 * suc i)) (append_assoc (f y) (flat_map f xs) rest) ∙ drop_next i (f y) (flat_map f xs ++ rest) len.0 ∙ more.1)

  pub behind_all : (xs : List X) (rest : List ℕ) → AreBlocks xs → drop (4096 * length xs) (flat_map f xs ++ rest) ≡ rest
  behind_all [] rest len = refl
  behind_all (y ∷ xs) rest len = ap (drop (4096 * suc (length xs))) (append_assoc (f y) (flat_map f xs) rest) ∙ drop_next (length xs) (f y) (flat_map f xs ++ rest) len.0 ∙ behind_all xs rest len.1

-- ---- blocks of bytes

pub bytes_of_block : (place : ℕ) (bytes : List ℕ) → AreBytes bytes → (i : ℕ) → slice_index (block_at place bytes) i < 256
bytes_of_block place bytes small =
    let IsByte : ℕ → Type 0 = λ (byte : ℕ). byte < 256 in
    let behind : List ℕ = bytes_from place bytes in
    let all : AreBytes behind = AllByRecursion-append_right IsByte (take (4096 * place) bytes) behind (subst AreBytes (sym (take-append-drop (4096 * place) bytes)) small) in
    byte_at (block_at place bytes) (AllByRecursion-append_left IsByte (block_at place bytes) (drop 4096 behind) (subst AreBytes (sym (take-append-drop 4096 behind)) all))
