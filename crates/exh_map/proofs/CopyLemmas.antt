-- Blocks that are copied one after the other.
use Rattle.std.proofs.Common.{◌≡◌, ℕ, zero, suc, ◌+◌, ◌<◌, ◌≤◌, ◌/◌, ◌*◌, List, ◌++◌, length, take, drop, Option, Some, None, IfSome, inl, inr, sym, ◌∙◌, ap, subst, arith}
use Rattle.std.proofs.lemmas.Bool.{cases_eq}
use Rattle.std.proofs.lemmas.List.{drop-drop, length-drop, nil_from_length, take-append-drop}
use Rattle.exh_format.specs.FileTests.{IsWhole, block_at}
use Rattle.exh_map.specs.Copy.{Becomes, EndsBehind, HasBlocks, HasPut, IsCopy, IsRest, Takes}

-- ---- where a model tells

becomes_same : (old : Option (List ℕ)) (P : List ℕ → List ℕ → Type 0) → ((bytes : List ℕ) → P bytes bytes) → Becomes old old P
becomes_same None P all = tt
becomes_same (Some bytes) P all = all bytes

becomes_then : (a b c : Option (List ℕ)) (P Q R : List ℕ → List ℕ → Type 0) → ((x y z : List ℕ) → P x y → Q y z → R x z) → Becomes a b P → Becomes b c Q → Becomes a c R
becomes_then None b c P Q R both one other = tt
becomes_then (Some x) None c P Q R both one other = absurd one
becomes_then (Some x) (Some y) None P Q R both one other = absurd other
becomes_then (Some x) (Some y) (Some z) P Q R both one other = both x y z one other

-- ---- blocks

next_block : (source : List ℕ) (place : ℕ) (block x y : List ℕ) → HasBlocks place source x → block ≡ block_at place source → HasPut place block x y → HasBlocks (place + 1) source y
next_block source place block x y has is put other some less = elim (cases_eq other place) [
  | inl same ↦
      let whole : IsWhole place y = omega (arith, put.long, length-drop (4096 * place) y) in
      subst (λ (n : ℕ). IsWhole n y × (block_at n y ≡ block_at n source)) (sym same) (whole, put.is ∙ is)
  | inr differ ↦
      let was = has other some (omega (arith, less, differ)) in
      let kept = put.others other differ was.0 in
      (kept.0, kept.1 ∙ was.1)
]

-- from the second block on, as far as a place
pub none_yet : (source old : Option (List ℕ)) → Takes (HasBlocks 1) source old old
none_yet None old = tt
none_yet (Some bytes) old = becomes_same old (λ _ now. HasBlocks 1 bytes now) (λ now place some less. absurd (omega (arith, some, less)))

pub one_more : (source old mid new : Option (List ℕ)) (place : ℕ) (block : List ℕ) → Takes (HasBlocks place) source old mid → IfSome source (λ bytes. IsWhole place bytes × (block ≡ block_at place bytes)) → Becomes mid new (HasPut place block) → Takes (HasBlocks (place + 1)) source old new
one_more None old mid new place block has is put = tt
one_more (Some bytes) old mid new place block has is put = becomes_then old mid new (λ _ now. HasBlocks place bytes now) (HasPut place block) (λ _ now. HasBlocks (place + 1) bytes now) (λ x y z has put. next_block bytes place block y z has is.1 put) has put

ended : (bytes : List ℕ) (place count : ℕ) (x y : List ℕ) → count ≤ place → count ≡ length bytes / 4096 → HasBlocks place bytes x → EndsBehind count x y → IsRest bytes y
ended bytes place count x y all is has end = record {
  count_is = end.count_is ∙ ap (λ (n : ℕ). 4096 * n) is;
  blocks = λ other some less.
      let was = has other some (omega (arith, less, is, all)) in
      let kept = end.kept other (omega (arith, less, is)) was.0 in
      (kept.0, kept.1 ∙ was.1);
}

pub all_taken : (source old mid new : Option (List ℕ)) (place count : ℕ) → count ≤ place → IfSome source (λ bytes. count ≡ length bytes / 4096) → Takes (HasBlocks place) source old mid → Becomes mid new (EndsBehind count) → Takes IsRest source old new
all_taken None old mid new place count all is has end = tt
all_taken (Some bytes) old mid new place count all is has end = becomes_then old mid new (λ _ now. HasBlocks place bytes now) (EndsBehind count) (λ _ now. IsRest bytes now) (λ x y z has end. ended bytes place count y z all is has end) has end

-- ---- the first block

-- bytes of the same blocks are the same
same_blocks : (count : ℕ) (one other : List ℕ) → length one ≡ 4096 * count → length other ≡ 4096 * count → ((place : ℕ) → place < count → block_at place one ≡ block_at place other) → one ≡ other
same_blocks zero one other len long same = nil_from_length one (omega (arith, len)) ∙ sym (nil_from_length other (omega (arith, long)))
same_blocks (suc count) one other len long same =
    let front : take 4096 one ≡ take 4096 other = same 0 (omega arith) in
    let behind = λ (place : ℕ) (bytes : List ℕ). drop-drop (4096 * place) 4096 bytes ∙ (let next : 4096 + 4096 * place ≡ 4096 * suc place = omega arith in ap (λ (n : ℕ). drop n bytes) next) in
    let rest = same_blocks count (drop 4096 one) (drop 4096 other) (omega (arith, len, length-drop 4096 one)) (omega (arith, long, length-drop 4096 other))
    (λ place less. ap (take 4096) (behind place one) ∙ same (suc place) (omega (arith, less)) ∙ sym (ap (take 4096) (behind place other))) in
    sym (take-append-drop 4096 one) ∙ (λ i. front i ++ rest i) ∙ take-append-drop 4096 other

module _ (source first mid new : List ℕ) (whole : IsWhole 0 source) (is : first ≡ block_at 0 source) (rest : IsRest source mid) (put : HasPut 0 first mid new) where
  each : (place : ℕ) → place < length source / 4096 → block_at place new ≡ block_at place source
  each place less = elim (cases_eq place 0) [
    | inl same ↦ subst (λ (n : ℕ). block_at n new ≡ block_at n source) (sym same) (put.is ∙ is)
    | inr differ ↦
        let was = rest.blocks place (omega (arith, differ)) less in
        (put.others place differ was.0).1 ∙ was.1
  ]

  copied : IsCopy source new
  copied blocks =
      let some : 4096 ≤ length source = omega (arith, whole, length-drop 0 source) in
      let long : length new ≡ 4096 * (length source / 4096) = omega (arith, put.long, rest.count_is, some) in
      same_blocks (length source / 4096) new source long blocks each

pub whole_copy : (source old mid new : Option (List ℕ)) (first : List ℕ) → IfSome source (λ bytes. IsWhole 0 bytes × (first ≡ block_at 0 bytes)) → Takes IsRest source old mid → Becomes mid new (HasPut 0 first) → Takes IsCopy source old new
whole_copy None old mid new first is rest put = tt
whole_copy (Some bytes) old mid new first is rest put = becomes_then old mid new (λ _ now. IsRest bytes now) (HasPut 0 first) (λ _ now. IsCopy bytes now) (λ x y z rest put. copied bytes first y z is.0 is.1 rest put) rest put
