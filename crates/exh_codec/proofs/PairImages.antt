-- Pairs one after the other, of which bytes tell which they are.
use Rattle.std.proofs.Common.{◌≡◌, ℕ, ◌+◌, ◌-◌, ◌<◌, ◌≤◌, get_or, List, [], ◌∷◌, ◌++◌, length, take, drop, refl, sym, ap, ◌∙◌, append_assoc, arith}
use Rattle.std.specs.List.{AllByRecursion, flat_map}
use Rattle.std.proofs.lemmas.List.{take_all, take_at, drop_at, length-append, append-nil}
use Rattle.std.proofs.lemmas.List.Concat.{flat_map-append}
use Rattle.exh_codec.specs.Cells.{Pair, IsSizedPair, AreCells, pair_image}

-- two lists of one length, with something after them
pub same_fronts : (one other rest after : List ℕ) → length one ≡ length other → one ++ rest ≡ other ++ after → (one ≡ other) × (rest ≡ after)
same_fronts one other rest after len same =
    let front : one ≡ other = sym (take_at one rest (length one) refl) ∙ ap (take (length one)) same ∙ take_at other after (length one) (sym len) in
    let back : rest ≡ after = sym (drop_at one rest (length one) refl) ∙ ap (drop (length one)) same ∙ drop_at other after (length one) (sym len) in
    (front, back)

-- bytes begin with one pair
pub same_pair : (one other : Pair) (rest after : List ℕ) → pair_image one ++ rest ≡ pair_image other ++ after → (one ≡ other) × (rest ≡ after)
unfolding pair_image
same_pair one other rest after same =
    let key_len : length one.0 ≡ length other.0 = cc in
    let value_len : length one.1 ≡ length other.1 = cc in
    let bodies : (one.0 ++ one.1) ++ rest ≡ (other.0 ++ other.1) ++ after = cc in
    let parted : one.0 ++ (one.1 ++ rest) ≡ (one.0 ++ one.1) ++ rest = sym (append_assoc one.0 one.1 rest) in
    let joined : (other.0 ++ other.1) ++ after ≡ other.0 ++ (other.1 ++ after) = append_assoc other.0 other.1 after in
    let bodies_parted : one.0 ++ (one.1 ++ rest) ≡ other.0 ++ (other.1 ++ after) = cc in
    let keys = same_fronts one.0 other.0 (one.1 ++ rest) (other.1 ++ after) key_len bodies_parted in
    let values = same_fronts one.1 other.1 rest after value_len keys.1 in
    (ap (λ (key : List ℕ). (key, one.1)) keys.0 ∙ ap (λ (value : List ℕ). (other.0, value)) values.0, values.1)

next_pair : (pair : Pair) (pairs : List Pair) (rest : List ℕ) → flat_map pair_image (pair ∷ pairs) ++ rest ≡ pair_image pair ++ (flat_map pair_image pairs ++ rest)
next_pair pair pairs rest = append_assoc (pair_image pair) (flat_map pair_image pairs) rest

-- bytes begin with one list of so many pairs
pub same_pairs : (one other : List Pair) (rest after : List ℕ) → length one ≡ length other → flat_map pair_image one ++ rest ≡ flat_map pair_image other ++ after → (one ≡ other) × (rest ≡ after)
same_pairs [] [] rest after len same = (refl, same)
same_pairs [] (q ∷ other) rest after len same = absurd (omega (arith, len))
same_pairs (p ∷ one) [] rest after len same = absurd (omega (arith, len))
same_pairs (p ∷ one) (q ∷ other) rest after len same =
    let first = same_pair p q (flat_map pair_image one ++ rest) (flat_map pair_image other ++ after) (sym (next_pair p one rest) ∙ same ∙ next_pair q other after) in
    let others = same_pairs one other rest after (omega (arith, len)) first.1 in
    (ap (λ (pair : Pair). pair ∷ one) first.0 ∙ ap (λ (pairs : List Pair). q ∷ pairs) others.0, others.1)

pub same_cells : (count : ℕ) (bytes : List ℕ) (one other : List Pair) (rest after : List ℕ) → AreCells count bytes one rest → AreCells count bytes other after → (one ≡ other) × (rest ≡ after)
same_cells count bytes one other rest after first second = same_pairs one other rest after (first.all ∙ sym second.all) (sym first.whole ∙ second.whole)

-- behind fewer pairs than there are stands the next
pub has_next : (front pairs : List Pair) (rest after : List ℕ) → length front < length pairs → AllByRecursion IsSizedPair pairs → flat_map pair_image front ++ rest ≡ flat_map pair_image pairs ++ after
    → (pair : Pair) × (more : List ℕ) × IsSizedPair pair × (rest ≡ pair_image pair ++ more)
has_next [] [] rest after fewer sized same = absurd (omega (arith, fewer))
has_next [] (q ∷ pairs) rest after fewer sized same = (q, flat_map pair_image pairs ++ after, sized.0, same ∙ next_pair q pairs after)
has_next (p ∷ front) [] rest after fewer sized same = absurd (omega (arith, fewer))
has_next (p ∷ front) (q ∷ pairs) rest after fewer sized same =
    let first = same_pair p q (flat_map pair_image front ++ rest) (flat_map pair_image pairs ++ after) (sym (next_pair p front rest) ∙ same ∙ next_pair q pairs after) in
    has_next front pairs rest after (omega (arith, fewer)) sized.1 first.1

-- where no pair stands behind the first i, there are not more of them
pub no_more_cells : (count i : ℕ) (bytes : List ℕ) (front : List Pair) (rest : List ℕ) → i < count → AreCells i bytes front rest
    → ((pair : Pair) (more : List ℕ) → IsSizedPair pair → rest ≡ pair_image pair ++ more → ⊥)
    → (pairs : List Pair) (after : List ℕ) → AreCells count bytes pairs after → ⊥
no_more_cells count i bytes front rest below cells none pairs after all =
    let next = has_next front pairs rest after (omega (arith, below, cells.all, all.all)) all.sized (sym cells.whole ∙ all.whole) in
    none next.0 next.1 next.2 next.3

sized_push : (front : List Pair) (pair : Pair) → AllByRecursion IsSizedPair front → IsSizedPair pair → AllByRecursion IsSizedPair (front ++ pair ∷ [])
sized_push [] pair all sized = (sized, tt)
sized_push (p ∷ front) pair all sized = (all.0, sized_push front pair all.1 sized)

-- one pair more
pub more_cells : (i : ℕ) (bytes : List ℕ) (front : List Pair) (rest : List ℕ) (pair : Pair) (after : List ℕ) → AreCells i bytes front rest → IsSizedPair pair → rest ≡ pair_image pair ++ after
    → AreCells (i + 1) bytes (front ++ pair ∷ []) after
more_cells i bytes front rest pair after cells sized next = record {
  all = omega (arith, cells.all, length-append front (pair ∷ []));
  sized = sized_push front pair cells.sized sized;
  whole = cells.whole ∙ ap (λ (bytes : List ℕ). flat_map pair_image front ++ bytes) next ∙ sym (append_assoc (flat_map pair_image front) (pair_image pair) after)
      ∙ ap (λ (bytes : List ℕ). bytes ++ after) (ap (λ (image : List ℕ). flat_map pair_image front ++ image) (sym (append-nil (pair_image pair))) ∙ sym (flat_map-append pair_image front (pair ∷ [])));
}

pub no_cells : (bytes : List ℕ) → AreCells 0 bytes [] bytes
no_cells bytes = record { all = refl; sized = tt; whole = refl }

-- what bytes that begin with a pair say of it
pub pair_at_front : (bytes : List ℕ) (pair : Pair) (rest : List ℕ) → bytes ≡ pair_image pair ++ rest
    → (get_or bytes 0 0 ≡ length pair.0) × (get_or bytes 1 0 ≡ length pair.1) × (length bytes ≡ 2 + (length pair.0 + length pair.1) + length rest)
unfolding pair_image
pair_at_front bytes pair rest is =
    let len : length bytes ≡ 2 + (length pair.0 + length pair.1) + length rest =
    ap length is ∙ omega (arith, length-append (pair.0 ++ pair.1) rest, length-append pair.0 pair.1) in
    (ap (λ (bytes : List ℕ). get_or bytes 0 0) is, ap (λ (bytes : List ℕ). get_or bytes 1 0) is, len)

-- the pair that was cut from bytes by its lengths
pub pair_from_cuts : (bytes key between value rest : List ℕ) → 2 ≤ length bytes → length key ≡ get_or bytes 0 0 → length value ≡ get_or bytes 1 0
    → take (length bytes - 2) (drop 2 bytes) ≡ key ++ between → between ≡ value ++ rest → bytes ≡ pair_image (key, value) ++ rest
unfolding pair_image
pair_from_cuts [] key between value rest some key_len value_len first second = absurd (omega (arith, some))
pair_from_cuts (a ∷ []) key between value rest some key_len value_len first second = absurd (omega (arith, some))
pair_from_cuts (a ∷ b ∷ bytes) key between value rest some key_len value_len first second =
    let body : bytes ≡ (key ++ value) ++ rest =
    sym (take_all (length (a ∷ b ∷ bytes) - 2) bytes (omega arith)) ∙ first ∙ ap (λ (back : List ℕ). key ++ back) second ∙ sym (append_assoc key value rest) in
    ap (λ (n : ℕ). n ∷ b ∷ bytes) (sym key_len) ∙ ap (λ (n : ℕ). length key ∷ n ∷ bytes) (sym value_len) ∙ ap (λ (body : List ℕ). length key ∷ length value ∷ body) body
