-- What came out of a reader, read by read.
use Rattle.std.proofs.Common.{◌≡◌, ℕ, ◌+◌, ◌<◌, ◌≤◌, List, ◌++◌, length, take, Option, Result, OnErr, Ok, Err, sym, ap, ◌∙◌, arith, length-append, length-take-le}
use Rattle.std.proofs.Math.Seq.{take-append-add}
use Rattle.std.proofs.lemmas.List.{take-append-le}
use Rattle.std.specs.Io.KnownBytes.{Consumes}
use Rattle.std.proofs.KnownBytes.{Consumes-trans}
use Rattle.exh_stream.specs.Source.{LosesLonger, LosesSome}

-- a block is filled so far, and the next bytes stand behind that
pub filled_more : (filled count : ℕ) (block more rest : List ℕ) → filled ≤ length block → count ≤ length more
    → take (filled + count) (take filled block ++ (more ++ rest)) ≡ take filled block ++ take count more
filled_more filled count block more rest within bound =
    ap (λ n. take (n + count) (take filled block ++ (more ++ rest))) (sym (length-take-le filled block within))
    ∙ take-append-add (take filled block) (more ++ rest) count
    ∙ ap (λ l. take filled block ++ l) (take-append-le count more rest bound)

-- what came before a block is lost too
pub LosesSome-after : {E T : Type 0} (a b c : Option (List ℕ)) (first more : List ℕ) (r : Result T E) → Consumes a b first → Consumes b c more → OnErr r (LosesSome a c)
LosesSome-after a b c first more (Ok x) given next = tt
LosesSome-after a b c first more (Err e) given next = (first ++ more, Consumes-trans a b c first more given next)

-- some bytes and a block that pass the limit together
pub LosesLonger-after : (a b c : Option (List ℕ)) (first block : List ℕ) (count limit : ℕ) → Consumes a b first → Consumes b c (take count block)
    → count ≤ length block → limit < length first + count → LosesLonger a c limit
LosesLonger-after a b c first block count limit given next within more =
    let over : limit < length (first ++ take count block) = omega (arith, more, length-append first (take count block), length-take-le count block within) in
    (first ++ take count block, over, Consumes-trans a b c first (take count block) given next)
