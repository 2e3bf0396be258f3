-- What an output takes and its writer gets, write by write.
use Rattle.std.proofs.Common.{◌≡◌, ℕ, ◌+◌, List, length, length-append, arith, ◌++◌, take, drop, Option, sym, ap, take-append-drop, append_assoc}
use Rattle.std.specs.Io.KnownBytes.{Appends}
use Rattle.exh_stream.specs.Output.{AppendsAllBut}
use Rattle.exh_stream.specs.OutputLemmas.{AppendsAllBut-trans}

-- then the first bytes of the rest were written
pub AppendsAllBut-write : {a b c : Option (List ℕ)} {bytes rest : List ℕ} (count : ℕ) → AppendsAllBut a b bytes rest → Appends b c (take count rest) → AppendsAllBut a c bytes (drop count rest)
AppendsAllBut-write {a} {b} {c} {bytes} {rest} count h gone =
    AppendsAllBut-trans h (record { front = take count rest; gone = gone; split = sym (take-append-drop count rest) })

-- the first bytes of the rest join what waits, and all is as it was
pub append-taken : (waiting rest waiting' rest' : List ℕ) (count : ℕ) → waiting' ≡ waiting ++ take count rest → rest' ≡ drop count rest → waiting' ++ rest' ≡ waiting ++ rest
append-taken waiting rest waiting' rest' count joined left =
    rw (joined, left, append_assoc) (ap (λ l. waiting ++ l) (take-append-drop count rest))

pub length-taken : (waiting rest waiting' rest' : List ℕ) (count : ℕ) → waiting' ≡ waiting ++ take count rest → rest' ≡ drop count rest → length waiting' + length rest' ≡ length waiting + length rest
length-taken waiting rest waiting' rest' count joined left =
    omega (arith, ap length (append-taken waiting rest waiting' rest' count joined left), length-append waiting' rest', length-append waiting rest)
