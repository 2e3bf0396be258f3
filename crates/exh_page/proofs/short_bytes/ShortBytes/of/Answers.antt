use Rattle.std.proofs.Common.{ℕ, ◌≤◌, List, ◌++◌, length, drop, replicate, refl, arith}
use Rattle.std.proofs.lemmas.List.{drop-replicate, length-append, length-replicate}
use Rattle.std.proofs.Math.Seq.{take-append_seam}
use Rattle.exh_page.specs.ShortBytes.{IsStored}
use Rattle.exh_page.proofs.short_bytes.ShortBytes.of.Goals as goal

-- bytes in front of zeros
stored_front : (limit : ℕ) (bytes : List ℕ) → length bytes ≤ limit → IsStored limit (length bytes) (bytes ++ drop (length bytes) (replicate limit 0))
stored_front limit bytes fits = record {
  fits = fits;
  whole = rw (length-append, drop-replicate, length-replicate) (omega (arith, fits));
  rest = rw (take-append_seam bytes (drop (length bytes) (replicate limit 0)), drop-replicate) refl;
}

pub invariant_of-result : goal.invariant_of-result
invariant_of-result g c = rw c.copy_from_slice.ensures.after (stored_front g.row.N c.args.bytes.now c.requires.limit)
