use Rattle.std.proofs.Common.{◌≡◌, List, ◌++◌, ℕ, length, ap, ◌∙◌, arith}
use Rattle.exh_calls.proofs.PairsArePacked.{pairs_in-push}
use Rattle.exh_calls.proofs.packed_pairs.PackedPairs.push.Goals as goal

pub returns-clause-ok : goal.returns-clause-ok
returns-clause-ok c =
    let key = c.as_bytes-key.result.now in
    let value = c.as_bytes-value.result.now in
    let with_key = rw c.unwrap.ensures at c.extend_from_slice.ensures.items in
    let with_value = rw c.unwrap-2.ensures at c.extend_from_slice-2.ensures.items in
    let texts = with_value ∙ ap (λ (bytes : List ℕ). bytes ++ value) (with_key ∙ ap (λ (bytes : List ℕ). bytes ++ key) c.reserve-2.ensures.items) in
    let start : c.len.result ≡ length c.self.inside.texts.items = omega (arith, ap length c.reserve-2.ensures.items) in
    rw (texts, c.push_reserved.ensures.items, c.reserve.ensures.items, start, ← c.self.view_is, ← c.as_bytes-key.ensures.bytes, ← c.as_bytes-value.ensures.bytes)
    (pairs_in-push c.self.inside.texts.items key value c.self.inside.stored.items c.self.invariant)
