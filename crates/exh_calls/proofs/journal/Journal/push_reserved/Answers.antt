use Rattle.std.proofs.Common.{◌≡◌, List, ◌++◌, ℕ, length, ap, ◌∙◌, arith}
use Rattle.exh_calls.proofs.JournalBytes.{entries_in-push}
use Rattle.exh_calls.specs.Journal.{JournalState, call_as, reply_as}
use Rattle.exh_calls.proofs.journal.Journal.push_reserved.Goals as goal

pub returns : goal.returns
returns c =
    let key = c.as_bytes-key.result.now in
    let value = c.value_given-value.result.now in
    let second = c.second_given-second.result.now in
    let told = c.value_told-told.result.now in
    let with_key = rw c.unwrap.ensures at c.extend_from_slice.ensures.items in
    let with_value = c.add_text.ensures.items in
    let with_second = c.add_text-2.ensures.items in
    let with_told = c.add_text-3.ensures.items in
    let both = with_second ∙ ap (λ (bytes : List ℕ). bytes ++ second) (with_value ∙ ap (λ (bytes : List ℕ). bytes ++ value) with_key) in
    let texts = with_told ∙ ap (λ (bytes : List ℕ). bytes ++ told) both in
    let start : c.len.result ≡ length c.self.inside.texts.items = omega arith in
    let before = ap (λ (journal : JournalState). journal.entries) c.self.view_is in
    let is_call : call_as c.of.result key value second ≡ c.args.call.now = rw (c.as_bytes-key.ensures.bytes, c.key.ensures, c.value_given-value.ensures.value, c.second_given-second.ensures.value) c.of.ensures in
    let is_reply : reply_as c.of-2.result told ≡ c.args.reply.now = rw c.value_told-told.ensures.value c.of-2.ensures in
    rw (texts, c.push_reserved.ensures.items, start, ← before, ← is_call, ← is_reply)
    (entries_in-push c.self.inside.texts.items key value second told c.args.client c.of.result c.of-2.result c.self.inside.stored.items c.self.invariant)
