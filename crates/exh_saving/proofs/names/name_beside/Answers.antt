use Rattle.std.proofs.Common.{◌≡◌, ◌++◌, ◌+◌, length, take, ◌<◌, ◌-◌, ◌∙◌, ap, arith}
use Rattle.std.proofs.Math.Seq.{take-length}
use Rattle.exh_saving.specs.Names.{IsCutAt}
use Rattle.exh_saving.proofs.names.name_beside.Goals as goal

-- it is cut where the last character ends that has room
pub returns-clause-cut : goal.returns-clause-cut
returns-clause-cut c =
    let path = c.args.path.now in
    let suffix = c.args.suffix.now in
    let own = c.file_name_of.result.now in
    let kept = c.floor_char_boundary-kept in
    let place : c.saturating_sub.result ≡ length path - (length own + length suffix - 255) = omega arith in
    let whole : kept.result - 0 ≡ kept.result = omega arith in
    let bytes : c.range.result.now ≡ take kept.result path = c.range.ensures.value ∙ ap (λ n. take n path) whole in
    let is : IsCutAt path c.saturating_sub.result kept.result = record { within = kept.ensures.bound; between = kept.ensures.boundary; last = kept.ensures.nearest } in
    (own, kept.result, c.file_name_of.ensures.name, c.in_ok-push_str.ensures.bytes ∙ ap (λ text. text ++ suffix) (c.in_ok-name.ensures.ok ∙ bytes), rw place at is)

-- nothing is cut off: the end is the last place where a character ends
pub returns-clause-whole : goal.returns-clause-whole
returns-clause-whole c fits =
    let len = length c.args.path.now in
    let kept = c.floor_char_boundary-kept in
    let end : c.saturating_sub.result ≡ len = omega arith in
    let below : kept.result < len → ⊥ = λ lt. kept.ensures.nearest len lt (omega arith) (omega arith, λ past _. omega arith) in
    let whole : kept.result - 0 ≡ len = omega arith in
    let all : c.range.result.now ≡ c.args.path.now = c.range.ensures.value ∙ ap (λ n. take n c.args.path.now) whole ∙ take-length _ in
    rw (← all) (c.in_ok-push_str.ensures.bytes ∙ ap (λ bytes. bytes ++ c.args.suffix.now) c.in_ok-name.ensures.ok)
