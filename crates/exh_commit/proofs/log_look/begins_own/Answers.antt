use Rattle.std.proofs.Common.{◌≡◌, ◌<◌, ◌≤◌, true, false, length, sym, refl, ◌∙◌, arith, rules}
use Rattle.std.proofs.lemmas.Bool.{false≢true}
use Rattle.std.proofs.lemmas.List.{length-take-le}
use Rattle.exh_commit.proofs.LookLemmas.{emptied_own, front_of, own_written, written_own}
use Rattle.exh_commit.proofs.log_look.begins_own.Goals as goal

pub returns-then-begins_as-clause-own : goal.returns-then-begins_as-clause-own
returns-then-begins_as-clause-own g c clean =
    let log = g.D.Disk.seen c.args.log.now in
    let front = c.args.front.now in
    let it = front_of log front c.args.len (length front) (c.requires.len clean) c.requires.count (c.requires.front clean) in
    (λ yes. emptied_own log front (length front) it (c.begins_as.ensures.0 c.if-begins_as.true), λ own. refl)

pub slice_bounds-is_header-end : goal.slice_bounds-is_header-end
slice_bounds-is_header-end g c = sym (length-take-le 32 c.args.front.now (omega (arith, c.requires.count, c.if-len-le-EMPTY_LEN.false)))

pub is_header-requires : goal.is_header-requires
is_header-requires g c = length-take-le 32 c.args.front.now (omega (arith, c.requires.count, c.if-len-le-EMPTY_LEN.false))

pub returns-then-not-is_header-clause-own : goal.returns-then-not-is_header-clause-own
returns-then-not-is_header-clause-own g c clean =
    let log = g.D.Disk.seen c.args.log.now in
    let front = c.args.front.now in
    let it = front_of log front c.args.len (length front) (c.requires.len clean) c.requires.count (c.requires.front clean) in
    let low : 32 ≤ length front = omega (arith, c.requires.count, c.if-len-le-EMPTY_LEN.false) in
    let all = c.requires.len clean in
    let long : 56 < length log = omega (arith, all, c.if-len-le-EMPTY_LEN.false) in
    let none : c.is_header.result ≡ false = search rules in
    (λ no. absurd (false≢true no), λ own. absurd (false≢true (sym none ∙ c.is_header.ensures.1 (own_written log front (length front) it low long (λ begins. false≢true (sym c.if-begins_as.false ∙ c.begins_as.ensures.1 begins)) own).0)))

pub returns-clause-own : goal.returns-clause-own
returns-clause-own g c clean =
    let log = g.D.Disk.seen c.args.log.now in
    let front = c.args.front.now in
    let was = c.in_ok-has_own_commits.ensures.same.clean clean in
    let it = front_of log front c.args.len (length front) (c.requires.len was) c.requires.count (c.requires.front was) in
    let low : 32 ≤ length front = omega (arith, c.requires.count, c.if-len-le-EMPTY_LEN.false) in
    let all = c.requires.len was in
    let long : 56 < length log = omega (arith, all, c.if-len-le-EMPTY_LEN.false) in
    let signed : c.is_header.result ≡ true = search rules in
    let has = c.in_ok-has_own_commits.ensures.own clean in
    (λ yes. written_own log front (length front) it low long (c.is_header.ensures.0 signed) (has.0 yes), λ own. has.1 (own_written log front (length front) it low long (λ begins. false≢true (sym c.if-begins_as.false ∙ c.begins_as.ensures.1 begins)) own).1)
