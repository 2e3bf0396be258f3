use Rattle.std.proofs.Common.{◌≡◌, ◌≢◌, ℕ, ◌+◌, ◌-◌, ◌<◌, ◌≤◌, List, length, slice_get, Option, None, Some, Bor, refl, sym, arith}
use Rattle.std.specs.Prelude.{Contains, IfNone, IfSome}
use Rattle.std.specs.List.{HoldsAt}
use Rattle.std.specs.Option.{MatchOption, option_copied}
use Rattle.std.proofs.lemmas.Option.{slice_get_read}
use Rattle.exh_notice.specs.declared.notice.Notice.{Notice}
use Rattle.exh_world.specs.WorldKept.{HaveIndexesInTurn}
use Rattle.exh_world.proofs.world.notice_of.notice_of.Goals as goal

module _ (notices : List Notice) (in_turn : HaveIndexesInTurn notices) (first : Notice) (first_is : slice_get notices 0 ≡ Some first) where
  index_at : (place : ℕ) (notice : Notice) → slice_get notices place ≡ Some notice → notice.index ≡ first.index + place
  index_at place notice is = let zeroth = in_turn.1 0 first first_is in let here = in_turn.1 place notice is in omega (arith, zeroth, here)

  index_of : (notice : Notice) (is : Contains notices notice) → notice.index ≡ first.index + is.0
  index_of notice is = index_at is.0 notice (slice_get_read notices (length notices) is.0 notice refl is.1 (sym is.2))

  module _ (index place : ℕ) (from : first.index ≤ index) (place_is : place ≡ index - first.index) where
    abbrev Found : Option (Bor Notice) → Type 0
    Found found = MatchOption found (length notices ≤ place) (λ x. (place < length notices) × HoldsAt (λ y. x.now ≡ y) notices place)

    some_found : (found : Option (Bor Notice)) → Found found → IfSome (option_copied found) (λ notice. Contains notices notice × (notice.index ≡ index))
    some_found None is = tt
    some_found (Some x) is = (
      (place, is.0, sym (is.1 x.now)),
      let here = index_at place x.now (slice_get_read notices (length notices) place x.now refl is.0 (is.1 x.now)) in omega (arith, here, from, place_is),
    )

    none_found : (found : Option (Bor Notice)) → Found found → IfNone (option_copied found) ((notice : Notice) → Contains notices notice → notice.index ≢ index)
    none_found None past = λ notice is same. let here = index_of notice is in let fits = is.1 in omega (arith, here, fits, past, same, from, place_is)
    none_found (Some x) is = tt

pub returns-in_err-first-clause-some : goal.returns-in_err-first-clause-some
returns-in_err-first-clause-some c = rw c.from_residual.ensures tt

pub returns-in_err-first-clause-none : goal.returns-in_err-first-clause-none
returns-in_err-first-clause-none c = rw c.from_residual.ensures (λ notice is same. let fits = is.1 in omega (arith, fits, c.in_err-first.ensures.item.3))

pub returns-in_err-place-clause-some : goal.returns-in_err-place-clause-some
returns-in_err-place-clause-some c = rw c.from_residual-in_err-place.ensures tt

pub returns-in_err-place-clause-none : goal.returns-in_err-place-clause-none
returns-in_err-place-clause-none c =
    let first_is = sym c.in_ok-first.ensures.value in
    rw c.from_residual-in_err-place.ensures
    (λ notice is same. c.in_err-place.ensures (let here = index_of c.args.notices.now c.requires c.in_ok-first.field-0.now first_is notice is in omega (arith, here, same)))

pub returns-clause-some : goal.returns-clause-some
returns-clause-some c =
    let first_is = sym c.in_ok-first.ensures.value in
    rw c.copied.ensures
    (some_found c.args.notices.now c.requires c.in_ok-first.field-0.now first_is c.args.index c.in_ok-place.place c.in_ok-place.ensures.0 c.in_ok-place.ensures.1 c.get.result c.get.ensures.lookup.3)

pub returns-clause-none : goal.returns-clause-none
returns-clause-none c =
    let first_is = sym c.in_ok-first.ensures.value in
    rw c.copied.ensures
    (none_found c.args.notices.now c.requires c.in_ok-first.field-0.now first_is c.args.index c.in_ok-place.place c.in_ok-place.ensures.0 c.in_ok-place.ensures.1 c.get.result c.get.ensures.lookup.3)
