-- What copies know after turns, by the notices that they took in them.
use Rattle.std.proofs.Common.{◌≡◌, ℕ, zero, suc, ◌-◌, Bool, true, false, List, [], ◌∷◌, ◌++◌, map, fold, slice_get, Contains, Option, None, Some, inl, inr, refl, sym, ap, ◌∙◌, subst, arith}
use Rattle.std.specs.Prelude.{◌==◌, slice_set, option_map, if◌then◌else◌, Result, Ok}
use Rattle.std.specs.List.{AllByRecursion}
use Rattle.std.specs.Option.{option_map_or}
use Rattle.std.proofs.lemmas.Bool.{cases_eq}
use Rattle.std.proofs.lemmas.List.{append-nil, append_assoc, map-append}
use Rattle.std.proofs.lemmas.List.Elements.{Contains-append_left, Contains-append_right, Contains-append_cases}
use Rattle.std.proofs.lemmas.Option.{slice_get-map}
use Rattle.exh_prefix.specs.PrefixListLemmas.{set_else, Contains-map}
use Rattle.exh_notice.specs.declared.notice.Notice.{Notice}
use Rattle.exh_table.specs.TableLaws.{OneNoticeMore}
use Rattle.exh_table.specs.Table.{TableMap, told_by, IsTableOf, table_with}
use Rattle.exh_world.specs.HeadlineLaws.{notice_taken, notices_taken, LeavesToNotices}
use Rattle.exh_world.specs.WorldListLemmas.{numbered_here}
use Rattle.exh_world.specs.WorldRun.{Moment, IsRun, Told, Knowledge, told_too, known_after, known_at_end}
use Rattle.exh_world.specs.Step.{Step}
use Rattle.exh_world.specs.World.{WorldState, numbered}
use Rattle.exh_walk.specs.declared.event.Event.{Event}
use Rattle.exh_walk.specs.declared.event.Event.TheVariants.{Deliver, Send, Combine, Restart}
use Rattle.exh_walk.specs.declared.outcome.Outcome.{Outcome}
use Rattle.exh_walk.specs.declared.outcome.Outcome.TheVariants.{Taken, Sent, Joined, Restarted}
use Rattle.exh_walk.specs.declared.step_fault.StepFault.{StepFault}
use Rattle.exh_walk.specs.declared.turn.Turn.{Turn}

-- ---- numbered things

module _ {A : Type 0} where
  pub numbered_mapped : {B : Type 0} (f : A → B) (xs : List A) (number : ℕ) (x : A) → numbered xs number ≡ Some x → numbered (map f xs) number ≡ Some (f x)
  numbered_mapped f xs zero x is = cc
  numbered_mapped f xs (suc at) x is = slice_get-map f xs at ∙ ap (option_map f) is

  is_numbered : (xs : List A) (number : ℕ) (x : A) → numbered xs number ≡ Some x → number ≡ 0 → ⊥
  is_numbered xs zero x is none = cc
  is_numbered xs (suc number) x is none = omega (arith, none)

  numbered_else : (xs : List A) (at other : ℕ) (x : A) → (at ≡ 0 → ⊥) → (at ≡ other → ⊥) → numbered (slice_set xs (at - 1) x) other ≡ numbered xs other
  numbered_else xs zero other x some differ = absurd (some refl)
  numbered_else xs (suc at) zero x some differ = refl
  numbered_else xs (suc at) (suc other) x some differ =
      let before : suc at - 1 ≡ at = omega arith in
      subst (λ n. slice_get (slice_set xs n x) other ≡ slice_get xs other) (sym before) (set_else xs at other x (λ same. differ (ap suc (sym same))))

  set_then : (xs : List A) (at : ℕ) (x y : A) → slice_get (slice_set xs at x) at ≡ Some y → y ≡ x
  set_then [] at x y is = cc
  set_then (z ∷ xs) zero x y is = cc
  set_then (z ∷ xs) (suc at) x y is = set_then xs at x y is

  numbered_then : (xs : List A) (at : ℕ) (x y : A) → numbered (slice_set xs (at - 1) x) at ≡ Some y → y ≡ x
  numbered_then xs zero x y is = cc
  numbered_then xs (suc at) x y is = let before : suc at - 1 ≡ at = omega arith in set_then xs at x y (subst (λ n. slice_get (slice_set xs n x) at ≡ Some y) before is)

-- ---- one turn

-- what was taken, and these too
abbrev pub and_too : Told → Option Told → Option Told
and_too more found = option_map (λ told. told ++ more) found

none_more : (found : Option Told) → found ≡ and_too [] found
none_more None = refl
none_more (Some told) = ap Some (sym (append-nil told))

told_here : (known : Knowledge) (copy : ℕ) (more : Told) → numbered (told_too known copy more).copies copy ≡ and_too more (numbered known.copies copy)
told_here known copy more =
    elim (numbered known.copies copy) as (λ found. numbered known.copies copy ≡ found
    → numbered (option_map_or (λ taken. record known { copies = slice_set known.copies (copy - 1) (taken ++ more) }) found known).copies copy ≡ and_too more found) [
      | None ↦ λ is. is
      | Some taken ↦ λ is. numbered_here known.copies copy taken (taken ++ more) is
    ] refl

told_else : (known : Knowledge) (at other : ℕ) (more : Told) → (at ≡ other → ⊥) → numbered (told_too known at more).copies other ≡ numbered known.copies other
told_else known at other more differ =
    elim (numbered known.copies at) as (λ found. numbered known.copies at ≡ found
    → numbered (option_map_or (λ taken. record known { copies = slice_set known.copies (at - 1) (taken ++ more) }) found known).copies other ≡ numbered known.copies other) [
      | None ↦ λ is. refl
      | Some taken ↦ λ is. numbered_else known.copies at other (taken ++ more) (is_numbered known.copies at taken is) differ
    ] refl

delivered : (known : Knowledge) (other copy : ℕ) (notice : Notice)
    → numbered (told_too known other (told_by notice ∷ [])).copies copy ≡ and_too (map told_by (if other == copy then notice ∷ [] else [])) (numbered known.copies copy)
delivered known other copy notice =
    let P : Bool → Type 0 = λ here. numbered (told_too known other (told_by notice ∷ [])).copies copy ≡ and_too (map told_by (if here then notice ∷ [] else [])) (numbered known.copies copy) in
    elim (cases_eq other copy) [
      | inl same ↦
          let here : (other == copy) ≡ true = grind (arith, same) in
          let told : P true = subst (λ n. numbered (told_too known n (told_by notice ∷ [])).copies copy ≡ and_too (told_by notice ∷ []) (numbered known.copies copy)) (sym same) (told_here known copy (told_by notice ∷ [])) in
          subst P (sym here) told
      | inr differ ↦
          let here : (other == copy) ≡ false = grind (arith, differ) in
          let told : P false = told_else known other copy (told_by notice ∷ []) differ ∙ none_more (numbered known.copies copy) in
          subst P (sym here) told
    ]

module _ {K : Type 0} (pseudokey_of : K → List ℕ → ℕ) (start : Told) (copy : ℕ) where
  turn_told : (known : Knowledge) (old new : WorldState K) (event : Event) (result : Result Outcome StepFault) → Step pseudokey_of old event result new → LeavesToNotices copy (record { event = event; result = result })
      → numbered (known_after start known event result).copies copy ≡ and_too (map told_by (notice_taken copy event result)) (numbered known.copies copy)
  turn_told known old new (Deliver other ward index) (Ok (Taken notice)) step leaves = delivered known other copy notice
  turn_told known old new (Combine other table) (Ok Joined) step leaves =
      told_else known other copy _ (λ same. leaves.no_combine table (ap (λ n. record { event = Combine n table; result = Ok Joined }) same)) ∙ none_more (numbered known.copies copy)
  turn_told known old new (Restart other) (Ok Restarted) step leaves =
      numbered_else known.copies other copy start (is_numbered old.copies other step.own step.there) (λ same. leaves.no_restart (ap (λ n. record { event = Restart n; result = Ok Restarted }) same)) ∙ none_more (numbered known.copies copy)
  turn_told known old new (Send other) (Ok (Sent number)) step leaves = none_more (numbered known.copies copy)
  turn_told known old new event result step leaves = none_more (numbered known.copies copy)

  -- ---- all turns of a run

  abbrev pub turns_of : List (Moment K) → List Turn
  turns_of moments = map (λ (m : Moment K). m.turn) moments

  told_twice : (one two : List Notice) (found : Option Told) → and_too (map told_by two) (and_too (map told_by one) found) ≡ and_too (map told_by (one ++ two)) found
  told_twice one two None = refl
  told_twice one two (Some told) = ap Some (append_assoc told (map told_by one) (map told_by two) ∙ ap (λ more. told ++ more) (sym (map-append told_by one two)))

  -- where a copy takes notices alone, it has taken these, and what it had before
  pub told_along : (known : Knowledge) (now : WorldState K) (moments : List (Moment K)) (end : WorldState K) → IsRun pseudokey_of now moments end → AllByRecursion (LeavesToNotices copy) (turns_of moments)
      → numbered (known_at_end start known (turns_of moments)).copies copy ≡ and_too (map told_by (notices_taken copy (turns_of moments))) (numbered known.copies copy)
  told_along known now [] end run leave = none_more (numbered known.copies copy)
  told_along known now (moment ∷ moments) end run leave =
      let next = known_after start known moment.turn.event moment.turn.result in
      told_along next moment.after moments end run.2 leave.1
      ∙ ap (and_too (map told_by (notices_taken copy (turns_of moments)))) (turn_told known now moment.after moment.turn.event moment.turn.result run.1 leave.0)
      ∙ told_twice (notice_taken copy moment.turn.event moment.turn.result) (notices_taken copy (turns_of moments)) (numbered known.copies copy)

  abbrev restart : Turn
  restart = record { event = Restart copy; result = Ok Restarted }

  some_more : (more : Told) (found : Option Told) (taken : Told) → Some taken ≡ and_too more found → (told : Told) × (found ≡ Some told) × (taken ≡ told ++ more)
  some_more more None taken is = cc
  some_more more (Some told) taken is = (told, refl, cc)

  -- a restart takes it back to the start, and from there the same holds
  pub told_since : (known : Knowledge) (now : WorldState K) (moments : List (Moment K)) (end : WorldState K) → IsRun pseudokey_of now moments end
      → (front since : List Turn) → turns_of moments ≡ front ++ restart ∷ since → AllByRecursion (LeavesToNotices copy) since
      → (taken : Told) → numbered (known_at_end start known (turns_of moments)).copies copy ≡ Some taken → taken ≡ start ++ map told_by (notices_taken copy since)
  told_since known now [] end run [] since are leave taken is = cc
  told_since known now [] end run (turn ∷ front) since are leave taken is = cc
  told_since known now (moment ∷ moments) end run [] since are leave taken is =
      let turn_is : moment.turn ≡ restart = cc in
      let rest_are : turns_of moments ≡ since = cc in
      let next = known_after start known moment.turn.event moment.turn.result in
      let along = told_along next moment.after moments end run.2 (subst (AllByRecursion (LeavesToNotices copy)) (sym rest_are) leave) in
      let parts = some_more (map told_by (notices_taken copy (turns_of moments))) (numbered next.copies copy) taken (sym is ∙ along) in
      let at_start : parts.0 ≡ start =
      numbered_then known.copies copy start parts.0 (subst (λ (turn : Turn). numbered (known_after start known turn.event turn.result).copies copy ≡ Some parts.0) turn_is parts.1) in
      parts.2 ∙ ap (λ told. told ++ map told_by (notices_taken copy (turns_of moments))) at_start ∙ ap (λ turns. start ++ map told_by (notices_taken copy turns)) rest_are
  told_since known now (moment ∷ moments) end run (turn ∷ front) since are leave taken is =
      let rest_are : turns_of moments ≡ front ++ restart ∷ since = cc in
      told_since (known_after start known moment.turn.event moment.turn.result) moment.after moments end run.2 front since rest_are leave taken is

-- ---- the tables of such sets

pub with_notices : OneNoticeMore → (told : Told) (table : TableMap) (notices : List Notice) → IsTableOf told table → IsTableOf (told ++ map told_by notices) (fold table_with table notices)
with_notices law told table [] is = subst (λ t. IsTableOf t table) (sym (append-nil told)) is
with_notices law told table (notice ∷ notices) is =
    subst (λ t. IsTableOf t (fold table_with (table_with table notice) notices)) (append_assoc told (told_by notice ∷ []) (map told_by notices))
    (with_notices law (told ++ told_by notice ∷ []) (table_with table notice) notices (law told table notice is))

-- ---- members

from_mapped : {X Y : Type 0} (f : X → Y) (xs : List X) (y : Y) → Contains (map f xs) y → (x : X) × Contains xs x × (y ≡ f x)
from_mapped f [] y among = absurd (omega (arith, among.1))
from_mapped f (x ∷ xs) y (zero, within, is) = (x, (0, omega arith, refl), sym is)
from_mapped f (x ∷ xs) y (suc at, within, is) = let rest = from_mapped f xs y (at, omega (arith, within), is) in (rest.0, (suc rest.1.0, omega (arith, rest.1.1), rest.1.2), rest.2)

-- a set with the same notices beside it has the same members
pub more_told : (told : Told) (one other : List Notice) → ((notice : Notice) → Contains one notice → Contains other notice) → (pair : List Bool × _) → Contains (told ++ map told_by one) pair → Contains (told ++ map told_by other) pair
more_told told one other more pair among =
    elim (Contains-append_cases told (map told_by one) pair among) [
      | inl first ↦ Contains-append_left told (map told_by other) pair first
      | inr second ↦
          let notice = from_mapped told_by one pair second in
          Contains-append_right told (map told_by other) pair (subst (Contains (map told_by other)) (sym notice.2) (Contains-map told_by other notice.0 (more notice.0 notice.1)))
    ]
