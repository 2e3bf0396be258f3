-- The first reason of a file is the least over its wards.
use Rattle.std.proofs.Common.{◌≡◌, ℕ, ◌+◌, ◌<◌, ◌≤◌, cond, List, length, Option, None, Some, inl, inr, sym, ap, ◌∙◌, subst, arith}
use Rattle.std.specs.List.{slice_get}
use Rattle.std.proofs.lemmas.Bool.{cases_eq}
use Rattle.std.proofs.lemmas.Bool.Decides.{leb_tells}
use Rattle.std.proofs.lemmas.Option.{slice_get_within}
use Rattle.exh_page.specs.declared.page.Page.{Page}
use Rattle.exh_prefix.specs.Leading.{ward_prefix}
use Rattle.exh_legal.specs.LegalParts.{FileParts, HasNoStrays, table_of}
use Rattle.exh_legal.specs.Reasons.{IsFirstUnpassed, IsFirstReason, ReasonPasses, WardPasses, lesser_of, rank_of}
use Rattle.exh_legal.specs.declared.reason.Reason.{Reason}
use Rattle.exh_legal.specs.declared.reason.Reason.TheVariants.{Cap, LowBounds, Leaves, Links, Forwards, Table}

-- ---- the lesser of two

module _ (P Q R : Reason → Type 0) (both : (reason : Reason) → P reason → Q reason → R reason) (left : (reason : Reason) → R reason → P reason) (right : (reason : Reason) → R reason → Q reason) where
  pub lesser_first : (one other : Option Reason) → IsFirstUnpassed P one → IsFirstUnpassed Q other → IsFirstUnpassed R (lesser_of one other)
  lesser_first None None is too = λ reason. both reason (is reason) (too reason)
  lesser_first None (Some other) is too = (λ all. too.0 (right other all), λ earlier less. both earlier (is earlier) (too.1 earlier less))
  lesser_first (Some one) None is too = (λ all. is.0 (left one all), λ earlier less. both earlier (is.1 earlier less) (too earlier))
  lesser_first (Some one) (Some other) is too = elim (leb_tells (rank_of one) (rank_of other)) [
    | inl first ↦
        let here : IsFirstUnpassed R (Some one) = (λ all. is.0 (left one all), λ earlier less. both earlier (is.1 earlier less) (too.1 earlier (omega (arith, less, first.1)))) in
        subst (IsFirstUnpassed R) (sym (ap (λ b. cond b (Some one) (Some other)) first.0)) here
    | inr second ↦
        let here : IsFirstUnpassed R (Some other) = (λ all. too.0 (right other all), λ earlier less. both earlier (is.1 earlier (omega (arith, less, second.1))) (too.1 earlier less)) in
        subst (IsFirstUnpassed R) (sym (ap (λ b. cond b (Some one) (Some other)) second.0)) here
  ]

-- ---- ward by ward

-- the wards before a number pass
abbrev pub PassedBelow : FileParts → ℕ → Reason → Type 0
PassedBelow parts count reason = (number : ℕ) (pages : List Page) → number < count → slice_get parts.wards number ≡ Some pages → WardPasses parts.cap (ward_prefix parts.ward_bits number) (table_of parts number) pages reason

pub none_below : (parts : FileParts) → IsFirstUnpassed (PassedBelow parts 0) None
none_below parts = λ reason number pages less is. absurd (omega (arith, less))

pub one_more : (parts : FileParts) (count : ℕ) (pages : List Page) → slice_get parts.wards count ≡ Some pages → (first found : Option Reason) → IsFirstUnpassed (PassedBelow parts count) first
    → IsFirstUnpassed (WardPasses parts.cap (ward_prefix parts.ward_bits count) (table_of parts count) pages) found → IsFirstUnpassed (PassedBelow parts (count + 1)) (lesser_of first found)
one_more parts count pages at first found below here =
    lesser_first (PassedBelow parts count) (WardPasses parts.cap (ward_prefix parts.ward_bits count) (table_of parts count) pages) (PassedBelow parts (count + 1))
    (λ reason before own number others less is. elim (cases_eq number count) [
      | inl last ↦
          let both : Some others ≡ Some pages = sym is ∙ ap (slice_get parts.wards) last ∙ at in
          let same : others ≡ pages = cc in
          subst (λ n. WardPasses parts.cap (ward_prefix parts.ward_bits n) (table_of parts n) others reason) (sym last) (subst (λ p. WardPasses parts.cap (ward_prefix parts.ward_bits count) (table_of parts count) p reason) (sym same) own)
      | inr earlier ↦ before number others (omega (arith, less, earlier)) is
    ])
    (λ reason all number others less is. all number others (omega (arith, less)) is)
    (λ reason all. all count pages (omega arith) at)
    first found below here

-- ---- the whole file

to_passes : (parts : FileParts) → HasNoStrays parts → (reason : Reason) → PassedBelow parts (length parts.wards) reason → ReasonPasses parts reason
to_passes parts strays Cap all = λ number pages is. all number pages (slice_get_within parts.wards number pages is) is
to_passes parts strays LowBounds all = λ number pages is. all number pages (slice_get_within parts.wards number pages is) is
to_passes parts strays Leaves all = λ number pages is. all number pages (slice_get_within parts.wards number pages is) is
to_passes parts strays Links all = λ number pages is. all number pages (slice_get_within parts.wards number pages is) is
to_passes parts strays Forwards all = λ number pages is. all number pages (slice_get_within parts.wards number pages is) is
to_passes parts strays Table all = (λ number pages is. all number pages (slice_get_within parts.wards number pages is) is, strays)

early_passes : (parts : FileParts) (reason : Reason) → rank_of reason < 6 → PassedBelow parts (length parts.wards) reason → ReasonPasses parts reason
early_passes parts Cap less all = λ number pages is. all number pages (slice_get_within parts.wards number pages is) is
early_passes parts LowBounds less all = λ number pages is. all number pages (slice_get_within parts.wards number pages is) is
early_passes parts Leaves less all = λ number pages is. all number pages (slice_get_within parts.wards number pages is) is
early_passes parts Links less all = λ number pages is. all number pages (slice_get_within parts.wards number pages is) is
early_passes parts Forwards less all = λ number pages is. all number pages (slice_get_within parts.wards number pages is) is
early_passes parts Table less all = absurd (omega (arith, less))

from_passes : (parts : FileParts) (reason : Reason) → ReasonPasses parts reason → PassedBelow parts (length parts.wards) reason
from_passes parts Cap all = λ number pages less is. all number pages is
from_passes parts LowBounds all = λ number pages less is. all number pages is
from_passes parts Leaves all = λ number pages less is. all number pages is
from_passes parts Links all = λ number pages less is. all number pages is
from_passes parts Forwards all = λ number pages less is. all number pages is
from_passes parts Table all = λ number pages less is. all.0 number pages is

pub without_strays : (parts : FileParts) (first : Option Reason) → HasNoStrays parts → IsFirstUnpassed (PassedBelow parts (length parts.wards)) first → IsFirstReason parts first
without_strays parts None strays below = λ reason. to_passes parts strays reason (below reason)
without_strays parts (Some reason) strays below = (λ all. below.0 (from_passes parts reason all), λ earlier less. to_passes parts strays earlier (below.1 earlier less))

place_most : (reason : Reason) → rank_of reason ≤ 6
place_most Cap = omega arith
place_most LowBounds = omega arith
place_most Leaves = omega arith
place_most Links = omega arith
place_most Forwards = omega arith
place_most Table = omega arith

table_first : (parts : FileParts) → (HasNoStrays parts → ⊥) → ((reason : Reason) → rank_of reason < 6 → PassedBelow parts (length parts.wards) reason) → IsFirstReason parts (Some Table)
table_first parts astray below = (λ all. astray all.1, λ earlier less. early_passes parts earlier less (below earlier less))

pub with_strays : (parts : FileParts) (first : Option Reason) → (HasNoStrays parts → ⊥) → IsFirstUnpassed (PassedBelow parts (length parts.wards)) first → IsFirstReason parts (lesser_of first (Some Table))
with_strays parts None astray below = table_first parts astray (λ reason less. below reason)
with_strays parts (Some reason) astray below = elim (leb_tells (rank_of reason) 6) [
  | inl first ↦ subst (IsFirstReason parts) (sym (ap (λ b. cond b (Some reason) (Some Table)) first.0)) (λ all. below.0 (from_passes parts reason all), λ earlier less. early_passes parts earlier (omega (arith, less, first.1)) (below.1 earlier less))
  | inr past ↦ absurd (omega (arith, past.1, place_most reason))
]
