-- The index of places, as it is made place by place.
use Rattle.std.proofs.Common.{◌≡◌, ◌≢◌, ℕ, ◌+◌, true, false, Bool, cond, List, [], ◌∷◌, Some, inl, inr, sym, ap, ◌∙◌, arith}
use Rattle.std.specs.BTreeMap.{is_at}
use Rattle.std.specs.Cmp.{nat_cmp_is}
use Rattle.std.specs.List.{slice_get}
use Rattle.std.specs.Ordering.{is_eq, nat_cmp}
use Rattle.std.specs.declared.cmp.Ordering.TheVariants.{Less, Equal, Greater}
use Rattle.std.proofs.lemmas.Bool.{cases_eq}
use Rattle.std.proofs.lemmas.Bool.Decides.{leb_tells}
use Rattle.exh_cells.specs.CellLaws.{AreApart}
use Rattle.exh_placing.specs.Making.{AreFirstPlaces, place_in}

at_same : (key query : ℕ) → key ≡ query → is_at (nat_cmp key) query ≡ true
at_same key query same = sym (ap is_eq (nat_cmp_is key query Equal same))

at_other : (key query : ℕ) → key ≢ query → is_at (nat_cmp key) query ≡ false
at_other key query differ = elim (leb_tells key query) [
  | inl less ↦ sym (ap is_eq (nat_cmp_is key query Less (omega (arith, less.1, differ))))
  | inr more ↦ sym (ap is_eq (nat_cmp_is key query Greater (omega (arith, more.1))))
]

pub no_places : (entries : List (ℕ × ℕ)) (lows : List ℕ) → entries ≡ [] → AreFirstPlaces entries lows 0
no_places [] lows none = λ low place. (λ is. cc, λ is. absurd (omega (arith, is.0)))
no_places (entry ∷ entries) lows none = cc

pub more_places : (entries new : List (ℕ × ℕ)) (lows : List ℕ) (count low : ℕ) → AreApart lows → AreFirstPlaces entries lows count → slice_get lows count ≡ Some low
    → ((query : ℕ) → place_in new query ≡ cond (is_at (nat_cmp low) query) (Some count) (place_in entries query)) → AreFirstPlaces new lows (count + 1)
more_places entries new lows count low apart begun is updates = λ query place.
    let here : low ≡ query → place_in new query ≡ Some count =
    λ same. updates query ∙ ap (λ (b : Bool). cond b (Some count) (place_in entries query)) (at_same low query same) in
    let elsewhere : low ≢ query → place_in new query ≡ place_in entries query =
    λ differ. updates query ∙ ap (λ (b : Bool). cond b (Some count) (place_in entries query)) (at_other low query differ) in (
      λ found. elim (cases_eq low query) [
        | inl same ↦
            let value : Some place ≡ Some count = sym found ∙ here same in
            let last : place ≡ count = cc in
            (omega (arith, last), ap (slice_get lows) last ∙ is ∙ ap (λ (low : ℕ). Some low) same)
        | inr differ ↦ let old = (begun query place).0 (sym (elsewhere differ) ∙ found) in (omega (arith, old.0), old.1)
      ],
      λ there. elim (cases_eq place count) [
        | inl last ↦
            let both : Some low ≡ Some query = sym is ∙ ap (slice_get lows) (sym last) ∙ there.1 in
            let own : low ≡ query = cc in
            here own ∙ ap (λ (n : ℕ). Some n) (sym last)
        | inr before ↦
            let old = (begun query place).1 (omega (arith, there.0, before), there.1) in
            elim (cases_eq low query) [
              | inl same ↦ absurd (before (apart place count low (there.1 ∙ ap (λ (low : ℕ). Some low) (sym same)) is))
              | inr differ ↦ elsewhere differ ∙ old
            ]
      ],
    )
