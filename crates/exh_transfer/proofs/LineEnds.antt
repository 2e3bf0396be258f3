-- The first newline outside of quotes ends a line: it is at one place.
use Rattle.std.proofs.Common.{◌≡◌, ◌≢◌, ℕ, List, [], ◌∷◌, ◌++◌, refl, sym, ap, ap₂, ◌∙◌, subst}
use Rattle.exh_pair_text.specs.declared.place.Place.{Place}
use Rattle.exh_pair_text.specs.declared.place.Place.TheVariants.{Start, Quoted}
use Rattle.exh_pair_text.specs.Places.{AreQuoted, newline, place_behind}

abbrev first_of : List ℕ → ℕ
first_of [] = 0
first_of (byte ∷ text) = byte

abbrev rest_of : List ℕ → List ℕ
rest_of [] = []
rest_of (byte ∷ text) = text

module _ (after : Place → ℕ → Place) where
  -- a newline amid a line stands in quotes
  pub stays : (place : Place) (line rest : List ℕ) → AreQuoted after place (line ++ newline ∷ rest) → place_behind after place line ≡ Quoted
  stays place [] rest all = all.0 refl
  stays place (byte ∷ line) rest all = stays (after place byte) line rest all.1

  pub cut_once : (place : Place) (one other rest left : List ℕ) → AreQuoted after place one → place_behind after place one ≢ Quoted → AreQuoted after place other → place_behind after place other ≢ Quoted
      → one ++ newline ∷ rest ≡ other ++ newline ∷ left → (one ≡ other) × (rest ≡ left)
  cut_once place [] [] rest left all ended others stopped is = (refl, ap rest_of is)
  cut_once place [] (byte ∷ other) rest left all ended others stopped is = absurd (ended (others.0 (sym (ap first_of is))))
  cut_once place (byte ∷ one) [] rest left all ended others stopped is = absurd (stopped (all.0 (ap first_of is)))
  cut_once place (byte ∷ one) (b ∷ other) rest left all ended others stopped is =
      let same : b ≡ byte = sym (ap first_of is) in
      let next = cut_once (after place byte) one other rest left all.1 ended (subst (λ (x : ℕ). AreQuoted after (after place x) other) same others.1)
      (subst (λ (x : ℕ). place_behind after (after place x) other ≢ Quoted) same stopped) (ap rest_of is) in
      (ap₂ (λ (x : ℕ) (line : List ℕ). x ∷ line) (sym same) next.0, next.1)
