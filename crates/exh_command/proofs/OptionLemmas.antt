-- Which words a command takes that has options with a value, flags, and places, and what it then holds.
use Rattle.std.proofs.Common.{◌≡◌, ◌∙◌, ℕ, ◌+◌, Bool, true, false, List, [], ◌∷◌, ◌++◌, Option, Some, None, refl, sym, ap, ap₂, subst, codes, cond, inl, inr, append-nil, is_some}
use Rattle.std.specs.Prelude.{◌⊎◌, ◌||◌, ◌&&◌, find, fold, map, min, option_and_then, option_map, slice_get, IsSome}
use Rattle.std.specs.List.{list_any}
use Rattle.std.specs.Option.{option_map_or}
use Rattle.std.proofs.lemmas.Bool.{false≢true}
use Rattle.std.specs.Str.{bytes_eq}
use Rattle.std.proofs.lemmas.Slice.Eq.{bytes_eq-Decides}
use Rattle.clap.specs.Words.{Kinds, Row, Rule, Shape, Text, first_of}
use Rattle.clap.specs.Kinds.{or_else}
use Rattle.clap.specs.Lexer.{long_of, usize_max}
use Rattle.clap.specs.Simple.{filled, new_shape, with_index}
use Rattle.clap.specs.Walk.{Held, Waiting, Walk, after_step, long_or_other, arg_by_id, arg_by_index, arg_by_long, arg_by_short, at_row, finished, has_row, idle, is_pending, more_values, next_position, nothing_held, option, positional_held, pushed, reading_by, settled, to_positional, used, value, walk_from, walked, with_default, without}
use Rattle.clap.specs.Faults.{check_fault, defaults_fault, positional_fault, settle_fault, step_fault, stray_fault, turn_fault, use_fault, walk_fault}
use Rattle.clap.specs.declared.parser.matches.ValueSource.TheVariants.{CommandLine}
use Rattle.clap.proofs.WalkLemmas.{find-map, list_any-map}
use Rattle.exh_command.specs.Parser.{flag_rule, option_rule, word_rule}
use Rattle.clap.proofs.OnLiterals.{clap_on_literals}
use Rattle.exh_command.specs.Words.{uses_taken, Between, Ended, Reading, Use, Wanting, Wrong, after_option, after_place, after_word, ends_options, flag_set, flagged_by, gives, is_named, is_option, is_use_of, next_place, path_name, placed_at, used_by, uses_read, option_given, whole, whole_at, with_use}
use Rattle.exh_command.proofs.PlaceLemmas.{IsOfNone, are_distinct, at_start, false-or, in_order, next_found, next_taken, options_apart, order_kept, position_kept, position_of}
use Rattle.exh_command.proofs.WordLemmas.{Fails, IsAsking, IsFlagged, IsValue, or_nothing, by_bundle_fails, by_long, by_long_fails, first_fails, flagged, is_end, is_plain_word, is_value, long_fails, second_fails}

-- ---- an option, as it is when its command is built, and what is held of its use

abbrev pub option_built : Text → Rule
option_built name = with_index 1 (filled (option_rule name))

abbrev pub row_of_use : Use → Row
row_of_use one = record { id = one.name; values = one.value ∷ []; count = None; source = Some CommandLine; reading = reading_by (option_built one.name) }

abbrev pub rows_of_uses : List Use → List Row
rows_of_uses uses = map row_of_use uses

has_row-rows_of_uses : (name : Text) (uses : List Use) → has_row name (rows_of_uses uses) ≡ list_any (is_use_of name) uses
has_row-rows_of_uses name uses = sym (list_any-map (λ (r : Row). bytes_eq r.id name) row_of_use uses)

-- the value of an option
first_of_found : (found : Option Use) → option_and_then (λ (r : Row). slice_get r.values 0) (option_map row_of_use found) ≡ option_map (λ one. one.value) found
first_of_found None = refl
first_of_found (Some one) = refl

pub first_of-rows_of_uses : (name : Text) (uses : List Use) → first_of name (rows_of_uses uses) ≡ option_given name uses
first_of-rows_of_uses name uses =
    ap (option_and_then (λ (r : Row). slice_get r.values 0)) (sym (find-map (λ (r : Row). bytes_eq r.id name) row_of_use uses)) ∙ first_of_found (find (is_use_of name) uses)

-- ---- rows without a name

at_row-unused : (name : Text) (change : Row → List Row) (missing : List Row) (uses : List Use) → list_any (is_use_of name) uses ≡ false → at_row name change missing (rows_of_uses uses) ≡ rows_of_uses uses ++ missing
at_row-unused name change missing [] unused = refl
at_row-unused name change missing (one ∷ uses) unused =
    let parts = false-or (is_use_of name one) (list_any (is_use_of name) uses) unused in
    rw parts.0 (ap (λ rows. row_of_use one ∷ rows) (at_row-unused name change missing uses parts.1))

map-append : {A B : Type 0} (f : A → B) (xs ys : List A) → map f (xs ++ ys) ≡ map f xs ++ map f ys
map-append f [] ys = refl
map-append f (x ∷ xs) ys = ap (λ l. f x ∷ l) (map-append f xs ys)

module _ (name value' : Text) (uses : List Use) where
  abbrev more : List Use
  more = uses ++ record { name = name; value = value' } ∷ []

  used_more : list_any (is_use_of name) uses ≡ false → used (option_built name) (value' ∷ []) (rows_of_uses uses) ≡ rows_of_uses more
  used_more unused =
      let gone : without name (rows_of_uses uses) ≡ rows_of_uses uses = at_row-unused name (λ r. []) [] uses unused ∙ append-nil (rows_of_uses uses) in
      rw gone (at_row-unused name (more_values CommandLine (value' ∷ [])) (rows_of_uses (record { name = name; value = value' } ∷ [])) uses unused ∙ sym (map-append row_of_use uses (record { name = name; value = value' } ∷ [])))

  use_passes : list_any (is_use_of name) uses ≡ false → use_fault false (option_built name) (value' ∷ []) (rows_of_uses uses) ≡ []
  use_passes unused = rw (has_row-rows_of_uses name uses, unused) refl

  use_again_fails : list_any (is_use_of name) uses ≡ true → Fails (use_fault false (option_built name) (value' ∷ []) (rows_of_uses uses))
  use_again_fails again = rw (has_row-rows_of_uses name uses, again) tt

-- ---- a flag, of whose use the same is held as of an option that is given its text

abbrev pub flag_built : Text → Rule
flag_built name = with_index 1 (filled (flag_rule name))

module _ (name : Text) (uses : List Use) where
  set_more : list_any (is_use_of name) uses ≡ false → used (flag_built name) [] (rows_of_uses uses) ≡ rows_of_uses (more name flag_set uses)
  set_more unused = used_more name flag_set uses unused

  set_passes : list_any (is_use_of name) uses ≡ false → use_fault false (flag_built name) [] (rows_of_uses uses) ≡ []
  unfolding clap_on_literals
  set_passes unused = rw (has_row-rows_of_uses name uses, unused) refl

  set_again_fails : list_any (is_use_of name) uses ≡ true → Fails (use_fault false (flag_built name) [] (rows_of_uses uses))
  set_again_fails again = rw (has_row-rows_of_uses name uses, again) tt

-- an option without its value
bare_fails : (name : Text) (rows : List Row) → Fails (use_fault false (option_built name) [] rows)
bare_fails name rows = tt

-- ---- a word at a place, among uses

-- the argument of a place, as it is when its command is built; of it the same is held as of an option
abbrev pub place_built : ℕ → Text → Rule
place_built i place = with_index i (filled (word_rule place))

abbrev pub path_built : Rule
path_built = place_built 1 path_name

and-false : (b : Bool) → (b && false) ≡ false
and-false true = refl
and-false false = refl

some_none : (long : Option (Text × Option Text)) → long ≡ None → IsSome long → ⊥
some_none None none some = cc
some_none (Some p) none some = cc

-- ---- a command with options

-- as it is when it is built
abbrev pub leaf_of : Text → List Rule → Shape
leaf_of command rules = record (new_shape command) { rules = rules; disable_help_subcommand = true; is_built = true }

-- errors, by whether there are some
abbrev pub FailsWhere : Bool → Kinds → Type 0
FailsWhere true kinds = Fails kinds
FailsWhere false kinds = kinds ≡ []

-- its arguments are the options and the flags of these names, and flags that ask for help, and those of the places
pub record IsOptionLeaf (places : List Text) (command : Text) (rules : List Rule) (names flags : List Text) : Type 0 where
  pub by_long_name : (name : Text) → is_named names name ≡ true → arg_by_long rules name ≡ Some (option_built name)
  pub by_id : (name : Text) → is_named names name ≡ true → arg_by_id rules name ≡ Some (option_built name)
  pub by_long_flag : (name : Text) → is_named names name ≡ false → is_named flags name ≡ true → arg_by_long rules name ≡ Some (flag_built name)
  pub asks : (name : Text) → is_named names name ≡ false → is_named flags name ≡ false → IsAsking (arg_by_long rules name)
  pub asks_short : (c : ℕ) → IsAsking (arg_by_short rules c)
  pub place_by_id : (place : Text) → is_named places place ≡ true → (i : ℕ) × (arg_by_id rules place ≡ Some (place_built i place))
  -- the next place has the next position, and behind the last there is none
  pub placed : (uses : List Use) → arg_by_index rules (position_of places uses) ≡ option_map (place_built (position_of places uses)) (next_place places uses)
  pub moves : (uses : List Use) → min (position_of places uses + 1) usize_max ≡ 1 + position_of places uses
  pub distinct : are_distinct places ≡ true
  pub no_option : list_any (is_named names) places ≡ false
  pub no_flag : list_any (is_named flags) places ≡ false
  pub ends : (uses : List Use) → FailsWhere (is_some (next_place places uses)) (or_else (defaults_fault (rows_of_uses uses) rules) (check_fault (leaf_of command rules) (fold with_default (rows_of_uses uses) rules) false))

module _ (places : List Text) (command : Text) (rules : List Rule) (names flags : List Text) (is : IsOptionLeaf places command rules names flags) where
  abbrev own : Shape
  own = leaf_of command rules

  -- the position of the next word that is no option
  abbrev place_of : List Use → ℕ
  place_of uses = position_of places uses

  abbrev holds : List Row → Option (Text × List Text) → Held
  holds rows pending = record { rows = rows; pending = pending; skip = 0 }

  abbrev turn : Walk → Text → Kinds
  turn w word = turn_fault own [] w word

  abbrev next_walk : Walk → Text → Walk
  next_walk w word = walked rules [] w word

  -- ---- where a walk stands, by how far the words were read

  -- what it holds passes, and comes to these uses, whose places are the first ones
  pub record Stands (held : Held) (uses : List Use) : Type 0 where
    settles : settle_fault rules false held ≡ []
    rows_are : (settled rules held).rows ≡ rows_of_uses uses
    ordered : in_order places uses ≡ true

  abbrev standing : ℕ → Held → Walk
  standing position held = record (walk_from held) { position = position }

  pub record StandsBetween (w : Walk) (uses : List Use) : Type 0 where
    rows : List Row
    pending : Option (Text × List Text)
    walk_is : w ≡ standing (place_of uses) (holds rows pending)
    stands : Stands (holds rows pending) uses

  abbrev wanting : Text → ℕ → List Row → Walk
  wanting name position rows = record (walk_from (holds rows (Some (name, [])))) { waiting = option name; position = position }

  abbrev trailing' : Waiting → ℕ → Held → Walk
  trailing' waiting position held = record (walk_from held) { waiting = waiting; position = position; is_trailing = true }

  pub record StandsBehind (w : Walk) (uses : List Use) : Type 0 where
    waiting : Waiting
    held : Held
    walk_is : w ≡ trailing' waiting (place_of uses) held
    stands : Stands held uses

  -- what it holds doesn't pass, and so no further word that is no option
  pub record IsLost (w : Walk) : Type 0 where
    rows : List Row
    pending : Option (Text × List Text)
    position : ℕ
    place : (w ≡ standing position (holds rows pending)) ⊎ ((waiting : Waiting) × (w ≡ trailing' waiting position (holds rows pending)))
    lost : Fails (settle_fault rules false (holds rows pending))
    strays : Fails (step_fault own position (holds rows pending) value)

  abbrev Follows : Walk → Reading → Type 0
  Follows w (Between uses) = StandsBetween w uses
  Follows w (Wanting name uses) = (w ≡ wanting name (place_of uses) (rows_of_uses uses)) × (is_named names name ≡ true) × (in_order places uses ≡ true)
  Follows w (Ended uses) = StandsBehind w uses
  Follows w Wrong = IsLost w

  -- a word more: it passes and the walk still stands so, or it fails and the words are wrong
  abbrev Steps : Walk → Reading → Text → Type 0
  Steps w after word = ((turn w word ≡ []) × Follows (next_walk w word) after) ⊎ ((after ≡ Wrong) × Fails (turn w word))

  abbrev after : Reading → Text → Reading
  after = after_word places names flags

  -- ---- a word at a place

  abbrev step_by : Held → Option Rule → Kinds
  step_by held found = option_map_or (λ a. positional_fault rules false a held) found (stray_fault own)

  place_fault : (i : ℕ) (place : Text) (held : Held) → positional_fault rules false (place_built i place) held ≡ settle_fault rules false held
  place_fault i place held = ap (λ b. cond b [] (settle_fault rules false held)) (and-false (is_pending (place_built i place) held.pending))

  -- where what is held doesn't pass, it fails
  strays_at : (held : Held) → Fails (settle_fault rules false held) → (uses : List Use) → Fails (step_fault own (place_of uses) held value)
  strays_at held lost uses = subst (λ found. Fails (step_by held found)) (sym (is.placed uses)) (go (next_place places uses))
    where
      go : (next : Option Text) → Fails (step_by held (option_map (place_built (place_of uses)) next))
      go (Some place) = subst Fails (sym (place_fault (place_of uses) place held)) lost
      go None = tt

  module _ (uses : List Use) where
    -- it is one too many
    too_many : (held : Held) → next_place places uses ≡ None → Fails (step_fault own (place_of uses) held value)
    too_many held none = subst (λ found. Fails (step_by held found)) (sym (is.placed uses ∙ ap (option_map (place_built (place_of uses))) none)) tt

    module _ (place : Text) (next : next_place places uses ≡ Some place) where
      is_placed : arg_by_index rules (place_of uses) ≡ Some (place_built (place_of uses) place)
      is_placed = is.placed uses ∙ ap (option_map (place_built (place_of uses))) next

      found : (is_named places place ≡ true) × (gives uses place ≡ false)
      found = next_found places uses place next

      module _ (held : Held) (word : Text) (stands : Stands held uses) where
        abbrev placed_uses : List Use
        placed_uses = more place word uses

        abbrev placed_held : Held
        placed_held = record held { rows = rows_of_uses uses; pending = Some (place, word ∷ []) }

        place_passes : step_fault own (place_of uses) held value ≡ []
        place_passes = ap (step_by held) is_placed ∙ place_fault (place_of uses) place held ∙ stands.settles

        held_is : positional_held rules (place_built (place_of uses) place) word held ≡ placed_held
        held_is =
            ap (λ b. pushed place word (cond b held (settled rules held))) (and-false (is_pending (place_built (place_of uses) place) held.pending))
            ∙ ap (λ rows. record held { rows = rows; pending = Some (place, word ∷ []) }) stands.rows_are

        taken : (in_order places placed_uses ≡ true) × (place_of placed_uses ≡ 1 + place_of uses)
        taken = next_taken places uses place word is.distinct stands.ordered next

        -- it has the place
        place_walk : (waiting : Waiting) (trails : Bool) → to_positional rules (arg_by_index rules (place_of uses)) word (record (walk_from held) { waiting = waiting; position = place_of uses; is_trailing = trails }) held
            ≡ record { held = placed_held; waiting = idle; position = place_of placed_uses; is_trailing = trails || false; stopped = None }
        place_walk waiting trails =
            let w : Walk = record (walk_from held) { waiting = waiting; position = place_of uses; is_trailing = trails } in
            let further : next_position (place_built (place_of uses) place) (place_of uses) ≡ 1 + place_of uses = is.moves uses in
            ap (λ found. to_positional rules found word w held) is_placed
            ∙ ap₂ (λ (held : Held) (position : ℕ). let next : Walk = record { held = held; waiting = idle; position = position; is_trailing = trails || false; stopped = None } in next) held_is (further ∙ sym taken.1)

        place_stands : Stands placed_held placed_uses
        place_stands =
            let by_id = is.place_by_id place found.0 in record {
              settles = rw by_id.1 (use_passes place word uses found.1);
              rows_are = rw by_id.1 (used_more place word uses found.1);
              ordered = taken.0;
            }

  -- ---- behind `--`

  at_behind : (waiting : Waiting) (held : Held) (uses : List Use) (word : Text) → Stands held uses → (next : Option Text) → next_place places uses ≡ next → Steps (trailing' waiting (place_of uses) held) (placed_at Ended word uses next) word
  unfolding walked
  at_behind waiting held uses word stands (Some place) e = inl (
    place_passes uses place e held word stands,
    record { waiting = idle; held = placed_held uses place e held word stands; walk_is = place_walk uses place e held word stands waiting true; stands = place_stands uses place e held word stands },
  )
  at_behind waiting held uses word stands None e = inr (refl, too_many uses held e)

  step_behind : (w : Walk) (uses : List Use) → StandsBehind w uses → (word : Text) → Steps w (after (Ended uses) word) word
  step_behind w uses s word = subst (λ w. Steps w (after (Ended uses) word) word) (sym s.walk_is) (at_behind s.waiting s.held uses word s.stands (next_place places uses) refl)

  -- ---- between two options

  module _ (rows : List Row) (pending : Option (Text × List Text)) (position : ℕ) (word : Text) where
    abbrev between : Walk
    between = standing position (holds rows pending)

    -- its errors at a word that isn't `--`, and where it goes, by the long option that the word is
    abbrev kinds_by : Waiting → Option (Text × Option Text) → Kinds
    kinds_by waiting long = by_long own rules is.asks_short rows pending position word waiting long

    abbrev walk_by : Option (Text × Option Text) → Walk
    walk_by long = let met = long_or_other rules idle word long (holds rows pending) in after_step rules word between met.0 met.1

    module _ (no_end : ends_options word ≡ false) where
      turn_is : turn between word ≡ kinds_by idle (long_of word)
      turn_is = rw no_end refl

      walk_is : next_walk between word ≡ walk_by (long_of word)
      unfolding walked
      walk_is = rw no_end refl

    -- `--` passes
    end_passes : ends_options word ≡ true → turn between word ≡ []
    end_passes ends = rw ends refl

    end_walked : ends_options word ≡ true → next_walk between word ≡ trailing' idle position (holds rows pending)
    unfolding walked
    end_walked ends = rw ends refl

    -- a name that is no option's and no flag's
    other_fails : (waiting : Waiting) (p : Text × Option Text) → is_named names p.0 ≡ false → is_named flags p.0 ≡ false → Fails (kinds_by waiting (Some p))
    other_fails waiting p other unset = first_fails _ _ (long_fails own rules is.asks_short rows pending position word p.1 (arg_by_long rules p.0) (is.asks p.0 other unset))

    -- a flag with a value
    valued_flag_fails : (waiting : Waiting) (name value' : Text) → is_named names name ≡ false → is_named flags name ≡ true → Fails (kinds_by waiting (Some (name, Some value')))
    valued_flag_fails waiting name value' other sets = rw (is.by_long_flag name other sets) tt

    -- where what is held doesn't pass, no option does, and no flag
    lost_named : (waiting : Waiting) (name : Text) (v : Option Text) → Fails (settle_fault rules false (holds rows pending)) → is_named names name ≡ true → Fails (kinds_by waiting (Some (name, v)))
    lost_named waiting name None lost e = rw (is.by_long_name name e) (first_fails _ _ lost)
    lost_named waiting name (Some v) lost e = rw (is.by_long_name name e) (first_fails _ _ (first_fails _ _ lost))

    lost_flag : (waiting : Waiting) (name : Text) (v : Option Text) → Fails (settle_fault rules false (holds rows pending)) → is_named names name ≡ false → is_named flags name ≡ true → Fails (kinds_by waiting (Some (name, v)))
    lost_flag waiting name None lost other sets = rw (is.by_long_flag name other sets) (first_fails _ _ (first_fails _ _ lost))
    lost_flag waiting name (Some v) lost other sets = valued_flag_fails waiting name v other sets

    lost_other : (waiting : Waiting) (p : Text × Option Text) → Fails (settle_fault rules false (holds rows pending)) → is_named names p.0 ≡ false → (sets : Bool) → is_named flags p.0 ≡ sets → Fails (kinds_by waiting (Some p))
    lost_other waiting p lost other true f = lost_flag waiting p.0 p.1 lost other f
    lost_other waiting p lost other false f = other_fails waiting p other f

    lost_option : (waiting : Waiting) (p : Text × Option Text) → Fails (settle_fault rules false (holds rows pending)) → (named : Bool) → is_named names p.0 ≡ named → Fails (kinds_by waiting (Some p))
    lost_option waiting p lost true e = lost_named waiting p.0 p.1 lost e
    lost_option waiting p lost false e = lost_other waiting p lost e (is_named flags p.0) refl

    -- nor any other word but `--`
    module _ (lost : Fails (settle_fault rules false (holds rows pending))) (strays : Fails (step_fault own position (holds rows pending) value)) where
      lost_by : (long : Option (Text × Option Text)) → Fails (kinds_by idle long)
      lost_by None = by_long_fails own rules is.asks_short rows pending position word strays None tt
      lost_by (Some p) = lost_option idle p lost (is_named names p.0) refl

      lost_fails : ends_options word ≡ false → Fails (turn between word)
      lost_fails no_end = subst Fails (sym (turn_is no_end)) (lost_by (long_of word))

    -- a bundle of short flags
    bundle_fails : (waiting : Waiting) → IsFlagged word → long_of word ≡ None → Fails (kinds_by waiting None)
    bundle_fails waiting (inl long) none = absurd (some_none (long_of word) none long)
    bundle_fails waiting (inr (x, xs, no_long, short, some)) none = rw short (by_bundle_fails own rules is.asks_short rows pending position word waiting x xs some)

    -- an option without its value, of what passes
    module _ (uses : List Use) (stands : Stands (holds rows pending) uses) (name : Text) (named : is_named names name ≡ true) where
      option_kinds : kinds_by idle (Some (name, None)) ≡ []
      option_kinds = rw (is.by_long_name name named) (or_nothing (settle_fault rules false (holds rows pending)) ∙ stands.settles)

      option_walk : walk_by (Some (name, None)) ≡ wanting name position (rows_of_uses uses)
      option_walk = rw (is.by_long_name name named) (ap (wanting name position) stands.rows_are)

      -- and with its value
      module _ (value' : Text) where
        valued_kinds : list_any (is_use_of name) uses ≡ false → kinds_by idle (Some (name, Some value')) ≡ []
        valued_kinds unused =
            rw (is.by_long_name name named)
            (or_nothing _ ∙ ap₂ or_else stands.settles (ap (use_fault false (option_built name) (value' ∷ [])) stands.rows_are ∙ use_passes name value' uses unused))

        valued_walk : list_any (is_use_of name) uses ≡ false → walk_by (Some (name, Some value')) ≡ standing position (holds (rows_of_uses (more name value' uses)) None)
        valued_walk unused =
            rw (is.by_long_name name named) (ap (λ rows. standing position (holds rows None)) (ap (used (option_built name) (value' ∷ [])) stands.rows_are ∙ used_more name value' uses unused))

        valued_again : list_any (is_use_of name) uses ≡ true → Fails (kinds_by idle (Some (name, Some value')))
        valued_again again =
            rw (is.by_long_name name named)
            (first_fails _ _ (second_fails (settle_fault rules false (holds rows pending)) _ (subst (λ rows. Fails (use_fault false (option_built name) (value' ∷ []) rows)) (sym stands.rows_are) (use_again_fails name value' uses again))))

    -- a flag, of what passes
    module _ (uses : List Use) (stands : Stands (holds rows pending) uses) (name : Text) (other : is_named names name ≡ false) (sets : is_named flags name ≡ true) where
      flag_kinds : list_any (is_use_of name) uses ≡ false → kinds_by idle (Some (name, None)) ≡ []
      flag_kinds unused =
          rw (is.by_long_flag name other sets)
          (or_nothing _ ∙ ap₂ or_else stands.settles (ap (use_fault false (flag_built name) []) stands.rows_are ∙ set_passes name uses unused))

      flag_walk : list_any (is_use_of name) uses ≡ false → walk_by (Some (name, None)) ≡ standing position (holds (rows_of_uses (more name flag_set uses)) None)
      flag_walk unused =
          rw (is.by_long_flag name other sets) (ap (λ rows. standing position (holds rows None)) (ap (used (flag_built name) []) stands.rows_are ∙ set_more name uses unused))

      flag_again : list_any (is_use_of name) uses ≡ true → Fails (kinds_by idle (Some (name, None)))
      flag_again again =
          rw (is.by_long_flag name other sets)
          (first_fails _ _ (second_fails (settle_fault rules false (holds rows pending)) _ (subst (λ rows. Fails (use_fault false (flag_built name) [] rows)) (sym stands.rows_are) (set_again_fails name uses again))))

  -- an option or a flag has no place
  module _ (all : List Text) (none : list_any (is_named all) places ≡ false) (name value' : Text) (named : is_named all name ≡ true) (uses : List Use) where
    abbrev one_more : Use
    one_more = record { name = name; value = value' }

    is_apart : IsOfNone places one_more
    is_apart = options_apart places all name none named

    place_kept : place_of (more name value' uses) ≡ place_of uses
    place_kept = position_kept places uses one_more is_apart

    still_ordered : in_order places uses ≡ true → in_order places (more name value' uses) ≡ true
    still_ordered ordered = order_kept places uses one_more is_apart ∙ ordered

  step_lost : (w : Walk) → IsLost w → (word : Text) → Steps w Wrong word
  step_lost w l word = go l.place
    where
      at_word : (ends : Bool) → ends_options word ≡ ends → Steps (standing l.position (holds l.rows l.pending)) Wrong word
      at_word true e = inl (
        end_passes l.rows l.pending l.position word e,
        record { rows = l.rows; pending = l.pending; position = l.position; place = inr (idle, end_walked l.rows l.pending l.position word e); lost = l.lost; strays = l.strays },
      )
      at_word false e = inr (refl, lost_fails l.rows l.pending l.position word l.lost l.strays e)

      go : (w ≡ standing l.position (holds l.rows l.pending)) ⊎ ((waiting : Waiting) × (w ≡ trailing' waiting l.position (holds l.rows l.pending))) → Steps w Wrong word
      go (inl same) = subst (λ w. Steps w Wrong word) (sym same) (at_word (ends_options word) refl)
      go (inr (waiting, same)) = subst (λ w. Steps w Wrong word) (sym same) (inr (refl, l.strays))

  module _ (rows : List Row) (pending : Option (Text × List Text)) (uses : List Use) (stands : Stands (holds rows pending) uses) (word : Text) where
    module _ (no_end : ends_options word ≡ false) where
      abbrev here : Walk
      here = standing (place_of uses) (holds rows pending)

      -- by the errors and the walk of the long option that the word is
      by_kinds : (long : Option (Text × Option Text)) → long_of word ≡ long → Fails (kinds_by rows pending (place_of uses) word idle long) → Fails (turn here word)
      by_kinds long same fails = subst Fails (sym (turn_is rows pending (place_of uses) word no_end ∙ ap (kinds_by rows pending (place_of uses) word idle) same)) fails

      by_none : (long : Option (Text × Option Text)) → long_of word ≡ long → kinds_by rows pending (place_of uses) word idle long ≡ [] → turn here word ≡ []
      by_none long same none = turn_is rows pending (place_of uses) word no_end ∙ ap (kinds_by rows pending (place_of uses) word idle) same ∙ none

      by_walk : (long : Option (Text × Option Text)) (next : Walk) → long_of word ≡ long → walk_by rows pending (place_of uses) word long ≡ next → next_walk here word ≡ next
      by_walk long next same goes = walk_is rows pending (place_of uses) word no_end ∙ ap (walk_by rows pending (place_of uses) word) same ∙ goes

      at_use : (name value' : Text) → long_of word ≡ Some (name, Some value') → is_named names name ≡ true → (again : Bool) → list_any (is_use_of name) uses ≡ again
          → Steps here (cond again Wrong (Between (more name value' uses))) word
      at_use name value' same named true e = inr (refl, by_kinds _ same (valued_again rows pending (place_of uses) word uses stands name named value' e))
      at_use name value' same named false e = inl (
        by_none _ same (valued_kinds rows pending (place_of uses) word uses stands name named value' e),
        record {
          rows = rows_of_uses (more name value' uses);
          pending = None;
          walk_is = by_walk _ _ same (valued_walk rows pending (place_of uses) word uses stands name named value' e)
              ∙ ap (λ position. standing position (holds (rows_of_uses (more name value' uses)) None)) (sym (place_kept names is.no_option name value' named uses));
          stands = record { settles = refl; rows_are = refl; ordered = still_ordered names is.no_option name value' named uses stands.ordered };
        },
      )

      at_value : (name : Text) (v : Option Text) → long_of word ≡ Some (name, v) → is_named names name ≡ true → Steps here (used_by name v uses) word
      at_value name None same named = inl (
        by_none _ same (option_kinds rows pending (place_of uses) word uses stands name named),
        (by_walk _ _ same (option_walk rows pending (place_of uses) word uses stands name named), named, stands.ordered),
      )
      at_value name (Some value') same named = at_use name value' same named (list_any (is_use_of name) uses) refl

      -- a flag
      at_set : (name : Text) → long_of word ≡ Some (name, None) → is_named names name ≡ false → is_named flags name ≡ true → (again : Bool) → list_any (is_use_of name) uses ≡ again
          → Steps here (cond again Wrong (Between (more name flag_set uses))) word
      at_set name same other sets true e = inr (refl, by_kinds _ same (flag_again rows pending (place_of uses) word uses stands name other sets e))
      at_set name same other sets false e = inl (
        by_none _ same (flag_kinds rows pending (place_of uses) word uses stands name other sets e),
        record {
          rows = rows_of_uses (more name flag_set uses);
          pending = None;
          walk_is = by_walk _ _ same (flag_walk rows pending (place_of uses) word uses stands name other sets e)
              ∙ ap (λ position. standing position (holds (rows_of_uses (more name flag_set uses)) None)) (sym (place_kept flags is.no_flag name flag_set sets uses));
          stands = record { settles = refl; rows_are = refl; ordered = still_ordered flags is.no_flag name flag_set sets uses stands.ordered };
        },
      )

      at_flag : (name : Text) (v : Option Text) → long_of word ≡ Some (name, v) → is_named names name ≡ false → is_named flags name ≡ true → Steps here (flagged_by name v uses) word
      at_flag name None same other sets = at_set name same other sets (list_any (is_use_of name) uses) refl
      at_flag name (Some v) same other sets = inr (refl, by_kinds _ same (valued_flag_fails rows pending (place_of uses) word idle name v other sets))

      at_other : (p : Text × Option Text) → long_of word ≡ Some p → is_named names p.0 ≡ false → (sets : Bool) → is_named flags p.0 ≡ sets → Steps here (cond sets (flagged_by p.0 p.1 uses) Wrong) word
      at_other p same other true f = at_flag p.0 p.1 same other f
      at_other p same other false f = inr (refl, by_kinds _ same (other_fails rows pending (place_of uses) word idle p other f))

      at_named : (p : Text × Option Text) → long_of word ≡ Some p → (named : Bool) → is_named names p.0 ≡ named
          → Steps here (cond named (used_by p.0 p.1 uses) (cond (is_named flags p.0) (flagged_by p.0 p.1 uses) Wrong)) word
      at_named p same true e = at_value p.0 p.1 same e
      at_named p same false e = at_other p same e (is_named flags p.0) refl

      at_long : is_option word ≡ true → (long : Option (Text × Option Text)) → long_of word ≡ long → Steps here (after_option names flags long uses) word
      at_long o None same = inr (refl, by_kinds _ same (bundle_fails rows pending (place_of uses) word idle (flagged word o no_end) same))
      at_long o (Some p) same = at_named p same (is_named names p.0) refl

      -- a word that is no option
      module _ (no_option : is_option word ≡ false) where
        value_here : IsValue own rules is.asks_short rows pending (place_of uses) word idle
        value_here = is_value own rules is.asks_short rows pending (place_of uses) word idle no_end (is_plain_word word no_option)

        turn_here : turn here word ≡ step_fault own (place_of uses) (holds rows pending) value
        turn_here = ap₂ (λ fault met. or_else fault (step_fault own (place_of uses) met.0 met.1)) value_here.1 value_here.0

        walk_here : next_walk here word ≡ to_positional rules (arg_by_index rules (place_of uses)) word here (holds rows pending)
        unfolding walked
        walk_here = ap (λ met. after_step rules word here met.0 met.1) value_here.0

        at_place : (next : Option Text) → next_place places uses ≡ next → Steps here (placed_at Between word uses next) word
        at_place (Some place) e = inl (
          turn_here ∙ place_passes uses place e (holds rows pending) word stands,
          record {
            rows = rows_of_uses uses;
            pending = Some (place, word ∷ []);
            walk_is = walk_here ∙ place_walk uses place e (holds rows pending) word stands idle false;
            stands = place_stands uses place e (holds rows pending) word stands;
          },
        )
        at_place None e = inr (refl, subst Fails (sym turn_here) (too_many uses (holds rows pending) e))

    at_between : (ends is_flag : Bool) → ends_options word ≡ ends → is_option word ≡ is_flag
        → Steps (standing (place_of uses) (holds rows pending)) (cond ends (Ended uses) (cond is_flag (after_option names flags (long_of word) uses) (after_place places Between word uses))) word
    at_between true is_flag e o = inl (end_passes rows pending (place_of uses) word e, record { waiting = idle; held = holds rows pending; walk_is = end_walked rows pending (place_of uses) word e; stands = stands })
    at_between false true e o = at_long e o (long_of word) refl
    at_between false false e o = at_place e o (next_place places uses) refl

  step_between : (w : Walk) (uses : List Use) → StandsBetween w uses → (word : Text) → Steps w (after (Between uses) word) word
  step_between w uses s word = subst (λ w. Steps w (after (Between uses) word) word) (sym s.walk_is) (at_between s.rows s.pending uses s.stands word (ends_options word) (is_option word) refl refl)

  -- ---- behind an option that wants its value

  same_name : (name : Text) → bytes_eq name name ≡ true
  same_name name = (bytes_eq-Decides name name).1 refl

  module _ (name : Text) (named : is_named names name ≡ true) (uses : List Use) (ordered : in_order places uses ≡ true) (word : Text) where
    abbrev rows_so_far : List Row
    rows_so_far = rows_of_uses uses

    abbrev bare : Option (Text × List Text)
    bare = Some (name, [])

    abbrev wants : Walk
    wants = wanting name (place_of uses) (rows_of_uses uses)

    bare_lost : Fails (settle_fault rules false (holds rows_so_far bare))
    bare_lost = rw (is.by_id name named) tt

    wanted_end : ends_options word ≡ true → (turn wants word ≡ []) × (next_walk wants word ≡ trailing' (option name) (place_of uses) (holds rows_so_far bare))
    unfolding walked
    wanted_end ends = (rw ends refl, rw ends refl)

    flag_fails : ends_options word ≡ false → IsFlagged word → Fails (turn wants word)
    flag_fails no_end is_flag = rw no_end (go is_flag)
      where
        by_some : (long : Option (Text × Option Text)) → IsSome long → Fails (kinds_by rows_so_far bare (place_of uses) word (option name) long)
        by_some None some = absurd (false≢true some)
        by_some (Some p) some = lost_option rows_so_far bare (place_of uses) word (option name) p bare_lost (is_named names p.0) refl

        go : IsFlagged word → Fails (kinds_by rows_so_far bare (place_of uses) word (option name) (long_of word))
        go (inl long) = by_some (long_of word) long
        go (inr (x, xs, none, short, some)) = rw (none, short) (by_bundle_fails own rules is.asks_short rows_so_far bare (place_of uses) word (option name) x xs some)

    module _ (no_end : ends_options word ≡ false) (no_option : is_option word ≡ false) where
      value_is : IsValue own rules is.asks_short rows_so_far bare (place_of uses) word (option name)
      value_is = is_value own rules is.asks_short rows_so_far bare (place_of uses) word (option name) no_end (is_plain_word word no_option)

      abbrev filled_held : Held
      filled_held = holds rows_so_far (Some (name, word ∷ []))

      filled_passes : turn wants word ≡ []
      filled_passes = ap₂ (λ fault met. or_else fault (step_fault own (place_of uses) met.0 met.1)) value_is.1 value_is.0

      filled_walked : next_walk wants word ≡ standing (place_of uses) filled_held
      unfolding walked
      filled_walked = ap (λ met. after_step rules word wants met.0 met.1) value_is.0 ∙ rw (is.by_id name named, same_name name) refl

      at_filled : (again : Bool) → list_any (is_use_of name) uses ≡ again → Steps wants (cond again Wrong (Between (more name word uses))) word
      at_filled true e =
          let lost : Fails (settle_fault rules false filled_held) = rw (is.by_id name named) (use_again_fails name word uses e) in inl (
            filled_passes,
            record {
              rows = rows_so_far;
              pending = Some (name, word ∷ []);
              position = place_of uses;
              place = inl filled_walked;
              lost = lost;
              strays = strays_at filled_held lost uses;
            },
          )
      at_filled false e = inl (
        filled_passes,
        record {
          rows = rows_so_far;
          pending = Some (name, word ∷ []);
          walk_is = filled_walked ∙ ap (λ position. standing position filled_held) (sym (place_kept names is.no_option name word named uses));
          stands = record {
            settles = rw (is.by_id name named) (use_passes name word uses e);
            rows_are = rw (is.by_id name named) (used_more name word uses e);
            ordered = still_ordered names is.no_option name word named uses ordered;
          };
        },
      )

    ends_is_option : is_option word ≡ false → ends_options word ≡ true → ⊥
    unfolding clap_on_literals
    ends_is_option no_option ends = let never : is_option (codes "--") ≡ false = subst (λ w. is_option w ≡ false) (sym (is_end word ends)) no_option in end_is_option never
      where
        end_is_option : is_option (codes "--") ≡ false → ⊥
        end_is_option never = cc

    at_wanted : (is_flag ends : Bool) → is_option word ≡ is_flag → ends_options word ≡ ends → Steps wants (cond is_flag Wrong (with_use name word uses)) word
    at_wanted true true o e =
        let end = wanted_end e in
        inl (end.0, record { rows = rows_so_far; pending = bare; position = place_of uses; place = inr (option name, end.1); lost = bare_lost; strays = strays_at (holds rows_so_far bare) bare_lost uses })
    at_wanted true false o e = inr (refl, flag_fails e (flagged word o e))
    at_wanted false true o e = absurd (ends_is_option o e)
    at_wanted false false o e = at_filled e o (list_any (is_use_of name) uses) refl

  step_wanting : (w : Walk) (name : Text) (uses : List Use) → (w ≡ wanting name (place_of uses) (rows_of_uses uses)) × (is_named names name ≡ true) × (in_order places uses ≡ true) → (word : Text) → Steps w (after (Wanting name uses) word) word
  step_wanting w name uses s word = subst (λ w. Steps w (after (Wanting name uses) word) word) (sym s.0) (at_wanted name s.1 uses s.2 word (is_option word) (ends_options word) refl refl)

  -- ---- all words

  step : (w : Walk) (reading : Reading) → Follows w reading → (word : Text) → Steps w (after reading word) word
  step w (Between uses) s word = step_between w uses s word
  step w (Wanting name uses) s word = step_wanting w name uses s word
  step w (Ended uses) s word = step_behind w uses s word
  step w Wrong l word = step_lost w l word

  abbrev ending_of : List Row → Kinds
  ending_of rows = or_else (defaults_fault rows rules) (check_fault own (fold with_default rows rules) false)

  abbrev ending : Held → Kinds
  ending held = or_else (settle_fault rules false held) (ending_of (settled rules held).rows)

  abbrev kinds_left : Walk → List Text → Kinds
  kinds_left w words = or_else (walk_fault own [] w words) (ending (fold (walked rules []) w words).held)

  abbrev rows_left : Walk → List Text → List Row
  rows_left w words = finished rules (fold (walked rules []) w words).held

  -- words that use options, or fail
  abbrev pub Reads : Walk → List Text → Option (List Use) → Type 0
  Reads w words None = Fails (kinds_left w words)
  Reads w words (Some uses) = (kinds_left w words ≡ []) × (rows_left w words ≡ fold with_default (rows_of_uses uses) rules)

  stands_end : (held : Held) (uses : List Use) → Stands held uses → FailsWhere (is_some (next_place places uses)) (ending held)
  stands_end held uses s =
      subst (λ kinds. FailsWhere (is_some (next_place places uses)) (or_else kinds (ending_of (settled rules held).rows))) (sym s.settles)
      (subst (λ rows. FailsWhere (is_some (next_place places uses)) (ending_of rows)) (sym s.rows_are) (is.ends uses))

  whole_end : (w : Walk) (uses : List Use) → Stands w.held uses → Reads w [] (whole places uses)
  unfolding walk_fault
  whole_end w uses s = go (next_place places uses) (stands_end w.held uses s)
    where
      go : (next : Option Text) → FailsWhere (is_some next) (ending w.held) → Reads w [] (whole_at uses next)
      go (Some place) fails = fails
      go None none = (none, ap (λ rows. fold with_default rows rules) s.rows_are)

  lost_end : (w : Walk) → IsLost w → Fails (ending w.held)
  lost_end w l = go l.place
    where
      ends : Fails (ending (holds l.rows l.pending))
      ends = first_fails _ _ l.lost

      go : (w ≡ standing l.position (holds l.rows l.pending)) ⊎ ((waiting : Waiting) × (w ≡ trailing' waiting l.position (holds l.rows l.pending))) → Fails (ending w.held)
      go (inl same) = subst (λ (w : Walk). Fails (ending w.held)) (sym same) ends
      go (inr (waiting, same)) = subst (λ (w : Walk). Fails (ending w.held)) (sym same) ends

  at_end : (w : Walk) (reading : Reading) → Follows w reading → Reads w [] (uses_read places reading)
  unfolding walk_fault
  at_end w (Between uses) s = subst (λ w. Reads w [] (whole places uses)) (sym s.walk_is) (whole_end (standing (place_of uses) (holds s.rows s.pending)) uses s.stands)
  at_end w (Wanting name uses) s = subst (λ w. Reads w [] None) (sym s.0) (first_fails _ _ (bare_lost name s.1 uses s.2 []))
  at_end w (Ended uses) s = subst (λ w. Reads w [] (whole places uses)) (sym s.walk_is) (whole_end (trailing' s.waiting (place_of uses) s.held) uses s.stands)
  at_end w Wrong l = lost_end w l

  wrong_stays : (words : List Text) → uses_read places (fold after Wrong words) ≡ None
  wrong_stays [] = refl
  wrong_stays (word ∷ words) = wrong_stays words

  reads_on : (words : List Text) (w : Walk) (reading : Reading) → Follows w reading → Reads w words (uses_read places (fold after reading words))
  unfolding walk_fault
  reads_on [] w reading s = at_end w reading s
  reads_on (word ∷ words) w reading s = go (reads_on words) (step w reading s word)
    where
      passed : (read : Option (List Use)) → turn w word ≡ [] → Reads (next_walk w word) words read → Reads w (word ∷ words) read
      passed None none fails = rw none fails
      passed (Some uses) none reads = (rw none reads.0, reads.1)

      go : ((w : Walk) (reading : Reading) → Follows w reading → Reads w words (uses_read places (fold after reading words))) → Steps w (after reading word) word → Reads w (word ∷ words) (uses_read places (fold after (after reading word) words))
      go on (inl (none, follows)) = passed (uses_read places (fold after (after reading word) words)) none (on (next_walk w word) (after reading word) follows)
      go on (inr (wrong, fails)) =
          subst (Reads w (word ∷ words)) (sym (ap (λ reading. uses_read places (fold after reading words)) wrong ∙ wrong_stays words)) (first_fails _ _ (first_fails _ _ fails))

  -- the words behind the command
  pub options_read : (words : List Text) → Reads (walk_from nothing_held) words (uses_taken places names flags words)
  options_read words =
      let start = at_start places in
      reads_on words (walk_from nothing_held) (Between []) (record {
        rows = [];
        pending = None;
        walk_is = ap (λ position. standing position (holds [] None)) (sym start.1);
        stands = record { settles = refl; rows_are = refl; ordered = start.0 };
      })
