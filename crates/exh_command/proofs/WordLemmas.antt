-- A word of a command line: what it is, and that it fails where nothing takes it.
use Rattle.std.proofs.Common.{◌≡◌, ◌∙◌, ℕ, Bool, true, false, List, [], ◌∷◌, Option, Some, None, refl, sym, subst, codes, length, slice_index_or, inl, inr, eqb, ltb, lt-ltb, arith}
use Rattle.std.specs.Prelude.{◌⊎◌, slice_get, option_map, ◌↔◌, IsSome}
use Rattle.std.specs.Option.{option_map_or}
use Rattle.std.specs.Str.{bytes_eq, chars, chars_after, continuation_len, lead_bits}
use Rattle.std.proofs.lemmas.Bool.{eqb-true}
use Rattle.std.proofs.lemmas.Slice.Eq.{bytes_eq-Decides}
use Rattle.clap.specs.Words.{Kinds, Row, Rule, Shape, Text}
use Rattle.clap.specs.Kinds.{or_else}
use Rattle.clap.specs.Lexer.{long_of, short_of}
use Rattle.clap.specs.Simple.{filled_from, help_rule, version_rule}
use Rattle.clap.specs.Walk.{Held, Names, Waiting, Walk, after_flag, arg_by_index, arg_by_long, arg_by_short, bundle_met, bundle_step, idle, long_or_other, plain, plain_word, settled, short_or_plain, subcommand_met, subcommand_or_other, value, walk_from}
use Rattle.clap.specs.Faults.{bundle_fault, bundle_step_fault, flag_word_fault, flags_fault, long_fault, other_fault, react_fault, settle_fault, short_fault, step_fault, turn_fault, use_fault}
use Rattle.exh_command.specs.Words.{ends_options, is_option}

-- ---- errors

-- some kind of error comes
abbrev pub Fails : Kinds → Type 0
Fails [] = ⊥
Fails (k ∷ ks) = Unit {0}

pub first_fails : (a b : Kinds) → Fails a → Fails (or_else a b)
first_fails [] b h = absurd h
first_fails (k ∷ ks) b h = tt

pub second_fails : (a b : Kinds) → Fails b → Fails (or_else a b)
second_fails [] b h = h
second_fails (k ∷ ks) b h = tt

pub or_nothing : (kinds : Kinds) → or_else kinds [] ≡ kinds
or_nothing [] = refl
or_nothing (k ∷ ks) = refl

-- the parser takes words that name something, and refuses others
abbrev pub Agrees : {A : Type 0} → Option A → Kinds → Type 0
Agrees None kinds = Fails kinds
Agrees (Some named) kinds = kinds ≡ []

pub agreed : {A : Type 0} (named : Option A) (kinds : Kinds) → Agrees named kinds → (kinds ≡ []) ↔ IsSome named
agreed None [] h = absurd h
agreed None (k ∷ ks) h = (λ none. cc, λ some. cc)
agreed (Some named) kinds h = (λ none. refl, λ some. h)

pub some_is : {A : Type 0} {a b : A} → Some a ≡ Some b → a ≡ b
some_is same = cc

pub agrees_as : {A B : Type 0} (f : A → B) (named : Option A) (kinds : Kinds) → Agrees named kinds → Agrees (option_map f named) kinds
agrees_as f None kinds h = h
agrees_as f (Some named) kinds h = h

-- ---- words

pub is_end : (word : Text) → ends_options word ≡ true → codes "--" ≡ word
is_end word same = sym ((bytes_eq-Decides word (codes "--")).0 same)

pub is_name : (name word : Text) → bytes_eq name word ≡ true → name ≡ word
is_name name word same = (bytes_eq-Decides name word).0 same

-- the first character of the flags of a bundle
abbrev pub first_of_bundle : ℕ → Text → Option ℕ
first_of_bundle x xs = slice_get (chars (x ∷ xs)) 0

-- an option has a long name, or a bundle of flags that begins with a character
abbrev pub IsFlagged : Text → Type 0
IsFlagged word = IsSome (long_of word) ⊎ ((x : ℕ) × (xs : Text) × (long_of word ≡ None) × (short_of word ≡ Some (x ∷ xs)) × IsSome (first_of_bundle x xs))

-- another word has neither
abbrev pub IsPlainWord : Text → Type 0
IsPlainWord word = (long_of word ≡ None) × ((short_of word ≡ None) ⊎ ((x : ℕ) × (xs : Text) × (short_of word ≡ Some (x ∷ xs)) × (first_of_bundle x xs ≡ None)))

more_than_none : (c : ℕ) (cs : List ℕ) → ltb 0 (length (c ∷ cs)) ≡ true
more_than_none c cs = lt-ltb 0 (length (c ∷ cs)) (omega arith)

some_first : (cs : List ℕ) → ltb 0 (length cs) ≡ true → IsSome (slice_get cs 0)
some_first [] more = cc
some_first (c ∷ cs) more = refl

no_first : (cs : List ℕ) → ltb 0 (length cs) ≡ false → slice_get cs 0 ≡ None
no_first [] none = refl
no_first (c ∷ cs) none = absurd (let never : true ≡ false = sym (more_than_none c cs) ∙ none in cc)

no_chars : ltb 0 (length (chars [])) ≡ false
unfolding chars
no_chars = refl

hyphen_first : (rest : Text) → ltb 0 (length (chars (45 ∷ rest))) ≡ true
unfolding chars
hyphen_first [] = refl
hyphen_first (x ∷ xs) = more_than_none 45 (chars_after (continuation_len x) (lead_bits x) xs)

-- by the byte behind the hyphen
flagged_behind : (y : ℕ) (ys : Text) (hyphen : Bool) → eqb y 45 ≡ hyphen → ltb 0 (length (chars (y ∷ ys))) ≡ true → ends_options (45 ∷ y ∷ ys) ≡ false → IsFlagged (45 ∷ y ∷ ys)
flagged_behind y [] true e some no_end = absurd (let never : true ≡ false = subst (λ z. ends_options (45 ∷ z ∷ []) ≡ false) (eqb-true y 45 e) no_end in cc)
flagged_behind y (z ∷ zs) true e some no_end = inl (rw e refl)
flagged_behind y ys false e some no_end = inr (y, ys, rw e refl, rw e refl, some_first (chars (y ∷ ys)) some)

pub flagged : (word : Text) → is_option word ≡ true → ends_options word ≡ false → IsFlagged word
flagged [] option no_end = cc
flagged (x ∷ rest) option no_end = go (eqb x 45) refl
  where
    behind : (rest : Text) → ltb 0 (length (chars rest)) ≡ true → ends_options (45 ∷ rest) ≡ false → IsFlagged (45 ∷ rest)
    behind [] some no_end = absurd (let never : true ≡ false = sym some ∙ no_chars in cc)
    behind (y ∷ ys) some no_end = flagged_behind y ys (eqb y 45) refl some no_end

    go : (hyphen : Bool) → eqb x 45 ≡ hyphen → IsFlagged (x ∷ rest)
    go true e =
        let same : x ≡ 45 = eqb-true x 45 e in
        subst (λ z. IsFlagged (z ∷ rest)) (sym same) (behind rest (rw e at option) (subst (λ z. ends_options (z ∷ rest) ≡ false) same no_end))
    go false e = absurd (let never : false ≡ true = rw e at option in cc)

plain_behind : (y : ℕ) (ys : Text) (hyphen : Bool) → eqb y 45 ≡ hyphen → ltb 0 (length (chars (y ∷ ys))) ≡ false → IsPlainWord (45 ∷ y ∷ ys)
plain_behind y ys true e none = absurd (let never : true ≡ false = sym (hyphen_first ys) ∙ subst (λ z. ltb 0 (length (chars (z ∷ ys))) ≡ false) (eqb-true y 45 e) none in cc)
plain_behind y ys false e none = (rw e refl, inr (y, ys, rw e refl, no_first (chars (y ∷ ys)) none))

pub is_plain_word : (word : Text) → is_option word ≡ false → IsPlainWord word
is_plain_word [] option = (refl, inl refl)
is_plain_word (x ∷ rest) option = go (eqb x 45) refl
  where
    behind : (rest : Text) → ltb 0 (length (chars rest)) ≡ false → IsPlainWord (45 ∷ rest)
    behind [] none = (refl, inl refl)
    behind (y ∷ ys) none = plain_behind y ys (eqb y 45) refl none

    go : (hyphen : Bool) → eqb x 45 ≡ hyphen → IsPlainWord (x ∷ rest)
    go true e = subst (λ z. IsPlainWord (z ∷ rest)) (sym (eqb-true x 45 e)) (behind rest (rw e at option))
    go false e = (rw e refl, inl (rw e refl))

-- ---- a word at a command whose flags ask for help or for the version

-- the flags of every command
abbrev pub flags : List Rule
flags = filled_from 1 (help_rule ∷ version_rule ∷ [])

abbrev pub help : Rule
help = slice_index_or flags 0 help_rule

abbrev pub version : Rule
version = slice_index_or flags 1 version_rule

-- what a name may stand for among them
abbrev pub IsAsking : Option Rule → Type 0
IsAsking found = (found ≡ None) ⊎ (found ≡ Some help) ⊎ (found ≡ Some version)

-- the same of the long flag that a word is
abbrev pub AsksLong : List Rule → Option (Text × Option Text) → Type 0
AsksLong rules None = Unit {0}
AsksLong rules (Some p) = IsAsking (arg_by_long rules p.0)

pub all_ask : (rules : List Rule) → ((name : Text) → IsAsking (arg_by_long rules name)) → (long : Option (Text × Option Text)) → AsksLong rules long
all_ask rules ask None = tt
all_ask rules ask (Some p) = ask p.0

-- of a walk that holds these rows and at most what waits to be used
module _ (s : Shape) (rules : List Rule) (asking_short : (c : ℕ) → IsAsking (arg_by_short rules c)) (rows : List Row) (waits : Option (Text × List Text)) (position : ℕ) (word : Text) where
  abbrev level : Shape
  level = record s { rules = rules }

  abbrev holding : Held
  holding = record { rows = rows; pending = waits; skip = 0 }

  abbrev here : Walk
  here = record (walk_from holding) { position = position }

  -- the errors of the word, by the subcommand that it names, and by what waits for it: by its long flag, by its short
  -- flags and by the first of these
  abbrev by_name : Option Text → Kinds
  by_name name =
      let met = subcommand_or_other rules name idle position word holding in
      or_else (other_fault level name word holding) (step_fault level position met.0 met.1)

  abbrev pub by_long : Waiting → Option (Text × Option Text) → Kinds
  by_long waiting long =
      let met = long_or_other rules waiting word long holding in
      or_else (flag_word_fault rules s.args_override_self long word holding) (step_fault level position met.0 met.1)

  abbrev by_short : Waiting → Option Text → Kinds
  by_short waiting short =
      let met = short_or_plain rules waiting word short holding in
      or_else (option_map_or (λ f. bundle_fault rules s.args_override_self f holding) short []) (step_fault level position met.0 met.1)

  abbrev by_char : Waiting → Text → Option ℕ → Kinds
  by_char waiting [] first = []
  by_char waiting (x ∷ xs) first =
      let end = bundle_step rules first (x ∷ xs) 0 plain holding (bundle_met rules (length xs)) in
      let met = after_flag rules waiting word end.0 end.1 in
      or_else (bundle_step_fault rules s.args_override_self first (x ∷ xs) 0 holding (flags_fault rules s.args_override_self (length xs))) (step_fault level position met.0 met.1)

  -- a flag is unknown, or asks for help or the version
  help_asked : Fails (react_fault rules s.args_override_self help [] holding)
  help_asked = second_fails (settle_fault rules s.args_override_self holding) (use_fault s.args_override_self help [] (settled rules holding).rows) tt

  version_asked_for : Fails (react_fault rules s.args_override_self version [] holding)
  version_asked_for = second_fails (settle_fault rules s.args_override_self holding) (use_fault s.args_override_self version [] (settled rules holding).rows) tt

  pub long_fails : (v : Option Text) (found : Option Rule) → IsAsking found → Fails (long_fault rules s.args_override_self found v holding)
  long_fails v found (inl none) = subst (λ f. Fails (long_fault rules s.args_override_self f v holding)) (sym none) tt
  long_fails (Some v) found (inr (inl asks)) = subst (λ f. Fails (long_fault rules s.args_override_self f (Some v) holding)) (sym asks) tt
  long_fails None found (inr (inl asks)) = subst (λ f. Fails (long_fault rules s.args_override_self f None holding)) (sym asks) help_asked
  long_fails (Some v) found (inr (inr asks)) = subst (λ f. Fails (long_fault rules s.args_override_self f (Some v) holding)) (sym asks) tt
  long_fails None found (inr (inr asks)) = subst (λ f. Fails (long_fault rules s.args_override_self f None holding)) (sym asks) version_asked_for

  short_fails : (rest : Text) (next : Held → Kinds) (found : Option Rule) → IsAsking found → Fails (short_fault rules s.args_override_self found rest holding next)
  short_fails rest next found (inl none) = subst (λ f. Fails (short_fault rules s.args_override_self f rest holding next)) (sym none) tt
  short_fails rest next found (inr (inl asks)) = subst (λ f. Fails (short_fault rules s.args_override_self f rest holding next)) (sym asks) (first_fails _ _ help_asked)
  short_fails rest next found (inr (inr asks)) = subst (λ f. Fails (short_fault rules s.args_override_self f rest holding next)) (sym asks) (first_fails _ _ version_asked_for)

  char_fails : (waiting : Waiting) (x : ℕ) (xs : Text) (c : ℕ) → Fails (by_char waiting (x ∷ xs) (Some c))
  char_fails waiting x xs c = first_fails _ _ (short_fails _ _ (arg_by_short rules c) (asking_short c))

  -- a word that is no flag fails where its place takes none
  module _ (strays : Fails (step_fault level position holding value)) where
    by_char_fails : (x : ℕ) (xs : Text) (first : Option ℕ) → Fails (by_char idle (x ∷ xs) first)
    by_char_fails x xs None = strays
    by_char_fails x xs (Some c) = char_fails idle x xs c

    by_short_fails : (short : Option Text) → Fails (by_short idle short)
    unfolding flags_fault bundle_met
    by_short_fails None = strays
    by_short_fails (Some []) = strays
    by_short_fails (Some (x ∷ xs)) = by_char_fails x xs (slice_get (chars (x ∷ xs)) 0)

    pub by_long_fails : (long : Option (Text × Option Text)) → AsksLong rules long → Fails (by_long idle long)
    by_long_fails (Some p) asks = first_fails _ _ (long_fails p.1 (arg_by_long rules p.0) asks)
    by_long_fails None asks = by_short_fails (short_of word)

  -- it is one too many, where no place is left
  module _ (none_placed : arg_by_index rules position ≡ None) where
    stray_fails : (leaf : Bool) → s.is_leaf ≡ leaf → Fails (step_fault level position holding value)
    stray_fails true e = rw (none_placed, e) tt
    stray_fails false e = rw (none_placed, e) tt

    -- any word fails but `--` and the name of a subcommand
    pub word_fails : AsksLong rules (long_of word) → (names : Names) → subcommand_met names idle word ≡ None → ends_options word ≡ false → Fails (turn_fault level names here word)
    word_fails asks names unnamed no_end = subst (λ name. Fails (by_name name)) (sym unnamed) (rw no_end (by_long_fails (stray_fails s.is_leaf refl) (long_of word) asks))

  -- an option fails also where a place is left, and where an option waits for its value
  module _ (waiting : Waiting) where
    by_first_fails : (x : ℕ) (xs : Text) (first : Option ℕ) → IsSome first → Fails (by_char waiting (x ∷ xs) first)
    by_first_fails x xs None some = cc
    by_first_fails x xs (Some c) some = char_fails waiting x xs c

    pub by_bundle_fails : (x : ℕ) (xs : Text) → IsSome (first_of_bundle x xs) → Fails (by_short waiting (Some (x ∷ xs)))
    unfolding flags_fault bundle_met
    by_bundle_fails x xs some = by_first_fails x xs (slice_get (chars (x ∷ xs)) 0) some

    long_name_fails : (long : Option (Text × Option Text)) → AsksLong rules long → IsSome long → Fails (by_long waiting long)
    long_name_fails None asks some = cc
    long_name_fails (Some p) asks some = first_fails _ _ (long_fails p.1 (arg_by_long rules p.0) asks)

    flagged_fails : AsksLong rules (long_of word) → IsFlagged word → Fails (by_long waiting (long_of word))
    flagged_fails asks (inl long) = long_name_fails (long_of word) asks long
    flagged_fails asks (inr (x, xs, none, short, some)) = rw (none, short) (by_bundle_fails x xs some)

  pub option_fails : AsksLong rules (long_of word) → (names : Names) → subcommand_met names idle word ≡ None → ends_options word ≡ false → is_option word ≡ true → Fails (turn_fault level names here word)
  option_fails asks names unnamed no_end option = subst (λ name. Fails (by_name name)) (sym unnamed) (rw no_end (flagged_fails idle asks (flagged word option no_end)))

  -- another word is a value of what waits
  bundle_ends : (waiting : Waiting) (x : ℕ) (xs : Text) → first_of_bundle x xs ≡ None
      → (short_or_plain rules waiting word (Some (x ∷ xs)) holding ≡ plain_word rules waiting word holding) × (bundle_fault rules s.args_override_self (x ∷ xs) holding ≡ [])
  unfolding flags_fault bundle_met
  bundle_ends waiting x xs none = (rw none refl, rw none refl)

  abbrev pub IsValue : Waiting → Type 0
  IsValue waiting = (subcommand_or_other rules None waiting position word holding ≡ plain_word rules waiting word holding) × (other_fault level None word holding ≡ [])

  pub is_value : (waiting : Waiting) → ends_options word ≡ false → IsPlainWord word → IsValue waiting
  is_value waiting no_end (none, inl short) = (rw (no_end, none, short) refl, rw (no_end, none, short) refl)
  is_value waiting no_end (none, inr (x, xs, short, first)) =
      let ends = bundle_ends waiting x xs first in
      (rw (no_end, none, short) ends.0, rw (no_end, none, short) ends.1)
