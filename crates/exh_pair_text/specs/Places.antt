-- Where in a record a byte stands, what it is there, and where a record ends.
use Rattle.std.specs.Prelude.{◌≡◌, ℕ, ◌==◌, List, [], ◌∷◌, if◌then◌else◌, ⊤}
use Rattle.exh_pair_text.specs.declared.part.Part.{Part}
use Rattle.exh_pair_text.specs.declared.part.Part.TheVariants.{Mark, Content, Comma, Stray}
use Rattle.exh_pair_text.specs.declared.place.Place.{Place}
use Rattle.exh_pair_text.specs.declared.place.Place.TheVariants.{Start, Plain, Quoted, Closed}

abbrev pub newline : ℕ
newline = 10

abbrev pub return : ℕ
return = 13

abbrev pub quote : ℕ
quote = 34

abbrev pub hash : ℕ
hash = 35

abbrev pub comma : ℕ
comma = 44

-- the place behind a byte
abbrev pub place_after : Place → ℕ → Place
place_after Start byte = if byte == quote then Quoted else (if byte == comma then Start else Plain)
place_after Plain byte = if byte == comma then Start else Plain
place_after Quoted byte = if byte == quote then Closed else Quoted
place_after Closed byte = if byte == quote then Quoted else (if byte == comma then Start else Plain)

-- what a byte is at a place
abbrev pub part_at : Place → ℕ → Part
part_at Start byte = if byte == quote then Mark else (if byte == comma then Comma else Content)
part_at Plain byte = if byte == comma then Comma else Content
part_at Quoted byte = if byte == quote then Mark else Content
part_at Closed byte = if byte == quote then Content else (if byte == comma then Comma else Stray)

-- of records whose places go on so
module _ (after : Place → ℕ → Place) where
  -- the place behind bytes
  abbrev pub place_behind : Place → List ℕ → Place
  place_behind place [] = place
  place_behind place (byte ∷ text) = place_behind (after place byte) text

  -- each newline stands in quotes
  abbrev pub AreQuoted : Place → List ℕ → Type 0
  AreQuoted place [] = ⊤
  AreQuoted place (byte ∷ text) = (byte ≡ newline → place ≡ Quoted) × AreQuoted (after place byte) text
