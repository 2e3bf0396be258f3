-- What is done of each line of a text, and of all lines.
use Rattle.std.specs.Prelude.{◌≡◌, ◌≢◌, ◌⊎◌, ℕ, ◌==◌, Bool, true, false, ◌&&◌, List, [], ◌∷◌, ◌++◌, Option, Some, None, flat_map}
use Rattle.exh_text.specs.TextLines.{newline}
use Rattle.exh_pair_text.specs.declared.line.Line.{Line}
use Rattle.exh_pair_text.specs.declared.line.Line.TheVariants.{Pair, Empty, Wrong as WrongLine}
use Rattle.exh_pair_text.specs.declared.pair_format.PairFormat.{PairFormat}
use Rattle.exh_pair_text.specs.Parts.{parts_of}
use Rattle.exh_pair_text.specs.Reading.{line_read}
use Rattle.exh_pair_text.specs.Records.{IsEnded, IsOneLine}
use Rattle.exh_import.specs.declared.imported.Imported.{Imported}
use Rattle.exh_import.specs.declared.imported_store.Added.{Added}
use Rattle.exh_import.specs.declared.imported_store.Added.TheVariants.{Put, Full as NoRoom}
use Rattle.exh_import.specs.declared.options.ImportOptions.{ImportOptions}
use Rattle.exh_import.specs.declared.rejection.Rejection.{Rejection}
use Rattle.exh_import.specs.declared.rejection.Rejection.TheVariants.{Wrong, Misplaced, Full}
use Rattle.exh_import.specs.declared.taking.Taking.{Taking}
use Rattle.exh_import.specs.Counting.{closed, committed, ended, first_opening, full_counted, is_amiss, is_due, line_counted, opened, pair_counted, rejected_counted, rested, saved, starts}

-- The lines of a text: each stands up to the newline that ends it, but for the last, which may lack it where it has a byte.
abbrev pub IsTextOf : PairFormat → List (List ℕ) → List ℕ → Type 0
IsTextOf format [] text = text ≡ []
IsTextOf format (line ∷ lines) text =
    IsOneLine format line × (((rest : List ℕ) × IsEnded format line × (text ≡ line ++ newline ∷ rest) × IsTextOf format lines rest) ⊎ ((text ≡ line) × (line ≢ []) × (lines ≡ [])))

-- each of the lines has its newline, or not all have
abbrev pub EndsSo : Bool → List (List ℕ) → List ℕ → Type 0
EndsSo true lines text = text ≡ flat_map (λ line. line ++ newline ∷ []) lines
EndsSo false lines text = text ≢ flat_map (λ line. line ++ newline ∷ []) lines

-- how far an import is, its store, and its listener
pub record Point (S L : Type 0) : Type 0 where
  pub taking : Taking
  pub store : S
  pub listener : L

-- a store whose commits are told so
module _ {S : Type 0} (saves : S → S → Type 0) where
  -- a commit comes where it is due
  abbrev pub SavesWhere : Bool → Taking → S → Taking → S → Type 0
  SavesWhere true taking store taking' store' = (taking' ≡ saved taking) × saves store store'
  SavesWhere false taking store taking' store' = (taking' ≡ taking) × (store' ≡ store)

  abbrev pub SavesBatch : Taking → S → Taking → S → Type 0
  SavesBatch taking store taking' store' = SavesWhere (is_due taking) taking store taking' store'

  -- the last commit, unless all or none is to be committed and something is amiss
  abbrev pub FinishesWhere : Bool → Taking → S → Imported → S → Type 0
  FinishesWhere true taking store imported store' = (imported ≡ taking.imported) × (store' ≡ store)
  FinishesWhere false taking store imported store' = (imported ≡ committed taking.imported) × saves store store'

  abbrev pub Finishes : Taking → S → Imported → S → Type 0
  Finishes taking store imported store' = FinishesWhere (taking.options.is_atomic && is_amiss taking.imported) taking store imported store'

-- a store rests before the first put behind a batch's commit
abbrev pub RestsWhere : {S : Type 0} → (S → S → Type 0) → Bool → S → S → Type 0
RestsWhere rests true store store' = rests store store'
RestsWhere rests false store store' = store' ≡ store

-- a store whose puts and rests are told so, too, and a listener
module _ {S L : Type 0} (gives : S → List ℕ → List ℕ → Added → S → Type 0) (saves rests : S → S → Type 0) (told : L → ℕ → Rejection → List ℕ → L → Type 0) where
  -- the listener is told why this line isn't put
  abbrev pub Rejects : Rejection → Taking → List ℕ → L → L → Type 0
  Rejects cause taking line listener listener' = told listener taking.imported.lines cause line listener'

  -- the store answered a put: there is no room, or the pair counts
  abbrev pub Answered : Added → S → List ℕ → Point S L → Point S L → Type 0
  Answered NoRoom stored line old new = (new.taking ≡ full_counted old.taking) × (new.store ≡ stored) × Rejects Full old.taking line old.listener new.listener
  Answered Put stored line old new = SavesBatch saves (pair_counted old.taking) stored new.taking new.store × (new.listener ≡ old.listener)

  pub record Puts (key value line : List ℕ) (old new : Point S L) : Type 0 where
    pub before : S
    pub rest : RestsWhere rests old.taking.is_saved old.store before
    pub answer : Added
    pub stored : S
    pub put : gives before key value answer stored
    pub answered : Answered answer stored line (record old { taking = rested old.taking }) new

  -- a line that isn't put
  pub record IsRejected (cause : Rejection) (line : List ℕ) (old new : Point S L) : Type 0 where
    pub taking : new.taking ≡ rejected_counted old.taking
    pub store : new.store ≡ old.store
    pub told_is : Rejects cause old.taking line old.listener new.listener

  -- a line amid a text
  abbrev pub TakesAmid : Line → List ℕ → Point S L → Point S L → Type 0
  TakesAmid (Pair key value) line old new = Puts key value line old new
  TakesAmid Empty line old new = new ≡ old
  TakesAmid (WrongLine wrong) line old new = IsRejected (Wrong wrong) line old new
  TakesAmid mark line old new = IsRejected Misplaced line old new

  -- what an opening or an end makes of it
  pub record Marks (taking : Taking) (old new : Point S L) : Type 0 where
    pub taking_is : new.taking ≡ taking
    pub store : new.store ≡ old.store
    pub listener : new.listener ≡ old.listener

  -- an opening stands first, and an export has its end last
  abbrev pub TakesRead : Option PairFormat → Bool → Bool → Line → List ℕ → Point S L → Point S L → Type 0
  TakesRead (Some format) closes last read line old new = (format ≡ old.taking.options.format) × Marks (opened last old.taking) old new
  TakesRead None true last read line old new = Marks (closed read old.taking) old new
  TakesRead None false last read line old new = TakesAmid read line old new

  -- the next line, which is the last or isn't
  abbrev pub TakesLine : Bool → List ℕ → Point S L → Point S L → Type 0
  TakesLine last line old new =
      let read = line_read old.taking.options.format old.taking.options.is_hex (parts_of old.taking.options.layout) line in
      TakesRead (first_opening (old.taking.imported.lines == 0) read) (old.taking.is_opened && last) last read line (record old { taking = line_counted old.taking }) new

  -- lines of which none is the last
  abbrev pub TakesLines : List (List ℕ) → Point S L → Point S L → Type 0
  TakesLines [] old new = new ≡ old
  TakesLines (line ∷ lines) old new = (next : Point S L) × (TakesLine false line old next × TakesLines lines next new)

  -- all lines
  abbrev pub TakesText : List (List ℕ) → Point S L → Point S L → Type 0
  TakesText lines old new =
      ((lines ≡ []) × (new ≡ old))
      ⊎ ((front : List (List ℕ)) × ((last : List ℕ) × ((next : Point S L) × ((lines ≡ front ++ last ∷ []) × (TakesLines front old next × TakesLine true last next new)))))

  -- the import of lines, each of which has its newline or not all have
  pub record Imports (options : ImportOptions) (whole : Bool) (lines : List (List ℕ)) (store : S) (listener : L) (imported : Imported) (store' : S) (listener' : L) : Type 0 where
    pub next : Point S L
    pub takes : TakesText lines (record { taking = starts options; store = store; listener = listener }) next
    pub finishes : Finishes saves (ended whole next.taking) next.store imported store'
    pub listener_is : listener' ≡ next.listener
