-- What is printed of a load of lines, and where it ends.
use Rattle.std.proofs.Common.{◌≡◌, ◌≢◌, ◌+◌, ◌-◌, ℕ, Bool, false, List, [], ◌∷◌, ◌++◌, Option, Some, None, IfSome, Result, Ok, Err, IfOk, IfErr, OnOk, OnErr, inl, inr, refl, sym, ap, ◌∙◌, subst, append-nil, append_assoc}
use Rattle.std.specs.Prelude.{◌⊎◌, IsErr, IsErrAnd, codes}
use Rattle.std.specs.Option.{option_map}
use Rattle.exh_stream.specs.Output.{Takes, TakesBeginning}
use Rattle.exh_stream.specs.OutputLemmas.{AppendsBeginning-from, Takes-then, TakesBeginning-of_more, TakesBeginning-then}
use Rattle.exh_stream.specs.declared.output.Output.{Output}
use Rattle.exh_text.specs.FileLine.{file_line_of}
use Rattle.exh_text.specs.declared.settings.Settings.{Settings}
use Rattle.exh_file.specs.Opened.{OpenedState}
use Rattle.exh_load.specs.Load.{AreWholeLines, Beginning, Ending, Load, Loads, Prints, TakesFront, at_end, load_after, load_begun, load_of_lines, loaded, number_line, record_count, refused}
use Rattle.exh_load.specs.Loading.{Loading, line_text, load_text_from, loaded_from, loading_in}
use Rattle.exh_load.specs.LongLoad.{IsLongLoad, LoadTakes, broken_off}
use Rattle.exh_stream.specs.declared.input_fault.InputFault.{InputFault}
use Rattle.exh_stream.specs.declared.input_fault.InputFault.TheVariants.{Read, Memory as OutOfMemory, TooLong}
use Rattle.exh_load.specs.LineSource.{AreAllLines, AreFirstLines, AreSomeLines, BreaksOff, EndsRight, GoesOn, HasPassed, IsOver, Passes, PutsAll, PutsSome, StopsAt, break_number, text_left}
use Rattle.exh_load.specs.declared.line_source.LineSource.{LineSource}
use Rattle.exh_load.specs.declared.load_fault.LoadFault.{LoadFault}
use Rattle.exh_load.specs.declared.load_fault.LoadFault.TheVariants.{Write, Memory, Page}
use Rattle.exh_load.proofs.Lines.{LeadTo, lines_then, loaded_by_all, text_lines, text_of_more}
use Rattle.exh_load.proofs.Loads.{front_of_more}
use Rattle.exh_load.proofs.Pairs.{pairs_begun, pairs_front, pairs_out, records_told}
use Rattle.exh_load.proofs.TextLines.{all_taken, first_none, first_taken, passes_then, some_taken, stopped_at}

-- ---- the load of lines

module _ (begin : Beginning) (known : Option (List ℕ)) (lines : List (List ℕ)) (load : Load) where
  pub long_all : AreAllLines known lines → load ≡ load_of_lines at_end begin lines → IsLongLoad begin known load
  long_all all is = inl (record { text = all.text; read = all.read; is = is ∙ ap (load_of_lines at_end begin) (sym all.lines) })

  pub long_first : (number : ℕ) → AreFirstLines known lines number → load ≡ load_of_lines (broken_off number) begin lines → IsLongLoad begin known load
  long_first number first is = inr (record { front = first.front; read = first.read; number = number; fault = first.fault; is = is ∙ ap (load_of_lines (broken_off number) begin) (sym first.lines) })

  -- of a load that ends with its first line
  pub long_either : AreSomeLines known lines → load ≡ load_of_lines at_end begin lines → load ≡ load_of_lines (broken_off 41) begin lines → IsLongLoad begin known load
  long_either some at_text_end before = elim some [ inl all ↦ long_all all at_text_end | inr first ↦ long_first 41 first before ]

pub long_some : (begin : Beginning) (known : Option (List ℕ)) (lines : List (List ℕ)) → AreSomeLines known lines → (one : Load) × IsLongLoad begin known one
long_some begin known lines some = elim some [
  | inl all ↦ (load_of_lines at_end begin lines, inl (record { text = all.text; read = all.read; is = ap (load_of_lines at_end begin) (sym all.lines) }))
  | inr first ↦ (load_of_lines (broken_off 41) begin lines, inr (record { front = first.front; read = first.read; number = 41; fault = first.fault; is = ap (load_of_lines (broken_off 41) begin) (sym first.lines) }))
]

pub load_is : (ending : Ending) (begin : Beginning) (line : List ℕ) (settings : Settings) (first : Loading) (put : List (List ℕ)) → file_line_of line ≡ Ok settings → begin settings.file ≡ Ok first
    → loaded ending first put ≡ load_of_lines ending begin (line ∷ put)
load_is ending begin line settings first put read begun = sym (ap (λ r. load_after ending begin r put) read ∙ ap (λ b. load_begun ending b put) begun)

-- ---- what an output takes

module _ {W : Type 0} (contents : W → Option (List ℕ)) (Is : Load → Type 0) (old new : Output W) where
  pub takes_load : (load : Load) → Is load → (result : Result (Option OpenedState) LoadFault) → OnOk result (Takes contents old new load.printed) → IfOk result (λ file. option_map loading_in file ≡ load.left)
      → OnErr result (TakesBeginning contents old new load.printed) → IfErr result (λ fault. fault ≢ Write → TakesFront contents old new load.printed) → LoadTakes contents Is old new result
  takes_load load is (Ok file) text left begun front = record { whole = record { load = load; of_reader = is; text = text }; left = left }
  takes_load load is (Err Write) text left begun front = record { load = load; of_reader = is; text = begun }
  takes_load load is (Err Memory) text left begun front = record { load = load; of_reader = is; text = front (λ same. cc) }
  takes_load load is (Err Page) text left begun front = record { load = load; of_reader = is; text = front (λ same. cc) }

  pub takes_memory : (result : Result (Option OpenedState) LoadFault) → IsErr result × IsErrAnd result (λ f. f ≡ Memory) → Prints Is (TakesFront contents old new) → LoadTakes contents Is old new result
  takes_memory (Ok file) is printed = absurd is.1
  takes_memory (Err fault) is printed = subst (λ f. LoadTakes contents Is old new (Err f)) (sym is.1) printed

  pub takes_ok : (result : Result (Option OpenedState) LoadFault) → LoadTakes contents Is old new result → IfOk result (λ file. Loads Is (Takes contents old new) file)
  takes_ok (Ok file) takes = takes
  takes_ok (Err Write) takes = tt
  takes_ok (Err Memory) takes = tt
  takes_ok (Err Page) takes = tt

  begun_from_front : (bytes : List ℕ) → TakesFront contents old new bytes → TakesBeginning contents old new bytes
  begun_from_front bytes front =
      let taken : TakesBeginning contents old new front.front = record { passed = AppendsBeginning-from front.taken.passed } in
      subst (TakesBeginning contents old new) (sym front.split) (TakesBeginning-of_more front.rest taken)

  begun_all : Prints Is (TakesFront contents old new) → Prints Is (TakesBeginning contents old new)
  begun_all printed = record { load = printed.load; of_reader = printed.of_reader; text = begun_from_front printed.load.printed printed.text }

  pub takes_err : (result : Result (Option OpenedState) LoadFault) → LoadTakes contents Is old new result → OnErr result (Prints Is (TakesBeginning contents old new))
  takes_err (Ok file) takes = tt
  takes_err (Err Write) takes = takes
  takes_err (Err Memory) takes = begun_all takes
  takes_err (Err Page) takes = begun_all takes

  pub takes_front : (result : Result (Option OpenedState) LoadFault) → LoadTakes contents Is old new result → IfErr result (λ fault. fault ≢ Write → Prints Is (TakesFront contents old new))
  takes_front (Ok file) takes = tt
  takes_front (Err Write) takes = λ differs. absurd (differs refl)
  takes_front (Err Memory) takes = λ differs. takes
  takes_front (Err Page) takes = λ differs. takes

-- ---- a text of whole lines, and what comes behind it

module _ {W : Type 0} (contents : W → Option (List ℕ)) (old mid new : Output W) (text more : List ℕ) (lines : AreWholeLines text) (taken : Takes contents old mid text) where
  pub front_then : TakesFront contents mid new more → TakesFront contents old new (text ++ more)
  front_then front = record {
    front = text ++ front.front;
    rest = front.rest;
    split = ap (λ l. text ++ l) front.split ∙ sym (append_assoc text front.front front.rest);
    lines = lines_then text front.front lines front.lines;
    taken = Takes-then taken front.taken;
  }

-- ---- lines that are put

module _ {R W : Type 0} (remaining : R → Option (List ℕ)) (contents : W → Option (List ℕ)) (lines now next : LineSource R) (old out new : Output W) (first loading after : Loading) (put : List (List ℕ)) (lead : LeadTo first loading put)
    (passed : Passes remaining lines now put) (taken : Takes contents old out (load_text_from first put)) (ends : EndsRight remaining next) where
  -- there is no line more
  pub all_put : (records : ℕ) → GoesOn remaining now next false → records + record_count first ≡ record_count loading → PutsAll remaining contents lines old out first loading records
  all_put records on counted = record {
    put = put;
    all = λ known answered before.
        let here = on.0 known (answered ++ put) (passed known answered before) in
        subst (AreAllLines known) (append-nil (answered ++ put)) (all_taken remaining known next ((answered ++ put) ++ []) here ends on.1);
    text = taken;
    left = loaded_by_all first loading put lead put (sym (append-nil put));
    counted = counted;
  }

  -- the next line was put, and told or not
  module _ (line : List ℕ) (on : Passes remaining now next (line ∷ [])) where
    abbrev more : List (List ℕ)
    more = put ++ line ∷ []

    pub more_passed : Passes remaining lines next more
    more_passed = passes_then remaining lines now next put (line ∷ []) passed on

    some_put : (known : Option (List ℕ)) (answered : List (List ℕ)) → HasPassed remaining known lines answered → AreSomeLines known (answered ++ more)
    some_put known answered before = some_taken remaining known next (answered ++ more) (more_passed known answered before) ends

    text_is : load_text_from first more ≡ load_text_from first put ++ line_text loading line
    text_is = text_of_more first loading put lead line

    pub more_taken : Takes contents out new (line_text loading line) → Takes contents old new (load_text_from first more)
    more_taken told = subst (Takes contents old new) (sym text_is) (Takes-then taken told)

    begun_at : TakesBeginning contents out new (line_text loading line) → StopsAt remaining contents lines old new first (TakesBeginning contents old new)
    begun_at begun = record { put = more; some = some_put; text = subst (TakesBeginning contents old new) (sym text_is) (TakesBeginning-then taken begun) }

    front_at : new ≡ out → StopsAt remaining contents lines old new first (TakesFront contents old new)
    front_at same = record {
      put = more;
      some = some_put;
      text = record {
        front = load_text_from first put;
        rest = line_text loading line;
        split = text_is;
        lines = text_lines first put;
        taken = subst (λ (o : Output W). Takes contents old o (load_text_from first put)) (sym same) taken;
      };
    }

    stops : (fault : LoadFault) → TakesBeginning contents out new (line_text loading line) → (fault ≢ Write → new ≡ out) → BreaksOff remaining contents lines old new first fault
    stops Write begun same = begun_at begun
    stops Memory begun same = front_at (same (λ is. cc))
    stops Page begun same = front_at (same (λ is. cc))

    -- a fault that is handed on
    pub stopped_on : {T : Type 0} (result : Result T LoadFault) (fault : LoadFault) → IsErr result × IsErrAnd result (λ f. f ≡ fault) → TakesBeginning contents out new (line_text loading line) → (fault ≢ Write → new ≡ out)
        → IfErr result (λ f. BreaksOff remaining contents lines old new first f)
    stopped_on (Ok value) fault is begun same = tt
    stopped_on (Err other) fault is begun same = subst (BreaksOff remaining contents lines old new first) (sym is.1) (stops fault begun same)

module _ {R W : Type 0} (remaining : R → Option (List ℕ)) (contents : W → Option (List ℕ)) (lines now : LineSource R) (old out : Output W) (first : Loading) (put : List (List ℕ))
    (passed : Passes remaining lines now put) (taken : Takes contents old out (load_text_from first put)) where
  broken : (known : Option (List ℕ)) (answered : List (List ℕ)) (fault : InputFault) → (IsOver now → ⊥) → HasPassed remaining known now (answered ++ put) → AreFirstLines known (answered ++ put) (break_number fault)
  broken known answered Read unended here = stopped_at remaining known now (answered ++ put) here unended
  broken known answered OutOfMemory unended here = stopped_at remaining known now (answered ++ put) here unended
  broken known answered TooLong unended here = first_taken remaining known now (answered ++ put) here 62 (inr refl)

  -- the next line couldn't be read
  pub some_read : (fault : InputFault) → (IsOver now → ⊥) → PutsSome remaining contents lines old out first (break_number fault)
  some_read fault unended = record { put = put; some = λ known answered before. broken known answered fault unended (passed known answered before); text = taken }

  -- or there is no end
  pub some_endless : PutsSome remaining contents lines old out first 62
  some_endless = record { put = put; some = λ known answered before. first_taken remaining known now (answered ++ put) (passed known answered before) 62 (inr refl); text = taken }

-- no line could be read
pub first_unread : {R : Type 0} (remaining : R → Option (List ℕ)) (lines : LineSource R) (fault : InputFault) → AreFirstLines (text_left remaining lines) [] (break_number fault)
first_unread remaining lines Read = first_none (text_left remaining lines) 41 (inl (refl, inl refl))
first_unread remaining lines OutOfMemory = first_none (text_left remaining lines) 41 (inl (refl, inl refl))
first_unread remaining lines TooLong = first_none (text_left remaining lines) 62 (inr refl)

-- ---- a load whose first line is read

module _ {R W : Type 0} (remaining : R → Option (List ℕ)) (contents : W → Option (List ℕ)) (lines : LineSource R) (old new : Output W) (known : Option (List ℕ)) (begin : Beginning) (line : List ℕ) (settings : Settings) (first : Loading)
    (read : file_line_of line ≡ Ok settings) (begun : begin settings.file ≡ Ok first) (passed : HasPassed remaining known lines (line ∷ [])) where
  abbrev Is : Load → Type 0
  Is = IsLongLoad begin known

  -- a load that begins with the text of these lines
  record Told (put : List (List ℕ)) : Type 0 where
    load : Load
    is : Is load
    tail : List ℕ
    printed : load.printed ≡ load_text_from first put ++ tail

  told_by : (put : List (List ℕ)) → AreSomeLines known (line ∷ put) → Told put
  told_by put some = elim some [
    | inl all ↦ record { load = loaded at_end first put; is = long_all begin known (line ∷ put) (loaded at_end first put) all (load_is at_end begin line settings first put read begun); tail = (at_end.after first (loaded_from first put)).printed; printed = refl }
    | inr front ↦ record { load = loaded (broken_off 41) first put; is = long_first begin known (line ∷ put) (loaded (broken_off 41) first put) 41 front (load_is (broken_off 41) begin line settings first put read begun); tail = (refused 41).printed; printed = refl }
  ]

  stop_begun : StopsAt remaining contents lines old new first (TakesBeginning contents old new) → Prints Is (TakesBeginning contents old new)
  stop_begun stop =
      let told = told_by stop.put (stop.some known (line ∷ []) passed) in
      record { load = told.load; of_reader = told.is; text = subst (TakesBeginning contents old new) (sym told.printed) (TakesBeginning-of_more told.tail stop.text) }

  stop_front : StopsAt remaining contents lines old new first (TakesFront contents old new) → Prints Is (TakesFront contents old new)
  stop_front stop =
      let told = told_by stop.put (stop.some known (line ∷ []) passed) in
      record { load = told.load; of_reader = told.is; text = subst (TakesFront contents old new) (sym told.printed) (front_of_more contents old new (load_text_from first stop.put) told.tail stop.text) }

  stop_takes : (fault : LoadFault) → BreaksOff remaining contents lines old new first fault → LoadTakes contents Is old new (Err fault)
  stop_takes Write stop = stop_begun stop
  stop_takes Memory stop = stop_front stop
  stop_takes Page stop = stop_front stop

  pub stopped_takes : (result : Result (Option OpenedState) LoadFault) (fault : LoadFault) → IsErr result × IsErrAnd result (λ f. f ≡ fault) → BreaksOff remaining contents lines old new first fault → LoadTakes contents Is old new result
  stopped_takes (Ok file) fault is stop = absurd is.1
  stopped_takes (Err other) fault is stop = subst (λ f. LoadTakes contents Is old new (Err f)) (sym is.1) (stop_takes fault stop)

  module _ (mid : Output W) (last : Loading) (records : ℕ) (put : PutsAll remaining contents lines old mid first last records) where
    abbrev whole : Load
    whole = loaded at_end first put.put

    whole_is : Is whole
    whole_is = long_all begin known (line ∷ put.put) whole (put.all known (line ∷ []) passed) (load_is at_end begin line settings first put.put read begun)

    told : records ≡ record_count (loaded_from first put.put) - record_count first
    told = records_told first last put.put records put.left put.counted

    -- the records are told too
    pub ended_takes : Takes contents mid new (number_line (codes "loaded ") records) → (file : OpenedState) → loading_in file ≡ last → Loads Is (Takes contents old new) (Some file)
    ended_takes text file is = record {
      whole = record { load = whole; of_reader = whole_is; text = pairs_out first last put.put contents old mid new put.text records told text };
      left = ap Some (is ∙ put.left);
    }

    unended : (fault : LoadFault) → TakesBeginning contents mid new (number_line (codes "loaded ") records) → (fault ≢ Write → TakesFront contents mid new (number_line (codes "loaded ") records)) → LoadTakes contents Is old new (Err fault)
    unended Write text front = record { load = whole; of_reader = whole_is; text = pairs_begun first last put.put contents old mid new put.text records told text }
    unended Memory text front = record { load = whole; of_reader = whole_is; text = pairs_front first last put.put contents old mid new put.text records told (front (λ is. cc)) }
    unended Page text front = record { load = whole; of_reader = whole_is; text = pairs_front first last put.put contents old mid new put.text records told (front (λ is. cc)) }

    -- or not
    pub unended_takes : (result : Result (Option OpenedState) LoadFault) (fault : LoadFault) → IsErr result × IsErrAnd result (λ f. f ≡ fault) → TakesBeginning contents mid new (number_line (codes "loaded ") records)
        → (fault ≢ Write → TakesFront contents mid new (number_line (codes "loaded ") records)) → LoadTakes contents Is old new result
    unended_takes (Ok file) fault is text front = absurd is.1
    unended_takes (Err other) fault is text front = subst (λ f. LoadTakes contents Is old new (Err f)) (sym is.1) (unended fault text front)

  -- lines that couldn't be read on
  module _ (mid : Output W) (fault : InputFault) (put : PutsSome remaining contents lines old mid first (break_number fault)) where
    abbrev number : ℕ
    number = break_number fault

    abbrev broken_load : Load
    broken_load = loaded (broken_off number) first put.put

    broken_is : Is broken_load
    broken_is = long_first begin known (line ∷ put.put) broken_load number (put.some known (line ∷ []) passed) (load_is (broken_off number) begin line settings first put.put read begun)

    pub broken_takes : (result : Result (Option OpenedState) LoadFault) → OnOk result (Takes contents mid new (refused number).printed) → IfOk result (λ file. option_map loading_in file ≡ (refused number).left)
        → OnErr result (TakesBeginning contents mid new (refused number).printed) → IfErr result (λ f. f ≢ Write → TakesFront contents mid new (refused number).printed) → LoadTakes contents Is old new result
    broken_takes (Ok file) text left begins front = record { whole = record { load = broken_load; of_reader = broken_is; text = Takes-then put.text text }; left = left }
    broken_takes (Err Write) text left begins front = record { load = broken_load; of_reader = broken_is; text = TakesBeginning-then put.text begins }
    broken_takes (Err Memory) text left begins front = record {
      load = broken_load;
      of_reader = broken_is;
      text = front_then contents old mid new (load_text_from first put.put) (refused number).printed (text_lines first put.put) put.text (front (λ is. cc));
    }
    broken_takes (Err Page) text left begins front = record {
      load = broken_load;
      of_reader = broken_is;
      text = front_then contents old mid new (load_text_from first put.put) (refused number).printed (text_lines first put.put) put.text (front (λ is. cc));
    }
