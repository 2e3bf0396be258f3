-- What is printed of a load: a front of it, and all of it.
use Rattle.std.proofs.Common.{◌≡◌, ◌≢◌, ℕ, ◌≤◌, ◌<◌, List, [], ◌++◌, length, Option, Some, None, IfSome, Bool, true, false, cond, leb, Result, Ok, Err, IfOk, IfErr, OnOk, OnErr, IsFalse, IsTrue, refl, sym, ap, ◌∙◌, subst, append_assoc, append-nil, inl}
use Rattle.std.specs.Option.{option_map}
use Rattle.std.proofs.lemmas.Bool.{le-leb, lt-leb}
use Rattle.std.specs.Io.KnownBytes.{Appends}
use Rattle.exh_stream.specs.Output.{AppendsBeginning, Takes, TakesBeginning, WriterUntouched, held, pending}
use Rattle.exh_stream.specs.OutputLemmas.{AppendsBeginning-from, AppendsBeginning-of_more, Takes-finished, Takes-cut, Takes-none, TakesBeginning-left}
use Rattle.exh_stream.specs.declared.output.Output.{Output}
use Rattle.exh_text.specs.TextLines.{lines_of}
use Rattle.exh_file.specs.Opened.{OpenedState}
use Rattle.exh_load.specs.Load.{Beginning, IsLoadBy, IsLoadOf, IsOfText, Load, Loads, Prints, PrintsFront, TakesFront, at_end, load_of, load_of_lines, refused}
use Rattle.exh_load.specs.Loading.{loading_in}
use Rattle.exh_load.specs.declared.load_fault.LoadFault.{LoadFault}
use Rattle.exh_load.specs.declared.load_fault.LoadFault.TheVariants.{Write, Memory, Page}

-- ---- the load of a text

abbrev text_in : Option (List ℕ) → List ℕ → List ℕ
text_in None other = other
text_in (Some bytes) other = bytes

text_in_is : (known : Option (List ℕ)) (other : List ℕ) → IfSome known (λ bytes. text_in known other ≡ bytes)
text_in_is None other = tt
text_in_is (Some bytes) other = refl

module _ (begin : Beginning) (limit : ℕ) where
  text_at : (text : List ℕ) (b : Bool) → leb (length text) limit ≡ b → load_of begin limit text ≡ cond b (load_of_lines at_end begin (lines_of text)) (refused 62)
  unfolding load_of
  text_at text b is = ap (λ b. cond b (load_of_lines at_end begin (lines_of text)) (refused 62)) is

  -- a text that was read whole
  pub text_read : (known : Option (List ℕ)) (items given : List ℕ) → IfSome known (λ bytes. items ≡ bytes) → given ≡ items → length items ≤ limit → IsOfText (load_of begin limit) known (load_of_lines at_end begin (lines_of given))
  text_read known items given read is fits = record {
    text = items;
    read = read;
    is = ap (λ text. load_of_lines at_end begin (lines_of text)) is ∙ sym (text_at items true (le-leb (length items) limit fits));
  }

  pub load_read : (known : Option (List ℕ)) (items given : List ℕ) → IfSome known (λ bytes. items ≡ bytes) → given ≡ items → length items ≤ limit → IsLoadOf (load_of begin limit) known (load_of_lines at_end begin (lines_of given))
  load_read known items given read is fits = inl (text_read known items given read is fits)

  -- a text that is too long
  long_in : (known : Option (List ℕ)) (other : List ℕ) → limit < length other → IfSome known (λ bytes. limit < length bytes) → limit < length (text_in known other)
  long_in None other long had = long
  long_in (Some bytes) other long had = had

  pub text_long : (known : Option (List ℕ)) (front : List ℕ) → limit < length front → IfSome known (λ bytes. limit < length bytes) → IsOfText (load_of begin limit) known (refused 62)
  text_long known front long had = record {
    text = text_in known front;
    read = text_in_is known front;
    is = sym (text_at (text_in known front) false (lt-leb (length (text_in known front)) limit (long_in known front long had)));
  }

  pub load_long : (known : Option (List ℕ)) (front : List ℕ) → limit < length front → IfSome known (λ bytes. limit < length bytes) → IsLoadOf (load_of begin limit) known (refused 62)
  load_long known front long had = inl (text_long known front long had)

-- ---- what goes out

module _ (Is : Load → Type 0) (prints : List ℕ → Type 0) (load : Load) (of_reader : Is load) where
  pub printed_ok : (result : Result (Option OpenedState) LoadFault) → OnOk result (prints load.printed) → OnOk result (Prints Is prints)
  printed_ok (Ok file) text = record { load = load; of_reader = of_reader; text = text }
  printed_ok (Err fault) text = tt

  pub loads_ok : (result : Result (Option OpenedState) LoadFault) → OnOk result (prints load.printed) → IfOk result (λ file. option_map loading_in file ≡ load.left) → IfOk result (λ file. Loads Is prints file)
  loads_ok (Ok file) text left = record { whole = record { load = load; of_reader = of_reader; text = text }; left = left }
  loads_ok (Err fault) text left = tt

  pub loads_err : (result : Result (Option OpenedState) LoadFault) → OnErr result (prints load.printed) → OnErr result (Prints Is prints)
  loads_err (Ok file) text = tt
  loads_err (Err fault) text = record { load = load; of_reader = of_reader; text = text }

  pub loads_front : (result : Result (Option OpenedState) LoadFault) → IfErr result (λ fault. fault ≢ Write → prints load.printed) → IfErr result (λ fault. fault ≢ Write → Prints Is prints)
  loads_front (Ok file) text = tt
  loads_front (Err fault) text = λ other. record { load = load; of_reader = of_reader; text = text other }

-- ---- of a reader that failed or didn't

module _ (of : List ℕ → Load) (prints : List ℕ → Type 0) (known : Option (List ℕ)) (load : Load) (failed : Bool) where
  pub printed_read : IsFalse failed → IsOfText of known load → (result : Result (Option OpenedState) LoadFault) → OnOk result (prints load.printed) → OnOk result (Prints (IsLoadBy of known failed) prints)
  printed_read unfailed text = printed_ok (IsLoadBy of known failed) prints load (subst (λ b. IsLoadBy of known b load) (sym unfailed) text)

  pub printed_unread : IsTrue failed → load ≡ refused 41 → (result : Result (Option OpenedState) LoadFault) → OnOk result (prints load.printed) → OnOk result (Prints (IsLoadBy of known failed) prints)
  printed_unread is told = printed_ok (IsLoadBy of known failed) prints load (subst (λ b. IsLoadBy of known b load) (sym is) told)

-- ---- a front of what goes out

module _ {W : Type 0} (contents : W → Option (List ℕ)) where
  pub front_none : (output : Output W) (bytes : List ℕ) → TakesFront contents output output bytes
  front_none output bytes = record { front = []; rest = bytes; split = refl; lines = inl refl; taken = Takes-none contents output }

  pub front_of_more : (old new : Output W) (bytes more : List ℕ) → TakesFront contents old new bytes → TakesFront contents old new (bytes ++ more)
  front_of_more old new bytes more taken = record { front = taken.front; rest = taken.rest ++ more; split = ap (λ l. l ++ more) taken.split ∙ append_assoc taken.front taken.rest more; lines = taken.lines; taken = taken.taken }

  module _ (Is : Load → Type 0) (old mid new : Output W) (start : pending old ≡ []) where
    abbrev Begun : List ℕ → Type 0
    Begun = AppendsBeginning (held contents old) (held contents new)

    begun_of : {P : List ℕ → Type 0} → ((bytes : List ℕ) → P bytes → Begun bytes) → Prints Is P → Prints Is Begun
    begun_of f printed = record { load = printed.load; of_reader = printed.of_reader; text = f printed.load.printed printed.text }

    front_begun : AppendsBeginning (held contents mid) (held contents new) (pending mid) → (bytes : List ℕ) → TakesFront contents old mid bytes → Begun bytes
    front_begun gone bytes taken = subst Begun (sym taken.split) (AppendsBeginning-of_more taken.rest (Takes-cut contents old mid new start taken.front taken.taken gone))

    -- all that waited was written
    module _ (gone : Appends (held contents mid) (held contents new) (pending mid)) where
      abbrev cut : AppendsBeginning (held contents mid) (held contents new) (pending mid)
      cut = AppendsBeginning-from (record { front = pending mid; gone = gone; split = sym (append-nil (pending mid)) })

      pub finished_ok : (result : Result (Option OpenedState) LoadFault) → IfOk result (λ file. Loads Is (Takes contents old mid) file) → IfOk result (λ file. Loads Is (Appends (held contents old) (held contents new)) file)
      finished_ok (Ok file) taken =
          record { whole = record { load = taken.whole.load; of_reader = taken.whole.of_reader; text = Takes-finished contents old mid new start taken.whole.load.printed taken.whole.text gone }; left = taken.left }
      finished_ok (Err fault) taken = tt

      pub finished_printed : (result : Result (Option OpenedState) LoadFault) → OnOk result (Prints Is (Takes contents old mid)) → OnOk result (Prints Is (Appends (held contents old) (held contents new)))
      finished_printed (Ok file) taken = record { load = taken.load; of_reader = taken.of_reader; text = Takes-finished contents old mid new start taken.load.printed taken.text gone }
      finished_printed (Err fault) taken = tt

      pub finished_err : (result : Result (Option OpenedState) LoadFault) → IfErr result (λ fault. fault ≢ Write → Prints Is (TakesFront contents old mid)) → (result ≡ Err Write → ⊥) → OnErr result (Prints Is Begun)
      finished_err (Ok file) taken never = tt
      finished_err (Err fault) taken never = begun_of (front_begun cut) (taken (λ is. never (ap Err is)))

      pub finished_front : (result : Result (Option OpenedState) LoadFault) → IfErr result (λ fault. fault ≢ Write → Prints Is (TakesFront contents old mid)) → IfErr result (λ fault. fault ≢ Write → PrintsFront Is (Appends (held contents old) (held contents new)))
      finished_front (Ok file) taken = tt
      finished_front (Err fault) taken = λ other. let printed = taken other in record {
        load = printed.load;
        of_reader = printed.of_reader;
        front = printed.text.front;
        rest = printed.text.rest;
        split = printed.text.split;
        lines = printed.text.lines;
        text = Takes-finished contents old mid new start printed.text.front printed.text.taken gone;
      }

    -- or a beginning of it was
    module _ (gone : AppendsBeginning (held contents mid) (held contents new) (pending mid)) where
      pub cut_err : (result : Result (Option OpenedState) LoadFault) → IfOk result (λ file. Loads Is (Takes contents old mid) file) → OnErr result (Prints Is (TakesBeginning contents old mid))
          → IfErr result (λ fault. fault ≢ Write → Prints Is (TakesFront contents old mid)) → (result ≡ Err Write → WriterUntouched mid new) → Prints Is Begun
      cut_err (Ok file) taken begun front left = begun_of (λ bytes text. Takes-cut contents old mid new start bytes text gone) taken.whole
      cut_err (Err Write) taken begun front left = begun_of (λ bytes text. TakesBeginning-left contents old mid new start bytes text (left refl)) begun
      cut_err (Err Memory) taken begun front left = begun_of (front_begun gone) (front (λ is. cc))
      cut_err (Err Page) taken begun front left = begun_of (front_begun gone) (front (λ is. cc))
