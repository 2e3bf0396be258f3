-- What a load printed, with the last line behind it.
use Rattle.std.proofs.Common.{ℕ, List, ◌++◌, Option, Result, Ok, Err, IfOk, IfErr, OnErr, ◌≡◌, ◌≢◌, ◌∙◌, refl, sym, subst, inl, inr}
use Rattle.std.specs.Prelude.{IsErr, IsErrAnd}
use Rattle.std.specs.Io.KnownBytes.{Appends}
use Rattle.std.proofs.KnownBytes.{Appends-trans}
use Rattle.exh_stream.specs.Output.{AppendsBeginning}
use Rattle.exh_stream.specs.OutputLemmas.{AppendsBeginning-after}
use Rattle.exh_load.specs.Opened.{OpenedState}
use Rattle.exh_load.specs.Load.{Load, Loads, Prints, PrintsFront}
use Rattle.exh_load.specs.declared.load_fault.LoadFault.{LoadFault}
use Rattle.exh_load.specs.declared.load_fault.LoadFault.TheVariants.{Write, Memory, Page}
use Rattle.exh_job.specs.LoadRun.{LoadPrints}
use Rattle.exh_job.specs.LastLine.{memory_line}

pub memory_writes : (fault : LoadFault) → fault ≡ Memory → fault ≢ Write
memory_writes fault is = λ same. let never : Memory ≡ Write = sym is ∙ same in cc

front_more : {Is : Load → Type 0} {P Q : List ℕ → Type 0} → ((text : List ℕ) → P text → Q text) → PrintsFront Is P → PrintsFront Is Q
front_more more h = record { load = h.load; of_reader = h.of_reader; front = h.front; rest = h.rest; split = h.split; lines = h.lines; text = more h.front h.text }

module _ (Is : Load → Type 0) (old mid new : Option (List ℕ)) (front : PrintsFront Is (Appends old mid)) where
  pub load_line_out : Appends mid new memory_line → LoadPrints Is old new (Err Memory)
  load_line_out line = front_more (λ text held. Appends-trans old mid new text memory_line held line) front

  pub load_line_cut : AppendsBeginning mid new memory_line → LoadPrints Is old new (Err Write)
  load_line_cut line = inr (front_more (λ text held. AppendsBeginning-after (record { front = text; gone = held; split = refl }) line) front)

module _ (Is : Load → Type 0) (old new : Option (List ℕ)) where
  pub load_write_fault : (outcome : Result (Option OpenedState) LoadFault) → IsErr outcome × IsErrAnd outcome (λ fault. fault ≡ Write) → LoadPrints Is old new (Err Write) → LoadPrints Is old new outcome
  load_write_fault (Ok file) is printed = absurd is.1
  load_write_fault (Err fault) is printed = subst (λ f. LoadPrints Is old new (Err f)) (sym is.1) printed

  -- of a load that memory didn't end
  pub load_printed : (outcome : Result (Option OpenedState) LoadFault) → (outcome ≢ Err Memory) → IfOk outcome (λ file. Loads Is (Appends old new) file) → OnErr outcome (Prints Is (AppendsBeginning old new))
      → IfErr outcome (λ fault. fault ≢ Write → PrintsFront Is (Appends old new)) → LoadPrints Is old new outcome
  load_printed (Ok file) other ok err front = ok
  load_printed (Err Write) other ok err front = inl err
  load_printed (Err Memory) other ok err front = absurd (other refl)
  load_printed (Err Page) other ok err front = front (λ is. cc)
